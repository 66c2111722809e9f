use mathlib.Core.Path.{sym, subst, ◌∙◌}
use native.Mathlib.Omega.{arith}
use mathlib.Core.List.{List}
use Prim.Native.Nat.{ℕ}
use Rattle.forest.specs.declared.Cursor.{Cursor}
use Rattle.moves.specs.Moves.{Seen}
use Rattle.forest.specs.Cursors.{prev}
use Rattle.moves.proofs.Neighbours.{standing-size}
use Rattle.moves.proofs.Moving.{moved-standing, moved_ready}
use Rattle.moves.proofs.Looking.{back_first, back_seen}
use Rattle.forest.proofs.CursorCalls.{fits-prev}
use borrow.Author.Rules.{rules}
use Rattle.moves.proofs.Held.{cursor_ready, cursor_stands, steps_tree}
use Rattle.moves.proofs.MapCursor.prev.Goals as goal

pub at_first_entry-requires : goal.at_first_entry-requires
at_first_entry-requires c =
    omega (arith, standing-size c.args.self.words.now c.args.self.trees c.args.self.cursor (cursor_ready c.args.self) (cursor_stands c.args.self (search rules) (search rules)))

pub returns-then-at_first_entry : goal.returns-then-at_first_entry
returns-then-at_first_entry c =
    back_first c.args.self.words.now c.args.self.trees c.args.self.cursor (cursor_ready c.args.self) (sym c.at_first_entry.ensures ∙ c.if-at_first_entry.true)

pub moved-requires : goal.moved-requires
moved-requires c = let r = cursor_ready c.args.self in
    let z = cursor_stands c.args.self (search rules) (search rules) in record {
      tree = steps_tree prev c.args.self r z _ c.place_before.ensures;
      stands = moved-standing prev fits-prev c.args.self.words.now c.args.self.cursor _ c.place_before.ensures z;
    }

pub returns : goal.returns
returns c =
    back_seen c.args.self.words.now c.args.self.trees c.args.self.cursor (cursor_ready c.args.self) (sym c.at_first_entry.ensures ∙ c.if-at_first_entry.false) _ _ c.place_before.ensures (subst (λ (u : Cursor). Seen c.args.self.words.now u c.seen.result) c.moved.ensures.place (subst (λ (u : List ℕ). Seen u c.moved.result.cursor c.seen.result) c.moved.ensures.words c.seen.ensures))

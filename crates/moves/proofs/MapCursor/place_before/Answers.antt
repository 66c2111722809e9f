use mathlib.Core.Path.{refl, sym, ◌∙◌}
use native.Mathlib.Omega.{arith}
use Rattle.forest.specs.Cursors.{off, prev}
use Rattle.path.specs.declared.Way.TheVariants.{Last}
use Rattle.moves.specs.Moves.{prev_leaf}
use Rattle.path.proofs.Seats.{leafy}
use Rattle.path.proofs.Roots.{trees_few, root-place, root_below, goes_empty, goes_way}
use Rattle.moves.proofs.Moving.{off_cursor, back_last, step_as, step_entry, prev_within, prev_beyond}
use borrow.Author.Rules.{rules}
use Rattle.moves.proofs.Held.{cursor_ready, cursor_stands, steps_tree}
use Rattle.moves.proofs.MapCursor.place_before.Goals as goal

pub bounds-self-self : goal.bounds-self-self
bounds-self-self c =
    omega (arith, root-place c.args.self.words.now c.args.self.trees c.args.self.cursor.tree (cursor_ready c.args.self))

pub returns-then-root-eq0 : goal.returns-then-root-eq0
returns-then-root-eq0 c =
    back_last c.args.self.words.now c.args.self.cursor c.args.self.cursor c.if-size-eq0.true (goes_empty c.args.self.words.now c.args.self.trees c.args.self.cursor.tree (cursor_ready c.args.self) (λ L. prev L off) refl c.args.self.cursor c.if-root-eq0.true (off_cursor c.args.self.words.now c.args.self.trees c.args.self.cursor (cursor_ready c.args.self) (cursor_stands c.args.self (search rules) (search rules)) c.if-size-eq0.true))

pub down-requires : goal.down-requires
down-requires c = record {
  deep = root_below c.args.self.words.now c.args.self.trees c.args.self.cursor.tree (cursor_ready c.args.self) c.if-root-eq0.false 16;
  t_le_most_trees = ((trees_few c.args.self.words.now c.args.self.trees c.args.self.cursor.tree (cursor_ready c.args.self)).1, omega arith);
}

pub returns-then-size-eq0 : goal.returns-then-size-eq0
returns-then-size-eq0 c =
    back_last c.args.self.words.now c.args.self.cursor _ c.if-size-eq0.true (goes_way c.args.self.words.now c.args.self.trees c.args.self.cursor.tree (cursor_ready c.args.self) Last c.args.self.cursor _ c.if-root-eq0.false (off_cursor c.args.self.words.now c.args.self.trees c.args.self.cursor (cursor_ready c.args.self) (cursor_stands c.args.self (search rules) (search rules)) c.if-size-eq0.true) c.down.ensures)

pub bounds-self-size : goal.bounds-self-size
bounds-self-size c =
    let k = leafy c.args.self.words.now c.args.self.trees c.args.self.cursor (cursor_ready c.args.self) (cursor_stands c.args.self (search rules) (search rules)) (omega arith) in
    omega arith

pub returns-then-entry-eq0 : goal.returns-then-entry-eq0
returns-then-entry-eq0 c =
    step_as c.args.self.words.now c.args.self.trees c.args.self.cursor (cursor_ready c.args.self) (omega arith) prev prev_leaf _ c.prev_leaf.ensures (λ L j e q r. prev_beyond L j e (sym r ∙ c.if-entry-eq0.true))

pub returns : goal.returns
returns c =
    step_entry c.args.self.words.now c.args.self.trees c.args.self.cursor (cursor_ready c.args.self) (omega arith) prev _ _ c.set_entry.ensures (λ L j e q r. rw r (prev_within L j e (λ z. c.if-entry-eq0.false (r ∙ z))))

use mathlib.Core.Path.{refl}
use native.Mathlib.Omega.{arith}
use Rattle.forest.specs.Cursors.{next}
use Rattle.moves.specs.Moves.{next_leaf}
use Rattle.path.proofs.Seats.{leafy}
use Rattle.moves.proofs.Moving.{step_off, step_as, step_entry, next_within, next_beyond}
use borrow.Author.Rules.{rules}
use Rattle.moves.proofs.Held.{cursor_ready, cursor_stands, steps_tree}
use Rattle.moves.proofs.MapCursor.next_place.Goals as goal

pub returns-then-size-eq0 : goal.returns-then-size-eq0
returns-then-size-eq0 c =
    step_off next c.args.self.words.now c.args.self.cursor c.if-size-eq0.true (λ L. refl)

pub bounds-self-size : goal.bounds-self-size
bounds-self-size c =
    let k = leafy c.args.self.words.now c.args.self.trees c.args.self.cursor (cursor_ready c.args.self) (cursor_stands c.args.self (search rules) (search rules)) (omega arith) in
    omega arith

pub overflow_add-entry : goal.overflow_add-entry
overflow_add-entry c =
    let k = leafy c.args.self.words.now c.args.self.trees c.args.self.cursor (cursor_ready c.args.self) (cursor_stands c.args.self (search rules) (search rules)) (omega arith) in
    omega arith

pub set_entry-requires : goal.set_entry-requires
set_entry-requires c =
    let k = leafy c.args.self.words.now c.args.self.trees c.args.self.cursor (cursor_ready c.args.self) (cursor_stands c.args.self (search rules) (search rules)) (omega arith) in
    omega arith

pub returns-then-entry-n : goal.returns-then-entry-n
returns-then-entry-n c =
    step_entry c.args.self.words.now c.args.self.trees c.args.self.cursor (cursor_ready c.args.self) (omega arith) next _ _ c.set_entry.ensures (λ L j e q r. rw r (next_within L j e c.leaf_entries-n.result (omega (arith, q, c.leaf_entries-n.ensures.0)) (rw (← r) c.if-entry-n.true)))

pub returns : goal.returns
returns c =
    step_as c.args.self.words.now c.args.self.trees c.args.self.cursor (cursor_ready c.args.self) (omega arith) next next_leaf _ c.next_node.ensures (λ L j e q r. next_beyond L j e c.leaf_entries-n.result (omega (arith, q, c.leaf_entries-n.ensures.0)) (rw (← r) c.if-entry-n.false))

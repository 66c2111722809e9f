use native.Mathlib.Omega.{arith}
use Rattle.path.proofs.Seats.{leafy}
use borrow.Author.Rules.{rules}
use Rattle.moves.proofs.Held.{cursor_ready, cursor_stands, steps_tree}
use Rattle.moves.proofs.MapCursor.leaf_entries.Goals as goal

pub bounds-self-size : goal.bounds-self-size
bounds-self-size c =
    let k = leafy c.args.self.words.now c.args.self.trees c.args.self.cursor (cursor_ready c.args.self) (cursor_stands c.args.self (search rules) (search rules)) c.requires in
    omega arith

pub overflow_sub-b : goal.overflow_sub-b
overflow_sub-b c =
    let k = leafy c.args.self.words.now c.args.self.trees c.args.self.cursor (cursor_ready c.args.self) (cursor_stands c.args.self (search rules) (search rules)) c.requires in
    omega arith

pub bounds-self-b : goal.bounds-self-b
bounds-self-b c =
    let k = leafy c.args.self.words.now c.args.self.trees c.args.self.cursor (cursor_ready c.args.self) (cursor_stands c.args.self (search rules) (search rules)) c.requires in
    omega arith

pub overflow_sub-result : goal.overflow_sub-result
overflow_sub-result c =
    let k = leafy c.args.self.words.now c.args.self.trees c.args.self.cursor (cursor_ready c.args.self) (cursor_stands c.args.self (search rules) (search rules)) c.requires in
    omega arith

pub returns : goal.returns
returns c =
    let k = leafy c.args.self.words.now c.args.self.trees c.args.self.cursor (cursor_ready c.args.self) (cursor_stands c.args.self (search rules) (search rules)) c.requires in
    (omega arith, omega arith)

pub overflow_add-b : goal.overflow_add-b
overflow_add-b c =
    let k = leafy c.args.self.words.now c.args.self.trees c.args.self.cursor (cursor_ready c.args.self) (cursor_stands c.args.self (search rules) (search rules)) c.requires in
    omega arith

pub offset_bounds-self-b : goal.offset_bounds-self-b
offset_bounds-self-b c =
    let k = leafy c.args.self.words.now c.args.self.trees c.args.self.cursor (cursor_ready c.args.self) (cursor_stands c.args.self (search rules) (search rules)) c.requires in
    omega arith

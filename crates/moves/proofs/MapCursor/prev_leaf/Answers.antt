use native.Mathlib.Omega.{arith}
use Rattle.moves.proofs.Neighbours.{size_few, left_level, prev_none, prev_some}
use borrow.Author.Rules.{rules}
use Rattle.moves.proofs.Held.{cursor_ready, cursor_stands, steps_tree}
use Rattle.moves.proofs.MapCursor.prev_leaf.Goals as goal

pub left_sibling_branch_level-requires : goal.left_sibling_branch_level-requires
left_sibling_branch_level-requires c =
    omega (arith, size_few c.args.self.words.now c.args.self.trees c.args.self.cursor (cursor_ready c.args.self) (cursor_stands c.args.self (search rules) (search rules)) c.requires)

pub returns-in_default : goal.returns-in_default
returns-in_default c =
    prev_none c.args.self.words.now c.args.self.trees c.args.self.cursor (cursor_ready c.args.self) c.requires _ c.left_sibling_branch_level.ensures c.in_default.is

pub offset_bounds-self-l : goal.offset_bounds-self-l
offset_bounds-self-l c =
    let v = left_level c.args.self.words.now c.args.self.trees c.args.self.cursor (cursor_ready c.args.self) (cursor_stands c.args.self (search rules) (search rules)) c.requires _ _ c.left_sibling_branch_level.ensures c.in-Some.is in
    omega (arith, v.0.above)

pub bounds-self-l : goal.bounds-self-l
bounds-self-l c =
    let v = left_level c.args.self.words.now c.args.self.trees c.args.self.cursor (cursor_ready c.args.self) (cursor_stands c.args.self (search rules) (search rules)) c.requires _ _ c.left_sibling_branch_level.ensures c.in-Some.is in
    omega (arith, v.0.above)

pub overflow_sub-place : goal.overflow_sub-place
overflow_sub-place c =
    let v = left_level c.args.self.words.now c.args.self.trees c.args.self.cursor (cursor_ready c.args.self) (cursor_stands c.args.self (search rules) (search rules)) c.requires _ _ c.left_sibling_branch_level.ensures c.in-Some.is in
    omega (arith, v.1)

pub branch_off-requires : goal.branch_off-requires
branch_off-requires c = let v = left_level c.args.self.words.now c.args.self.trees c.args.self.cursor (cursor_ready c.args.self) (cursor_stands c.args.self (search rules) (search rules)) c.requires _ _ c.left_sibling_branch_level.ensures c.in-Some.is in record {
  level = v.0;
  place_bound = v.2;
}

pub returns : goal.returns
returns c =
    let v = left_level c.args.self.words.now c.args.self.trees c.args.self.cursor (cursor_ready c.args.self) (cursor_stands c.args.self (search rules) (search rules)) c.requires _ _ c.left_sibling_branch_level.ensures c.in-Some.is in
    prev_some c.args.self.words.now c.args.self.trees c.args.self.cursor (cursor_ready c.args.self) c.requires _ _ _ c.left_sibling_branch_level.ensures c.in-Some.is v.3 c.branch_off.ensures

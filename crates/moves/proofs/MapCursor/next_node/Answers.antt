use native.Mathlib.Omega.{arith}
use Rattle.moves.proofs.Neighbours.{safe, right_level, next_none, next_some}
use borrow.Author.Rules.{rules}
use Rattle.moves.proofs.Held.{cursor_ready, cursor_stands, steps_tree}
use Rattle.moves.proofs.MapCursor.next_node.Goals as goal

pub right_sibling_branch_level-requires : goal.right_sibling_branch_level-requires
right_sibling_branch_level-requires c =
    safe c.args.self.words.now c.args.self.trees c.args.self.cursor (cursor_ready c.args.self) (cursor_stands c.args.self (search rules) (search rules)) c.requires

pub returns-in_default : goal.returns-in_default
returns-in_default c =
    next_none c.args.self.words.now c.args.self.trees c.args.self.cursor (cursor_ready c.args.self) c.requires _ _ c.right_sibling_branch_level.ensures c.in_default.is c.off_end.ensures

pub offset_bounds-self-l : goal.offset_bounds-self-l
offset_bounds-self-l c =
    let v = right_level c.args.self.words.now c.args.self.trees c.args.self.cursor (cursor_ready c.args.self) (cursor_stands c.args.self (search rules) (search rules)) c.requires _ _ c.right_sibling_branch_level.ensures c.in-Some.is in
    omega (arith, v.0.above)

pub bounds-self-l : goal.bounds-self-l
bounds-self-l c =
    let v = right_level c.args.self.words.now c.args.self.trees c.args.self.cursor (cursor_ready c.args.self) (cursor_stands c.args.self (search rules) (search rules)) c.requires _ _ c.right_sibling_branch_level.ensures c.in-Some.is in
    omega (arith, v.0.above)

pub branch_off-requires : goal.branch_off-requires
branch_off-requires c = let v = right_level c.args.self.words.now c.args.self.trees c.args.self.cursor (cursor_ready c.args.self) (cursor_stands c.args.self (search rules) (search rules)) c.requires _ _ c.right_sibling_branch_level.ensures c.in-Some.is in record {
  level = v.0;
  place_bound = v.1;
}

pub returns : goal.returns
returns c =
    let v = right_level c.args.self.words.now c.args.self.trees c.args.self.cursor (cursor_ready c.args.self) (cursor_stands c.args.self (search rules) (search rules)) c.requires _ _ c.right_sibling_branch_level.ensures c.in-Some.is in
    next_some c.args.self.words.now c.args.self.trees c.args.self.cursor (cursor_ready c.args.self) c.requires _ _ _ c.right_sibling_branch_level.ensures c.in-Some.is v.2 c.branch_off.ensures

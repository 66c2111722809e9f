-- `path::Tree::find_leaf` meets its contract: the leaf and the place are those of the path that going down would make. Assumes nothing.
use native.Mathlib.Omega.{arith}
use Rattle.path.proofs.Roots.{trees_few, root_below}
use Rattle.path.proofs.Foots.{foot_in, foot_rises, foot_ends}
use Rattle.path.proofs.Trees.{tree_ready}
use Rattle.path.proofs.Tree.find_leaf.Goals as goal

pub leaf_below-n-requires : goal.leaf_below-n-requires
leaf_below-n-requires c = record {
  deep = root_below c.args.self.now.words.now c.args.self.now.trees c.args.self.now.number (tree_ready c.args.self.now) (λ z. omega arith) 16;
  t_le_most_trees = (trees_few c.args.self.now.words.now c.args.self.now.trees c.args.self.now.number (tree_ready c.args.self.now)).1;
}

pub overflow_add-b : goal.overflow_add-b
overflow_add-b c =
    let f = foot_in c.args.self.now.words.now c.args.self.now.trees c.args.self.now.number (tree_ready c.args.self.now) c.args.key (λ z. omega arith) c.leaf_below-n.result c.leaf_below-n.ensures in
    omega arith

pub overflow_sub-b : goal.overflow_sub-b
overflow_sub-b c =
    let f = foot_in c.args.self.now.words.now c.args.self.now.trees c.args.self.now.number (tree_ready c.args.self.now) c.args.key (λ z. omega arith) c.leaf_below-n.result c.leaf_below-n.ensures in
    omega arith

pub land-requires : goal.land-requires
land-requires c = let f = foot_in c.args.self.now.words.now c.args.self.now.trees c.args.self.now.number (tree_ready c.args.self.now) c.args.key (λ z. omega arith) c.leaf_below-n.result c.leaf_below-n.ensures in record {
  b_in_bounds = f.long;
  bound = (f.least, f.most);
  keys_rise = foot_rises c.args.self.now.words.now c.args.self.now.trees c.args.self.now.number (tree_ready c.args.self.now) c.args.key (λ z. omega arith) c.leaf_below-n.result c.leaf_below-n.ensures;
}

pub returns : goal.returns
returns c =
    foot_ends c.args.self.now.words.now c.args.self.now.trees c.args.self.now.number (tree_ready c.args.self.now) c.args.key (λ z. omega arith) c.leaf_below-n.result c.leaf_below-n.ensures _ c.land.ensures.0

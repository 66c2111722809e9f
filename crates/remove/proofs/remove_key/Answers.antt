use mathlib.Core.Path.{sym, ◌∙◌}
use Rattle.path.proofs.Trees.{ready_checked}
use Rattle.remove.proofs.KeyLaws
use Rattle.remove.proofs.remove_key.Goals as goal

pub only_leaf-requires : goal.only_leaf-requires
only_leaf-requires c = record {
  leaf_pair = KeyLaws.leaf_pair c.requires;
  tree_in_bounds = KeyLaws.root_there c.requires;
}

pub take_out-requires : goal.take_out-requires
take_out-requires c = KeyLaws.leaf_pair c.requires

pub returns-then-only_leaf : goal.returns-then-only_leaf
returns-then-only_leaf c = KeyLaws.only_removes c.requires _ (sym c.only_leaf.ensures ∙ c.if-only_leaf.true) c.take_out.ensures

pub invariant_of-find : goal.invariant_of-find
invariant_of-find c = let y = c.requires.ready in record {
  sound = ready_checked c.args.ws.now c.args.t c.args.tree y;
  counted = y.trees;
  there = y.there;
}

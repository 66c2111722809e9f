use mathlib.Core.Path.{refl}
use native.Mathlib.Omega.{arith}
use Rattle.forest.specs.Sizes.{leaf_least}
use Rattle.sound.proofs.CheckDoes.{check_does}
use Rattle.map.proofs.Gating.{some_words, gate_tree, gate_open}
use Rattle.map.proofs.gate.Goals as goal

pub tree_count-trees-requires : goal.tree_count-trees-requires
tree_count-trees-requires c =
    some_words c.args.ws.now c.requires

pub returns-then-trees-tree : goal.returns-then-trees-tree
returns-then-trees-tree c =
    gate_tree c.args.ws.now c.args.tree _ c.requires c.tree_count-trees.ensures c.if-trees-tree.true

pub invariant_of-result : goal.invariant_of-result
invariant_of-result c = record {
  sound = check_does c.args.ws.now leaf_least c.requires;
  counted = c.tree_count-trees.ensures;
  there = omega arith;
}

pub returns : goal.returns
returns c = gate_open c.args.ws.now c.args.tree _ refl refl

-- `verify_trees` meets its contract: the answer from the i-th tree on is the whole answer.
use Rattle.std.proofs.Common.{◌≡◌, ◌+◌, ◌-◌, replicate}
use Rattle.forest.specs.Sizes.{leaf_least}
use Rattle.sound.specs.Checks.{trees}
use Rattle.sound.proofs.verify_trees.Given as goal

abbrev pub invariant-loop-root : goal.invariant-loop-root
invariant-loop-root l =
    trees l.pool.words.now l.pool.trees l.pool.nodes leaf_least l.pool.trees 1 (replicate 8 0) ≡
    trees l.pool.words.now l.pool.trees l.pool.nodes leaf_least (l.pool.trees - l.root-index) (1 + l.root-index) l.marks

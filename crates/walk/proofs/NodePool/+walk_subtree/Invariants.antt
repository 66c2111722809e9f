-- `walk_subtree` meets its contract: the loop keeps what is left of the walk over the children. The measure is the levels left.
use Rattle.std.proofs.Common.{◌≡◌}
use Rattle.forest.specs.Sizes.{leaf_least}
use Rattle.walk.specs.Walks.{walk}
use Rattle.walk.proofs.WalkSteps.{left_of}
use Rattle.walk.proofs.NodePool.+walk_subtree.Given as goal

abbrev pub decreases-walk_subtree : goal.decreases-walk_subtree
decreases-walk_subtree l = l.high

abbrev pub invariant-loop-k : goal.invariant-loop-k
invariant-loop-k l =
    walk l.ws l.self.trees l.self.nodes leaf_least l.high l.edge l.node l.fn.marks l.next ≡
    left_of l.ws l.self.trees l.self.nodes l.high l.edge l.b l.c l.k (record { marks = l.all; next = l.above; low = l.low })

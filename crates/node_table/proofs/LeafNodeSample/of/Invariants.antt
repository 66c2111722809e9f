-- At the loop's head the leaf has i pairs.
use Rattle.std.proofs.Common.{◌≡◌, ◌+◌, get_or}
use Rattle.node.specs.Nodes.{Leaf}
use Rattle.node_table.proofs.LeafNodeSample.of.Given as goal

abbrev pub invariant-loop-i : goal.invariant-loop-i
invariant-loop-i l = Leaf l.w × (get_or l.w 0 0 ≡ 32 + l.i)

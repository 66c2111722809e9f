-- At the loop's head the node has i children.
use Rattle.std.proofs.Common.{◌≡◌, ◌+◌, get_or}
use Rattle.node.specs.Nodes.{Inner}
use Rattle.node_table.proofs.InnerNodeSample.of.Given as goal

abbrev pub invariant-loop-i : goal.invariant-loop-i
invariant-loop-i l = Inner l.w × (get_or l.w 0 0 ≡ 15 + l.i)

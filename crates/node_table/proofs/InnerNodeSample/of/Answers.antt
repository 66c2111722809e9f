use Rattle.std.proofs.Common.{arith}
use Rattle.node.proofs.OnItems.{remove_inner}
use Rattle.node_table.proofs.InnerNodeSample.of.Goals as goal

pub returns-then-n-eq1 : goal.returns-then-n-eq1
returns-then-n-eq1 c =
    let r = remove_inner c.two_children.result c.remove.result.words 1 c.remove.ensures.0 c.two_children.ensures.0 (omega arith) (omega arith) in
    (r.0, omega arith)

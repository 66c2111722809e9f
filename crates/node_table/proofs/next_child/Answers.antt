use Rattle.std.proofs.Common.{arith, suc, ◌-◌}
use Rattle.node.proofs.OnItems.{insert_inner}
use Rattle.node_table.proofs.next_child.Goals as goal

pub returns : goal.returns
returns c =
    let r = insert_inner c.args.w c.inner_insert.result (suc (c.args.n - 1)) _ c.inner_insert.ensures c.requires.0 (omega arith) in
    (r.0, omega arith)

use Rattle.std.proofs.Common.{arith, ◌≡◌, [], ◌∷◌, get_or}
use borrow.Author.Tests.{leb-false}
use Rattle.node.specs.Nodes.{Leaf}
use Rattle.node.specs.Kinds.{leaf_laws}
use Rattle.node.proofs.Words.{leaf_is}
use Rattle.node.proofs.KindLaws.{both, length-both}
use Rattle.node.proofs.OnItems.{is_shared, join_leaf}
use Rattle.node_table.proofs.next_pair.Goals as goal

pub unreachable-requires : goal.unreachable-requires
unreachable-requires c =
    let few = leb-false _ _ (is_shared _ _ (both leaf_laws c.args.w c.leaf.result 0) c.in-Shared.ensures).0 in
    let one : get_or c.leaf.result 0 0 ≡ 33 = rw c.leaf.ensures in
    omega (arith, length-both leaf_laws c.args.w c.leaf.result 0)

pub returns : goal.returns
returns c =
    let one : get_or c.leaf.result 0 0 ≡ 33 = rw c.leaf.ensures in
    let leaf : Leaf c.leaf.result = rw c.leaf.ensures (leaf_is (_ ∷ []) (omega arith) (omega arith)) in
    let r = join_leaf c.args.w c.leaf.result c.in-Merged.both c.in-Merged.ensures c.requires.0 leaf (omega arith) in
    (r.0, omega arith)

-- `node::unpack` meets its contract. Assumes nothing.
use Rattle.node.proofs.KindLaws.{unpacks}
use Rattle.node.proofs.unpack.Goals as goal

pub returns : goal.returns
returns g c =
    let e = unpacks g.K.Kind.laws c.args.w c.args.first c.requires in
    (cc, cc)

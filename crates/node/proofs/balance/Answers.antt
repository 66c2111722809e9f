-- `node::balance` meets its contract. Assumes nothing.
use mathlib.Core.Path.{ap, ◌∙◌}
use native.Mathlib.Omega.{arith}
use Rattle.node.proofs.KindLaws.{both, both_some, both_few, both_held}
use Rattle.node.proofs.ItemLaws.{counted}
use Rattle.node.proofs.Steps.{balance_all, balance_share}
use Rattle.node.specs.declared.Balanced.TheVariants.{Merged, Shared}
use Rattle.node.proofs.balance.Goals as goal

pub returns-then-n-CAPACITY : goal.returns-then-n-CAPACITY
returns-then-n-CAPACITY g c =
    let laws = g.K.Kind.laws in
    let held = c.append-all.ensures ∙ both_held laws c.args.w c.args.v c.args.key c.unpack.result c.unpack-2.result c.requires.0 c.requires.1 c.unpack.ensures.1 c.unpack-2.ensures.1 in
    let m = counted held in
    ap Merged c.pack.ensures
    ∙ balance_all laws (both laws c.args.w c.args.v c.args.key) c.append-all.result held (omega (arith, both_some laws c.args.w c.args.v c.args.key c.requires.0 c.requires.1)) (omega arith)

pub returns : goal.returns
returns g c =
    let laws = g.K.Kind.laws in
    let held = c.append-all.ensures ∙ both_held laws c.args.w c.args.v c.args.key c.unpack.result c.unpack-2.result c.requires.0 c.requires.1 c.unpack.ensures.1 c.unpack-2.ensures.1 in
    let m = counted held in
    ap Shared c.halves.ensures
    ∙ balance_share laws (both laws c.args.w c.args.v c.args.key) c.append-all.result held
    (omega (arith, laws.small.1, laws.small.3, both_few laws c.args.w c.args.v c.args.key c.requires.0 c.requires.1)) (omega (arith, laws.small.0)) (omega arith)

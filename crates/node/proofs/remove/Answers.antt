-- `node::remove` meets its contract. Assumes nothing.
use mathlib.Core.Path.{◌≡◌, ap, ◌∙◌}
use Prim.Native.Nat.{suc, ◌-◌}
use native.Mathlib.Omega.{arith}
use lib.ListN.{get_or}
use Rattle.forest.specs.Lists.{remove_at}
use Rattle.forest.proofs.ListLaws.{length-remove_at}
use Rattle.node.specs.Nodes.{items_of}
use Rattle.node.proofs.KindLaws.{number, keyed_none, packs}
use Rattle.node.proofs.ItemLaws.{counted, remove_items}
use Rattle.node.proofs.Steps.{cut_none, cut_some}
use Rattle.node.proofs.remove.Goals as goal

pub returns-then-left-eq0 : goal.returns-then-left-eq0
returns-then-left-eq0 g c =
    let n = counted c.remove-others.ensures in
    let e : c.remove-others.result.count ≡ get_or c.args.w 0 0 - suc g.K.Kind.TAG = omega arith in
    (cut_none g.K.Kind.TAG g.K.Kind.words g.K.Kind.items c.args.w c.args.at (omega arith), cc)

pub returns : goal.returns
returns g c =
    let laws = g.K.Kind.laws in
    let xs = g.K.Kind.items c.args.w in
    let l = number laws c.args.w in
    let m = length-remove_at c.args.at xs (omega arith) in
    let n = counted c.remove-others.ensures in
    let few = (laws.is c.args.w c.requires.0).few in
    let e : c.remove-others.result.count ≡ get_or c.args.w 0 0 - suc g.K.Kind.TAG = omega arith in
    let read = c.unpack.ensures.1 ∙ ap items_of (keyed_none laws c.args.w) in
    let held = c.remove-others.ensures ∙ remove_items c.unpack.result c.args.at xs read (omega (arith, laws.small.1, laws.small.3)) (omega arith) in
    (c.pack.ensures ∙ packs laws c.remove-others.result (remove_at c.args.at xs) held (omega arith) ∙ cut_some g.K.Kind.TAG g.K.Kind.words g.K.Kind.items c.args.w c.args.at (λ e. omega arith), cc)

-- `node::split` meets its contract. Assumes nothing.
use mathlib.Core.Path.{◌≡◌, ap, ◌∙◌}
use Prim.Native.Nat.{suc, ◌≤◌}
use native.Mathlib.Omega.{arith}
use lib.ListN.{length}
use Rattle.forest.specs.Lists.{insert_at}
use Rattle.forest.specs.Pairs.{Item}
use Rattle.forest.specs.Rows.{keeps}
use Rattle.forest.proofs.ListLaws.{length-insert_at}
use Rattle.node.specs.Nodes.{items_of}
use Rattle.node.proofs.KindLaws.{number, keyed_none}
use Rattle.node.proofs.ItemLaws.{insert-items}
use Rattle.node.proofs.Steps.{split_done}
use Rattle.node.proofs.split.Goals as goal

pub returns : goal.returns
returns g c =
    let laws = g.K.Kind.laws in
    let xs = g.K.Kind.items c.args.w in
    let x : Item = (c.args.key, c.args.link) in
    let us = insert_at c.args.at x xs in
    let n : length xs ≡ g.K.Kind.CAPACITY = number laws c.args.w ∙ omega arith in
    let small : g.K.Kind.CAPACITY ≤ 8 = omega (arith, laws.small.1, laws.small.3) in
    let long : length us ≡ suc g.K.Kind.CAPACITY = length-insert_at c.args.at x xs ∙ ap suc n in
    let read = c.unpack.ensures.1 ∙ ap items_of (keyed_none laws c.args.w) in
    let held = c.insert-all.ensures ∙ insert-items c.unpack.result c.args.at c.args.key c.args.link xs read (omega arith) (omega arith) in
    c.halves.ensures ∙ split_done laws us c.insert-all.result held c.split_pos.result (keeps g.K.Kind.CAPACITY c.args.at) (cc) (omega arith) (omega arith) (omega arith)

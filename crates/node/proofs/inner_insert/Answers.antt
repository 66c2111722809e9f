-- `node::inner_insert` meets its contract. Assumes nothing.
use mathlib.Core.Path.{ap, ◌∙◌}
use Prim.Native.Nat.{ℕ, ◌+◌}
use native.Mathlib.Omega.{arith}
use native.Mathlib.Numerals.{add-one}
use Rattle.forest.specs.Lists.{insert_at}
use Rattle.forest.specs.Pools.{inner_words}
use Rattle.forest.proofs.ListLaws.{length-insert_at}
use Rattle.node.specs.Kinds.{inner_laws}
use Rattle.node.proofs.Words.{length-items}
use Rattle.node.proofs.ItemLaws.{insert-items}
use Rattle.node.proofs.KindLaws.{keyed_none, packs}
use Rattle.node.specs.Nodes.{inner_items, items_of}
use Rattle.node.proofs.inner_insert.Goals as goal

pub returns : goal.returns
returns c =
    let xs = inner_items c.args.w in
    let read = c.unpack.ensures.1 ∙ ap items_of (keyed_none inner_laws c.args.w) in
    let held = c.insert.ensures ∙ insert-items c.unpack.result (c.args.index + 1) c.args.key c.args.node xs read (omega arith) (omega (arith, length-items c.args.w)) in
    c.pack.ensures ∙ packs inner_laws c.insert.result (insert_at (c.args.index + 1) (c.args.key, c.args.node) xs) held (omega (arith, length-insert_at (c.args.index + 1) (c.args.key, c.args.node) xs))
    ∙ ap (λ (i : ℕ). inner_words (insert_at i (c.args.key, c.args.node) xs)) (add-one c.args.index)

use mathlib.Core.Path.{refl, sym, ◌∙◌}
use native.Mathlib.Omega.{arith}
use Rattle.forest.specs.Pools.{remove}
use Rattle.std.proofs.lemmas.Result.{err_from_is_err_and}
use Rattle.path.specs.Cores.{Ends}
use Rattle.path.proofs.Roots.{root-place}
use Rattle.path.proofs.Foots.{ends_in, ends_looks}
use Rattle.map.proofs.Gating.{of_tree, gate_ready, held_other}
use Rattle.map.proofs.Promising.{gated_calls}
use Rattle.map.proofs.Removing.{held_nothing, removed-calls, absent_calls, empty_calls, place_few, ask_key}
use Rattle.map.proofs.sound_remove.Goals as goal

pub root-requires : goal.root-requires
root-requires c =
    let e = c.in_ok-here.ensures.passes _ refl in
    let y = gate_ready c.in_ok-here.ensures _ refl in
    omega (arith, root-place c.args.ws.now _ c.args.tree y)

pub returns-then-root-eq0 : goal.returns-then-root-eq0
returns-then-root-eq0 c =
    let e = c.in_ok-here.ensures.passes _ refl in
    let y = gate_ready c.in_ok-here.ensures _ refl in
    empty_calls c.args.ws.now _ c.args.tree c.args.key _ y c.root.ensures c.if-root-eq0.true

pub look_in-requires : goal.look_in-requires
look_in-requires c = let e = c.in_ok-here.ensures.passes _ refl in
    let y = gate_ready c.in_ok-here.ensures _ refl in
    let d = of_tree (λ u n. Ends c.args.key u n c.find_leaf-foot.result.node c.find_leaf-foot.result.place) e c.find_leaf-foot.ensures in record {
      leaf_in = ends_in c.args.ws.now _ c.args.tree y c.args.key _ _ d;
      e_bound = place_few c.args.ws.now _ c.args.tree c.args.key _ _ y d;
    }

pub returns-in_default : goal.returns-in_default
returns-in_default c =
    let e = c.in_ok-here.ensures.passes _ refl in
    let y = gate_ready c.in_ok-here.ensures _ refl in
    let o = ends_looks c.args.ws.now _ c.args.tree y c.args.key _ _ (of_tree (λ u n. Ends c.args.key u n c.find_leaf-foot.result.node c.find_leaf-foot.result.place) e c.find_leaf-foot.ensures) in
    absent_calls c.args.ws.now _ c.args.tree c.args.key y _ o (held_nothing _ _ (sym c.look_in.ensures ∙ c.in_default.is))

pub returns-then-k-key : goal.returns-then-k-key
returns-then-k-key c =
    let e = c.in_ok-here.ensures.passes _ refl in
    let y = gate_ready c.in_ok-here.ensures _ refl in
    let o = ends_looks c.args.ws.now _ c.args.tree y c.args.key _ _ (of_tree (λ u n. Ends c.args.key u n c.find_leaf-foot.result.node c.find_leaf-foot.result.place) e c.find_leaf-foot.ensures) in
    absent_calls c.args.ws.now _ c.args.tree c.args.key y _ o (sym (held_other _ _ _ _ (sym c.look_in.ensures ∙ c.in-Some.is) c.if-k-key.true))

pub remove_key-requires : goal.remove_key-requires
remove_key-requires c =
    let e = c.in_ok-here.ensures.passes _ refl in
    let y = gate_ready c.in_ok-here.ensures _ refl in
    ask_key c.args.ws.now _ c.args.tree c.args.key _ _ y (of_tree (λ u n. Ends c.args.key u n c.find_leaf-foot.result.node c.find_leaf-foot.result.place) e c.find_leaf-foot.ensures) _ _ (sym c.look_in.ensures ∙ c.in-Some.is)

pub returns : goal.returns
returns c =
    let e = c.in_ok-here.ensures.passes _ refl in
    let y = gate_ready c.in_ok-here.ensures _ refl in
    let o = ends_looks c.args.ws.now _ c.args.tree y c.args.key _ _ (of_tree (λ u n. Ends c.args.key u n c.find_leaf-foot.result.node c.find_leaf-foot.result.place) e c.find_leaf-foot.ensures) in
    removed-calls c.args.ws.now _ c.args.tree c.args.key y _ o _ _ (sym c.look_in.ensures ∙ c.in-Some.is) c.if-k-key.false _ c.remove_key.ensures

pub returns-in_err-here : goal.returns-in_err-here
returns-in_err-here c =
    let p = err_from_is_err_and c.from_residual.result c.from_residual.ensures.1 in
    rw (p.1, p.2) (gated_calls (remove c.args.tree c.args.key) c.args.ws.now _ c.requires (c.in_err-here.ensures.shut _ refl))

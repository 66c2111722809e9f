use mathlib.Core.Path.{refl}
use Rattle.forest.specs.Pools.{get}
use Rattle.std.proofs.lemmas.Result.{err_from_is_err_and}
use Rattle.path.specs.Cores.{Looks}
use Rattle.map.proofs.Gating.{of_tree, gate_ready}
use Rattle.map.proofs.Promising.{gated_calls, get_calls}
use Rattle.map.proofs.sound_get.Goals as goal

pub returns-in_err-here : goal.returns-in_err-here
returns-in_err-here c =
    let p = err_from_is_err_and c.from_residual.result c.from_residual.ensures.1 in
    rw (p.1, p.2) (gated_calls (get c.args.tree c.args.key) c.args.ws.now _ c.requires (c.in_err-here.ensures.shut _ refl))

pub returns : goal.returns
returns c =
    let e = c.in_ok-here.ensures.passes _ refl in
    let l = of_tree (λ u n. Looks c.args.key u n c.look_for.result) e c.look_for.ensures in
    get_calls c.args.ws.now _ c.args.tree c.args.key (gate_ready c.in_ok-here.ensures _ refl) _ _ _ l.goes l.sees c.held.ensures

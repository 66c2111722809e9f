use mathlib.Core.Path.{refl}
use Rattle.forest.specs.Pools.{put}
use Rattle.std.proofs.lemmas.Result.{err_from_is_err_and}
use Rattle.map.proofs.Gating.{gate_ready}
use Rattle.map.proofs.Promising.{gated_calls}
use Rattle.map.proofs.sound_put.Goals as goal

pub put-requires : goal.put-requires
put-requires c = gate_ready c.in_ok-here.ensures _ refl

pub returns-in_err-here : goal.returns-in_err-here
returns-in_err-here c =
    let p = err_from_is_err_and c.from_residual.result c.from_residual.ensures.1 in
    rw (p.1, p.2) (gated_calls (put c.args.tree c.args.key c.args.value) c.args.ws.now _ c.requires (c.in_err-here.ensures.shut _ refl))

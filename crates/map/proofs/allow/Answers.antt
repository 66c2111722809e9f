use mathlib.Core.Path.{refl}
use Rattle.map.proofs.Gating.{admitted_allows}
use Rattle.map.proofs.allow.Goals as goal

pub returns : goal.returns
returns c =
    admitted_allows c.args.ws.now c.args.at _ (c.in_ok-checked.ensures.sound refl) c.admit.ensures

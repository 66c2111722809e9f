use Rattle.std.proofs.Common.{◌∙◌, refl, ap}
use Rattle.requests.specs.declared.Call.TheVariants.{Put, Remove, Get}
use Rattle.requests.specs.Replay.{faulted}
use Rattle.requests.proofs.Judging.{heeds_none}
use Rattle.requests.proofs.answer_request.Goals as goal

pub returns-in-Err : goal.returns-in-Err
returns-in-Err c = let other = c.in-Err.ensures in
    heeds_none _ _ _ _ _ _ _ (other.1 Put) (other.1 Remove) (other.1 Get) refl (c.from.ensures ∙ ap faulted other.0)

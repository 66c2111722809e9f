use Rattle.map.proofs.Gating.{told_ok}
use Rattle.map.proofs.sound_stands.Goals as goal

pub returns : goal.returns
returns c =
    rw c.is_ok.ensures.value (told_ok c.args.ws.now c.args.at _ c.admit.ensures)

use Rattle.sound.proofs.CheckSteps.{exact}
use Rattle.sound.proofs.check.Goals as goal

pub returns : goal.returns
returns c = exact _ _ c.words_fit.ensures

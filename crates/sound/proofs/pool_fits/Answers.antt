use Rattle.std.proofs.Common.{sym, ◌∙◌}
use Rattle.sound.proofs.CheckSteps.{pool_no, pool_yes}
use Rattle.sound.proofs.pool_fits.Goals as goal

pub returns-in_default : goal.returns-in_default
returns-in_default c = sym (pool_no _ _ _ c.in_default.ensures)

pub returns : goal.returns
returns c = c.stack_fits.ensures ∙ sym (pool_yes _ _ _ _ _ c.in-Some.ensures c.requires.1)

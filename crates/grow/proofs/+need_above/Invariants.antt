-- `grow::need_above` meets its contract. Each return is one step of `need_up`; the measure is the level. Assumes nothing.
use Rattle.grow.proofs.+need_above.Given as goal

abbrev pub decreases-need_above : goal.decreases-need_above
decreases-need_above l = l.level

use Rattle.crit.proofs.+current_crit_key.Given as goal

abbrev pub decreases-current_crit_key : goal.decreases-current_crit_key
decreases-current_crit_key l = l.level

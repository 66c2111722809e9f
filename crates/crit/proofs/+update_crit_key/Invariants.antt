use Rattle.crit.proofs.+update_crit_key.Given as goal

abbrev pub decreases-update_crit_key : goal.decreases-update_crit_key
decreases-update_crit_key l = l.level

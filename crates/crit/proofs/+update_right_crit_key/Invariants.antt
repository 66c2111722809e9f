use Rattle.crit.proofs.+update_right_crit_key.Given as goal

abbrev pub decreases-update_right_crit_key : goal.decreases-update_right_crit_key
decreases-update_right_crit_key l = l.level

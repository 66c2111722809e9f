use Rattle.crit.proofs.+right_sibling.Given as goal

abbrev pub decreases-right_sibling : goal.decreases-right_sibling
decreases-right_sibling l = l.level

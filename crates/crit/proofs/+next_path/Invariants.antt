use Rattle.crit.proofs.+next_path.Given as goal

abbrev pub decreases-next_path : goal.decreases-next_path
decreases-next_path l = l.level

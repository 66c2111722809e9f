-- `grow::split_and_insert` meets its contract. Each return is one step of `up_store`; the measure is the level. Assumes nothing.
use Rattle.grow.proofs.+split_and_insert.Given as goal

abbrev pub decreases-split_and_insert : goal.decreases-split_and_insert
decreases-split_and_insert l = l.level

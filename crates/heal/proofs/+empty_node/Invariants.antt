-- the parent is a level up
use Rattle.heal.proofs.+empty_node.Given as goal

abbrev pub decreases-empty_node : goal.decreases-empty_node
decreases-empty_node l = l.level

-- At the loop's head the first i words of the node have been copied.
use mathlib.Core.Path.{◌≡◌}
use lib.ListN.{length, take, drop}
use Rattle.pool.proofs.load.Given as goal

abbrev pub invariant-loop-i : goal.invariant-loop-i
invariant-loop-i l = (length l.node ≡ 16) × (take l.i l.node ≡ take l.i (drop l.b l.ws))

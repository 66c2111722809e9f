-- At the loop's head the first i words of the node have been stored.
use mathlib.Core.Path.{◌≡◌}
use lib.Seq.{paste}
use Rattle.pool.proofs.store.Given as goal

abbrev pub invariant-loop-i : goal.invariant-loop-i
invariant-loop-i l = l.ws ≡ paste l.initial.ws l.b l.node l.i

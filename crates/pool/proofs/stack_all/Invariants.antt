-- At the loop's head the first i numbers have been stored.
use mathlib.Core.Path.{◌≡◌}
use lib.Seq.{paste}
use Rattle.pool.specs.Stores.{down}
use Rattle.pool.proofs.stack_all.Given as goal

abbrev pub invariant-loop-i : goal.invariant-loop-i
invariant-loop-i l = l.ws ≡ paste l.initial.ws l.a (down l.n) l.i

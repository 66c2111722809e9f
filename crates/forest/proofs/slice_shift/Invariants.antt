-- `forest::slice_shift` meets its contract: at the loop's head the first j places have what stood n later.
-- Assumes nothing.
use mathlib.Core.Path.{◌≡◌}
use Rattle.forest.proofs.Slices.{shifting}
use Rattle.forest.proofs.slice_shift.Given as goal

abbrev pub invariant-loop-j : goal.invariant-loop-j
invariant-loop-j l = l.s ≡ shifting l.initial.s l.n l.j

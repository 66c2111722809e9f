-- `forest::slice_insert` meets its contract: at the loop's head the places from j on have what stood one before.
-- Assumes nothing.
use mathlib.Core.Path.{◌≡◌}
use Prim.Native.Nat.{◌-◌, ◌<◌}
use Rattle.forest.proofs.Slices.{moved}
use Rattle.forest.proofs.slice_insert.Given as goal

abbrev pub invariant-loop-j : goal.invariant-loop-j
invariant-loop-j l = (l.s ≡ moved l.initial.s (l.j - 1)) × (l.i < l.j)

-- `forest::search` meets its contract: at the loop's head the keys from place i on have been asked. Assumes nothing.
use Rattle.forest.proofs.Slices.{Searching}
use Rattle.forest.proofs.search.Given as goal

abbrev pub invariant-loop-i : goal.invariant-loop-i
invariant-loop-i l = Searching l.k l.s l.n l.i l.found

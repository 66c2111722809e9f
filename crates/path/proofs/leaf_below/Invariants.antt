use Prim.Native.Nat.{◌-◌}
use Rattle.path.proofs.Along.{WentBelow}
use Rattle.path.proofs.leaf_below.Given as goal

abbrev pub invariant-loop : goal.invariant-loop
invariant-loop l = WentBelow l.way l.ws l.t l.node l.left l.n (l.left - l.counter)

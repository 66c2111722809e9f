use Prim.Native.Nat.{◌-◌}
use Rattle.path.proofs.Along.{WentDown}
use Rattle.path.proofs.down.Given as goal

abbrev pub invariant-loop : goal.invariant-loop
invariant-loop l = WentDown l.way l.ws l.t l.initial.out l.node l.left l.out l.n (l.left - l.counter)

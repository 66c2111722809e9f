use Prim.Native.Nat.{◌-◌}
use Rattle.stand.proofs.+runs_from.Given as goal

abbrev pub decreases-runs_from : goal.decreases-runs_from
decreases-runs_from l = l.c.size - l.l

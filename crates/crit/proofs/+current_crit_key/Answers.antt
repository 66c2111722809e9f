use native.Mathlib.Omega.{arith}
use mathlib.Core.Path.{refl}
use Rattle.crit.proofs.WayLaws
use Rattle.crit.proofs.LeftLaws
use Rattle.crit.proofs.+current_crit_key.Goals as goal

pub current_crit_key-requires : goal.current_crit_key-requires
current_crit_key-requires t c = (omega (arith, c.decreases, c.in_ok-l.ensures), WayLaws.way_up c.requires _ (WayLaws.above c.in_ok-l.ensures))

pub load-w-requires : goal.load-w-requires
load-w-requires t c = WayLaws.way_placed c.requires _ (WayLaws.less c.in_ok-l.ensures)

pub bounds-w-p : goal.bounds-w-p
bounds-w-p t c = omega (arith, WayLaws.way_small c.requires _ (WayLaws.less c.in_ok-l.ensures))

pub returns : goal.returns
returns t c = LeftLaws.crit_here c.requires _ (WayLaws.above c.in_ok-l.ensures) c.load-w.result _ c.load-w.ensures refl c.if-p-eq0.false

use native.Mathlib.Omega.{arith}
use mathlib.Core.Path.{refl}
use Rattle.crit.proofs.WayLaws
use Rattle.crit.proofs.NextLaws
use Rattle.crit.proofs.+next_path.Goals as goal

pub load-w-requires : goal.load-w-requires
load-w-requires t c = WayLaws.way_placed c.requires _ (WayLaws.less c.in_ok-l.ensures)

pub overflow_add-p : goal.overflow_add-p
overflow_add-p t c = omega (arith, WayLaws.way_small c.requires _ (WayLaws.less c.in_ok-l.ensures))

pub bounds-w-p : goal.bounds-w-p
bounds-w-p t c = omega (arith, c.if-p-w.true, WayLaws.way_word c.requires _ (WayLaws.less c.in_ok-l.ensures) _ c.load-w.ensures)

pub returns-then-p-w : goal.returns-then-p-w
returns-then-p-w t c = NextLaws.nexts_here c.requires _ (WayLaws.above c.in_ok-l.ensures) c.load-w.result _ c.load-w.ensures refl _ c.if-p-w.true refl refl refl refl

pub next_path-requires : goal.next_path-requires
next_path-requires t c = (omega (arith, c.decreases, c.in_ok-l.ensures), WayLaws.way_up c.requires _ (WayLaws.above c.in_ok-l.ensures))

pub returns-in_err-d : goal.returns-in_err-d
returns-in_err-d t c = rw c.from_residual-in_err-d.ensures (NextLaws.nexts_off c.requires _ (WayLaws.above c.in_ok-l.ensures) c.load-w.result _ c.load-w.ensures refl c.if-p-w.false c.next_path.ensures c.in_err-d.was)

pub load-v-requires : goal.load-v-requires
load-v-requires t c = NextLaws.nexts_placed c.requires _ (WayLaws.above c.in_ok-l.ensures) c.load-w.result _ c.load-w.ensures refl c.if-p-w.false c.next_path.ensures _ c.in_ok-d.was

pub returns : goal.returns
returns t c = NextLaws.nexts_up c.requires _ (WayLaws.above c.in_ok-l.ensures) c.load-w.result _ c.load-w.ensures refl c.if-p-w.false c.next_path.ensures _ c.in_ok-d.was c.load-v.result _ c.load-v.ensures refl refl refl refl

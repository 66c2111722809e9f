use native.Mathlib.Omega.{arith}
use Rattle.crit.proofs.WayLaws
use Rattle.crit.proofs.RightLaws
use mathlib.Core.Path.{refl}
use Rattle.crit.proofs.+right_sibling.Goals as goal

pub load-w-requires : goal.load-w-requires
load-w-requires t c = WayLaws.way_placed c.requires _ (WayLaws.less c.in_ok-l.ensures)

pub bounds-w-p : goal.bounds-w-p
bounds-w-p t c = omega (arith, WayLaws.way_small c.requires _ (WayLaws.less c.in_ok-l.ensures))

pub bounds-w-p-then-p-w : goal.bounds-w-p-then-p-w
bounds-w-p-then-p-w t c = omega (arith, c.if-p-w.true, WayLaws.way_word c.requires _ (WayLaws.less c.in_ok-l.ensures) _ c.load-w.ensures)

pub returns-then-p-w : goal.returns-then-p-w
returns-then-p-w t c = RightLaws.right_here c.requires _ (WayLaws.above c.in_ok-l.ensures) c.load-w.result _ c.load-w.ensures refl c.if-p-w.true

pub right_sibling-requires : goal.right_sibling-requires
right_sibling-requires t c = (omega (arith, c.decreases, c.in_ok-l.ensures), WayLaws.way_up c.requires _ (WayLaws.above c.in_ok-l.ensures))

pub returns-in_err-key : goal.returns-in_err-key
returns-in_err-key t c = rw c.from_residual-in_err-key.ensures (RightLaws.right_off c.requires _ (WayLaws.above c.in_ok-l.ensures) c.load-w.result _ c.right_sibling.result c.load-w.ensures refl c.if-p-w.false c.right_sibling.ensures c.in_err-key.was)

pub load-v-requires : goal.load-v-requires
load-v-requires t c = RightLaws.right_placed c.requires _ (WayLaws.above c.in_ok-l.ensures) c.right_sibling.result c.in_ok-key.key c.in_ok-key.above c.right_sibling.ensures c.in_ok-key.was

pub returns : goal.returns
returns t c = RightLaws.right_up c.requires _ (WayLaws.above c.in_ok-l.ensures) c.load-w.result _ c.load-v.result c.right_sibling.result c.in_ok-key.key c.in_ok-key.above c.load-w.ensures refl c.if-p-w.false c.right_sibling.ensures c.in_ok-key.was c.load-v.ensures

use native.Mathlib.Omega.{arith}
use mathlib.Core.Path.{refl}
use Rattle.crit.proofs.WayLaws
use Rattle.crit.proofs.RightLaws
use Rattle.crit.proofs.+update_right_crit_key.Goals as goal

pub returns-in_default : goal.returns-in_default
returns-in_default t c = RightLaws.key_root c.args.key c.args.level (omega (arith, c.in_default.ensures))

pub load-w-requires : goal.load-w-requires
load-w-requires t c = WayLaws.way_placed c.requires _ (WayLaws.less c.in-Some.ensures)

pub bounds-w-p : goal.bounds-w-p
bounds-w-p t c = omega (arith, WayLaws.way_small c.requires _ (WayLaws.less c.in-Some.ensures))

pub store-requires : goal.store-requires
store-requires t c = WayLaws.way_placed c.requires _ (WayLaws.less c.in-Some.ensures)

pub returns-then-p-w : goal.returns-then-p-w
returns-then-p-w t c = RightLaws.key_here c.requires _ (WayLaws.above c.in-Some.ensures) c.load-w.result _ _ c.args.key c.load-w.ensures refl c.if-p-w.true c.store.ensures

pub update_right_crit_key-requires : goal.update_right_crit_key-requires
update_right_crit_key-requires t c = (omega (arith, c.decreases, c.in-Some.ensures), WayLaws.way_up c.requires _ (WayLaws.above c.in-Some.ensures))

pub returns : goal.returns
returns t c = RightLaws.key_up c.requires _ (WayLaws.above c.in-Some.ensures) c.load-w.result _ _ c.args.key c.load-w.ensures refl c.if-p-w.false c.update_right_crit_key.ensures

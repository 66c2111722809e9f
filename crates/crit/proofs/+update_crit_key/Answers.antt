use native.Mathlib.Omega.{arith}
use mathlib.Core.Path.{refl}
use Rattle.crit.proofs.WayLaws
use Rattle.crit.proofs.LeftLaws
use Rattle.crit.proofs.+update_crit_key.Goals as goal

pub returns-in_default : goal.returns-in_default
returns-in_default t c = LeftLaws.left_root c.args.key c.args.level (omega (arith, c.in_default.ensures))

pub update_crit_key-requires : goal.update_crit_key-requires
update_crit_key-requires t c = (omega (arith, c.decreases, c.in-Some.ensures), WayLaws.way_up c.requires _ (WayLaws.above c.in-Some.ensures))

pub load-w-requires : goal.load-w-requires
load-w-requires t c = WayLaws.way_placed c.requires _ (WayLaws.less c.in-Some.ensures)

pub bounds-w-p : goal.bounds-w-p
bounds-w-p t c = omega (arith, WayLaws.way_small c.requires _ (WayLaws.less c.in-Some.ensures))

pub store-requires : goal.store-requires
store-requires t c = WayLaws.way_placed c.requires _ (WayLaws.less c.in-Some.ensures)

pub returns : goal.returns
returns t c = LeftLaws.left_here c.requires _ (WayLaws.above c.in-Some.ensures) c.load-w.result _ _ c.args.key c.load-w.ensures refl c.if-p-eq0.false c.store.ensures

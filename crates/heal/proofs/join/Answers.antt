use mathlib.Core.Path.{refl}
use Rattle.heal.proofs.JoinLaws
use Rattle.heal.proofs.join.Goals as goal

pub load-w-requires : goal.load-w-requires
load-w-requires g c = JoinLaws.here_placed g.met.K.Heals.heals c.requires.heal

pub load-v-requires : goal.load-v-requires
load-v-requires g c = JoinLaws.mate_placed g.met.K.Heals.heals c.requires

pub balance-requires : goal.balance-requires
balance-requires g c = (JoinLaws.here_is g.met.K.Heals.heals c.requires.heal c.load-w.result c.load-w.ensures, JoinLaws.mate_is g.met.K.Heals.heals c.requires c.load-v.result c.load-v.ensures)

pub store-requires : goal.store-requires
store-requires g c = JoinLaws.mate_placed g.met.K.Heals.heals c.requires

pub hand_crit_key-requires : goal.hand_crit_key-requires
hand_crit_key-requires g c = JoinLaws.way_gathered g.met.K.Heals.heals c.requires c.load-w.result c.load-v.result c.load-w.ensures c.load-v.ensures c.in-Merged.all c.in-Merged.ensures _ c.store.ensures

pub returns-in-Merged : goal.returns-in-Merged
returns-in-Merged g c = JoinLaws.joined_all g.met.K.Heals.heals c.requires c.load-w.result c.load-v.result c.load-w.ensures c.load-v.ensures c.in-Merged.all c.in-Merged.ensures _ c.store.ensures c.hand_crit_key.ensures

pub store-requires-in-Shared : goal.store-requires-in-Shared
store-requires-in-Shared g c = JoinLaws.here_placed g.met.K.Heals.heals c.requires.heal

pub store-requires-in-Shared-2 : goal.store-requires-in-Shared-2
store-requires-in-Shared-2 g c = JoinLaws.left_placed g.met.K.Heals.heals c.requires c.load-w.result c.load-v.result c.load-w.ensures c.load-v.ensures c.in-Shared.halves c.in-Shared.ensures _ _ c.store-in-Shared.ensures refl

pub update_right_crit_key-requires : goal.update_right_crit_key-requires
update_right_crit_key-requires g c = JoinLaws.way_shared g.met.K.Heals.heals c.requires c.load-w.result c.load-v.result c.load-w.ensures c.load-v.ensures c.in-Shared.halves c.in-Shared.ensures _ _ c.store-in-Shared.ensures c.store-in-Shared-2.ensures

pub returns-in-Shared : goal.returns-in-Shared
returns-in-Shared g c = JoinLaws.joined_some g.met.K.Heals.heals c.requires c.load-w.result c.load-v.result c.load-w.ensures c.load-v.ensures c.in-Shared.halves c.in-Shared.ensures _ _ c.store-in-Shared.ensures c.store-in-Shared-2.ensures c.update_right_crit_key.ensures

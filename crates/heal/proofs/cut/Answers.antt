use Rattle.heal.proofs.JoinLaws
use Rattle.heal.proofs.cut.Goals as goal

pub load-w-requires : goal.load-w-requires
load-w-requires g c = JoinLaws.cut_placed g.met.K.Heals.heals c.requires

pub remove-cut-requires : goal.remove-cut-requires
remove-cut-requires g c = JoinLaws.cut_asks g.met.K.Heals.heals c.requires c.load-w.result c.load-w.ensures

pub store-requires : goal.store-requires
store-requires g c = JoinLaws.cut_placed g.met.K.Heals.heals c.requires

pub returns : goal.returns
returns g c = JoinLaws.cuts g.met.K.Heals.heals c.requires c.load-w.result c.load-w.ensures c.store.ensures c.remove-cut.ensures.0 c.remove-cut.ensures.1

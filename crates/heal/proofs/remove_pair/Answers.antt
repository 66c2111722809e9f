use Rattle.heal.proofs.FrontLaws
use Rattle.heal.proofs.LeafLaws
use Rattle.heal.proofs.remove_pair.Goals as goal

pub cut-status-requires : goal.cut-status-requires
cut-status-requires c = LeafLaws.leaf_asks c.requires

pub update_front-requires : goal.update_front-requires
update_front-requires c = LeafLaws.front_asks c.requires c.cut-status.ensures

pub heal_level-requires : goal.heal_level-requires
heal_level-requires c = FrontLaws.ask_heal c.requires c.cut-status.ensures c.update_front.ensures

pub returns-in-Some : goal.returns-in-Some
returns-in-Some c = FrontLaws.takes c.requires c.cut-status.ensures c.update_front.ensures (c.heal_level.ensures.stays _ c.in-Some.is)

pub returns-in-None : goal.returns-in-None
returns-in-None c = FrontLaws.takes c.requires c.cut-status.ensures c.update_front.ensures (c.heal_level.ensures.goes c.in-None.is _ _ c.empty_node.ensures)

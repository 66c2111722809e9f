use Rattle.remove.proofs.LastLaws
use Rattle.remove.proofs.remove_last.Goals as goal

pub free_node-requires : goal.free_node-requires
free_node-requires c = LastLaws.last_asks c.requires

pub set_root-requires : goal.set_root-requires
set_root-requires c = LastLaws.last_root c.requires _ c.free_node.ensures

pub returns : goal.returns
returns c = LastLaws.last_removes c.requires _ _ _ c.free_node.ensures c.set_root.ensures c.off_end.ensures

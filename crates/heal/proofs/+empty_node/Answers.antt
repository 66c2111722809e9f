use Rattle.crit.proofs.WayLaws.{above, less}
use Rattle.heal.proofs.CycleLaws
use Rattle.heal.proofs.InnerLaws
use Rattle.heal.proofs.+empty_node.Goals as goal
use Rattle.heal.proofs.+empty_node.Goals.{in-Some-heal_level, in-None}

pub free_node-requires : goal.free_node-requires
free_node-requires t c = CycleLaws.free_asks c.requires

pub right_sibling-near-requires : goal.right_sibling-near-requires
right_sibling-near-requires t c = CycleLaws.free_way c.requires _ c.free_node.ensures

pub cut-status-requires : goal.cut-status-requires
cut-status-requires t c = InnerLaws.parent_asks (CycleLaws.free_way c.requires _ c.free_node.ensures) (less c.in-Some.ensures)

pub heal_level-requires : goal.heal_level-requires
heal_level-requires t c = CycleLaws.ask_cut (above c.in-Some.ensures) c.requires (CycleLaws.free_leaves c.requires _ c.free_node.ensures) c.cut-status.ensures

pub returns : goal.returns
returns t c = CycleLaws.empties (above c.in-Some.ensures) c.requires.deep (CycleLaws.free_leaves c.requires _ c.free_node.ensures) c.right_sibling-near.ensures c.cut-status.ensures
    (elim c.match-heal_level.branch [
      | in-Some-heal_level w ↦ rw (w.ws-is, w.d-is) (c.heal_level.ensures.stays _ w.in-Some-heal_level.is)
      | in-None w ↦ rw (w.ws-is, w.d-is) (c.heal_level.ensures.goes w.in-None.is _ _ w.empty_node-d.ensures)
    ]) c.through_right.ensures

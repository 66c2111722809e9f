use Rattle.heal.proofs.CycleLaws
use Rattle.heal.proofs.underflowed_node.Goals as goal

pub right_sibling-requires : goal.right_sibling-requires
right_sibling-requires g c = CycleLaws.heal_way g.K.Heals.kind g.met.K.Heals.heals.lawful c.requires

pub returns-in_default : goal.returns-in_default
returns-in_default g c = CycleLaws.settled (CycleLaws.under_none g.K.Heals.kind c.right_sibling.ensures c.in_default.is c.no_right.ensures)

pub returns-then-join : goal.returns-then-join
returns-then-join g c = CycleLaws.goes_then (CycleLaws.ask_merge g.K.Heals.kind c.right_sibling.ensures c.in-Some.is g.met.K.Heals.heals.lawful c.requires c.join.ensures c.if-join.true) (λ us d f. CycleLaws.under_merge g.K.Heals.kind c.right_sibling.ensures c.in-Some.is c.join.ensures c.if-join.true f)

pub returns : goal.returns
returns g c = CycleLaws.settled (CycleLaws.under-share g.K.Heals.kind c.right_sibling.ensures c.in-Some.is c.join.ensures c.if-join.false)

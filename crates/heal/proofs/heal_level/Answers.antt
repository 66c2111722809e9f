use Rattle.heal.proofs.CycleLaws
use Rattle.heal.proofs.heal_level.Goals as goal

pub returns-in-Healthy : goal.returns-in-Healthy
returns-in-Healthy g c = CycleLaws.settled (CycleLaws.heals_0 g.K.Heals.kind c.in-Healthy.is)

pub next_node-requires : goal.next_node-requires
next_node-requires g c = CycleLaws.heal_way g.K.Heals.kind g.met.K.Heals.heals.lawful c.requires

pub returns-in-Rightmost : goal.returns-in-Rightmost
returns-in-Rightmost g c = CycleLaws.settled (CycleLaws.heals_1 g.K.Heals.kind c.in-Rightmost.is c.next_node.ensures)

pub returns-in-Underflow : goal.returns-in-Underflow
returns-in-Underflow g c = CycleLaws.settles_as (λ us d f. CycleLaws.heals_2 g.K.Heals.kind c.in-Underflow.is f) c.underflowed_node.ensures

pub returns-in-Empty : goal.returns-in-Empty
returns-in-Empty g c = CycleLaws.goes_then (CycleLaws.ask_none g.K.Heals.kind g.met.K.Heals.heals.lawful c.requires c.in-Empty.is) (λ us d f. CycleLaws.heals_3 g.K.Heals.kind c.in-Empty.is f)

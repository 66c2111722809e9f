use Rattle.crit.proofs.LeftLaws
use Rattle.crit.proofs.hand_crit_key.Goals as goal

pub returns-in-Some : goal.returns-in-Some
returns-in-Some c = LeftLaws.hand_some c.current_crit_key.result c.in-Some.key c.current_crit_key.ensures c.in-Some.is c.update_right_crit_key.ensures

pub returns-in_default : goal.returns-in_default
returns-in_default c = LeftLaws.hand_none c.current_crit_key.result c.current_crit_key.ensures c.in_default.is

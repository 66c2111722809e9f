use Rattle.heal.proofs.FrontLaws
use Rattle.heal.proofs.update_front.Goals as goal
use Rattle.heal.proofs.update_front.Goals.{else-w-gt32-via-then-w-gt32+else-c-level-eq0, else-w-gt32-via-else-w-gt32}

pub load-w-requires : goal.load-w-requires
load-w-requires c = FrontLaws.front_placed c.requires

pub returns-else-w-gt32 : goal.returns-else-w-gt32
returns-else-w-gt32 c = elim c.else-w-gt32.branch [
  | else-w-gt32-via-then-w-gt32+else-c-level-eq0 w ↦ FrontLaws.fronts_later c.requires c.load-w.result c.load-w.ensures w.if-w-gt32.true w.if-c-level-eq0.false
  | else-w-gt32-via-else-w-gt32 w ↦ FrontLaws.fronts_none c.requires c.load-w.result c.load-w.ensures w.if-w-gt32.false
]

pub returns-then-c-level-eq0 : goal.returns-then-c-level-eq0
returns-then-c-level-eq0 c = FrontLaws.fronts-first c.requires c.load-w.result c.load-w.ensures c.if-w-gt32.true c.if-c-level-eq0.true c.update_crit_key.ensures

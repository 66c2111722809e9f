use native.Mathlib.Omega.{arith}
use Rattle.heal.proofs.JoinLaws
use Rattle.heal.proofs.no_right.Goals as goal

pub load-w-requires : goal.load-w-requires
load-w-requires g c = JoinLaws.here_placed g.met.K.Heals.heals c.requires

pub overflow_sub-left : goal.overflow_sub-left
overflow_sub-left g c = omega (arith, c.TAG.ensures, JoinLaws.here_count g.met.K.Heals.heals c.requires c.load-w.result c.load-w.ensures)

pub returns-then-c-level : goal.returns-then-c-level
returns-then-c-level g c = JoinLaws.stays_on g.met.K.Heals.heals c.requires c.load-w.result c.load-w.ensures (rw c.TAG.ensures at c.if-c-level.true)

pub returns : goal.returns
returns g c = JoinLaws.stays_off g.met.K.Heals.heals c.requires c.load-w.result c.load-w.ensures (rw c.TAG.ensures at c.if-c-level.false) c.off_end.ensures

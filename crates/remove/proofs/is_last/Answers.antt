use borrow.Author.Tests.{ne_eqb}
use Rattle.remove.proofs.LastLaws
use Rattle.remove.proofs.is_last.Goals as goal

pub load-requires : goal.load-requires
load-requires c = LastLaws.alone_placed c.requires c.if-c-eq1.true

pub returns-then-c-eq1 : goal.returns-then-c-eq1
returns-then-c-eq1 c = LastLaws.alone_is c.requires c.load.result c.if-c-eq1.true c.load.ensures

pub returns-else-c-eq1 : goal.returns-else-c-eq1
returns-else-c-eq1 c = rw (ne_eqb c.args.c.size 1 c.if-c-eq1.false) (LastLaws.alone_no c.requires c.if-c-eq1.false)

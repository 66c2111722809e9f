use mathlib.Core.Path.{refl}
use borrow.Author.Rules.{rules}
use native.Mathlib.Omega.{arith}
use Rattle.remove.proofs.ShrinkLaws
use Rattle.remove.proofs.ShrinkLaws.{Going}
use Rattle.remove.proofs.shrink_root.Goals as goal

pub load-w-requires : goal.load-w-requires
load-w-requires c = ShrinkLaws.going_placed c.loop-gone.invariant.0 (omega arith)

pub returns-then-w-ne16 : goal.returns-then-w-ne16
returns-then-w-ne16 c = ShrinkLaws.going_stop c.loop-gone.invariant.0 c.load-w.result _ (omega arith) c.load-w.ensures c.if-w-ne16.true refl refl

pub free_node-requires : goal.free_node-requires
free_node-requires c = ShrinkLaws.going_freeable c.loop-gone.invariant.0 (omega arith)

pub loop-gone-preserved : goal.loop-gone-preserved
loop-gone-preserved c = (ShrinkLaws.going_on c.loop-gone.invariant.0 c.load-w.result _ (omega arith) c.load-w.ensures c.if-w-ne16.false c.free_node.ensures, search rules)

pub returns : goal.returns
returns c = ShrinkLaws.going_end c.loop-gone.invariant.0 _ (omega arith) refl (omega arith)

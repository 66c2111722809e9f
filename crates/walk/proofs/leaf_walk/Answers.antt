use Rattle.std.proofs.Common.{◌∙◌, sym}
use Rattle.walk.proofs.Laws.{leaf_none, leaf_low, leaf_met}
use Rattle.walk.proofs.leaf_walk.Goals as goal

pub returns-in_err-s : goal.returns-in_err-s
returns-in_err-s c =
    c.from_residual.ensures ∙ sym (leaf_none c.args.ws.now c.args.b c.args.edge c.args.marks c.args.next (rw c.least.ensures at c.in_err-s.ensures.count))

pub returns-then-not-rises : goal.returns-then-not-rises
returns-then-not-rises c =
    sym (leaf_low c.args.ws.now c.args.b c.args.edge c.args.marks c.args.next _ (rw c.least.ensures at c.in_ok-s.ensures.count) (sym c.rises.ensures ∙ c.if-not-rises.true))

pub returns : goal.returns
returns c =
    sym (leaf_met c.args.ws.now c.args.b c.args.edge c.args.marks c.args.next _ (rw c.least.ensures at c.in_ok-s.ensures.count) (sym c.rises.ensures ∙ c.if-not-rises.false))

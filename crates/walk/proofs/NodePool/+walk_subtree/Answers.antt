-- `walk_subtree` meets its contract: each return is one law of WalkSteps.
use Rattle.std.proofs.Common.{sym, ◌∙◌}
use Rattle.walk.proofs.Laws.{not_there, met_before}
use Rattle.walk.proofs.WalkSteps.{walk_no, walk_leaf, walk_unfit, walk_first, walk_rest, left_no, left_low, left_on, left_end}
use Rattle.walk.proofs.NodePool.+walk_subtree.Goals as goal

pub returns-in_err-b : goal.returns-in_err-b
returns-in_err-b t c = c.from_residual.ensures ∙ sym (walk_no _ _ _ _ _ _ _ _ (not_there _ _ _ _ c.in_err-b.ensures.place))

pub returns-then-not-set_mark : goal.returns-then-not-set_mark
returns-then-not-set_mark t c = sym (walk_no _ _ _ _ _ _ _ _ (met_before _ _ _ c.if-not-set_mark.ensures.fresh))

pub returns-then-high-eq0 : goal.returns-then-high-eq0
returns-then-high-eq0 t c = c.leaf_walk.ensures ∙ sym (walk_leaf _ _ _ _ _ _ _ _ _ _ c.in_ok-b.ensures.place c.if-not-set_mark.ensures.fresh c.set_mark.ensures.marks c.if-high-eq0.true)

pub returns-in_err-c : goal.returns-in_err-c
returns-in_err-c t c =
    c.from_residual-in_err-c.ensures ∙
    sym (walk_unfit _ _ _ _ _ _ _ _ _ _ c.in_ok-b.ensures.place c.if-not-set_mark.ensures.fresh c.set_mark.ensures.marks c.if-high-eq0.false (rw c.least.ensures at c.in_err-c.ensures.count))

pub returns-in_err-all : goal.returns-in_err-all
returns-in_err-all t c =
    c.from_residual-in_err-all.ensures ∙
    sym (walk_first _ _ _ _ _ _ _ _ _ _ c.in_ok-b.ensures.place c.if-not-set_mark.ensures.fresh c.set_mark.ensures.marks c.if-high-eq0.false _ (rw c.least.ensures at c.in_ok-c.ensures.count) _ c.at_end.ensures
    c.in_err-all.ensures)

pub loop-k-init : goal.loop-k-init
loop-k-init t c =
    walk_rest _ _ _ _ _ _ _ _ _ _ c.in_ok-b.ensures.place c.if-not-set_mark.ensures.fresh c.set_mark.ensures.marks c.if-high-eq0.false _ (rw c.least.ensures at c.in_ok-c.ensures.count) _ c.at_end.ensures _
    c.in_ok-all.ensures

pub returns-in_err-y : goal.returns-in_err-y
returns-in_err-y t c =
    c.from_residual-in_err-y.ensures ∙ sym (c.loop-k.invariant ∙ left_no _ _ _ _ _ _ _ _ _ c.loop-k-test.true _ c.at_end-in-loop-k.ensures c.in_err-y.ensures)

pub returns-then-y-ws : goal.returns-then-y-ws
returns-then-y-ws t c =
    sym (c.loop-k.invariant ∙ left_low _ _ _ _ _ _ _ _ _ c.loop-k-test.true _ c.at_end-in-loop-k.ensures _ c.in_ok-y.ensures c.if-y-ws.true)

pub loop-k-preserved : goal.loop-k-preserved
loop-k-preserved t c =
    c.loop-k.invariant ∙ left_on _ _ _ _ _ _ _ _ _ c.loop-k-test.true _ c.at_end-in-loop-k.ensures _ c.in_ok-y.ensures c.if-y-ws.false

pub returns : goal.returns
returns t c = sym (c.loop-k.invariant ∙ left_end _ _ _ _ _ _ _ _ _ c.loop-k-test.false)

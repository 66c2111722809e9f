use Rattle.std.proofs.Common.{◌+◌, ◌*◌, sym, ◌∙◌, arith}
use Rattle.walk.proofs.Laws.{slice_turn, not_there, met_before}
use Rattle.sound.proofs.CheckSteps.{frees_no, frees-full, frees_on}
use Rattle.sound.proofs.verify_freelist.Goals as goal
use Rattle.sound.proofs.verify_freelist.Goals.{then-not-set_mark-via-then-not-set_mark, then-not-set_mark-via-else-not-set_mark+then-not-are_zero}

pub returns-in_err-b : goal.returns-in_err-b
returns-in_err-b c =
    let turn = slice_turn c.args.pool.now.words.now (c.args.pool.now.trees + 3 + 16 * c.args.pool.now.nodes) c.args.f c.loop-node.node-index (omega arith) c.loop-node-test.true in
    c.from_residual.ensures ∙ sym (c.loop-node.invariant ∙ frees_no _ _ _ _ _ _ turn.more _ _ turn.word (not_there _ _ _ _ c.in_err-b.ensures.place))

pub returns-then-not-set_mark : goal.returns-then-not-set_mark
returns-then-not-set_mark c =
    let turn = slice_turn c.args.pool.now.words.now (c.args.pool.now.trees + 3 + 16 * c.args.pool.now.nodes) c.args.f c.loop-node.node-index (omega arith) c.loop-node-test.true in
    sym (c.loop-node.invariant ∙ elim c.then-not-set_mark.branch [
      | then-not-set_mark-via-then-not-set_mark w ↦
          frees_no _ _ _ _ _ _ turn.more _ _ turn.word (met_before _ _ _ w.if-not-set_mark.ensures.fresh)
      | then-not-set_mark-via-else-not-set_mark+then-not-are_zero w ↦
          frees-full _ _ _ _ _ _ turn.more _ _ turn.word _ c.in_ok-b.ensures.place w.if-not-set_mark.ensures.fresh
          (sym w.are_zero.ensures ∙ w.if-not-are_zero.true)
    ])

pub loop-node-preserved : goal.loop-node-preserved
loop-node-preserved c =
    let turn = slice_turn c.args.pool.now.words.now (c.args.pool.now.trees + 3 + 16 * c.args.pool.now.nodes) c.args.f c.loop-node.node-index (omega arith) c.loop-node-test.true in
    c.loop-node.invariant ∙
    frees_on _ _ _ _ _ _ turn.more _ _ turn.word _ c.in_ok-b.ensures.place c.if-not-set_mark.ensures.fresh
    (sym c.are_zero.ensures ∙ c.if-not-are_zero.false) _ c.set_mark.ensures.marks

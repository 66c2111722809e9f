use Rattle.std.proofs.Common.{sym, ◌∙◌, arith}
use Rattle.walk.proofs.Laws.{slice_turn}
use Rattle.sound.proofs.CheckSteps.{trees_no, trees_on}
use Rattle.sound.proofs.verify_trees.Goals as goal

pub returns-in_err-marks : goal.returns-in_err-marks
returns-in_err-marks c =
    let turn = slice_turn c.args.pool.now.words.now 1 c.args.pool.now.trees c.loop-root.root-index (omega arith) c.loop-root-test.true in
    c.from_residual.ensures ∙ sym (c.loop-root.invariant ∙ trees_no _ _ _ _ _ _ turn.more _ turn.word c.in_err-marks.ensures)

pub loop-root-preserved : goal.loop-root-preserved
loop-root-preserved c =
    let turn = slice_turn c.args.pool.now.words.now 1 c.args.pool.now.trees c.loop-root.root-index (omega arith) c.loop-root-test.true in
    c.loop-root.invariant ∙ trees_on _ _ _ _ _ _ turn.more _ turn.word _ c.in_ok-marks.ensures

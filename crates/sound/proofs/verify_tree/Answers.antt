use Rattle.std.proofs.Common.{sym, ◌∙◌}
use Rattle.sound.proofs.CheckSteps.{tree_none, tree_out, tree_narrow, tree_no, tree_yes}
use Rattle.sound.proofs.verify_tree.Goals as goal

pub returns-then-root-eq0 : goal.returns-then-root-eq0
returns-then-root-eq0 c = sym (tree_none _ _ _ _ _ c.if-root-eq0.true)

pub returns-in_err-b : goal.returns-in_err-b
returns-in_err-b c = c.from_residual.ensures ∙ sym (tree_out _ _ _ _ _ c.if-root-eq0.false c.in_err-b.ensures.place)

pub returns-then-not-is_wide : goal.returns-then-not-is_wide
returns-then-not-is_wide c =
    sym (tree_narrow _ _ _ _ _ c.if-root-eq0.false _ _ c.in_ok-b.ensures.place c.levels_of-high.ensures (sym c.is_wide.ensures ∙ c.if-not-is_wide.true))

pub returns-in_err-tree : goal.returns-in_err-tree
returns-in_err-tree c =
    c.from_residual-in_err-tree.ensures ∙
    sym (tree_no _ _ _ _ _ c.if-root-eq0.false _ _ c.in_ok-b.ensures.place c.levels_of-high.ensures (sym c.is_wide.ensures ∙ c.if-not-is_wide.false) c.in_err-tree.ensures)

pub returns : goal.returns
returns c =
    sym (tree_yes _ _ _ _ _ c.if-root-eq0.false _ _ c.in_ok-b.ensures.place c.levels_of-high.ensures (sym c.is_wide.ensures ∙ c.if-not-is_wide.false) _ c.in_ok-tree.ensures)

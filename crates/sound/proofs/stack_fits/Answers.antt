use Rattle.std.proofs.Common.{sym, ◌∙◌}
use Rattle.sound.proofs.CheckSteps.{stack_no, stack_yes}
use Rattle.sound.proofs.stack_fits.Goals as goal

pub returns-in_default : goal.returns-in_default
returns-in_default c = sym (stack_no _ _ _ _ _ c.in_default.ensures)

pub returns-then-are_zero : goal.returns-then-are_zero
returns-then-are_zero c = c.all_marked.ensures ∙ sym (stack_yes _ _ _ _ _ _ c.in-Some.ensures ∙ rw (← c.if-are_zero.ensures))

pub returns-else-are_zero : goal.returns-else-are_zero
returns-else-are_zero c = c.if-are_zero.false ∙ sym (stack_yes _ _ _ _ _ _ c.in-Some.ensures ∙ rw (← c.if-are_zero.ensures))

use Rattle.std.proofs.Common.{refl}
use Rattle.requests.specs.declared.Stage.TheVariants.{Kind, Sizes, Count}
use Rattle.requests.proofs.Falling.{judged_falls}
use Rattle.requests.proofs.step.Goals as goal

pub returns-in-Kind-clause-falls : goal.returns-in-Kind-clause-falls
returns-in-Kind-clause-falls c = rw c.in-Kind.is (judged_falls Kind _ c.args.space.now c.args.space.now _ (c.after_kind.ensures, refl))

pub returns-in-Sizes-clause-falls : goal.returns-in-Sizes-clause-falls
returns-in-Sizes-clause-falls c = rw c.in-Sizes.is (judged_falls Sizes _ _ _ _ c.after_sizes.ensures)

pub returns-in-Count-clause-falls : goal.returns-in-Count-clause-falls
returns-in-Count-clause-falls c = rw c.in-Count.is (judged_falls (Count _) _ c.args.space.now c.args.space.now _ (c.after_count.ensures, refl))

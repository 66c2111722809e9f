-- `all_marked` meets its contract: each of the numbers 1 to n is tested.
use Rattle.std.proofs.Common.{◌+◌, ◌∙◌, refl, rules, arith}
use Rattle.std.proofs.lemmas.Iterator.{YieldsList-from_range}
use Rattle.std.proofs.lemmas.Iterator.Search.{all_from_yields_List}
use borrow.Author.Tests.{tests}
use Rattle.walk.specs.Marks.{has}
use Rattle.sound.proofs.CheckSteps.{all-marked}
use Rattle.sound.proofs.all_marked.Goals as goal

pub returns : goal.returns
returns c =
    all_from_yields_List (has c.args.marks) _ _ _ c.all.ensures.ran (YieldsList-from_range 1 (c.args.n + 1) c.args.n refl (omega arith)) (λ x b q k. search (rules, tests)) ∙
    all-marked c.args.marks c.args.n

-- `are_zero` meets its contract: each word of the slice is tested, and these are the r words.
use Rattle.std.proofs.Common.{◌≡◌, ◌+◌, ◌-◌, ◌∙◌, arith, rules, eqb, take, drop}
use Rattle.std.proofs.lemmas.Iterator.{YieldsList-from_slice}
use Rattle.std.proofs.lemmas.Iterator.Search.{all_from_yields_List}
use borrow.Author.Tests.{tests}
use Rattle.walk.proofs.Laws.{zeros-all}
use Rattle.walk.proofs.are_zero.Goals as goal

pub returns : goal.returns
returns c =
    let e : c.args.a + c.args.r - c.args.a ≡ c.args.r = omega arith in
    all_from_yields_List (λ w. eqb w 0) _ _ _ c.all.ensures.ran (YieldsList-from_slice (take (c.args.a + c.args.r - c.args.a) (drop c.args.a c.args.ws.now)) cc) (λ x b q k. search (rules, tests)) ∙
    rw e (zeros-all c.args.ws.now c.args.a c.args.r c.requires)

use Rattle.std.proofs.Common.{◌-◌, sym, ◌∙◌, arith}
use Rattle.sound.proofs.CheckSteps.{levels_none, levels_leaf, levels_on}
use Rattle.sound.proofs.levels_of.Goals as goal

pub returns-in_default : goal.returns-in_default
returns-in_default c =
    let p = c.args.pool.now in
    sym (c.loop-h.invariant ∙ omega (arith, levels_none p.words.now p.trees p.nodes (5 - c.loop-h.h) c.loop-h.node c.in_default.ensures.place))

pub returns-then-pool-b-ge-LEAF_TAG : goal.returns-then-pool-b-ge-LEAF_TAG
returns-then-pool-b-ge-LEAF_TAG c =
    let p = c.args.pool.now in
    sym (c.loop-h.invariant ∙ omega (
      arith,
      levels_leaf p.words.now p.trees p.nodes c.loop-h.node c.in-Some.b c.in-Some.ensures.place (5 - c.loop-h.h) c.if-pool-b-ge-LEAF_TAG.true,
    ))

pub loop-h-preserved : goal.loop-h-preserved
loop-h-preserved c =
    let p = c.args.pool.now in
    c.loop-h.invariant ∙ omega (
      arith,
      levels_on p.words.now p.trees p.nodes c.loop-h.node c.in-Some.b c.in-Some.ensures.place c.loop-h.h c.loop-h-test.true c.if-pool-b-ge-LEAF_TAG.false,
    )

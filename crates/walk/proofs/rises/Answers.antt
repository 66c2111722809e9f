use Rattle.std.proofs.Common.{sym, ◌∙◌}
use Rattle.walk.proofs.Laws.{slice_turn, climbs_on, climbs_off}
use Rattle.walk.proofs.rises.Goals as goal

pub returns-then-k-low : goal.returns-then-k-low
returns-then-k-low c =
    let turn = slice_turn c.args.ws.now c.args.a c.args.r c.loop-key.key-index c.requires c.loop-key-test.true in
    sym (c.loop-key.invariant ∙ climbs_off _ _ _ _ _ _ turn.more turn.word c.if-k-low.true)

pub loop-key-preserved : goal.loop-key-preserved
loop-key-preserved c =
    let turn = slice_turn c.args.ws.now c.args.a c.args.r c.loop-key.key-index c.requires c.loop-key-test.true in
    c.loop-key.invariant ∙ climbs_on _ _ _ _ _ _ turn.more turn.word c.if-k-low.false

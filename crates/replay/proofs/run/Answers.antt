use Rattle.std.proofs.Common.{sym, ◌∙◌, arith}
use Rattle.requests.proofs.Program.{takes_falls, wants_none}
use Rattle.replay.proofs.Streams.{streams_first, streams_on, streams_answer}
use Rattle.replay.proofs.run.Goals as goal

pub loop-taken-init : goal.loop-taken-init
loop-taken-init g c = (
  c.turn-taken.auto.pool,
  c.next-stage.ensures,
  streams_first _ _ _ _ _ _ _ c.turn-taken.ensures.turn c.turn-taken.ensures.bytes c.turn-taken.ensures.written,
)

pub loop-taken-preserved : goal.loop-taken-preserved
loop-taken-preserved g c =
    let i = c.loop-taken.invariant in
    let t = c.turn-taken-in-loop-taken in (
      t.auto.pool ∙ i.0,
      c.next-stage-in-loop-taken.ensures,
      streams_on _ _ _ _ _ _ _ _ _ _ _ _ c.wants.result i.2 i.1 c.wants.ensures.value (omega (arith, c.loop-taken-test.true)) t.ensures.turn t.ensures.bytes t.ensures.written,
    )

pub loop-taken-smaller : goal.loop-taken-smaller
loop-taken-smaller g c =
    let t = c.turn-taken-in-loop-taken in
    takes_falls _ _ c.wants.result _ _ _ c.wants.ensures.value (omega (arith, c.loop-taken-test.true)) t.ensures.turn c.next-stage-in-loop-taken.ensures

pub returns-clause-answers : goal.returns-clause-answers
returns-clause-answers g c =
    let i = c.loop-taken.invariant in
    streams_answer _ _ _ _ _ _ _ i.2 (sym i.1 ∙ wants_none _ c.wants.result c.wants.ensures.value (omega (arith, c.loop-taken-test.false))) c.requires

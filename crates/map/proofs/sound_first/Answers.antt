use mathlib.Core.Path.{subst, ◌∙◌}
use Rattle.forest.specs.Cursors.{first, to_first}
use Rattle.path.specs.Cores.{Goes}
use Rattle.moves.specs.Moves.{Seen}
use Rattle.map.proofs.Gating.{of_tree, gate_ready}
use Rattle.map.proofs.Promising.{gated_moves, first_moves}
use Rattle.map.proofs.sound_first.Goals as goal

pub returns-in-Err : goal.returns-in-Err
returns-in-Err c =
    rw c.refused.ensures (gated_moves to_first c.args.at c.args.ws.now c.in-Err.why c.requires (c.gate.ensures.shut c.in-Err.why c.in-Err.is))

pub returns-in-Ok : goal.returns-in-Ok
returns-in-Ok c =
    let e = c.gate.ensures.passes c.in-Ok.tree c.in-Ok.is in
    let d = c.goto_first.result.cursor in
    first_moves c.args.ws.now _ c.args.at (gate_ready c.gate.ensures c.in-Ok.tree c.in-Ok.is) _ _
    (of_tree (λ u n. Goes first u n d) e c.goto_first.ensures.place)
    (subst (λ u. Seen u d c.seen.result) (c.goto_first.ensures.words ∙ e.0) c.seen.ensures)

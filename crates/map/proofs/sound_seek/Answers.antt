use mathlib.Core.Path.{subst, ◌∙◌}
use Rattle.forest.specs.Cursors.{seek, to_key}
use Rattle.path.specs.Cores.{Goes, Sees}
use Rattle.map.proofs.Gating.{of_tree, gate_ready}
use Rattle.map.proofs.Promising.{gated_moves, seek_moves}
use Rattle.map.proofs.sound_seek.Goals as goal

pub returns-in-Err : goal.returns-in-Err
returns-in-Err c =
    rw c.refused.ensures (gated_moves (to_key c.args.key) c.args.at c.args.ws.now c.in-Err.why c.requires (c.gate.ensures.shut c.in-Err.why c.in-Err.is))

pub returns-in-Ok : goal.returns-in-Ok
returns-in-Ok c =
    let e = c.gate.ensures.passes c.in-Ok.tree c.in-Ok.is in
    let d = c.goto-there.result.cursor in
    seek_moves c.args.ws.now _ c.args.at (gate_ready c.gate.ensures c.in-Ok.tree c.in-Ok.is) c.args.key _ _ _
    (of_tree (λ u n. Goes (seek c.args.key) u n d) e c.goto-there.ensures.place)
    (subst (λ u. Sees u d c.look.result) (c.goto-there.ensures.words ∙ e.0) c.look.ensures)
    c.held.ensures

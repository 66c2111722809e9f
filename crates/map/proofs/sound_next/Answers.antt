use mathlib.Core.Path.{refl, subst, ◌∙◌}
use Rattle.forest.specs.Cursors.{next}
use Rattle.moves.specs.Moves.{Steps, Seen}
use Rattle.map.proofs.Gating.{of_cursor, stood_ready}
use Rattle.map.proofs.Promising.{next_moves}
use Rattle.map.proofs.sound_next.Goals as goal

pub returns : goal.returns
returns c =
    let e = c.standing.ensures in
    let d = c.next.result.cursor in
    next_moves c.args.ws.now _ c.args.at (stood_ready c.args.ws.now c.args.at _ c.requires refl) c.requires.standing _ _
    (of_cursor (λ u k. Steps next u k d) e c.next.ensures.place)
    (subst (λ u. Seen u d c.seen.result) (c.next.ensures.words ∙ e.0) c.seen.ensures)

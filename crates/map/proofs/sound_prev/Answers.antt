use mathlib.Core.Path.{refl}
use Rattle.moves.specs.Moves.{Back}
use Rattle.map.proofs.Gating.{of_cursor, stood_ready}
use Rattle.map.proofs.Promising.{prev_moves}
use Rattle.map.proofs.sound_prev.Goals as goal

pub returns : goal.returns
returns c =
    prev_moves c.args.ws.now _ c.args.at (stood_ready c.args.ws.now c.args.at _ c.requires refl) c.requires.standing _
    (of_cursor (λ u k. Back u k c.prev.result) c.standing.ensures c.prev.ensures)

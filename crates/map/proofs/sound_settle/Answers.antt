use mathlib.Core.Path.{refl}
use Rattle.forest.specs.Cursors.{settle}
use Rattle.moves.specs.Moves.{Steps}
use Rattle.map.proofs.Gating.{of_cursor, stood_ready}
use Rattle.map.proofs.Promising.{settle_moves}
use Rattle.map.proofs.sound_settle.Goals as goal

pub returns : goal.returns
returns c =
    settle_moves c.args.ws.now _ c.args.at (stood_ready c.args.ws.now c.args.at _ c.requires refl) c.requires.standing _
    (of_cursor (λ u k. Steps settle u k c.normalize-there.result.cursor) c.standing.ensures c.normalize-there.ensures.place)

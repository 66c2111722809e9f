-- `grow::need` meets its contract. A full leaf takes as many as the levels above, and one. Assumes nothing.
use Prim.Native.Nat.{◌-◌}
use Rattle.grow.proofs.Landings
use Rattle.grow.proofs.need.Goals as goal

pub returns : goal.returns
returns c =
    Landings.more_here c.args.ws.now c.args.t c.args.c.tree c.args.c.nodes c.args.c.places (c.args.c.size - 1) c.need_above.result c.need_above.ensures.need

use Rattle.std.proofs.Common.{◌≡◌, length}
use Rattle.requests.specs.Turns.{rank}
use Rattle.requests.specs.Program.{following}
use Rattle.replay.specs.Streams.{Streams}
use Rattle.replay.proofs.run.Given as goal

abbrev pub invariant-loop-taken : goal.invariant-loop-taken
invariant-loop-taken g l =
    (length l.pool ≡ length l.fn.pool) × (l.stage ≡ following l.taken)
    × Streams (g.R.Read.remaining l.fn.input) (g.R.Read.remaining l.input) (g.W.Write.contents l.fn.output) (g.W.Write.contents l.output) l.fn.pool l.pool l.taken

abbrev pub decreases-loop-taken : goal.decreases-loop-taken
decreases-loop-taken g l = rank l.stage

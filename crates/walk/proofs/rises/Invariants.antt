-- `rises` meets its contract: the answer from the i-th key on is the whole answer.
use Rattle.std.proofs.Common.{◌≡◌, ◌+◌, ◌-◌}
use Rattle.walk.specs.Walks.{items, climbs}
use Rattle.walk.proofs.rises.Given as goal

abbrev pub invariant-loop-key : goal.invariant-loop-key
invariant-loop-key l = climbs l.q (items l.ws l.a (l.a + 7) l.r) ≡ climbs l.low (items l.ws (l.a + l.key-index) (l.a + 7 + l.key-index) (l.r - l.key-index))

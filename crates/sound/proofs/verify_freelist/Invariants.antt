-- `verify_freelist` meets its contract: the answer from the i-th free number on is the whole answer.
use Rattle.std.proofs.Common.{◌≡◌, ◌+◌, ◌-◌}
use Rattle.sound.specs.Checks.{free_walk}
use Rattle.sound.proofs.verify_freelist.Given as goal

abbrev pub invariant-loop-node : goal.invariant-loop-node
invariant-loop-node l =
    free_walk l.pool.words.now l.pool.trees l.pool.nodes l.f l.s l.fn.marks ≡
    free_walk l.pool.words.now l.pool.trees l.pool.nodes (l.f - l.node-index) (l.s + l.node-index) l.all

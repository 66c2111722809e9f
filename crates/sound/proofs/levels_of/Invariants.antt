-- `levels_of` meets its contract: the h inner nodes that were passed, and those below.
use Rattle.std.proofs.Common.{◌≡◌, ◌+◌, ◌-◌}
use Rattle.sound.specs.Checks.{levels}
use Rattle.sound.proofs.levels_of.Given as goal

abbrev pub invariant-loop-h : goal.invariant-loop-h
invariant-loop-h l = levels l.pool.words.now l.pool.trees l.pool.nodes 5 l.root ≡ l.h + levels l.pool.words.now l.pool.trees l.pool.nodes (5 - l.h) l.node

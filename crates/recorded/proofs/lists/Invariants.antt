use Rattle.std.proofs.Common.{◌*◌, ◌≤◌}
use Rattle.recorded.proofs.lists.Given as goal

abbrev pub invariant-loop-list : goal.invariant-loop-list
invariant-loop-list g l = (l.all.calls ≤ 4294967295 * l.list) × (l.all.differ ≤ 4294967296 * l.list)

use Rattle.std.proofs.Common.{◌≤◌}
use Rattle.recorded.proofs.records.Given as goal

abbrev pub invariant-loop-call : goal.invariant-loop-call
invariant-loop-call g l = l.differ ≤ l.call

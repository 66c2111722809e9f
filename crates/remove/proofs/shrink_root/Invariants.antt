use lib.ListN.{length}
use mathlib.Core.Path.{◌≡◌}
use Rattle.remove.proofs.ShrinkLaws.{Going}
use Rattle.remove.proofs.shrink_root.Given as goal

abbrev pub invariant-loop-gone : goal.invariant-loop-gone
invariant-loop-gone l = Going l.initial.ws l.ws l.t l.root l.levels l.n l.gone × (length l.ws ≡ length l.initial.ws)

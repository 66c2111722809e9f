use mathlib.Core.Path.{refl}
use Rattle.crit.proofs.NextLaws
use Rattle.crit.proofs.next_node.Goals as goal

pub returns : goal.returns
returns c = NextLaws.next_some c.next_path.result c.requires.deep c.next_path.ensures c.in-Some.is refl refl refl refl

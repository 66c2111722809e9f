use Rattle.walk.proofs.Laws.{has_read}
use Rattle.walk.proofs.is_marked.Goals as goal

pub returns : goal.returns
returns c = has_read c.args.marks.now c.args.n c.requires.0

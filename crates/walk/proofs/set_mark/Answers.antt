use Rattle.walk.proofs.Laws.{mark_write}
use Rattle.walk.proofs.set_mark.Goals as goal

pub returns-clause-marks : goal.returns-clause-marks
returns-clause-marks c = mark_write c.args.marks.now c.args.n c.requires.0

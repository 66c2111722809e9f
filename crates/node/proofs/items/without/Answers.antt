-- `node::items::without` meets its contract. Assumes nothing.
use native.Mathlib.Omega.{arith}
use Rattle.node.proofs.Pads.{without_word}
use Rattle.node.proofs.items.without.Goals as goal

pub returns : goal.returns
returns c = without_word c.args.a c.slice_shift.new.s c.args.at (omega arith) c.requires c.slice_shift.ensures

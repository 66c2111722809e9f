-- `grow::put_first` meets its contract. Refused for want of nodes, or a leaf that is the root. Assumes nothing.
use native.Mathlib.Omega.{arith}
use Rattle.grow.proofs.Putting
use Rattle.grow.proofs.put_first.Goals as goal

pub free_count-requires : goal.free_count-requires
free_count-requires c =
    Putting.stack_there c.args.ws.now c.args.t c.args.tree c.requires.ready

pub returns-then-free_count-eq0 : goal.returns-then-free_count-eq0
returns-then-free_count-eq0 c =
    Putting.first-refused c.args.ws.now c.args.t c.args.tree c.args.key c.args.value c.requires c.free_count.result c.free_count.ensures c.if-free_count-eq0.true

pub plant-requires : goal.plant-requires
plant-requires c = let both = Putting.plant_asks c.args.ws.now c.args.t c.args.tree c.args.key c.args.value c.requires c.free_count.result c.free_count.ensures (omega arith) in record {
  takes = both.0;
  tree_in_bounds = both.1;
}

pub returns : goal.returns
returns c =
    Putting.first_done c.args.ws.now c.args.t c.args.tree c.args.key c.args.value c.requires c.free_count.result c.free_count.ensures c.leaf.result c.plant.new.ws (omega arith) c.leaf.ensures c.plant.ensures

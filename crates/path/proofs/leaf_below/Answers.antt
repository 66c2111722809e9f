-- `path::leaf_below` meets its contract: at each turn the leaf is that below the node that is next. Assumes nothing.
use native.Mathlib.Omega.{arith}
use Rattle.path.proofs.Along.{here, inner_asks, child_few, foot_done, foot_there, foot_goes}
use Rattle.path.proofs.leaf_below.Goals as goal

pub overflow_sub-b : goal.overflow_sub-b
overflow_sub-b c = omega (arith, (here c.loop.invariant.along (omega arith)).some)

pub bounds-ws-b : goal.bounds-ws-b
bounds-ws-b c = omega (arith, (here c.loop.invariant.along (omega arith)).long)

pub returns-then-ws-b-ge32 : goal.returns-then-ws-b-ge32
returns-then-ws-b-ge32 c = foot_there c.loop.invariant (omega arith) c.if-ws-b-ge32.true

pub turn-i-requires : goal.turn-i-requires
turn-i-requires c = let l = inner_asks c.loop.invariant.along (omega arith) c.if-ws-b-ge32.false in record {
  b_in_bounds = (here c.loop.invariant.along (omega arith)).long;
  bound = l.0;
  keys_rise = l.1;
}

pub bounds-ws-b-in-loop : goal.bounds-ws-b-in-loop
bounds-ws-b-in-loop c = (child_few c.loop.invariant.along (omega arith) c.if-ws-b-ge32.false _ c.turn-i.ensures.1).1

pub loop-preserved : goal.loop-preserved
loop-preserved c = foot_goes c.loop.invariant (omega arith) _ _ c.if-ws-b-ge32.false c.turn-i.ensures (omega arith)

pub returns : goal.returns
returns c = foot_done c.loop.invariant (omega arith)

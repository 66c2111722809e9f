-- `path::down` meets its contract: at each turn the levels that are left go on from the cursor so far. Assumes nothing.
use native.Mathlib.Omega.{arith}
use Rattle.path.proofs.Along.{here, leaf_asks, inner_asks, child_few, down_end, down_ends, down_on, by_hand}
use Rattle.path.proofs.down.Goals as goal

pub overflow_sub-b : goal.overflow_sub-b
overflow_sub-b c = omega (arith, (here c.loop.invariant.along (omega arith)).some)

pub bounds-ws-b : goal.bounds-ws-b
bounds-ws-b c = omega (arith, (here c.loop.invariant.along (omega arith)).long)

pub land-requires : goal.land-requires
land-requires c = let l = leaf_asks c.loop.invariant.along (omega arith) c.if-ws-b-ge32.true in record {
  b_in_bounds = (here c.loop.invariant.along (omega arith)).long;
  bound = l.0;
  keys_rise = l.1;
}

pub push-requires : goal.push-requires
push-requires c = (omega (arith, c.loop.invariant.room), omega (arith, c.land.ensures.1, (leaf_asks c.loop.invariant.along (omega arith) c.if-ws-b-ge32.true).0.1))

pub returns-then-ws-b-ge32 : goal.returns-then-ws-b-ge32
returns-then-ws-b-ge32 c = down_ends c.loop.invariant (omega arith) _ _ c.if-ws-b-ge32.true c.land.ensures.0 c.push.ensures

pub turn-i-requires : goal.turn-i-requires
turn-i-requires c = let l = inner_asks c.loop.invariant.along (omega arith) c.if-ws-b-ge32.false in record {
  b_in_bounds = (here c.loop.invariant.along (omega arith)).long;
  bound = l.0;
  keys_rise = l.1;
}

pub bounds-ws-b-in-loop : goal.bounds-ws-b-in-loop
bounds-ws-b-in-loop c = (child_few c.loop.invariant.along (omega arith) c.if-ws-b-ge32.false _ c.turn-i.ensures.1).1

pub loop-preserved : goal.loop-preserved
loop-preserved c = down_on c.loop.invariant (omega arith) _ _ _ c.if-ws-b-ge32.false c.turn-i.ensures (by_hand c.loop.out c.loop.n c.turn-i.result) (omega arith)

pub returns : goal.returns
returns c = down_end c.loop.invariant (omega arith)

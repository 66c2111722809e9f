use native.Mathlib.Omega.{arith}
use Rattle.path.proofs.Steps.{lent_asks, turns_here, turns_absent, turns_first, turns_last}
use Rattle.path.proofs.turn.Goals as goal

pub search-requires : goal.search-requires
search-requires c = let both = lent_asks c.args.ws.now c.args.b 16 c.requires.bound.1 c.requires.keys_rise c.requires.b_in_bounds in record {
  s_len = both.0;
  keys_rise = both.1;
}

pub overflow_add-result : goal.overflow_add-result
overflow_add-result c =
    let e = turns_here c.args.ws.now c.args.b c.requires.bound.1 c.requires.keys_rise c.args.way _ _ _ c.in-Key.is c.search.ensures c.in-Ok.is in
    omega (arith, e.1, c.requires.bound.1)

pub returns-in-Ok : goal.returns-in-Ok
returns-in-Ok c =
    turns_here c.args.ws.now c.args.b c.requires.bound.1 c.requires.keys_rise c.args.way _ _ _ c.in-Key.is c.search.ensures c.in-Ok.is

pub returns-in-Err : goal.returns-in-Err
returns-in-Err c =
    turns_absent c.args.ws.now c.args.b c.requires.bound.1 c.requires.keys_rise c.args.way _ _ _ c.in-Key.is c.search.ensures c.in-Err.is

pub returns-in-First : goal.returns-in-First
returns-in-First c =
    turns_first c.args.ws.now c.args.b c.args.way c.in-First.is

pub returns-in-Last : goal.returns-in-Last
returns-in-Last c =
    turns_last c.args.ws.now c.args.b c.args.way c.in-Last.is

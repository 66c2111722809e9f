use Rattle.path.proofs.Steps.{lent_asks, lands_found, lands_first, lands_last}
use Rattle.path.proofs.land.Goals as goal

pub search-requires : goal.search-requires
search-requires c = let both = lent_asks c.args.ws.now c.args.b 32 c.requires.bound.1 c.requires.keys_rise c.requires.b_in_bounds in record {
  s_len = both.0;
  keys_rise = both.1;
}

pub returns-in-Ok : goal.returns-in-Ok
returns-in-Ok c =
    lands_found c.args.ws.now c.args.b c.requires.bound.1 c.requires.keys_rise c.args.way _ _ _ c.in-Key.is c.search.ensures c.in-Ok.is

pub returns-in-Ok-2 : goal.returns-in-Ok-2
returns-in-Ok-2 c =
    lands_found c.args.ws.now c.args.b c.requires.bound.1 c.requires.keys_rise c.args.way _ _ _ c.in-Key.is c.search.ensures c.in-Ok.is

pub returns-in-First : goal.returns-in-First
returns-in-First c =
    lands_first c.args.ws.now c.args.b c.args.way c.in-First.is

pub returns-in-Last : goal.returns-in-Last
returns-in-Last c =
    lands_last c.args.ws.now c.args.b c.args.way c.in-Last.is

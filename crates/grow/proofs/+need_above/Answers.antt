-- `grow::need_above` meets its contract. Each return is one step of `need_up`; the measure is the level. Assumes nothing.
use native.Mathlib.Omega.{arith}
use borrow.Author.Rules.{rules}
use Rattle.grow.proofs.Climbs
use Rattle.grow.proofs.+need_above.Goals as goal

pub returns-then-level-eq0 : goal.returns-then-level-eq0
returns-then-level-eq0 t c = record {
  few = search rules;
  need = λ s u. Climbs.need_top c.args.ws.now c.args.t c.args.c.tree c.args.c.nodes c.args.c.places s c.args.level (search rules) u;
}

pub load-w-requires : goal.load-w-requires
load-w-requires t c =
    Climbs.load_up c.args.ws.now c.args.t c.args.c.tree c.args.c.nodes c.args.c.places c.args.level (omega arith) c.requires

pub returns-then-w-lt23 : goal.returns-then-w-lt23
returns-then-w-lt23 t c = record {
  few = search rules;
  need = Climbs.none_up c.args.ws.now c.args.t c.args.c.tree c.args.c.nodes c.args.c.places c.args.level c.load-w.result (omega arith) c.load-w.ensures c.if-w-lt23.true;
}

pub need_above-requires : goal.need_above-requires
need_above-requires t c =
    (omega arith, Climbs.unders_up c.args.ws.now c.args.t c.args.c.tree c.args.c.nodes c.args.c.places c.args.level (omega arith) c.requires)

pub returns : goal.returns
returns t c = record {
  few = omega arith;
  need = Climbs.more_up c.args.ws.now c.args.t c.args.c.tree c.args.c.nodes c.args.c.places c.args.level c.need_above.result c.load-w.result (omega arith) c.load-w.ensures c.if-w-lt23.false c.need_above.ensures.need;
}

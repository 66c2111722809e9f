-- `grow::split_and_insert` meets its contract. Each return is one step of `up_store`; the measure is the level. Assumes nothing.
use native.Mathlib.Omega.{arith}
use Rattle.grow.proofs.Climbs
use Rattle.grow.proofs.Steps
use Rattle.grow.proofs.+split_and_insert.Goals as goal

pub root-requires : goal.root-requires
root-requires t c =
    Steps.root_in c.args.ws.now c.args.t c.args.c.tree c.args.c.nodes c.args.c.places c.requires.scene c.args.level c.requires.climb.under

pub plant-requires : goal.plant-requires
plant-requires t c = record {
  takes = Steps.top_takes c.args.ws.now c.args.t c.args.c.tree c.args.c.nodes c.args.c.places c.args.level c.if-level-eq0.true c.requires;
  tree_in_bounds = Steps.root_in c.args.ws.now c.args.t c.args.c.tree c.args.c.nodes c.args.c.places c.requires.scene c.args.level c.requires.climb.under;
}

pub returns-then-level-eq0 : goal.returns-then-level-eq0
returns-then-level-eq0 t c =
    Steps.top_done c.args.ws.now c.args.t c.args.c.tree c.args.c.nodes c.args.c.places c.args.level (c.args.key, c.args.node) c.root.result c.inner.result c.plant.new.ws c.if-level-eq0.true c.root.ensures c.inner.ensures c.plant.ensures

pub load-w-requires : goal.load-w-requires
load-w-requires t c =
    Climbs.load_up c.args.ws.now c.args.t c.args.c.tree c.args.c.nodes c.args.c.places c.args.level (omega (arith, c.if-level-eq0)) (Steps.climbs-under c.args.ws.now c.args.t c.args.c.tree c.args.c.nodes c.args.c.places c.args.level c.requires)

pub inner_insert-requires : goal.inner_insert-requires
inner_insert-requires t c =
    Steps.insert_asks c.args.ws.now c.args.t c.args.c.tree c.args.c.nodes c.args.c.places c.args.level (omega (arith, c.if-level-eq0)) c.load-w.result c.load-w.ensures c.requires.scene c.requires.climb.under c.if-w-lt23.true

pub store-requires : goal.store-requires
store-requires t c =
    Climbs.load_up c.args.ws.now c.args.t c.args.c.tree c.args.c.nodes c.args.c.places c.args.level (omega (arith, c.if-level-eq0)) (Steps.climbs-under c.args.ws.now c.args.t c.args.c.tree c.args.c.nodes c.args.c.places c.args.level c.requires)

pub returns-then-w-lt23 : goal.returns-then-w-lt23
returns-then-w-lt23 t c = λ s g.
    Steps.room-done c.args.ws.now c.args.t c.args.c.tree c.args.c.nodes c.args.c.places s c.args.level (omega (arith, c.if-level-eq0)) (c.args.key, c.args.node) g c.load-w.result c.inner_insert.result c.store.new.ws c.load-w.ensures c.if-w-lt23.true c.inner_insert.ensures c.store.ensures

pub split-split-requires : goal.split-split-requires
split-split-requires t c =
    Steps.split_asks c.args.ws.now c.args.t c.args.c.tree c.args.c.nodes c.args.c.places c.args.level (omega (arith, c.if-level-eq0)) c.load-w.result c.load-w.ensures c.requires.scene c.requires.climb.under c.if-w-lt23.false

pub cut-rhs-requires : goal.cut-rhs-requires
cut-rhs-requires t c =
    Steps.cuts_asks c.args.ws.now c.args.t c.args.c.tree c.args.c.nodes c.args.c.places c.args.level (omega (arith, c.if-level-eq0)) c.load-w.result c.load-w.ensures c.args.key c.args.node c.split-split.result c.split-split.ensures c.if-w-lt23.false c.requires.scene c.requires.climb

pub overflow_sub-level : goal.overflow_sub-level
overflow_sub-level t c = omega (arith, c.if-level-eq0)

pub split_and_insert-requires : goal.split_and_insert-requires
split_and_insert-requires t c = (
  omega (arith, c.decreases, c.if-level-eq0),
  record {
    scene = Steps.cut_scene c.requires.scene (c.args.key, c.args.node);
    climb = Steps.climb_asks c.args.ws.now c.args.t c.args.c.tree c.args.c.nodes c.args.c.places c.args.level (omega (arith, c.if-level-eq0)) c.load-w.result c.load-w.ensures c.args.key c.args.node c.split-split.result c.split-split.ensures c.if-w-lt23.false c.requires.scene c.requires.climb c.cut-rhs.new.ws c.cut-rhs.ensures.words;
  },
)

pub returns : goal.returns
returns t c = λ s g.
    Steps.climb_done c.args.ws.now c.args.t c.args.c.tree c.args.c.nodes c.args.c.places c.args.level (omega (arith, c.if-level-eq0.false)) c.load-w.result c.load-w.ensures c.args.key c.args.node c.split-split.result c.split-split.ensures c.if-w-lt23.false s g c.cut-rhs.new.ws c.cut-rhs.ensures.words c.cut-rhs.result c.split_and_insert.new.ws c.cut-rhs.ensures.node c.split_and_insert.ensures

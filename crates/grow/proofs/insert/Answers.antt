-- `grow::insert` meets its contract. The leaf is cut, and the level above gets its right half. Assumes nothing.
use Prim.Native.Nat.{◌-◌}
use Rattle.grow.proofs.Landings
use Rattle.grow.proofs.insert.Goals as goal

pub load-requires : goal.load-requires
load-requires c =
    let fits = c.requires.1 in
    Landings.leaf_placed c.args.ws.now c.args.t c.args.c.tree c.args.c.nodes c.args.c.places (c.args.c.size - 1) fits.scene fits.entry fits.landed.land.site

pub split-split-requires : goal.split-split-requires
split-split-requires c =
    let fits = c.requires.1 in
    Landings.split_asks c.args.ws.now c.args.t c.args.c.tree c.args.c.nodes c.args.c.places (c.args.c.size - 1) c.load.result c.load.ensures fits.scene fits.entry fits.landed.land

pub cut-rhs-requires : goal.cut-rhs-requires
cut-rhs-requires c =
    let fits = c.requires.1 in
    Landings.cuts_asks c.args.ws.now c.args.t c.args.c.tree c.args.c.nodes c.args.c.places (c.args.c.size - 1) c.load.result c.load.ensures c.args.key c.args.value c.split-split.result c.split-split.ensures fits.scene fits.entry fits.landed

pub split_and_insert-requires : goal.split_and_insert-requires
split_and_insert-requires c =
    let fits = c.requires.1 in
    record {
      scene = Landings.cut_leaf fits.scene fits.entry (c.args.key, c.args.value);
      climb = Landings.climb_asks c.args.ws.now c.args.t c.args.c.tree c.args.c.nodes c.args.c.places (c.args.c.size - 1) c.load.result c.load.ensures c.args.key c.args.value c.split-split.result c.split-split.ensures fits.scene fits.entry fits.landed c.cut-rhs.new.ws c.cut-rhs.ensures.words;
    }

pub returns : goal.returns
returns c = λ s p g.
    Landings.climb_done c.args.ws.now c.args.t c.args.c.tree c.args.c.nodes c.args.c.places (c.args.c.size - 1) c.load.result c.load.ensures c.args.key c.args.value c.split-split.result c.split-split.ensures s p g c.cut-rhs.new.ws c.cut-rhs.ensures.words c.cut-rhs.result c.split_and_insert.new.ws c.cut-rhs.ensures.node c.split_and_insert.ensures

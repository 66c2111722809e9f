-- `grow::add` meets its contract. Refused for want of nodes, or put in. Assumes nothing.
use Prim.Native.Nat.{◌-◌}
use borrow.Author.Rules.{rules}
use Rattle.grow.proofs.Replacing
use Rattle.grow.proofs.add.Goals as goal

pub free_count-requires : goal.free_count-requires
free_count-requires c =
    Replacing.stack_in c.args.ws.now c.args.t c.args.c.tree c.args.c.nodes c.args.c.places (c.args.c.size - 1) c.requires.1.scene c.requires.1.land.site.under

pub returns-then-free_count-need : goal.returns-then-free_count-need
returns-then-free_count-need c =
    Replacing.refuse c.args.ws.now c.args.t c.args.c.tree c.args.c.nodes c.args.c.places (c.args.c.size - 1) (c.args.key, c.args.value) c.free_count.result c.need.result c.free_count.ensures c.need.ensures c.if-free_count-need.true

pub insert-requires : goal.insert-requires
insert-requires c =
    (search rules, Replacing.fits c.args.ws.now c.args.t c.args.c.tree c.args.c.nodes c.args.c.places (c.args.c.size - 1) (c.args.key, c.args.value) c.free_count.result c.need.result c.free_count.ensures c.need.ensures c.if-free_count-need.false c.requires.1)

pub returns : goal.returns
returns c =
    Replacing.comes c.args.ws.now c.args.t c.args.c.tree c.args.c.nodes c.args.c.places (c.args.c.size - 1) (c.args.key, c.args.value) c.free_count.result c.need.result c.free_count.ensures c.need.ensures c.insert.new.ws c.if-free_count-need.false c.insert.ensures

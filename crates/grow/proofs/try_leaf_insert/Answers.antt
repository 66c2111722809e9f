-- `grow::try_leaf_insert` meets its contract. A full leaf, or one with room, where the keys are moved and then the values. Assumes nothing.
use native.Mathlib.Omega.{arith}
use Rattle.grow.proofs.InPlace
use Rattle.grow.proofs.try_leaf_insert.Goals as goal

pub returns-then-w-ge39 : goal.returns-then-w-ge39
returns-then-w-ge39 c =
    InPlace.tried_full c.args.ws.now c.args.t c.args.n c.args.at c.requires (c.args.key, c.args.value) c.if-w-ge39.true

pub overflow_sub-size : goal.overflow_sub-size
overflow_sub-size c =
    omega (arith, InPlace.first_is c.args.ws.now c.args.t c.args.n c.args.at c.requires)

pub slice_insert-requires : goal.slice_insert-requires
slice_insert-requires c =
    InPlace.key_asks c.args.ws.now c.args.t c.args.n c.args.at c.requires c.if-w-ge39.false c.args.key c.args.value

pub slice_insert-requires-2 : goal.slice_insert-requires-2
slice_insert-requires-2 c =
    InPlace.value_asks c.args.ws.now c.args.t c.args.n c.args.at c.requires c.if-w-ge39.false c.args.key c.args.value c.slice_insert.new.s c.slice_insert.ensures

pub returns : goal.returns
returns c =
    InPlace.tried_done c.args.ws.now c.args.t c.args.n c.args.at c.requires c.if-w-ge39.false c.args.key c.args.value c.slice_insert.new.s c.slice_insert.ensures c.slice_insert-2.new.s c.slice_insert-2.ensures

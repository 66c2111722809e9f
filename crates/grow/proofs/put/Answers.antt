-- `grow::put` meets its contract. An empty tree; the key is there; its leaf has room, or not. Assumes nothing.
use Rattle.grow.proofs.Putting
use Rattle.grow.proofs.PutAt
use Rattle.path.proofs.Trees.{ready_checked}
use Rattle.grow.proofs.put.Goals as goal

pub root-requires : goal.root-requires
root-requires c =
    Putting.root_asks c.args.ws.now c.args.t c.args.tree c.requires

pub invariant_of-find_leaf : goal.invariant_of-find_leaf
invariant_of-find_leaf c = record {
  sound = ready_checked c.args.ws.now c.args.t c.args.tree c.requires;
  counted = c.requires.trees;
  there = c.requires.there;
}

pub find_leaf-foot-requires : goal.find_leaf-foot-requires
find_leaf-foot-requires c = PutAt.some_root c.args.ws.now c.args.tree c.root.result c.root.ensures c.if-root-eq0.false

pub replace-requires : goal.replace-requires
replace-requires c =
    PutAt.place_asks c.args.ws.now c.args.t c.args.tree c.args.key c.args.value c.requires (PutAt.some_root c.args.ws.now c.args.tree c.root.result c.root.ensures c.if-root-eq0.false) c.find_leaf-foot.result.node c.find_leaf-foot.result.place c.find_leaf-foot.ensures

pub returns-in-Some : goal.returns-in-Some
returns-in-Some c =
    PutAt.replaced c.args.ws.now c.args.t c.args.tree c.args.key c.args.value c.requires (PutAt.some_root c.args.ws.now c.args.tree c.root.result c.root.ensures c.if-root-eq0.false) c.find_leaf-foot.result.node c.find_leaf-foot.result.place c.find_leaf-foot.ensures c.replace.new.ws c.replace.result c.replace.ensures c.in-Some.earlier c.in-Some.is

pub try_leaf_insert-requires : goal.try_leaf_insert-requires
try_leaf_insert-requires c =
    PutAt.still_place c.args.ws.now c.args.t c.args.tree c.args.key c.args.value c.requires (PutAt.some_root c.args.ws.now c.args.tree c.root.result c.root.ensures c.if-root-eq0.false) c.find_leaf-foot.result.node c.find_leaf-foot.result.place c.find_leaf-foot.ensures c.replace.new.ws c.replace.result c.replace.ensures c.in_default.not-Some

pub returns-then-try_leaf_insert : goal.returns-then-try_leaf_insert
returns-then-try_leaf_insert c =
    PutAt.came c.args.ws.now c.args.t c.args.tree c.args.key c.args.value c.requires (PutAt.some_root c.args.ws.now c.args.tree c.root.result c.root.ensures c.if-root-eq0.false) c.find_leaf-foot.result.node c.find_leaf-foot.result.place c.find_leaf-foot.ensures c.replace.new.ws c.replace.result c.replace.ensures c.in_default.not-Some c.try_leaf_insert.new.ws c.try_leaf_insert.result c.try_leaf_insert.ensures c.if-try_leaf_insert.true

pub invariant_of-find : goal.invariant_of-find
invariant_of-find c = let y = PutAt.still_ready c.args.ws.now c.args.t c.args.tree c.args.key c.args.value c.requires (PutAt.some_root c.args.ws.now c.args.tree c.root.result c.root.ensures c.if-root-eq0.false) c.find_leaf-foot.result.node c.find_leaf-foot.result.place c.find_leaf-foot.ensures c.replace.new.ws c.replace.result c.replace.ensures c.in_default.not-Some c.try_leaf_insert.new.ws c.try_leaf_insert.result c.try_leaf_insert.ensures c.if-try_leaf_insert.false in record {
  sound = ready_checked _ c.args.t c.args.tree y;
  counted = y.trees;
  there = y.there;
}

pub add-requires : goal.add-requires
add-requires c =
    PutAt.add_asks c.args.ws.now c.args.t c.args.tree c.args.key c.args.value c.requires (PutAt.some_root c.args.ws.now c.args.tree c.root.result c.root.ensures c.if-root-eq0.false) c.find_leaf-foot.result.node c.find_leaf-foot.result.place c.find_leaf-foot.ensures c.replace.new.ws c.replace.result c.replace.ensures c.in_default.not-Some c.try_leaf_insert.new.ws c.try_leaf_insert.result c.try_leaf_insert.ensures c.if-try_leaf_insert.false c.find-c.result c.find-c.ensures

pub returns : goal.returns
returns c =
    PutAt.added c.args.ws.now c.args.t c.args.tree c.args.key c.args.value c.requires (PutAt.some_root c.args.ws.now c.args.tree c.root.result c.root.ensures c.if-root-eq0.false) c.find_leaf-foot.result.node c.find_leaf-foot.result.place c.find_leaf-foot.ensures c.replace.new.ws c.replace.result c.replace.ensures c.in_default.not-Some c.try_leaf_insert.new.ws c.try_leaf_insert.result c.try_leaf_insert.ensures c.if-try_leaf_insert.false c.find-c.result c.find-c.ensures c.add.new.ws c.add.result c.add.ensures

-- `grow::cut` meets its contract. Three words of the pool change after each other. Assumes nothing.
use Rattle.grow.proofs.Spelling.{cut_is}
use Rattle.grow.proofs.cut.Goals as goal

pub returns : goal.returns
returns c = let both = cut_is c.args.ws.now c.args.t c.alloc_node-rhs.result c.alloc_node-rhs.new.ws c.alloc_node-rhs.ensures.node c.alloc_node-rhs.ensures.words c.args.n c.args.left c.args.right _ _ c.store.ensures c.store-2.ensures in record {
  node = both.0;
  words = both.1;
}

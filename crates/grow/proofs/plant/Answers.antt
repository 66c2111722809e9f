-- `grow::plant` meets its contract. The same. Assumes nothing.
use Rattle.grow.proofs.Spelling.{planted_is}
use Rattle.grow.proofs.plant.Goals as goal

pub returns : goal.returns
returns c =
    planted_is c.args.ws.now c.args.t c.alloc_node-root.result c.alloc_node-root.new.ws c.alloc_node-root.ensures.node c.alloc_node-root.ensures.words c.args.tree c.args.node _ _ c.store.ensures c.set_root.ensures

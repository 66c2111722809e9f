-- `path::Tree::look_for` meets its contract. Assumes nothing.
use native.Mathlib.Omega.{arith}
use Rattle.path.proofs.Roots.{root-place}
use Rattle.path.proofs.Foots.{looks_empty, ends_in, ends-place, ends_looks}
use Rattle.path.proofs.Trees.{tree_ready}
use Rattle.path.proofs.Tree.look_for.Goals as goal

pub bounds-self-self : goal.bounds-self-self
bounds-self-self c =
    omega (arith, root-place c.args.self.now.words.now c.args.self.now.trees c.args.self.now.number (tree_ready c.args.self.now))

pub returns-then-root-eq0 : goal.returns-then-root-eq0
returns-then-root-eq0 c =
    looks_empty c.args.self.now.words.now c.args.self.now.trees c.args.self.now.number (tree_ready c.args.self.now) c.args.key c.if-root-eq0.true

pub look_in-requires : goal.look_in-requires
look_in-requires c = let d = c.find_leaf-foot.ensures in
    let l = ends_in c.args.self.now.words.now c.args.self.now.trees c.args.self.now.number (tree_ready c.args.self.now) c.args.key _ _ d in record {
      leaf_in = l;
      e_bound = omega (arith, l.most, ends-place c.args.self.now.words.now c.args.self.now.trees c.args.self.now.number (tree_ready c.args.self.now) c.args.key _ _ d);
    }

pub returns : goal.returns
returns c =
    rw c.look_in.ensures (ends_looks c.args.self.now.words.now c.args.self.now.trees c.args.self.now.number (tree_ready c.args.self.now) c.args.key _ _ c.find_leaf-foot.ensures)

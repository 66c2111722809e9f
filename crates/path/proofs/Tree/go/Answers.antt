-- `path::Tree::go` meets its contract: down from the root on every way; an empty tree has no spot but off the end. Assumes nothing.
use mathlib.Core.Path.{ap}
use native.Mathlib.Omega.{arith}
use Rattle.forest.specs.declared.Cursor.{Cursor}
use Rattle.path.specs.Cores.{aim}
use Rattle.path.proofs.Roots.{trees_few, root-place, root_below, goes_empty, goes_way, aim_none}
use Rattle.path.proofs.Trees.{tree_ready}
use Rattle.path.proofs.Tree.go.Goals as goal

pub bounds-self-self : goal.bounds-self-self
bounds-self-self c =
    omega (arith, root-place c.args.self.now.words.now c.args.self.now.trees c.args.self.now.number (tree_ready c.args.self.now))

pub returns-then-root-eq0 : goal.returns-then-root-eq0
returns-then-root-eq0 c =
    goes_empty c.args.self.now.words.now c.args.self.now.trees c.args.self.now.number (tree_ready c.args.self.now) (aim c.args.way) (aim_none c.args.way) _ c.if-root-eq0.true c.off_end.ensures

pub down-requires : goal.down-requires
down-requires c = let s = ap (λ (x : Cursor). x.size) c.off_end-2.ensures in record {
  deep = root_below c.args.self.now.words.now c.args.self.now.trees c.args.self.now.number (tree_ready c.args.self.now) c.if-root-eq0.false 16;
  t_le_most_trees = ((trees_few c.args.self.now.words.now c.args.self.now.trees c.args.self.now.number (tree_ready c.args.self.now)).1, omega (arith, s));
}

pub returns : goal.returns
returns c =
    goes_way c.args.self.now.words.now c.args.self.now.trees c.args.self.now.number (tree_ready c.args.self.now) c.args.way _ _ c.if-root-eq0.false c.off_end-2.ensures c.down.ensures

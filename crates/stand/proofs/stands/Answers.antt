-- `stand::stands` meets its contract: the words tell it as the tree does. Assumes nothing.
use mathlib.Core.Path.{sym, ◌∙◌}
use native.Mathlib.Omega.{arith}
use borrow.Author.Tests.{eq-eqb}
use Rattle.path.proofs.Roots.{trees_few, root-place, root_below}
use Rattle.stand.proofs.Running.{tree_stands, tells_by, clean_size, stands_empty, stands_runs}
use Rattle.stand.proofs.stands.Goals as goal

pub bounds-tree-c : goal.bounds-tree-c
bounds-tree-c c = omega (arith, root-place c.args.tree.now.words.now c.args.tree.now.trees c.args.c.tree (tree_stands c.args.tree.now c.args.c c.requires))

pub runs_from-requires : goal.runs_from-requires
runs_from-requires c = record {
  deep = root_below c.args.tree.now.words.now c.args.tree.now.trees c.args.c.tree (tree_stands c.args.tree.now c.args.c c.requires) c.if-root-ne0.true _;
  t_le_most_trees = ((trees_few c.args.tree.now.words.now c.args.tree.now.trees c.args.c.tree (tree_stands c.args.tree.now c.args.c c.requires)).1, clean_size c.args.c (sym c.is_clean.ensures ∙ c.if-not-is_clean.false));
}

pub returns-then-root-ne0 : goal.returns-then-root-ne0
returns-then-root-ne0 c =
    tells_by c.args.tree.now.words.now c.args.tree.now.trees c.args.c _ (tree_stands c.args.tree.now c.args.c c.requires)
    (stands_runs c.args.tree.now.words.now c.args.tree.now.trees _ c.args.c (sym c.is_clean.ensures ∙ c.if-not-is_clean.false) c.if-c-eq0.false _ c.if-root-ne0.true c.runs_from.ensures)

pub returns-else-root-ne0 : goal.returns-else-root-ne0
returns-else-root-ne0 c =
    rw (eq-eqb _ _ c.if-root-ne0.false)
    (tells_by c.args.tree.now.words.now c.args.tree.now.trees c.args.c _ (tree_stands c.args.tree.now c.args.c c.requires) (stands_empty c.args.tree.now.words.now c.args.tree.now.trees _ c.args.c (sym c.is_clean.ensures ∙ c.if-not-is_clean.false) c.if-c-eq0.false c.if-root-ne0.false))

use mathlib.Core.Path.{ap, ◌∙◌}
use native.Mathlib.Omega.{arith}
use Rattle.forest.specs.declared.Cursor.{Cursor}
use Rattle.path.proofs.CursorWords.{pushed-size, cut_size}
use Rattle.moves.proofs.Neighbours.{level_child, branch_is}
use borrow.Author.Rules.{rules}
use Rattle.moves.proofs.Held.{cursor_ready, cursor_stands, steps_tree}
use Rattle.moves.proofs.MapCursor.branch_off.Goals as goal

pub push-above-requires : goal.push-above-requires
push-above-requires c =
    let v = c.requires.level in
    let s = ap (λ (x : Cursor). x.size) c.cut.ensures ∙ cut_size c.args.self.cursor _ in
    (omega arith, omega (arith, c.requires.place_bound))

pub down-requires : goal.down-requires
down-requires c = let v = c.requires.level in
    let s = ap (λ (x : Cursor). x.size) c.cut.ensures ∙ cut_size c.args.self.cursor _ in
    let q = ap (λ (x : Cursor). x.size) c.push-above.ensures ∙ pushed-size _ _ _ in record {
      deep = level_child c.args.self.words.now c.args.self.trees c.args.self.cursor c.args.l c.args.place v c.requires.place_bound;
      t_le_most_trees = (v.trees, omega arith);
    }

pub returns : goal.returns
returns c =
    branch_is c.args.way c.args.self.words.now c.args.self.trees c.args.self.cursor _ _ _ c.args.l c.args.place c.cut.ensures c.push-above.ensures c.down.ensures

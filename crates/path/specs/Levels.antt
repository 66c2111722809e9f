-- DEFINITIONS. The levels of a cursor in the words: one more, fewer, where a path branches off
use Rattle.std.specs.Prelude.{List, [], ◌∷◌, Option, Some, None, Bool, cond, ℕ, zero, suc, ◌+◌, ◌≤◌, ◌<◌, length, take, get_or, set, ltb, eqb}
use Rattle.forest.specs.Sizes.{most_trees, most_nodes, most_levels}
use Rattle.forest.specs.Lists.{pad}
use Rattle.forest.specs.Cursors.{Path}
use Rattle.forest.specs.declared.Cursor.{Cursor}
use Rattle.path.specs.Ways.{base, block}

-- the cursor with one level more: node n, place p
unfoldable pub pushed : Cursor → ℕ → ℕ → Cursor
pushed c n p = record {
  tree = c.tree;
  size = c.size + 1;
  nodes = set c.nodes c.size n;
  places = set c.places c.size p;
}

-- the cursor with the levels of a path below its own
unfoldable pub extended : Cursor → Path → Cursor
extended c [] = c
extended c (x ∷ more) = extended (pushed c x.0 x.1) more

-- the cursor with its first l levels alone
unfoldable pub cut_at : Cursor → ℕ → Cursor
cut_at c l = record {
  tree = c.tree;
  size = l;
  nodes = pad most_levels (take l c.nodes);
  places = pad most_levels (take l c.places);
}

-- is there more to the right at level l
abbrev pub more_right : List ℕ → ℕ → List ℕ → List ℕ → ℕ → Bool
more_right ws t ns ps l = ltb (get_or ps l 0 + 16) (get_or (block ws t (get_or ns l 0)) 0 0)

-- the deepest level above l with more to the right
unfoldable pub right_branch : List ℕ → ℕ → List ℕ → List ℕ → ℕ → Option ℕ
right_branch ws t ns ps zero = None
right_branch ws t ns ps (suc l) = cond (more_right ws t ns ps l) (Some l) (right_branch ws t ns ps l)

-- the deepest level above l with something to the left
unfoldable pub left_branch : List ℕ → ℕ → Option ℕ
left_branch ps zero = None
left_branch ps (suc l) = cond (eqb (get_or ps l 0) 0) (left_branch ps l) (Some l)

-- the nodes of a cursor down to a level lie in the words, and its places are small
pub record Safe (ws : List ℕ) (t : ℕ) (c : Cursor) (level : ℕ) : Type 0 where
  pub deep : level ≤ 16
  pub trees : t ≤ most_trees
  pub node : (l : ℕ) → l < level → (1 ≤ get_or c.nodes l 0) × (get_or c.nodes l 0 ≤ most_nodes) × (base t (get_or c.nodes l 0) + 16 ≤ length ws)
  pub place : (l : ℕ) → l < level → get_or c.places l 0 < 8

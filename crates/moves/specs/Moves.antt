-- DEFINITIONS. What the moves of a cursor promise: another place in a level, and for every well formed pool whose words these are, the spot that a move comes to
use Rattle.std.specs.Prelude.{◌≡◌, List, is_none, Bool, ◌&&◌, ℕ, zero, suc, ◌+◌, ◌-◌, ◌≤◌, ◌<◌, length, get_or, set, ltb, eqb}
use Rattle.forest.specs.Sizes.{most_trees, most_nodes}
use Rattle.forest.specs.Cursors.{cursor_at, Spot, off, on, leaves, pair_at, leaf_start, leaf_end, path_of, prev, prev_pair}
use Rattle.forest.specs.declared.Cursor.{Cursor}
use Rattle.forest.specs.Rows.{Row}
use Rattle.forest.specs.Pools.{Pool, tree_of}
use Rattle.forest.specs.Answers.{told}
use Rattle.forest.specs.declared.Moved.{Moved}
use Rattle.path.specs.declared.Way.{Way}
use Rattle.path.specs.Ways.{Deep, descend, base}
use Rattle.path.specs.Levels.{pushed, extended, cut_at, left_branch}
use Rattle.path.specs.Cores.{Of, At}

-- the cursor with another place at level l
unfoldable pub entered : Cursor → ℕ → ℕ → Cursor
entered c l p = record { tree = c.tree; size = c.size; nodes = c.nodes; places = set c.places l p }

-- is a cursor at the first entry of its tree
unfoldable pub at_first : Cursor → Bool
at_first c = ltb 0 c.size && (eqb (get_or c.places (c.size - 1) 0) 0 && is_none (left_branch c.places (c.size - 1)))

-- level l of a cursor is an inner node with a child at its place; every way down from it stays in the words
pub record Level (ws : List ℕ) (t : ℕ) (c : Cursor) (l : ℕ) : Type 0 where
  pub above : l < 5
  pub some : 1 ≤ get_or c.nodes l 0
  pub few : get_or c.nodes l 0 ≤ most_nodes
  pub long : base t (get_or c.nodes l 0) + 16 ≤ length ws
  pub least : 16 ≤ get_or ws (base t (get_or c.nodes l 0)) 0
  pub most : get_or ws (base t (get_or c.nodes l 0)) 0 ≤ 23
  pub place : get_or c.places l 0 + 16 ≤ get_or ws (base t (get_or c.nodes l 0)) 0
  pub trees : t ≤ most_trees
  pub deep : (f : ℕ) → Deep f ws t (get_or c.nodes l 0)

-- the cursor with the levels of c above l, child `place` of its node at l, and the way down from there
unfoldable pub branched : Way → List ℕ → ℕ → Cursor → ℕ → ℕ → Cursor
branched way ws t c l place =
    extended (pushed (cut_at c l) (get_or c.nodes l 0) place)
    (descend way (15 - l) ws t (get_or ws (base t (get_or c.nodes l 0) + 8 + place) 0))

-- from where c stands, d is the cursor of the spot f
pub record Steps (f : Row → Spot → Spot) (ws : List ℕ) (c d : Cursor) : Type 0 where
  pub to : (p : Pool) (s : Spot) → Of ws p → At p c s → d ≡ cursor_at c.tree (path_of (tree_of p c.tree) (f (leaves (tree_of p c.tree)) s))

-- the first pair of the next leaf
abbrev pub next_leaf : Row → Spot → Spot
next_leaf L off = off
next_leaf L (on j e) = leaf_start L (suc j)

-- the last pair of the leaf before; in the first leaf none, and the cursor stays
abbrev pub prev_leaf : Row → Spot → Spot
prev_leaf L off = off
prev_leaf L (on zero e) = on zero e
prev_leaf L (on (suc j) e) = leaf_end L j

-- the cursor, and the pair that it is on
pub record Seen (ws : List ℕ) (c : Cursor) (r : Moved) : Type 0 where
  pub cursor : r.cursor ≡ c
  pub pair : (p : Pool) (s : Spot) → Of ws p → At p c s → r.reply ≡ told (pair_at (leaves (tree_of p c.tree)) s)

-- prev: the cursor, and the pair that it gives
pub record Back (ws : List ℕ) (c : Cursor) (r : Moved) : Type 0 where
  pub cursor : Steps prev ws c r.cursor
  pub pair : (p : Pool) (s : Spot) → Of ws p → At p c s → r.reply ≡ told (prev_pair (leaves (tree_of p c.tree)) s)

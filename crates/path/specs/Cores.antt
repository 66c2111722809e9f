-- DEFINITIONS. What the functions that go down promise: for every well formed pool whose words these are, the path is that of a spot
use Rattle.std.specs.Prelude.{◌≡◌, List, Option, Some, None, cond, ℕ, ◌+◌, ◌-◌, ◌≤◌, ◌<◌, length, get_or, ltb}
use Rattle.std.proofs.Math.Option as maybe
use Rattle.forest.specs.Sizes.{most_trees, most_nodes, leaf_least}
use Rattle.forest.specs.Pairs.{Item}
use Rattle.forest.specs.Rows.{Row}
use Rattle.forest.specs.Pools.{Pool, WellFormed, Sound, encode, tree_of}
use Rattle.forest.specs.Cursors.{Path, Spot, off, leaves, Fits, pair_at, path_of, cursor_at, Stands, first, seek, prev}
use Rattle.forest.specs.declared.Cursor.{Cursor}
use Rattle.path.specs.Ways.{base}
use Rattle.path.specs.declared.Way.{Way}
use Rattle.path.specs.declared.Way.TheVariants.{Key, First, Last}

-- the words are sound, t is their number of trees, and `tree` is one of these
pub record Ready (ws : List ℕ) (t tree : ℕ) : Type 0 where
  pub sound : Sound leaf_least ws
  pub trees : t ≡ get_or ws 0 0
  pub there : tree < t

-- p is a well formed pool with these words
pub record Of (ws : List ℕ) (p : Pool) : Type 0 where
  pub formed : WellFormed leaf_least p
  pub same : encode p ≡ ws

-- cursor c stands at spot s of its tree in p
pub record At (p : Pool) (c : Cursor) (s : Spot) : Type 0 where
  pub fits : Fits (leaves (tree_of p c.tree)) s
  pub same : cursor_at c.tree (path_of (tree_of p c.tree) s) ≡ c

-- cursor c stands
pub record Standing (ws : List ℕ) (c : Cursor) : Type 0 where
  pub stand : (p : Pool) → Of ws p → Stands (tree_of p c.tree) c

-- cursor d is that of the spot f in the leaf row of a tree
pub record Goes (f : Row → Spot) (ws : List ℕ) (tree : ℕ) (d : Cursor) : Type 0 where
  pub to : (p : Pool) → Of ws p → d ≡ cursor_at tree (path_of (tree_of p tree) (f (leaves (tree_of p tree))))

-- the spot that a way goes to
abbrev pub aim : Way → Row → Spot
aim (Key k) L = seek k L
aim First L = first L
aim Last L = prev L off

-- what a look sees: a key and its value, or nothing
abbrev pub Look : Type 0
Look = Option (ℕ × ℕ)

-- what a look at a spot sees
abbrev pub look_of : maybe.Option Item → Look
look_of maybe.none = None
look_of (maybe.some x) = Some x

-- a look at a cursor sees the pair of its spot, or nothing
pub record Sees (ws : List ℕ) (c : Cursor) (r : Look) : Type 0 where
  pub sees : (p : Pool) (s : Spot) → Of ws p → At p c s → r ≡ look_of (pair_at (leaves (tree_of p c.tree)) s)

-- the words have leaf n; t trees
pub record LeafIn (ws : List ℕ) (t n : ℕ) : Type 0 where
  pub some : 1 ≤ n
  pub few : n ≤ most_nodes
  pub long : base t n + 16 ≤ length ws
  pub least : 33 ≤ get_or ws (base t n) 0
  pub most : get_or ws (base t n) 0 ≤ 39
  pub trees : t ≤ most_trees

-- what stands at place e of leaf n
unfoldable pub look_in : List ℕ → ℕ → ℕ → ℕ → Look
look_in ws t n e = cond (ltb (e + 32) (get_or ws (base t n) 0)) (Some (get_or ws (base t n + 1 + e) 0, get_or ws (base t n + 8 + e) 0)) None

-- the path that seek makes ends in leaf n, at place e
pub record Ends (key : ℕ) (ws : List ℕ) (tree n e : ℕ) : Type 0 where
  pub path : Path
  pub goes : Goes (seek key) ws tree (cursor_at tree path)
  pub some : 1 ≤ length path
  pub node : get_or (cursor_at tree path).nodes (length path - 1) 0 ≡ n
  pub place : get_or (cursor_at tree path).places (length path - 1) 0 ≡ e

-- what stands at the place of a key: what a look at the cursor sees that seek makes
pub record Looks (key : ℕ) (ws : List ℕ) (tree : ℕ) (r : Look) : Type 0 where
  pub at : Cursor
  pub goes : Goes (seek key) ws tree at
  pub sees : Sees ws at r

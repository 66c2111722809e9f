-- DEFINITIONS. The end of a removal: roots with one child go, the path is shifted, and what remove asks and leaves
use Rattle.std.specs.Prelude.{◌≡◌, List, ◌++◌, Bool, cond, eqb, ℕ, zero, suc, ◌-◌, ◌≤◌, ◌<◌, length, get_or, take, drop}
use Rattle.std.proofs.Math.Option.{some}
use Rattle.forest.specs.Sizes.{inner_tag, leaf_least, most_levels}
use Rattle.forest.specs.Lists.{pad}
use Rattle.forest.specs.Pairs.{Item}
use Rattle.forest.specs.Rows.{Row, nums}
use Rattle.forest.specs.Trees.{numbers, pairs}
use Rattle.forest.specs.Pools.{Pool, WellFormed, Sound, encode, tree_of, root_above}
use Rattle.forest.specs.Cursors.{on, leaves, Fits, pair_at, path_of, cursor_at, move, to_remove}
use Rattle.forest.specs.declared.Cursor.{Cursor}
use Rattle.crit.specs.States.{State}
use Rattle.crit.specs.Paths.{Stacked, HoldsUp}
use Rattle.crit.specs.Asks.{Mem, moved, Spelt}
use Rattle.heal.specs.Steps.{free_node}
use Rattle.heal.specs.Wounds.{Within}
use Rattle.remove.specs.declared.Top.{Top}

-- the state, and its root
pub record Shrunk : Type 0 where
  pub state : State
  pub root : ℕ

-- roots with one child go, from node n, at most f of them
abbrev pub shrink : ℕ → State → ℕ → Shrunk
shrink zero s n = record { state = s; root = n }
shrink (suc f) s n = cond (eqb (get_or (s.st n) 0 0) inner_tag) (shrink f (free_node s n) (get_or (s.st n) 8 0)) (record { state = s; root = n })

-- and how many go
abbrev pub shrinks : ℕ → State → ℕ → ℕ
shrinks zero s n = 0
shrinks (suc f) s n = cond (eqb (get_or (s.st n) 0 0) inner_tag) (suc (shrinks f (free_node s n) (get_or (s.st n) 8 0))) 0

-- the words hold rows with this root, and so many levels of inner nodes
pub record AskShrink (ws : List ℕ) (t root levels : ℕ) : Type 0 where
  pub cursor : Cursor
  pub mem : Mem
  pub spelt : Spelt ws t cursor mem
  pub row : Row
  pub rows : List Row
  pub count : length rows ≡ levels
  pub some : 1 ≤ length row
  pub stacked : Stacked row rows
  pub within : Within mem.count (nums row ++ numbers rows) mem.s.free
  pub up : HoldsUp mem.s.st rows
  pub top : root ≡ root_above row rows

-- roots with one child are gone
pub record Shrinks (ws vs : List ℕ) (t root levels : ℕ) (r : Top) : Type 0 where
  pub run : (c : Cursor) (m : Mem) → Spelt ws t c m → Spelt vs t c (moved m (shrink levels m.s root).state)
  pub root_is : (c : Cursor) (m : Mem) → Spelt ws t c m → r.root ≡ (shrink levels m.s root).root
  pub gone_is : (c : Cursor) (m : Mem) → Spelt ws t c m → r.gone ≡ shrinks levels m.s root

-- a path without its first levels, the unused ones 0
abbrev pub shifted : Cursor → ℕ → Cursor
shifted c k = record {
  tree = c.tree;
  size = c.size - k;
  nodes = pad most_levels (take (c.size - k) (drop k c.nodes));
  places = pad most_levels (take (c.size - k) (drop k c.places));
}

-- the cursor is on a pair of pool p
pub record OnPair (p : Pool) (c : Cursor) : Type 0 where
  pub there : c.tree < length p.trees
  pub leaf : ℕ
  pub entry : ℕ
  pub pair : Item
  pub fits : Fits (leaves (tree_of p c.tree)) (on leaf entry)
  pub same : cursor_at c.tree (path_of (tree_of p c.tree) (on leaf entry)) ≡ c
  pub holds : pair_at (leaves (tree_of p c.tree)) (on leaf entry) ≡ some pair

-- remove may be called: sound words, and the cursor on a pair
pub record AskRemove (ws : List ℕ) (t : ℕ) (c : Cursor) : Type 0 where
  pub sound : Sound leaf_least ws
  pub trees : (p : Pool) → WellFormed leaf_least p → encode p ≡ ws → t ≡ length p.trees
  pub stands : (p : Pool) → WellFormed leaf_least p → encode p ≡ ws → OnPair p c

-- it is the only pair of its tree
pub record AskLast (ws : List ℕ) (t : ℕ) (c : Cursor) : Type 0 where
  pub asks : AskRemove ws t c
  pub one : (p : Pool) → WellFormed leaf_least p → encode p ≡ ws → length (pairs (tree_of p c.tree)) ≡ 1

-- the answer to that
pub record Lone (ws : List ℕ) (c : Cursor) (r : Bool) : Type 0 where
  pub run : (p : Pool) → WellFormed leaf_least p → encode p ≡ ws → r ≡ eqb (length (pairs (tree_of p c.tree))) 1

-- and what it leaves
pub record Removes (ws vs : List ℕ) (c r : Cursor) : Type 0 where
  pub words : (p : Pool) → WellFormed leaf_least p → encode p ≡ ws → encode (move to_remove c p).pool ≡ vs
  pub cursor : (p : Pool) → WellFormed leaf_least p → encode p ≡ ws → (move to_remove c p).cursor ≡ r

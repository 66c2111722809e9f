-- DEFINITIONS. Whether the levels of a cursor run from the root of its tree to a leaf, by the words and for every well formed pool whose words these are
use Rattle.std.specs.Prelude.{◌≡◌, List, [], ◌∷◌, Bool, true, false, cond, ◌&&◌, ℕ, ◌+◌, ◌-◌, drop, get_or, leb, eqb}
use Rattle.forest.specs.Cursors.{Path, levels_of, clean, stands}
use Rattle.forest.specs.declared.Cursor.{Cursor}
use Rattle.forest.specs.Pools.{Pool, tree_of}
use Rattle.path.specs.Ways.{block}
use Rattle.path.specs.Cores.{Of}

-- has the path no level left
abbrev pub ended : Path → Bool
ended [] = true
ended (q ∷ qs) = false

-- a path runs from node n to a leaf: each node is the named child, and the leaf place is at most the entry count
abbrev pub runs_from : List ℕ → ℕ → ℕ → Path → Bool
runs_from ws t n [] = false
runs_from ws t n (q ∷ qs) =
    eqb q.0 n &&
    cond (leb 32 (get_or (block ws t n) 0 0))
    (ended qs && leb (q.1 + 32) (get_or (block ws t n) 0 0))
    (leb (q.1 + 16) (get_or (block ws t n) 0 0) && runs_from ws t (get_or (block ws t n) (8 + q.1) 0) qs)

-- the levels of a cursor from level l on
abbrev pub levels_from : Cursor → ℕ → Path
levels_from c l = levels_of (c.size - l) (drop l c.nodes) (drop l c.places)

-- does the cursor stand, by the words; n is the root of its tree
unfoldable pub stands_at : List ℕ → ℕ → ℕ → Cursor → Bool
stands_at ws t n c = clean c && cond (eqb c.size 0) true (cond (eqb n 0) false (runs_from ws t n (levels_from c 0)))

-- whether a cursor stands
pub record Tells (ws : List ℕ) (c : Cursor) (r : Bool) : Type 0 where
  pub tells : (p : Pool) → Of ws p → r ≡ stands (tree_of p c.tree) c

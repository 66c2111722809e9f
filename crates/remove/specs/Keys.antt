-- DEFINITIONS. A removal by key: what it asks and leaves, and where its leaf alone changes
use Rattle.std.specs.Prelude.{◌≡◌, List, ◌∷◌, ◌++◌, Bool, false, cond, ℕ, suc, ◌+◌, ◌<◌, take, drop, get_or, leb, eqb}
use Rattle.forest.specs.Sizes.{leaf_least}
use Rattle.forest.specs.Lists.{remove_at}
use Rattle.forest.specs.Pools.{Pool, WellFormed, encode, leaf_words}
use Rattle.forest.specs.Cursors.{seek, move, to_remove}
use Rattle.forest.specs.declared.Cursor.{Cursor}
use Rattle.node.specs.Nodes.{leaf_pairs, Leaf}
use Rattle.pool.specs.Stores.{base, block, with_block}
use Rattle.path.specs.Cores.{Ready, Goes, LeafIn, Ends}
use Rattle.remove.specs.Ends.{AskRemove}

-- the words once the word at place `at` is gone: those behind it, before `end`, have moved up, and a 0 is last
unfoldable pub closed : List ℕ → ℕ → ℕ → List ℕ
closed ws at end = take at ws ++ (drop (suc at) (take end ws) ++ 0 ∷ drop end ws)

-- the words without the pair at place e of leaf n
unfoldable pub less_words : List ℕ → ℕ → ℕ → ℕ → List ℕ
less_words ws t n e = with_block ws t n (leaf_words (remove_at e (leaf_pairs (block ws t n))))

-- the words have leaf n, with a pair at place e; t trees
pub record LeafPair (ws : List ℕ) (t n e : ℕ) : Type 0 where
  pub within : LeafIn ws t n
  pub leaf : Leaf (block ws t n)
  pub pair : e + 32 < get_or ws (base t n) 0

-- does leaf n alone change where the pair at place e goes: it is the root and has another pair, or e is not its first and 4 are left
unfoldable pub only_leaf : List ℕ → ℕ → ℕ → ℕ → ℕ → Bool
only_leaf ws t tree n e = cond (eqb (get_or ws (tree + 1) 0) n) (leb 34 (get_or ws (base t n) 0)) (cond (eqb e 0) false (leb 37 (get_or ws (base t n) 0)))

-- what a removal by key asks: the path of key k ends in leaf n at place e, and its cursor is on a pair
pub record AskKey (ws : List ℕ) (t tree k n e : ℕ) : Type 0 where
  pub ready : Ready ws t tree
  pub ends : Ends k ws tree n e
  pub asks : (c : Cursor) → Goes (seek k) ws tree c → AskRemove ws t c

-- and the words that it leaves: those that a removal at the cursor of the key leaves
pub record RemovesKey (ws vs : List ℕ) (tree k : ℕ) : Type 0 where
  pub words : (c : Cursor) → Goes (seek k) ws tree c → (p : Pool) → WellFormed leaf_least p → encode p ≡ ws → encode (move to_remove c p).pool ≡ vs

-- DEFINITIONS. What putting a key promises: where it is there already, where it is absent, and of a whole pool
use Rattle.std.specs.Prelude.{◌≡◌, List, Bool, true, false, cond, ℕ, ◌+◌, ◌≤◌, ◌<◌, length, get_or, set, ltb, eqb, Option, Some, None, Err}
use Rattle.forest.specs.Answers.{Reply, nothing}
use Rattle.forest.specs.Sizes.{leaf_least}
use Rattle.forest.specs.Lists.{insert_at}
use Rattle.forest.specs.Pairs.{Item}
use Rattle.forest.specs.Pools.{Pool, WellFormed, encode, leaf_words, call}
use Rattle.forest.specs.Pools as Pools
use Rattle.forest.specs.declared.Refusal.TheVariants.{NoRoom}
use Rattle.pool.specs.Stores.{block, with_block, Placed}
use Rattle.node.specs.Nodes.{Leaf, leaf_pairs}
use Rattle.path.specs.Cores.{Ready}
use Rattle.grow.specs.Grows.{Scene, leaf_need, landed_words}

-- is key k at place p
unfoldable pub is_at : List Item → ℕ → ℕ → Bool
is_at ys p k = cond (ltb p (length ys)) (eqb (get_or ys p (0, 0)).0 k) false

-- node n has its place and is a leaf, and p is the place of an entry or the one behind the last
pub record LeafPlace (ws : List ℕ) (t n p : ℕ) : Type 0 where
  pub placed : Placed ws t n
  pub leaf : Leaf (block ws t n)
  pub inside : p + 32 ≤ get_or (block ws t n) 0 0

-- the words with x instead of the entry at place p of leaf n
unfoldable pub replaced_words : List ℕ → ℕ → ℕ → ℕ → Item → List ℕ
replaced_words ws t n p x = with_block ws t n (leaf_words (set (leaf_pairs (block ws t n)) p x))

-- the words with x come to place p of leaf n
unfoldable pub filled_words : List ℕ → ℕ → ℕ → ℕ → Item → List ℕ
filled_words ws t n p x = with_block ws t n (leaf_words (insert_at p x (leaf_pairs (block ws t n))))

-- an entry comes to a leaf with room; else nothing happens
pub record Tries (t n p : ℕ) (x : Item) (before after : List ℕ) (r : Bool) : Type 0 where
  pub room : r ≡ ltb (get_or (block before t n) 0 0) 39
  pub done_words : r ≡ true → after ≡ filled_words before t n p x
  pub full_words : r ≡ false → after ≡ before

-- a key that is there gets its value anew, and its earlier one is told; else nothing happens
pub record Replaces (t n p k v : ℕ) (before after : List ℕ) (r : Option ℕ) : Type 0 where
  pub hit_words : is_at (leaf_pairs (block before t n)) p k ≡ true → after ≡ replaced_words before t n p (k, v)
  pub hit_reply : is_at (leaf_pairs (block before t n)) p k ≡ true → r ≡ Some (get_or (leaf_pairs (block before t n)) p (0, 0)).1
  pub miss_words : is_at (leaf_pairs (block before t n)) p k ≡ false → after ≡ before
  pub miss_reply : is_at (leaf_pairs (block before t n)) p k ≡ false → r ≡ None

-- an absent key comes if there are nodes enough
pub record Adds (s : Scene) (p tree : ℕ) (x : Item) (before after : List ℕ) (r : Reply) : Type 0 where
  pub done_words : leaf_need s ≤ length s.free → after ≡ landed_words s p tree x
  pub done_reply : leaf_need s ≤ length s.free → r ≡ nothing
  pub refused_words : length s.free < leaf_need s → after ≡ before
  pub refused_reply : length s.free < leaf_need s → r ≡ Err NoRoom

-- a put on sound words: those afterwards, and the answer
pub record Puts (tree k v : ℕ) (before after : List ℕ) (r : Reply) : Type 0 where
  pub words : (p : Pool) → WellFormed leaf_least p → encode p ≡ before → encode (call (Pools.put tree k v) p).pool ≡ after
  pub answer : (p : Pool) → WellFormed leaf_least p → encode p ≡ before → (call (Pools.put tree k v) p).answer ≡ r

-- sound words, and a tree that is empty
pub record Empty (ws : List ℕ) (t tree : ℕ) : Type 0 where
  pub ready : Ready ws t tree
  pub root : get_or ws (tree + 1) 0 ≡ 0

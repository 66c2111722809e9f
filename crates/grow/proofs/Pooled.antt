-- PROOFS. A put on one tree of a pool: the store and the root of the put spell the pool of the definition
use mathlib.Core.Path.{◌≡◌, refl, sym, ap, ◌∙◌}
use mathlib.Core.List.{map}
use mathlib.Core.Bool.{◌&&◌}
use Prim.Native.Nat.{ℕ, ◌+◌, ◌≤◌, ◌<◌}
use native.Mathlib.Omega.{arith}
use lib.ListN.{length, take, drop, set, take-append-drop}
use lib.Dec.{leb, eqb}
use borrow.Author.Tests.{leb-true, leb-false}
use Rattle.forest.specs.Lists.{once, count}
use Rattle.forest.specs.Rows.{Tree, Good}
use Rattle.forest.specs.Trees.{numbers, put_tree, need}
use Rattle.forest.specs.Pools
use Rattle.forest.proofs.ListLaws.{is, isnt, test, map-set}
use Rattle.forest.proofs.TreeLaws.{weight_put}
use Rattle.forest.proofs.PoolLaws.{good_at, Free, own_tree, done_formed}
use Rattle.forest.proofs.WordLaws.{count_tree, other_words, count-append}
use Rattle.pool.specs.Stores.{Store, spell}
use Rattle.pool.proofs.Spell.{encode-spell, spell_ext}
use Rattle.forest.proofs.CountLaws.{small, in_range}
pub use Rattle.pool.proofs.HeldTrees.{pool_holds, tree_agree}
use Rattle.grow.proofs.Leaves

module _ (m : ℕ) (lo : 1 ≤ m) (hi : m ≤ 4) (p : Pools.Pool) (w : Pools.WellFormed m p) (t : ℕ) where
  -- each number of tree t and each free one stands once
  pub tree_once : (y : ℕ) → count y (numbers (Pools.tree_of p t)) + count y p.free ≤ 1
  tree_once y = omega (arith, w.each_once y, small (leb 1 y && leb y p.count), count_tree y p.trees t)

  pub tree_range : (y : ℕ) → 1 ≤ count y (numbers (Pools.tree_of p t)) + count y p.free → (1 ≤ y) × (y ≤ p.count)
  tree_range y h = in_range y p.count (omega (arith, w.each_once y, count_tree y p.trees t))

  module _ (k v : ℕ) (there : t < length p.trees) (enough : need 7 k (Pools.tree_of p t) ≤ length p.free) where
    abbrev x : Tree
    x = Pools.tree_of p t

    good : Good m 7 x
    good = good_at m p.trees t w.good

    free : Free (Pools.put t k v) p
    free = record { there = there; enough = enough }

    abbrev after : Store
    after = Leaves.put_store k v p.free x (Pools.node_words p.trees)

    words : (y : ℕ) → after y ≡ Pools.node_words (set p.trees t (put_tree 7 k v p.free x)) y
    unfolding Pools.done
    words y = elim (test (leb 1 (count y (numbers (put_tree 7 k v p.free x))))) [
      | is e ↦ tree_agree after (Pools.node_words (set p.trees t (put_tree 7 k v p.free x))) (put_tree 7 k v p.free x) y
          (Leaves.put_holds m lo k v p.free x (Pools.node_words p.trees) good enough tree_once (pool_holds m p w t x refl))
          (pool_holds m (Pools.done (Pools.put t k v) p) (done_formed m lo hi (Pools.put t k v) p w free) t (put_tree 7 k v p.free x) (own_tree (Pools.put t k v) p free))
          (leb-true _ _ e)
      | isnt e ↦
          let z = leb-false 1 (count y (numbers (put_tree 7 k v p.free x))) e in
          let u = weight_put m 7 k lo (λ n. once (eqb y n)) v p.free x good enough in
          let d : count y (take (need 7 k x) p.free) + count y (drop (need 7 k x) p.free) ≡ count y p.free =
          sym (count-append y (take (need 7 k x) p.free) (drop (need 7 k x) p.free)) ∙ ap (count y) (take-append-drop (need 7 k x) p.free) in
          Leaves.put_keeps m lo k v p.free x (Pools.node_words p.trees) good enough y (omega arith) ∙
          sym (other_words p.trees t (put_tree 7 k v p.free x) y (omega arith) (omega arith))
    ]

    -- THE WORDS AFTERWARDS
    pub put-spell : spell (set (map Pools.root p.trees) t (Leaves.put_root k p.free x)) p.count after (drop (need 7 k x) p.free) ≡ Pools.encode (Pools.done (Pools.put t k v) p)
    unfolding Pools.done
    put-spell =
        rw (← (Leaves.put-root m lo k v p.free x good enough), ← (map-set Pools.root t (put_tree 7 k v p.free x) p.trees))
        (spell_ext (map Pools.root (set p.trees t (put_tree 7 k v p.free x))) p.count after (Pools.node_words (set p.trees t (put_tree 7 k v p.free x))) (drop (need 7 k x) p.free) (λ y a b. words y) ∙
        sym (encode-spell (Pools.done (Pools.put t k v) p)))

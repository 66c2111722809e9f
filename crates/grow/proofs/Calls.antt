-- PROOFS. The call `put` of the definition, case by case, in the words of the code
use mathlib.Core.Path.{◌≡◌, sym, ap, ◌∙◌}
use mathlib.Core.List.{List, [], ◌∷◌, map}
use mathlib.Core.Bool.{Bool, true, false, true≢false}
use mathlib.Core.Option.{some}
use Prim.Native.Nat.{ℕ, zero, suc, ◌≤◌, ◌<◌}
use native.Mathlib.Omega.{arith}
use lib.ListN.{length, drop, get_or, set}
use lib.Seq.{set-get_or}
use lib.Dec.{ltb, eqb}
use borrow.Author.Tests.{lt-ltb, le-ltb, eq-eqb, ne_eqb, ltb-true, eqb-true}
use Rattle.std.specs.Prelude.{Err}
use Rattle.forest.specs.Sizes.{leaf_least}
use Rattle.forest.specs.Lists.{insert_at}
use Rattle.forest.specs.Pairs.{Item, Rising, has, place, lookup}
use Rattle.forest.specs.Rows.{Row, full}
use Rattle.forest.specs.Trees.{leaf_items, need, get_tree}
use Rattle.forest.specs.declared.Refusal.TheVariants.{NoRoom}
use Rattle.forest.specs.Answers.{held, nothing, value}
use Rattle.forest.specs.Pools
use Rattle.forest.specs.Pools.{root_above}
use Rattle.forest.proofs.ListLaws.{is, isnt, test, tri, less, same, more}
use Rattle.forest.proofs.PairLaws.{place_lt, place_key, lookup-has, has_above, above_trans}
use Rattle.forest.proofs.TreeLaws.{lands}
use Rattle.forest.proofs.PoolLaws.{good_at, call_free, call-done, call-refused, refused_four}
use Rattle.pool.specs.Stores.{put, spell}
use Rattle.grow.specs.Grows
use Rattle.grow.specs.Puts.{is_at}
use Rattle.grow.proofs.Pooled
use Rattle.grow.proofs.Sites.{scene_of, root-at}

-- Is the key there
has-at : (k : ℕ) (ys : List Item) (p : ℕ) → p < length ys → (get_or ys p (0, 0)).0 ≡ k → has k ys ≡ true
has-at k [] p h e = absurd (omega arith)
has-at k (y ∷ ys) zero h e = simp (eq-eqb k y.0 (sym e))
has-at k (y ∷ ys) (suc p) h e = elim (test (eqb k y.0)) [ is c ↦ simp c | isnt c ↦ simp c (has-at k ys p (omega arith) e) ]

pub hit_at : (k : ℕ) (ys : List Item) → Rising ys → has k ys ≡ true → is_at ys (place k ys) k ≡ true
unfolding is_at
hit_at k ys r h = simp (lt-ltb (place k ys) (length ys) (place_lt k ys r h), eq-eqb (get_or ys (place k ys) (0, 0)).0 k (place_key k ys (0, 0) r h))

pub miss_at : (k : ℕ) (ys : List Item) (p : ℕ) → has k ys ≡ false → is_at ys p k ≡ false
unfolding is_at
miss_at k ys p h = elim (test (ltb p (length ys))) [
  | is a ↦ elim (test (eqb (get_or ys p (0, 0)).0 k)) [
    | is b ↦ absurd (let z : ◌≡◌ {A = Bool} true false = sym (has-at k ys p (ltb-true _ _ a) (eqb-true _ _ b)) ∙ h in let y : ◌≡◌ {A = ℕ} 0 1 = cc in omega arith)
    | isnt b ↦ simp (a, b)
  ]
  | isnt a ↦ simp a
]

pub lookup-at : (k : ℕ) (ys : List Item) → Rising ys → has k ys ≡ true → lookup k ys ≡ some (get_or ys (place k ys) (0, 0)).1
lookup-at k [] r h = absurd (true≢false (sym h))
lookup-at k (x ∷ xs) r h = elim (tri k x.0) [
  | less c ↦ absurd (true≢false (sym h ∙ has_above k (x ∷ xs) (c, above_trans k x.0 xs c r.0)))
  | same c ↦ simp (le-ltb x.0 k (omega arith), eq-eqb k x.0 c)
  | more c ↦
      let n = ne_eqb k x.0 (omega arith) in
      simp (lt-ltb x.0 k c, n) (lookup-at k xs r.1 (simp n at h))
]

-- The call: refused for want of nodes, or done
module _ (p : Pools.Pool) (tree k v : ℕ) (there : tree < length p.trees) where
  pub refused-call : length p.free < need 7 k (Pools.tree_of p tree) → Pools.call (Pools.put tree k v) p ≡ record { answer = Err NoRoom; pool = p }
  refused-call h = call-refused (Pools.put tree k v) p NoRoom (refused_four (Pools.put tree k v) p there h)

  pub done-call : need 7 k (Pools.tree_of p tree) ≤ length p.free →
      Pools.call (Pools.put tree k v) p ≡ record { answer = held (get_tree k (Pools.tree_of p tree)); pool = Pools.done (Pools.put tree k v) p }
  done-call h = call-done (Pools.put tree k v) p (call_free (Pools.put tree k v) p (record { there = there; enough = h }))

-- The words once it is done
module _ (p : Pools.Pool) (w : Pools.WellFormed leaf_least p) (tree k v : ℕ) (there : tree < length p.trees) where
  -- an empty tree
  module _ (is-empty : Pools.tree_of p tree ≡ []) where
    pub empty_need : need 7 k (Pools.tree_of p tree) ≡ 1
    unfolding need
    empty_need = rw is-empty

    pub empty_held : held (get_tree k (Pools.tree_of p tree)) ≡ nothing
    unfolding get_tree
    empty_held = rw is-empty

    pub empty_words : 1 ≤ length p.free →
        spell (set (map Pools.root p.trees) tree (get_or p.free 0 0)) p.count (put (Pools.node_words p.trees) (get_or p.free 0 0) (Pools.leaf_words ((k, v) ∷ []))) (drop 1 p.free) ≡
        Pools.encode (Pools.done (Pools.put tree k v) p)
    empty_words h =
        let q = Pooled.put-spell leaf_least (omega arith) (omega arith) p w tree k v there (rw empty_need h) in
        rw (empty_need, is-empty) at q

  -- one that is not
  module _ (L : Row) (Rs : List Row) (is-tree : Pools.tree_of p tree ≡ L ∷ Rs) where
    abbrev s : Grows.Scene
    s = scene_of p k L Rs

    abbrev e : ℕ
    e = place k (leaf_items k L)

    rises : Rising (leaf_items k L)
    rises = (lands leaf_least 7 k L Rs (omega arith) (rw is-tree at (good_at leaf_least p.trees tree w.good))).rises

    root-held : set (map Pools.root p.trees) tree (root_above L Rs) ≡ map Pools.root p.trees
    root-held =
        let z : get_or (map Pools.root p.trees) tree 0 ≡ root_above L Rs = root-at p.trees tree ∙ ap Pools.root is-tree in
        rw (← z) (set-get_or (map Pools.root p.trees) tree 0)

    -- the key is there
    module _ (h : has k (leaf_items k L) ≡ true) where
      pub present_at : is_at (leaf_items k L) e k ≡ true
      present_at = hit_at k (leaf_items k L) rises h

      pub present_need : need 7 k (Pools.tree_of p tree) ≡ 0
      unfolding need
      present_need = rw is-tree (simp h)

      pub present_held : held (get_tree k (Pools.tree_of p tree)) ≡ value (get_or (leaf_items k L) e (0, 0)).1
      unfolding get_tree
      present_held = rw is-tree (ap held (lookup-at k (leaf_items k L) rises h))

      pub present_words : spell s.roots s.nodes (put s.store (Grows.num_at s.row s.at) (Pools.leaf_words (set (leaf_items k L) e (k, v)))) s.free ≡ Pools.encode (Pools.done (Pools.put tree k v) p)
      present_words =
          let q = Pooled.put-spell leaf_least (omega arith) (omega arith) p w tree k v there (rw present_need (omega arith)) in
          let z = rw (present_need, is-tree) at q in
          let y = simp (h, root-held) at z in
          y

    -- it is absent
    module _ (h : has k (leaf_items k L) ≡ false) where
      pub absent_at : is_at (leaf_items k L) e k ≡ false
      absent_at = miss_at k (leaf_items k L) e h

      pub absent_held : held (get_tree k (Pools.tree_of p tree)) ≡ nothing
      unfolding get_tree
      absent_held = rw is-tree (ap held (lookup-has k (leaf_items k L) h))

      -- and the leaf has room
      module _ (b : full 7 s.at s.row ≡ false) where
        pub room-need : need 7 k (Pools.tree_of p tree) ≡ 0
        unfolding need
        room-need = rw is-tree (simp (h, b))

        pub room_words : spell s.roots s.nodes (put s.store (Grows.num_at s.row s.at) (Pools.leaf_words (insert_at e (k, v) (leaf_items k L)))) s.free ≡ Pools.encode (Pools.done (Pools.put tree k v) p)
        room_words =
            let q = Pooled.put-spell leaf_least (omega arith) (omega arith) p w tree k v there (rw room-need (omega arith)) in
            let z = rw (room-need, is-tree) at q in
            let y = simp (h, b, root-held) at z in
            y

      -- or it is full
      module _ (b : full 7 s.at s.row ≡ true) where
        pub full-need : need 7 k (Pools.tree_of p tree) ≡ Grows.leaf_need s
        unfolding need
        full-need = rw is-tree (simp (h, b))

        pub full_words : Grows.leaf_need s ≤ length p.free → Grows.landed_words s e tree (k, v) ≡ Pools.encode (Pools.done (Pools.put tree k v) p)
        unfolding Grows.landed_words
        full_words m =
            let q = Pooled.put-spell leaf_least (omega arith) (omega arith) p w tree k v there (rw full-need m) in
            let z = rw (full-need, is-tree) at q in
            let y = simp (h, b) at z in
            y

-- PROOFS. Where a path stands: the value of a key that is there, replaced, and an absent key, added or refused
use mathlib.Core.Path.{◌≡◌, refl, sym, ap, ◌∙◌}
use mathlib.Core.List.{List, [], ◌∷◌, ◌++◌, map}
use mathlib.Core.Bool.{true, false, true≢false}
use Prim.Native.Nat.{ℕ, zero, suc, ◌+◌, ◌≤◌, ◌<◌}
use native.Mathlib.Omega.{arith}
use lib.ListN.{length, get_or, set, length-map, length-set}
use lib.Dec.{ltb}
use borrow.Author.Tests.{lt-ltb, le-ltb, eq-eqb, ne_eqb}
use Rattle.std.specs.Prelude.{Some, None, Err}
use Rattle.forest.specs.Answers.{nothing}
use Rattle.forest.specs.Lists.{pad}
use Rattle.forest.specs.Pairs.{Item}
use Rattle.forest.specs.Pools.{leaf_words}
use Rattle.forest.specs.declared.Refusal.TheVariants.{NoRoom}
use Rattle.forest.proofs.ListLaws.{is, isnt, test, map-set, set_right}
use Rattle.forest.proofs.CountLaws.{length-pad, set-pad}
use Rattle.pool.specs.Stores.{base, block, with_block, stack_at, free_count}
use Rattle.pool.proofs.Bridges.{spell-length, spell-stack_at, spell-frees}
use Rattle.node.specs.Nodes.{leaf_pairs}
use Rattle.grow.specs.Grows
use Rattle.grow.specs.Puts.{LeafPlace, is_at, replaced_words, Replaces, Adds}
use Rattle.grow.proofs.InPlace

-- Is the key at the place
at_beyond : (ys : List Item) (p k : ℕ) → length ys ≤ p → is_at ys p k ≡ false
unfolding is_at
at_beyond ys p k h = simp (le-ltb p (length ys) h)

at_other : (ys : List Item) (p k : ℕ) → ((get_or ys p (0, 0)).0 ≡ k → ⊥) → is_at ys p k ≡ false
unfolding is_at
at_other ys p k h = elim (test (ltb p (length ys))) [ is a ↦ simp (a, ne_eqb (get_or ys p (0, 0)).0 k h) | isnt a ↦ simp a ]

at_same : (ys : List Item) (p k : ℕ) → p < length ys → (get_or ys p (0, 0)).0 ≡ k → is_at ys p k ≡ true
unfolding is_at
at_same ys p k h e = simp (lt-ltb p (length ys) h, eq-eqb (get_or ys p (0, 0)).0 k e)

-- a value set in the words of a leaf
same_keys : (ys : List Item) (p k v : ℕ) → (get_or ys p (0, 0)).0 ≡ k → p < length ys → map (λ (x : Item). x.0) (set ys p (k, v)) ≡ map (λ (x : Item). x.0) ys
same_keys [] p k v e h = refl
same_keys (y ∷ ys) zero k v e h = ap (◌∷ map (λ (x : Item). x.0) ys) (sym e)
same_keys (y ∷ ys) (suc p) k v e h = ap (y.0 ∷◌) (same_keys ys p k v e (omega arith))

value_set : (ys : List Item) (p k v : ℕ) → p < length ys → (get_or ys p (0, 0)).0 ≡ k → set (leaf_words ys) (8 + p) v ≡ leaf_words (set ys p (k, v))
value_set ys p k v h e =
    let keys = map (λ (x : Item). x.0) ys in
    let links = map (λ (x : Item). x.1) ys in
    let l = length-pad 7 (map (λ (x : Item). x.0) ys) in
    let z : 8 + p ≡ suc (length (pad 7 (map (λ (x : Item). x.0) ys)) + p) = omega arith in
    let n = length-map ys (λ (x : Item). x.1) in
    rw (z, length-set ys p (k, v), same_keys ys p k v e h, map-set (λ (x : Item). x.1) p (k, v) ys)
    (ap ((32 + length ys) ∷◌) (set_right p v (pad 7 (map (λ (x : Item). x.0) ys)) (pad 8 (map (λ (x : Item). x.1) ys)) ∙
    ap (pad 7 (map (λ (x : Item). x.0) ys) ++◌) (set-pad 8 (map (λ (x : Item). x.1) ys) p v (omega arith))))

module _ (ws : List ℕ) (t n p : ℕ) (g : LeafPlace ws t n p) where
  abbrev items : List Item
  items = leaf_pairs (block ws t n)

  -- the key is not at the place
  miss : (k v : ℕ) → is_at items p k ≡ false → Replaces t n p k v ws ws None
  miss k v z = record {
    hit_words = λ y. absurd (true≢false (sym y ∙ z));
    hit_reply = λ y. absurd (true≢false (sym y ∙ z));
    miss_words = λ y. refl;
    miss_reply = λ y. refl;
  }

  pub miss_end : (k v : ℕ) → get_or ws (base t n) 0 ≤ p + 32 → Replaces t n p k v ws ws None
  miss_end k v h = miss k v (at_beyond items p k (omega (arith, InPlace.first_is ws t n p g)))

  module _ (k v : ℕ) (h : p + 32 < get_or ws (base t n) 0) where
    within : p < length items
    within = omega (arith, InPlace.first_is ws t n p g)

    seven : p < 7
    seven = omega (arith, within, InPlace.few ws t n p g)

    pub miss_key : (get_or ws (base t n + 1 + p) 0 ≡ k → ⊥) → Replaces t n p k v ws ws None
    miss_key z = miss k v (at_other items p k (λ y. z (InPlace.key_at ws t n p g seven ∙ y)))

    -- it is
    pub hit : get_or ws (base t n + 1 + p) 0 ≡ k → Replaces t n p k v ws (set ws (base t n + 8 + p) v) (Some (get_or ws (base t n + 8 + p) 0))
    unfolding replaced_words
    hit e =
        let key-is : (get_or items p (0, 0)).0 ≡ k = sym (InPlace.key_at ws t n p g seven) ∙ e in
        let z : is_at items p k ≡ true = at_same items p k within key-is in
        record {
          hit_words = λ y. InPlace.value_put ws t n p g v seven ∙ ap (with_block ws t n) (value_set items p k v within key-is);
          hit_reply = λ y. ap Some (InPlace.value_at ws t n p g seven);
          miss_words = λ y. absurd (true≢false (sym z ∙ y));
          miss_reply = λ y. absurd (true≢false (sym z ∙ y));
        }

-- An absent key
module _ (ws : List ℕ) (t tree : ℕ) (ns ps : List ℕ) (level : ℕ) where
  module _ (s : Grows.Scene) (u : Grows.Under s ws t tree ns ps level) where
    pub stack_in : stack_at ws t < length ws
    stack_in =
        rw (← u.words, ← u.trees)
        (omega (arith, spell-stack_at s.roots s.nodes s.store s.free u.sixteen, spell-length s.roots s.nodes s.store s.free u.sixteen))

    pub free_is : (f : ℕ) → f ≡ free_count ws t → f ≡ length s.free
    free_is f q = q ∙ rw (← u.words, ← u.trees) (spell-frees s.roots s.nodes s.store s.free u.sixteen)

  module _ (x : Item) (f n : ℕ) (q : f ≡ free_count ws t) (a : (s : Grows.Scene) (p : ℕ) → Grows.Land s p ws t tree ns ps level → n ≡ Grows.leaf_need s) where
    pub refuse : f < n → (s : Grows.Scene) (p : ℕ) → Grows.Land s p ws t tree ns ps level → Adds s p tree x ws ws (Err NoRoom)
    refuse h s p d =
        let y = free_is s d.site.under f q in
        let z = a s p d in
        record {
          done_words = λ b. absurd (omega arith);
          done_reply = λ b. absurd (omega arith);
          refused_words = λ b. refl;
          refused_reply = λ b. refl;
        }

    pub fits : n ≤ f → Grows.Lands ws t tree ns ps level → Grows.Fits ws t tree ns ps level
    fits h g = record {
      scene = g.scene;
      entry = g.entry;
      landed = record { land = g.land; enough = omega (arith, free_is g.scene g.land.site.under f q, a g.scene g.entry g.land) };
    }

    pub comes : (o : List ℕ) → n ≤ f → ((s : Grows.Scene) (p : ℕ) → Grows.Landed s p ws t tree ns ps level → o ≡ Grows.landed_words s p tree x) →
        (s : Grows.Scene) (p : ℕ) → Grows.Land s p ws t tree ns ps level → Adds s p tree x ws o nothing
    comes o h ens s p d =
        let y = free_is s d.site.under f q in
        let z = a s p d in
        record {
          done_words = λ b. ens s p (record { land = d; enough = b });
          done_reply = λ b. refl;
          refused_words = λ b. absurd (omega arith);
          refused_reply = λ b. absurd (omega arith);
        }

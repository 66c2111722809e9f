-- PROOFS. The walk says yes exactly where the words hold a subtree
use mathlib.Core.Path.{◌≡◌, refl, sym, ap, ◌∙◌}
use mathlib.Core.List.{List, [], ◌∷◌, ◌++◌, map}
use mathlib.Core.Bool.{Bool, true, false}
use Prim.Native.Nat.{ℕ, zero, suc, ◌+◌, ◌-◌, ◌≤◌}
use native.Mathlib.Omega.{arith}
use lib.ListN.{length, get_or, length-map}
use lib.Dec.{leb, eqb}
use borrow.Author.Tests.{eqb-true, le-leb, leb-true}
use Rattle.forest.specs.Lists.{pad}
use Rattle.forest.specs.Pairs.{Item}
use Rattle.forest.specs.Pools.{leaf_words, inner_words}
use Rattle.walk.specs.Walks.{lower}
use Rattle.walk.specs.Walks.{items, zeros, leaf_fits, leaf_items, inner_fits, others}
use Rattle.forest.proofs.ListLaws.{both, four, append_parts}
use Rattle.forest.proofs.CountLaws.{length-pad}

-- a node has an item at least
pub lower_some : (e : Bool) (m : ℕ) → 1 ≤ m → 1 ≤ lower e m
lower_some true m h = omega arith
lower_some false m h = h

-- Words

-- r words from place a on
abbrev pub span : List ℕ → ℕ → ℕ → List ℕ
span ws a zero = []
span ws a (suc r) = get_or ws a 0 ∷ span ws (suc a) r

module _ (ws : List ℕ) where
  pub length_span : (a r : ℕ) → length (span ws a r) ≡ r
  length_span a zero = refl
  length_span a (suc r) = ap suc (length_span (suc a) r)

  pub span_append : (a r s : ℕ) → span ws a (r + s) ≡ span ws a r ++ span ws (a + r) s
  span_append a zero s = let e : 0 + s ≡ s = omega arith in let d : a + 0 ≡ a = omega arith in rw (e, d)
  span_append a (suc r) s =
      let e : suc r + s ≡ suc (r + s) = omega arith in
      let d : a + suc r ≡ suc a + r = omega arith in
      rw (e, d) (ap (get_or ws a 0 ∷◌) (span_append (suc a) r s))

  pub zeros-pad : (c a : ℕ) → zeros ws a c ≡ true → pad c [] ≡ span ws a c
  zeros-pad zero a z = refl
  zeros-pad (suc c) a z =
      let b = both (eqb (get_or ws a 0) 0) (zeros ws (suc a) c) z in
      let w : get_or ws a 0 ≡ 0 = eqb-true (get_or ws a 0) 0 b.0 in
      rw (w, zeros-pad c (suc a) b.1)

  pub pad_span : (c s a : ℕ) → s ≤ c → zeros ws (a + s) (c - s) ≡ true → pad c (span ws a s) ≡ span ws a c
  pad_span zero zero a h z = refl
  pad_span zero (suc s) a h z = absurd (omega arith)
  pad_span (suc c) zero a h z =
      let d : a + 0 ≡ a = omega arith in
      let e : suc c - 0 ≡ suc c = omega arith in
      zeros-pad (suc c) a (rw (d, e) at z)
  pad_span (suc c) (suc s) a h z =
      let d : a + suc s ≡ suc a + s = omega arith in
      let e : suc c - suc s ≡ c - s = omega arith in
      ap (get_or ws a 0 ∷◌) (pad_span c s (suc a) (omega arith) (rw (d, e) at z))

  pub pad-zeros : (c a : ℕ) → span ws a c ≡ pad c [] → zeros ws a c ≡ true
  pad-zeros zero a e = refl
  pad-zeros (suc c) a e =
      let p : get_or ws a 0 ≡ 0 = cc in
      let q : span ws (suc a) c ≡ pad c [] = cc in
      rw (p, pad-zeros c (suc a) q)

  -- and back
  pub span_pad : (c a : ℕ) (xs : List ℕ) → length xs ≤ c → span ws a c ≡ pad c xs → (span ws a (length xs) ≡ xs) × (zeros ws (a + length xs) (c - length xs) ≡ true)
  span_pad c a [] h e =
      let d : a + 0 ≡ a = omega arith in
      let n : c - 0 ≡ c = omega arith in
      (refl, rw (d, n) (pad-zeros c a e))
  span_pad zero a (x ∷ xs) h e = absurd (omega arith)
  span_pad (suc c) a (x ∷ xs) h e =
      let p : get_or ws a 0 ≡ x = cc in
      let q : span ws (suc a) c ≡ pad c xs = cc in
      let i = span_pad c (suc a) xs (omega arith) q in
      let d : a + suc (length xs) ≡ suc a + length xs = omega arith in
      let n : suc c - suc (length xs) ≡ c - length xs = omega arith in
      (rw (p, i.0), rw (d, n) i.1)

  pub keys-items : (a b r : ℕ) → map (λ (x : Item). x.0) (items ws a b r) ≡ span ws a r
  keys-items a b zero = refl
  keys-items a b (suc r) = ap (get_or ws a 0 ∷◌) (keys-items (suc a) (suc b) r)

  pub seconds_items : (a b r : ℕ) → map (λ (x : Item). x.1) (items ws a b r) ≡ span ws b r
  seconds_items a b zero = refl
  seconds_items a b (suc r) = ap (get_or ws b 0 ∷◌) (seconds_items (suc a) (suc b) r)

  pub length-items : (a b r : ℕ) → length (items ws a b r) ≡ r
  length-items a b zero = refl
  length-items a b (suc r) = ap suc (length-items (suc a) (suc b) r)

  pub items_of : (a b : ℕ) (xs : List Item) → span ws a (length xs) ≡ map (λ (x : Item). x.0) xs → span ws b (length xs) ≡ map (λ (x : Item). x.1) xs → items ws a b (length xs) ≡ xs
  items_of a b [] p q = refl
  items_of a b (x ∷ xs) p q =
      let p0 : get_or ws a 0 ≡ x.0 = cc in
      let q0 : get_or ws b 0 ≡ x.1 = cc in
      let p1 : span ws (suc a) (length xs) ≡ map (λ (y : Item). y.0) xs = cc in
      let q1 : span ws (suc b) (length xs) ≡ map (λ (y : Item). y.1) xs = cc in
      rw (p0, q0, items_of (suc a) (suc b) xs p1 q1)

-- A node's words
module _ (ws : List ℕ) (b : ℕ) where
  pub span_node : span ws b 16 ≡ get_or ws b 0 ∷ (span ws (b + 1) 7 ++ span ws (b + 8) 8)
  span_node =
      let e : suc b ≡ b + 1 = omega arith in
      let d : b + 1 + 7 ≡ b + 8 = omega arith in
      ap (get_or ws b 0 ∷◌) (rw (e, ← d) (span_append ws (b + 1) 7 8))

  -- the parts of a node that is given
  pub node_parts : (w : ℕ) (xs ys : List ℕ) → span ws b 16 ≡ w ∷ (pad 7 xs ++ pad 8 ys) → (get_or ws b 0 ≡ w) × (span ws (b + 1) 7 ≡ pad 7 xs) × (span ws (b + 8) 8 ≡ pad 8 ys)
  node_parts w xs ys e =
      let d : get_or ws b 0 ∷ (span ws (b + 1) 7 ++ span ws (b + 8) 8) ≡ w ∷ (pad 7 xs ++ pad 8 ys) = sym span_node ∙ e in
      let p : get_or ws b 0 ≡ w = cc in
      let q : span ws (b + 1) 7 ++ span ws (b + 8) 8 ≡ pad 7 xs ++ pad 8 ys = cc in
      let r = append_parts (span ws (b + 1) 7) (pad 7 xs) (span ws (b + 8) 8) (pad 8 ys) (length_span ws (b + 1) 7 ∙ sym (length-pad 7 xs)) q in
      (p, r.0, r.1)

  module _ (m : ℕ) (e : Bool) where
    pub record LeafYes : Type 0 where
      pub words : span ws b 16 ≡ leaf_words (leaf_items ws b)
      pub enough : lower e m ≤ length (leaf_items ws b)
      pub most : length (leaf_items ws b) ≤ 7

    pub leaf_yes : leaf_fits ws m b e ≡ true → LeafYes
    unfolding leaf_fits
    leaf_yes f =
        let t =
        four (leb (32 + lower e m) (get_or ws b 0)) (leb (get_or ws b 0) 39) (zeros ws (b + 1 + (get_or ws b 0 - 32)) (39 - get_or ws b 0))
        (zeros ws (b + 8 + (get_or ws b 0 - 32)) (40 - get_or ws b 0)) f in
        let g : 32 + lower e m ≤ get_or ws b 0 = leb-true (32 + lower e m) (get_or ws b 0) t.0 in
        let h : get_or ws b 0 ≤ 39 = leb-true (get_or ws b 0) 39 t.1 in
        let s = get_or ws b 0 - 32 in
        let n = length-items ws (b + 1) (b + 8) s in
        let w : 32 + s ≡ get_or ws b 0 = omega arith in
        let c : 39 - get_or ws b 0 ≡ 7 - s = omega arith in
        let d : 40 - get_or ws b 0 ≡ 8 - s = omega arith in
        record {
          words = span_node ∙ rw (
            length-items ws (b + 1) (b + 8) s,
            keys-items ws (b + 1) (b + 8) s,
            seconds_items ws (b + 1) (b + 8) s,
            w,
            pad_span ws 7 s (b + 1) (omega arith) (rw c at t.2),
            pad_span ws 8 s (b + 8) (omega arith) (rw d at t.3),
          );
          enough = omega arith;
          most = omega arith;
        }

    pub leaf_does : (xs : List Item) → span ws b 16 ≡ leaf_words xs → lower e m ≤ length xs → length xs ≤ 7 → (leaf_fits ws m b e ≡ true) × (leaf_items ws b ≡ xs)
    unfolding leaf_fits
    leaf_does xs t g h =
        let p = node_parts (32 + length xs) (map (λ (x : Item). x.0) xs) (map (λ (x : Item). x.1) xs) t in
        let k = length-map xs (λ (x : Item). x.0) in
        let v = length-map xs (λ (x : Item). x.1) in
        let ks = span_pad ws 7 (b + 1) (map (λ (x : Item). x.0) xs) (omega arith) p.1 in
        let vs = span_pad ws 8 (b + 8) (map (λ (x : Item). x.1) xs) (omega arith) p.2 in
        let s : 32 + length xs - 32 ≡ length xs = omega arith in
        let c : 39 - (32 + length xs) ≡ 7 - length xs = omega arith in
        let d : 40 - (32 + length xs) ≡ 8 - length xs = omega arith in (
          rw (
            p.0,
            s,
            c,
            d,
            rw k at ks.1,
            rw v at vs.1,
            le-leb (32 + lower e m) (32 + length xs) (omega arith),
            le-leb (32 + length xs) 39 (omega arith),
          ),
          rw (p.0, s) (items_of ws (b + 1) (b + 8) xs (rw k at ks.0) (rw v at vs.0)),
        )

  module _ (e : Bool) where
    pub record InnerYes : Type 0 where
      pub words : (k : ℕ) → span ws b 16 ≡ inner_words ((k, get_or ws (b + 8) 0) ∷ others ws b)
      pub enough : lower e 4 ≤ suc (length (others ws b))
      pub most : suc (length (others ws b)) ≤ 8

    pub inner_yes : inner_fits ws b e ≡ true → 1 ≤ lower e 4 → InnerYes
    unfolding inner_fits
    inner_yes f o =
        let t =
        four (leb (15 + lower e 4) (get_or ws b 0)) (leb (get_or ws b 0) 23) (zeros ws (b + (get_or ws b 0 - 15)) (23 - get_or ws b 0))
        (zeros ws (b + 8 + (get_or ws b 0 - 15)) (23 - get_or ws b 0)) f in
        let g : 15 + lower e 4 ≤ get_or ws b 0 = leb-true (15 + lower e 4) (get_or ws b 0) t.0 in
        let h : get_or ws b 0 ≤ 23 = leb-true (get_or ws b 0) 23 t.1 in
        let r = get_or ws b 0 - 16 in
        let n = length-items ws (b + 1) (b + 9) r in
        let w : 16 + (suc r - 1) ≡ get_or ws b 0 = omega arith in
        let a : b + (get_or ws b 0 - 15) ≡ b + 1 + r = omega arith in
        let c : 23 - get_or ws b 0 ≡ 7 - r = omega arith in
        let a' : b + 8 + (get_or ws b 0 - 15) ≡ b + 8 + suc r = omega arith in
        let d : 23 - get_or ws b 0 ≡ 8 - suc r = omega arith in
        let z : suc (b + 8) ≡ b + 9 = omega arith in
        let vs : pad 8 (get_or ws (b + 8) 0 ∷ span ws (b + 9) r) ≡ span ws (b + 8) 8 =
        rw (← z) (pad_span ws 8 (suc r) (b + 8) (omega arith) (rw (a', d) at t.3)) in
        record {
          words = λ k. span_node ∙ rw (
            length-items ws (b + 1) (b + 9) r,
            keys-items ws (b + 1) (b + 9) r,
            seconds_items ws (b + 1) (b + 9) r,
            w,
            pad_span ws 7 r (b + 1) (omega arith) (rw (a, c) at t.2),
            vs,
          );
          enough = omega arith;
          most = omega arith;
        }

    pub record InnerDoes (x : Item) (xs : List Item) : Type 0 where
      pub fits : inner_fits ws b e ≡ true
      pub first : get_or ws (b + 8) 0 ≡ x.1
      pub same : others ws b ≡ xs

    pub inner_does : (x : Item) (xs : List Item) → span ws b 16 ≡ inner_words (x ∷ xs) → lower e 4 ≤ suc (length xs) → suc (length xs) ≤ 8 → InnerDoes x xs
    unfolding inner_fits
    inner_does x xs t g h =
        let p = node_parts (16 + (suc (length xs) - 1)) (map (λ (y : Item). y.0) xs) (x.1 ∷ map (λ (y : Item). y.1) xs) t in
        let k = length-map xs (λ (y : Item). y.0) in
        let v = length-map xs (λ (y : Item). y.1) in
        let ks = span_pad ws 7 (b + 1) (map (λ (y : Item). y.0) xs) (omega arith) p.1 in
        let vs = span_pad ws 8 (b + 8) (x.1 ∷ map (λ (y : Item). y.1) xs) (omega arith) p.2 in
        let w : get_or ws b 0 ≡ 16 + length xs = omega (arith, p.0) in
        let s : 16 + length xs - 16 ≡ length xs = omega arith in
        let s' : 16 + length xs - 15 ≡ suc (length xs) = omega arith in
        let a : b + suc (length xs) ≡ b + 1 + length xs = omega arith in
        let c : 23 - (16 + length xs) ≡ 7 - length xs = omega arith in
        let d : 8 - suc (length xs) ≡ 7 - length xs = omega arith in
        let z : suc (b + 8) ≡ b + 9 = omega arith in
        let i : get_or ws (b + 8) 0 ∷ span ws (b + 9) (length xs) ≡ x.1 ∷ map (λ (y : Item). y.1) xs = rw (z, v) at vs.0 in
        let i0 : get_or ws (b + 8) 0 ≡ x.1 = cc in
        let i1 : span ws (b + 9) (length xs) ≡ map (λ (y : Item). y.1) xs = cc in
        record {
          fits = rw (
            w,
            s',
            c,
            a,
            rw k at ks.1,
            rw (v, d) at vs.1,
            le-leb (15 + lower e 4) (16 + length xs) (omega arith),
            le-leb (16 + length xs) 23 (omega arith),
          );
          first = i0;
          same = rw (w, s) (items_of ws (b + 1) (b + 9) xs (rw k at ks.0) i1);
        }

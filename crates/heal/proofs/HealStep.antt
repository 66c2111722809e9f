-- DEFINITIONS and PROOFS. One level heals: a cut, a merge, a share, as steps of stacked rows held by a store
use mathlib.Core.Path.{◌≡◌, refl, sym, ap, ◌∙◌}
use mathlib.Core.List.{List, [], ◌∷◌, ◌++◌}
use Prim.Native.Nat.{ℕ, zero, suc, ◌+◌, ◌-◌, ◌≤◌, ◌<◌}
use native.Mathlib.Omega.{arith}
use lib.ListN.{length, take, get_or}
use lib.Dec.{ltb, eqb}
use borrow.Author.Tests.{lt-ltb, le-ltb, ltb-false, eqb-true, eqb-false}
use Rattle.forest.specs.Lists.{remove_at, sum, count, parent, offset}
use Rattle.forest.specs.Pairs.{Item}
use Rattle.forest.specs.Rows.{Row, front, nums, sizes, joined, line, items_at}
use Rattle.forest.specs.Trees.{numbers}
use Rattle.forest.proofs.ListLaws.{is, isnt, test}
use Rattle.forest.proofs.RowLaws.{length-items}
use Rattle.crit.proofs.HealRows
use Rattle.crit.proofs.HealStack
use Rattle.crit.proofs.HealMem
use Rattle.crit.proofs.HealPath
use Rattle.heal.proofs.HealMend
pub use Rattle.heal.specs.Wounds.{Gap, cut_row}
pub use Rattle.crit.specs.States.{hand_with, hand_key}
use Rattle.forest.proofs.Descent.{front-append, front-first}
use Rattle.forest.proofs.WordLaws.{count-append}

-- a place in groups of which only the later ones change
pub spot : (gs hs : List ℕ) (i : ℕ) → take (parent gs i) hs ≡ take (parent gs i) gs → offset gs i < get_or hs (parent gs i) 0 → (parent hs i ≡ parent gs i) × (offset hs i ≡ offset gs i)
spot [] [] i e h = absurd (omega arith)
spot [] (x ∷ hs) i e h = simp (lt-ltb i x h) (refl, refl)
spot (g ∷ gs) [] i e h = elim (test (ltb i g)) [ is f ↦ absurd (let z = simp f at h in omega arith) | isnt f ↦ absurd (let z = simp f at (ap length e) in omega arith) ]
spot (g ∷ gs) (x ∷ hs) i e h = elim (test (ltb i g)) [
  | is f ↦ let z : i < x = simp f at h in simp (f, lt-ltb i x z) (refl, refl)
  | isnt f ↦
      let e' : x ∷ take (parent gs (i - g)) hs ≡ g ∷ take (parent gs (i - g)) gs = simp f at e in
      let q : x ≡ g = cc in
      let t : take (parent gs (i - g)) hs ≡ take (parent gs (i - g)) gs = cc in
      let z = spot gs hs (i - g) t (simp f at h) in
      simp (f, q) (ap suc z.0, z.1)
]

pub spot_next : (gs hs : List ℕ) (i : ℕ) → take (parent gs i) hs ≡ take (parent gs i) gs → get_or hs (parent gs i) 0 ≡ offset gs i → HealStack.Some hs → suc (parent gs i) < length hs →
    (parent hs i ≡ suc (parent gs i)) × (offset hs i ≡ 0)
spot_next gs [] i e h p l = absurd (omega arith)
spot_next [] (x ∷ hs) i e h p l =
    let q = HealStack.first hs p.1 (HealStack.some_sum hs p.1 (omega arith)) in
    let z : i - x ≡ 0 = omega arith in
    simp (le-ltb i x (omega arith), z) (ap suc q.0, q.1)
spot_next (g ∷ gs) (x ∷ hs) i e h p l = elim (test (ltb i g)) [
  | is f ↦
      let a : x ≡ i = simp f at h in
      let l' : 1 < suc (length hs) = simp f at l in
      let q = HealStack.first hs p.1 (HealStack.some_sum hs p.1 (omega arith)) in
      let z : i - x ≡ 0 = omega arith in
      simp (f, le-ltb i x (omega arith), z) (ap suc q.0, q.1)
  | isnt f ↦
      let e' : x ∷ take (parent gs (i - g)) hs ≡ g ∷ take (parent gs (i - g)) gs = simp f at e in
      let q : x ≡ g = cc in
      let t : take (parent gs (i - g)) hs ≡ take (parent gs (i - g)) gs = cc in
      let l' : suc (suc (parent gs (i - g))) < suc (length hs) = simp f at l in
      let z = spot_next gs hs (i - g) t (simp f at h) p.1 (omega arith) in
      simp (f, q) (ap suc z.0, z.1)
]

pub inside : (gs : List ℕ) (i : ℕ) → i < sum gs → suc (offset gs i) < get_or gs (parent gs i) 0 → suc i < sum gs
inside [] i b h = absurd (omega arith)
inside (g ∷ gs) i b h = elim (test (ltb i g)) [
  | is f ↦ let z : suc i < g = simp f at h in omega arith
  | isnt f ↦ let y = ltb-false i g f in let z = inside gs (i - g) (omega arith) (simp f at h) in omega arith
]

pub front_cut : (o : ℕ) (xs : List Item) → (o ≡ 0 → ⊥) → front (remove_at o xs) ≡ front xs
front_cut o [] n = refl
front_cut zero (x ∷ xs) n = absurd (n refl)
front_cut (suc o) (x ∷ xs) n = refl

front_second : (xs : List Item) → 1 < length xs → front (remove_at 0 xs) ≡ (get_or xs 1 (0, 0)).0
front_second [] h = absurd (omega arith)
front_second (x ∷ []) h = absurd (omega arith)
front_second (x ∷ y ∷ xs) h = refl

module _ (R' R : Row) (i : ℕ) (S : Row) (Ss : List Row) (g : Gap R' R i) (h : i < length R) (s : HealStack.Stacked R (S ∷ Ss)) where
  cut_total : sum (sizes S) ≡ length R
  cut_total = HealStack.stacked-sum R S s.0

  cut_in : i < sum (sizes S)
  cut_in = omega (arith, cut_total)

  -- with an item left the rows above stay as they are
  same_front : (p : ℕ) → parent (sizes S) i ≡ suc p → 2 ≤ length (items_at S (parent (sizes S) i)) → front (remove_at (offset (sizes S) i) (items_at S (parent (sizes S) i))) ≡ front (items_at S (parent (sizes S) i))
  same_front p e two = elim (test (eqb (offset (sizes S) i) 0)) [
    | isnt f ↦ front_cut (offset (sizes S) i) (items_at S (parent (sizes S) i)) (eqb-false _ _ f)
    | is f ↦
        let z : offset (sizes S) i ≡ 0 = eqb-true _ _ f in
        let big = HealStack.fill_some 4 8 (sizes S) (omega arith) s.1 in
        let wide : get_or (sizes S) (parent (sizes S) i) 0 ≡ length (items_at S (parent (sizes S) i)) = sym (length-items S (parent (sizes S) i)) in
        let more : suc (offset (sizes S) i) < get_or (sizes S) (parent (sizes S) i) 0 = omega arith in
        let n = inside (sizes S) i cut_in more in
        let pos : 0 < i = positive i (λ q. let y = (HealStack.first (sizes S) big (omega (arith, cut_in))).0 in let x = rw q at e in omega arith) in
        let k = g.fronts pos (omega (arith, cut_total)) in
        let a : (get_or (joined S) i (0, 0)).0 ≡ front (items_at R i) = ahead i pos h in
        let b : (get_or (joined S) (suc i) (0, 0)).0 ≡ front (items_at R (suc i)) =
        ap (λ (x : Item). x.0) (HealStack.alike_at (0, 0) i s.0 ∙ HealRows.line_at (0, 0) R (suc i) (omega (arith, cut_total))) in
        elim (HealStack.next (sizes S) i big n) [
          | HealStack.within x y w ↦
              let c : (get_or (joined S) (suc i) (0, 0)).0 ≡ (get_or (items_at S (parent (sizes S) i)) 1 (0, 0)).0 =
              ap (λ (x : Item). x.0) (HealRows.item_at (0, 0) S (suc i) n ∙ second y w z) in
              let d : (get_or (joined S) i (0, 0)).0 ≡ (get_or (items_at S (parent (sizes S) i)) 0 (0, 0)).0 =
              ap (λ (x : Item). x.0) (HealRows.item_at (0, 0) S i cut_in ∙ ap (λ (o : ℕ). get_or (items_at S (parent (sizes S) i)) o (0, 0)) z) in
              rw z (front_second (items_at S (parent (sizes S) i)) two ∙ sym c ∙ b ∙ sym k ∙ sym a ∙ d ∙ sym (front-first (items_at S (parent (sizes S) i)) (omega arith)))
          | HealStack.across x y w ↦ absurd (omega arith)
        ]
  ]
    where
      positive : (i : ℕ) → (i ≡ 0 → ⊥) → 0 < i
      positive zero n = absurd (n refl)
      positive (suc i) n = omega arith

      ahead : (i' : ℕ) → 0 < i' → i' < length R → (get_or (joined S) i' (0, 0)).0 ≡ front (items_at R i')
      ahead zero p l = absurd (omega arith)
      ahead (suc i') p l = ap (λ (x : Item). x.0) (HealStack.alike_at (0, 0) i' s.0 ∙ HealRows.line_at (0, 0) R (suc i') l)

      second : parent (sizes S) (suc i) ≡ parent (sizes S) i → offset (sizes S) (suc i) ≡ suc (offset (sizes S) i) → offset (sizes S) i ≡ 0 →
          get_or (items_at S (parent (sizes S) (suc i))) (offset (sizes S) (suc i)) (0, 0) ≡ get_or (items_at S (parent (sizes S) i)) 1 (0, 0)
      second y w z = rw (y, w, z)

  pub cut_stacked : 2 ≤ length (items_at S (parent (sizes S) i)) → HealStack.Stacked (cut_row i S) Ss
  cut_stacked two = HealStack.stacked-line S (cut_row i S) Ss (HealStack.alike_sym (by (parent (sizes S) i) refl)) s.2
    where
      by : (p : ℕ) → parent (sizes S) i ≡ p → HealStack.Alike (line (cut_row i S)) (line S)
      by zero e = rw (HealRows.upd-line (parent (sizes S) i) (remove_at (offset (sizes S) i)) S, e) (HealStack.alike_first _ (line S))
      by (suc p) e = HealStack.alike_same (HealStack.line_same (parent (sizes S) i) (remove_at (offset (sizes S) i)) S (same_front p e two))

-- The merge: everything goes to the right neighbour
module _ (R : Row) (j : ℕ) (S : Row) (Ss : List Row) (s : HealStack.Stacked R (S ∷ Ss)) (h : suc j < length R) (one : 1 ≤ length (items_at R j)) where
  abbrev pub phantom : ℕ → Row
  phantom zero = R
  phantom (suc i) = HealRows.upd (suc j) (λ ys. items_at R j ++ ys) R

  abbrev pub merged_up : ℕ → List Row
  merged_up zero = S ∷ Ss
  merged_up (suc i) = HealStack.set_key (suc j) (front (items_at R j)) (S ∷ Ss)

  pub merge_stacked : (i : ℕ) → HealStack.Stacked (phantom i) (merged_up i)
  merge_stacked zero = s
  merge_stacked (suc i) =
      HealStack.set_key_stacked R (phantom (suc i)) (S ∷ Ss) (suc j) (front (items_at R j)) h
      (HealStack.alike_same (sym (HealRows.upd-line (suc j) (λ ys. items_at R j ++ ys) R ∙ ap (λ (k : ℕ). HealRows.rekey_at (suc j) k (line R)) (front-append (items_at R j) (items_at R (suc j)) one)))) s

  pub merge_shape : (i : ℕ) → HealStack.SameShape (merged_up i) (S ∷ Ss)
  merge_shape zero = HealStack.same_refl (S ∷ Ss)
  merge_shape (suc i) = HealStack.set_key_shape (suc j) (front (items_at R j)) (S ∷ Ss)

pub merge_gap : (R : Row) (j : ℕ) (S : Row) (Ss : List Row) (s : HealStack.Stacked R (S ∷ Ss)) (h : suc j < length R) (one : 1 ≤ length (items_at R j)) → Gap (HealMend.merge_at j R) (phantom R j S Ss s h one j) j
merge_gap R zero S Ss s h one = record {
  alike = rw (HealMend.merge_line 0 R h one) (swap (line R));
  fronts = λ a b. absurd (omega arith);
}
  where
    swap : (xs : List Item) → HealStack.Alike (remove_at 0 xs) (remove_at 0 (HealRows.rekey_at 1 (front (items_at R 0)) xs))
    swap [] = HealStack.alike_same refl
    swap (x ∷ xs) = HealStack.alike_sym (HealStack.alike_first (front (items_at R 0)) xs)
merge_gap R (suc j) S Ss s h one = record {
  alike = HealStack.alike_same (sym (HealRows.line-remove_at (suc j) (phantom R (suc j) S Ss s h one (suc j))));
  fronts = λ a b. earlier R (suc j) (λ ys. items_at R (suc j) ++ ys) ∙ sym (front-append (items_at R (suc j)) (items_at R (suc (suc j))) one) ∙
      sym (ap front (HealRows.upd_same (suc (suc j)) (λ ys. items_at R (suc j) ++ ys) R h));
}
  where
    earlier : (R : Row) (j : ℕ) (f : List Item → List Item) → front (items_at (HealRows.upd (suc j) f R) j) ≡ front (items_at R j)
    earlier [] j f = refl
    earlier (n ∷ R) zero f = refl
    earlier (n ∷ R) (suc j) f = earlier R j f

-- the last group ends the row
pub ends : (gs : List ℕ) (i : ℕ) → i < sum gs → suc (parent gs i) ≡ length gs → sum gs + offset gs i ≡ i + get_or gs (parent gs i) 0
ends [] i b e = absurd (omega arith)
ends (g ∷ gs) i b e = elim (test (ltb i g)) [
  | is f ↦
      let z : 1 ≡ suc (length gs) = simp f at e in
      let y : sum gs ≡ 0 = nil gs (omega arith) in
      simp f (omega arith)
  | isnt f ↦
      let a = ltb-false i g f in
      let z : suc (suc (parent gs (i - g))) ≡ suc (length gs) = simp f at e in
      let y = ends gs (i - g) (omega arith) (omega arith) in
      simp f (omega arith)
]
  where
    nil : (gs : List ℕ) → length gs ≡ 0 → sum gs ≡ 0
    nil [] q = refl
    nil (x ∷ gs) q = absurd (omega arith)

-- Stores of a merge and of a share. The row's words are `enc`: leaves or inner nodes
module _ (enc : List Item → List ℕ) (R : Row) (j : ℕ) (Ss : List Row) (st : HealMem.Store) (ns ps : ℕ → ℕ)
    (s : HealStack.Stacked R Ss) (h : suc j < length R)
    (o : HealMem.Once (nums R ++ numbers Ss)) (hr : HealMem.Holds enc st R) (hu : HealMem.HoldsUp st Ss) (p : HealPath.Leads R j Ss ns ps) where
  apart : HealMem.Apart (nums R) (numbers Ss)
  apart = HealMem.once-append (nums R) (numbers Ss) o

  -- words for the right neighbour
  abbrev pub righted : HealMem.Store → List ℕ → HealMem.Store
  righted st w = HealMem.put st (HealRows.num_at R (suc j)) w

  pub righted_keeps : (st' : HealMem.Store) (w : List ℕ) → HealMem.Keeps st' (righted st' w) (nums R)
  righted_keeps st' w = HealMem.put_keeps st' (HealRows.num_at R (suc j)) w (nums R) (HealMem.num_at-counts R (suc j) h)

  pub righted_up : (st' : HealMem.Store) (w : List ℕ) → HealMem.HoldsUp st' Ss → HealMem.HoldsUp (righted st' w) Ss
  righted_up st' w u = HealMem.up_apart st' (righted st' w) (nums R) Ss (righted_keeps st' w) apart u

  module _ (w : List ℕ) (f : List Item → List Item) (e : w ≡ enc (f (items_at R (suc j)))) (k : ℕ) where
    -- the neighbour's items change, and its key
    abbrev pub keyed : HealMem.Store
    keyed = HealPath.right_set (righted st w) ns ps (length Ss) k

    pub keyed_up : HealMem.HoldsUp keyed (HealStack.set_key (suc j) k Ss)
    keyed_up = HealPath.right_set_holds (righted st w) ns ps R j k Ss h s (λ x. omega (arith, apart x)) (righted_up st w hu) p

    pub keyed_keeps : HealMem.Keeps (righted st w) keyed (numbers Ss)
    keyed_keeps = HealPath.right_set-keeps (righted st w) ns ps R j k Ss (omega arith) s (righted_up st w hu) p

    pub righted_row : HealMem.Holds enc (righted st w) (HealRows.upd (suc j) f R)
    righted_row = HealMem.holds_upd enc st R (suc j) f w h (λ x. omega (arith, apart x)) e hr

    pub keyed_row : HealMem.Holds enc keyed (HealRows.upd (suc j) f R)
    keyed_row =
        HealMem.holds_apart enc (righted st w) keyed (numbers Ss) (HealRows.upd (suc j) f R) keyed_keeps
        (λ x. rw (HealRows.upd-nums (suc j) f R) (omega (arith, apart x))) righted_row

-- Everything of the j-th node went to its right neighbour, whose words are w: the rows stand under a ghost row that still has the j-th node
pub record Merged (enc : List Item → List ℕ) (R : Row) (j : ℕ) (Ss : List Row) (st st' : HealMem.Store) : Type 0 where
  pub ghost : Row
  pub rows : List Row
  pub shape : HealStack.SameShape rows Ss
  pub stacked : HealStack.Stacked ghost rows
  pub gap : Gap (HealMend.merge_at j R) ghost j
  pub name : HealRows.num_at ghost j ≡ HealRows.num_at R j
  pub len : length ghost ≡ length R
  pub row : HealMem.Holds enc st' (HealMend.merge_at j R)
  pub up : HealMem.HoldsUp st' rows
  pub keeps : HealMem.Keeps st st' (nums R ++ numbers Ss)

pub merge_ready : (enc : List Item → List ℕ) (R : Row) (j : ℕ) (Ss : List Row) (st : HealMem.Store) (ns ps : ℕ → ℕ) → HealStack.Stacked R Ss → suc j < length R → 1 ≤ length (items_at R j) →
    HealMem.Once (nums R ++ numbers Ss) → HealMem.Holds enc st R → HealMem.HoldsUp st Ss → HealPath.Leads R j Ss ns ps → (w : List ℕ) → w ≡ enc (items_at R j ++ items_at R (suc j)) →
    Merged enc R j Ss st (hand_key (HealMem.put st (HealRows.num_at R (suc j)) w) ns ps (length Ss))
merge_ready enc R j [] st ns ps s h one o hr hu p w e = absurd (omega arith)
merge_ready enc R zero (S ∷ Ss) st ns ps s h one o hr hu p w e =
    let c = HealPath.crit_none (HealMem.put st (HealRows.num_at R 1) w) ns ps R (S ∷ Ss) (omega arith) s (righted_up enc R 0 (S ∷ Ss) st ns ps s h o hr hu p st w hu) p in
    rw c (record {
      ghost = R;
      rows = S ∷ Ss;
      shape = HealStack.same_refl (S ∷ Ss);
      stacked = s;
      gap = merge_gap R 0 S Ss s h one;
      name = refl;
      len = refl;
      row = HealMem.holds_remove enc (HealMem.put st (HealRows.num_at R 1) w) (HealRows.upd 1 (λ ys. items_at R 0 ++ ys) R) 0 (righted_row enc R 0 (S ∷ Ss) st ns ps s h o hr hu p w (λ ys. items_at R 0 ++ ys) e 0);
      up = righted_up enc R 0 (S ∷ Ss) st ns ps s h o hr hu p st w hu;
      keeps = λ x c. righted_keeps enc R 0 (S ∷ Ss) st ns ps s h o hr hu p st w x (none_of x (nums R) (numbers (S ∷ Ss)) c);
    })
  where
    none_of : (x : ℕ) (xs ys : List ℕ) → count x (xs ++ ys) ≡ 0 → count x xs ≡ 0
    none_of x xs ys c = let z = rw (count-append x xs ys) at c in omega arith
merge_ready enc R (suc j) (S ∷ Ss) st ns ps s h one o hr hu p w e =
    let c = HealPath.crit_is (HealMem.put st (HealRows.num_at R (suc (suc j))) w) ns ps R j (S ∷ Ss) (omega arith) s (righted_up enc R (suc j) (S ∷ Ss) st ns ps s h o hr hu p st w hu) p in
    let k = front (items_at R (suc j)) in
    let f : List Item → List Item = λ ys. items_at R (suc j) ++ ys in
    rw c (record {
      ghost = phantom R (suc j) S Ss s h one (suc j);
      rows = merged_up R (suc j) S Ss s h one (suc j);
      shape = merge_shape R (suc j) S Ss s h one (suc j);
      stacked = merge_stacked R (suc j) S Ss s h one (suc j);
      gap = merge_gap R (suc j) S Ss s h one;
      name = HealRows.upd-num_at (suc j) (suc (suc j)) f R;
      len = HealRows.upd-length (suc (suc j)) f R;
      row = HealMem.holds_remove enc (keyed enc R (suc j) (S ∷ Ss) st ns ps s h o hr hu p w f e k) (HealRows.upd (suc (suc j)) f R) (suc j) (keyed_row enc R (suc j) (S ∷ Ss) st ns ps s h o hr hu p w f e k);
      up = keyed_up enc R (suc j) (S ∷ Ss) st ns ps s h o hr hu p w f e k;
      keeps = λ x c.
          let z : count x (nums R) + count x (numbers (S ∷ Ss)) ≡ 0 = rw (count-append x (nums R) (numbers (S ∷ Ss))) at c in
          keyed_keeps enc R (suc j) (S ∷ Ss) st ns ps s h o hr hu p w f e k x (omega arith) ∙ righted_keeps enc R (suc j) (S ∷ Ss) st ns ps s h o hr hu p st w x (omega arith);
    })

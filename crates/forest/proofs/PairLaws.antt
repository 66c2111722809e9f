-- PROOFS. Sorted lists of pairs: a place decides insert, delete and lookup
use mathlib.Core.Path.{◌≡◌, refl, sym, ap, ◌∙◌}
use mathlib.Core.List.{List, [], ◌∷◌, ◌++◌}
use mathlib.Core.Bool.{true, false, true≢false}
use mathlib.Core.Option.{Option, none, some}
use Prim.Native.Nat.{ℕ, ◌+◌, ◌≤◌, ◌<◌}
use native.Mathlib.Omega.{arith}
use lib.ListN.{length, get_or, set}
use lib.Dec.{ltb, eqb}
use borrow.Author.Tests.{lt-ltb, le-ltb, eq-eqb, ne_eqb}
use Rattle.forest.specs.Lists.{insert_at, remove_at}
use Rattle.forest.specs.Pairs.{Item, Above, Rising, insert, delete, lookup, has, place}
use Rattle.forest.proofs.ListLaws.{is, isnt, test, tri, less, same, more}

pub above_trans : (a b : ℕ) (xs : List Item) → a < b → Above b xs → Above a xs
above_trans a b [] h _ = tt
above_trans a b (x ∷ xs) h u = (omega arith, above_trans a b xs h u.1)

-- every key is below k
abbrev pub Below : List Item → ℕ → Type 0
Below [] k = Unit {0}
Below (x ∷ xs) k = (x.0 < k) × Below xs k

pub below_le : (xs : List Item) (a b : ℕ) → a ≤ b → Below xs a → Below xs b
below_le [] a b h u = tt
below_le (x ∷ xs) a b h u = (omega arith, below_le xs a b h u.1)

pub rising_left : (xs ys : List Item) → Rising (xs ++ ys) → Rising xs
rising_left [] ys s = tt
rising_left (p ∷ xs) ys s = (above-left p.0 xs s.0, rising_left xs ys s.1)
  where
    above-left : (a : ℕ) (us : List Item) → Above a (us ++ ys) → Above a us
    above-left a [] u = tt
    above-left a (q ∷ us) u = (u.0, above-left a us u.1)

pub rising_right : (xs ys : List Item) → Rising (xs ++ ys) → Rising ys
rising_right [] ys s = s
rising_right (p ∷ xs) ys s = rising_right xs ys s.1

pub above_right : (a : ℕ) (us ys : List Item) → Above a (us ++ ys) → Above a ys
above_right a [] ys u = u
above_right a (q ∷ us) ys u = above_right a us ys u.1

pub rising_seam : (xs : List Item) (q : Item) (ys : List Item) → Rising (xs ++ q ∷ ys) → Below xs q.0
rising_seam [] q ys s = tt
rising_seam (p ∷ xs) q ys s = ((above_right p.0 xs (q ∷ ys) s.0).0, rising_seam xs q ys s.1)

-- a list that goes on above k does not matter, nor one before that is below k
module _ (k : ℕ) where
  pub has_above : (ys : List Item) → Above k ys → has k ys ≡ false
  has_above [] a = refl
  has_above (y ∷ ys) a = simp (ne_eqb k y.0 (omega arith), has_above ys a.1)

  pub has_left : (xs ys : List Item) → Above k ys → has k (xs ++ ys) ≡ has k xs
  has_left [] ys a = has_above ys a
  has_left (x ∷ xs) ys a = elim (test (eqb k x.0)) [ is e ↦ simp e | isnt e ↦ simp (e, has_left xs ys a) ]

  pub has_right : (xs ys : List Item) → Below xs k → has k (xs ++ ys) ≡ has k ys
  has_right [] ys b = refl
  has_right (x ∷ xs) ys b = simp (ne_eqb k x.0 (omega arith), has_right xs ys b.1)

  pub lookup_above : (ys : List Item) → Above k ys → lookup k ys ≡ none
  lookup_above [] a = refl
  lookup_above (y ∷ ys) a = simp (ne_eqb k y.0 (omega arith), lookup_above ys a.1)

  pub lookup_left : (xs ys : List Item) → Above k ys → lookup k (xs ++ ys) ≡ lookup k xs
  lookup_left [] ys a = lookup_above ys a
  lookup_left (x ∷ xs) ys a = elim (test (eqb k x.0)) [ is e ↦ simp e | isnt e ↦ simp (e, lookup_left xs ys a) ]

  pub lookup_right : (xs ys : List Item) → Below xs k → lookup k (xs ++ ys) ≡ lookup k ys
  lookup_right [] ys b = refl
  lookup_right (x ∷ xs) ys b = simp (ne_eqb k x.0 (omega arith), lookup_right xs ys b.1)

  pub place_above : (ys : List Item) → Above k ys → place k ys ≡ 0
  place_above [] a = refl
  place_above (y ∷ ys) a = simp (le-ltb y.0 k (omega arith))

  pub place_left : (xs ys : List Item) → Above k ys → place k (xs ++ ys) ≡ place k xs
  place_left [] ys a = place_above ys a
  place_left (x ∷ xs) ys a = elim (test (ltb x.0 k)) [ is e ↦ simp (e, place_left xs ys a) | isnt e ↦ simp e ]

  pub place_right : (xs ys : List Item) → Below xs k → place k (xs ++ ys) ≡ length xs + place k ys
  place_right [] ys b = omega arith
  place_right (x ∷ xs) ys b = simp (lt-ltb x.0 k b.0, place_right xs ys b.1) (omega arith)

  pub place_le : (xs : List Item) → place k xs ≤ length xs
  place_le [] = omega arith
  place_le (x ∷ xs) = elim (test (ltb x.0 k)) [ is e ↦ simp e (omega (arith, place_le xs)) | isnt e ↦ simp e (omega arith) ]

  -- the place of a key that is there
  pub place_lt : (xs : List Item) → Rising xs → has k xs ≡ true → place k xs < length xs
  place_lt [] r h = absurd (true≢false (sym h))
  place_lt (x ∷ xs) r h = elim (tri k x.0) [
    | less c ↦ absurd (true≢false (sym h ∙ has_above (x ∷ xs) (c, above_trans k x.0 xs c r.0)))
    | same c ↦ simp (le-ltb x.0 k (omega arith)) (omega arith)
    | more c ↦ simp (lt-ltb x.0 k c) (omega (arith, place_lt xs r.1 (simp (ne_eqb k x.0 (omega arith)) at h)))
  ]

  pub place-insert : (v : ℕ) (xs : List Item) → Rising xs → has k xs ≡ false → insert_at (place k xs) (k, v) xs ≡ insert k v xs
  place-insert v [] r h = refl
  place-insert v (x ∷ xs) r h = elim (tri k x.0) [
    | less c ↦ simp (le-ltb x.0 k (omega arith), lt-ltb k x.0 c)
    | same c ↦ absurd (true≢false (sym (rw (eq-eqb k x.0 c)) ∙ h))
    | more c ↦ simp (lt-ltb x.0 k c, le-ltb k x.0 (omega arith), ne_eqb k x.0 (omega arith), place-insert v xs r.1 (simp (ne_eqb k x.0 (omega arith)) at h))
  ]

  pub place_set : (v : ℕ) (xs : List Item) → Rising xs → has k xs ≡ true → set xs (place k xs) (k, v) ≡ insert k v xs
  place_set v [] r h = absurd (true≢false (sym h))
  place_set v (x ∷ xs) r h = elim (tri k x.0) [
    | less c ↦ absurd (true≢false (sym h ∙ has_above (x ∷ xs) (c, above_trans k x.0 xs c r.0)))
    | same c ↦ simp (le-ltb x.0 k (omega arith), le-ltb k x.0 (omega arith), eq-eqb k x.0 c)
    | more c ↦ simp (lt-ltb x.0 k c, le-ltb k x.0 (omega arith), ne_eqb k x.0 (omega arith), place_set v xs r.1 (simp (ne_eqb k x.0 (omega arith)) at h))
  ]

  pub place-delete : (xs : List Item) → Rising xs → has k xs ≡ true → remove_at (place k xs) xs ≡ delete k xs
  place-delete [] r h = absurd (true≢false (sym h))
  place-delete (x ∷ xs) r h = elim (tri k x.0) [
    | less c ↦ absurd (true≢false (sym h ∙ has_above (x ∷ xs) (c, above_trans k x.0 xs c r.0)))
    | same c ↦ simp (le-ltb x.0 k (omega arith), eq-eqb k x.0 c)
    | more c ↦ simp (lt-ltb x.0 k c, ne_eqb k x.0 (omega arith), place-delete xs r.1 (simp (ne_eqb k x.0 (omega arith)) at h))
  ]

  pub delete_none : (xs : List Item) → has k xs ≡ false → delete k xs ≡ xs
  delete_none [] e = refl
  delete_none (x ∷ xs) e = elim (test (eqb k x.0)) [
    | is f ↦ absurd (true≢false (simp f at e))
    | isnt f ↦ simp (f, delete_none xs (simp f at e))
  ]

  -- the pair that is there has the key
  pub place_key : (xs : List Item) (d : Item) → Rising xs → has k xs ≡ true → (get_or xs (place k xs) d).0 ≡ k
  place_key [] d r h = absurd (true≢false (sym h))
  place_key (x ∷ xs) d r h = elim (tri k x.0) [
    | less c ↦ absurd (true≢false (sym h ∙ has_above (x ∷ xs) (c, above_trans k x.0 xs c r.0)))
    | same c ↦ simp (le-ltb x.0 k (omega arith)) (sym c)
    | more c ↦ simp (lt-ltb x.0 k c) (place_key xs d r.1 (simp (ne_eqb k x.0 (omega arith)) at h))
  ]

  pub lookup-has : (xs : List Item) → has k xs ≡ false → lookup k xs ≡ none
  lookup-has [] e = refl
  lookup-has (x ∷ xs) e = elim (test (eqb k x.0)) [
    | is f ↦ absurd (true≢false (simp f at e))
    | isnt f ↦ simp (f, lookup-has xs (simp f at e))
  ]

  -- setting the value that is held changes nothing
  pub set_same : (v : ℕ) (xs : List Item) → Rising xs → lookup k xs ≡ some v → set xs (place k xs) (k, v) ≡ xs
  set_same v [] r h = refl
  set_same v (x ∷ xs) r h = elim (tri k x.0) [
    | less c ↦ absurd (let z : ◌≡◌ {A = Option ℕ} none (some v) = sym (lookup_above (x ∷ xs) (c, above_trans k x.0 xs c r.0)) ∙ h in let y : ◌≡◌ {A = ℕ} 0 1 = cc in omega arith)
    | same c ↦
        let z : some x.1 ≡ some v = simp (eq-eqb k x.0 c) at h in
        let y : x.1 ≡ v = cc in
        simp (le-ltb x.0 k (omega arith)) (ap (◌∷ xs) (λ i. (c i, sym y i)))
    | more c ↦ simp (lt-ltb x.0 k c, set_same v xs r.1 (simp (ne_eqb k x.0 (omega arith)) at h))
  ]

-- the laws of insert and delete on order, and on each other
pub above_insert : (a k v : ℕ) (xs : List Item) → a < k → Above a xs → Above a (insert k v xs)
above_insert a k v [] h u = (h, tt)
above_insert a k v (p ∷ ps) h u = elim (tri k p.0) [
  | less c ↦ simp (lt-ltb k p.0 c) (h, u)
  | same c ↦ simp (le-ltb k p.0 (omega arith), eq-eqb k p.0 c) (h, u.1)
  | more c ↦ simp (le-ltb k p.0 (omega arith), ne_eqb k p.0 (omega arith)) (u.0, above_insert a k v ps h u.1)
]

pub rising_insert : (k v : ℕ) (xs : List Item) → Rising xs → Rising (insert k v xs)
rising_insert k v [] s = (tt, tt)
rising_insert k v (p ∷ ps) s = elim (tri k p.0) [
  | less c ↦ simp (lt-ltb k p.0 c) ((c, above_trans k p.0 ps c s.0), s)
  | same c ↦ simp (le-ltb k p.0 (omega arith), eq-eqb k p.0 c) (rw c s.0, s.1)
  | more c ↦ simp (le-ltb k p.0 (omega arith), ne_eqb k p.0 (omega arith)) (above_insert p.0 k v ps c s.0, rising_insert k v ps s.1)
]

above_delete : (a k : ℕ) (xs : List Item) → Above a xs → Above a (delete k xs)
above_delete a k [] u = tt
above_delete a k (p ∷ l) u = elim (test (eqb k p.0)) [
  | is e ↦ simp e u.1
  | isnt e ↦ simp e (u.0, above_delete a k l u.1)
]

pub rising_delete : (k : ℕ) (xs : List Item) → Rising xs → Rising (delete k xs)
rising_delete k [] s = tt
rising_delete k (p ∷ l) s = elim (test (eqb k p.0)) [
  | is e ↦ simp e s.1
  | isnt e ↦ simp e (above_delete p.0 k l s.0, rising_delete k l s.1)
]

-- after an insert the key is there, with that value
pub has-insert : (k v : ℕ) (xs : List Item) → has k (insert k v xs) ≡ true
has-insert k v [] = simp (eq-eqb k k refl)
has-insert k v (x ∷ xs) = elim (tri k x.0) [
  | less c ↦ simp (lt-ltb k x.0 c, eq-eqb k k refl)
  | same c ↦ simp (le-ltb k x.0 (omega arith), eq-eqb k x.0 c, eq-eqb k k refl)
  | more c ↦ simp (le-ltb k x.0 (omega arith), ne_eqb k x.0 (omega arith), has-insert k v xs)
]

pub lookup-insert : (k v : ℕ) (xs : List Item) → lookup k (insert k v xs) ≡ some v
lookup-insert k v [] = simp (eq-eqb k k refl)
lookup-insert k v (x ∷ xs) = elim (tri k x.0) [
  | less c ↦ simp (lt-ltb k x.0 c, eq-eqb k k refl)
  | same c ↦ simp (le-ltb k x.0 (omega arith), eq-eqb k x.0 c, eq-eqb k k refl)
  | more c ↦ simp (le-ltb k x.0 (omega arith), ne_eqb k x.0 (omega arith), lookup-insert k v xs)
]

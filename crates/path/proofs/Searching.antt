-- PROOFS. What a search in the keys of a node says of the way down, and that these keys rise
use mathlib.Core.Path.{◌≡◌, refl, ap}
use mathlib.Core.List.{List, [], ◌∷◌}
use mathlib.Core.Bool.{false, cond}
use Prim.Native.Nat.{ℕ, zero, suc, ◌+◌, ◌≤◌}
use native.Mathlib.Omega.{arith}
use lib.ListN.{length}
use borrow.Author.Tests.{lt-ltb, le-ltb, le-leb, lt-leb, eq-eqb, ne_eqb}
use Rattle.std.specs.Prelude.{Ok, Err}
use Rattle.forest.specs.Lists.{upto}
use Rattle.forest.specs.Pairs.{Item, Rising}
use Rattle.forest.specs.Rows.{Row, joined, items_at}
use Rattle.forest.specs.Slices.{KeysAbove, KeysRise, key_place, has_key, searched}
use Rattle.forest.proofs.ListLaws.{tri, less, same, more, is, isnt, test, upto-length}
use Rattle.forest.proofs.PairLaws.{rising_left, rising_right}
use Rattle.forest.proofs.Descent.{stored}

-- What is found

-- among keys above f, which is k or above it, there is no k
none_above : (k f : ℕ) (fs : List ℕ) → k ≤ f → KeysAbove f fs → (has_key k fs ≡ false) × (upto k fs ≡ 0)
none_above k f [] h a = (refl, refl)
none_above k f (g ∷ fs) h a = (simp (ne_eqb k g (omega arith)) (none_above k f fs h a.1).0, simp (lt-leb g k (omega arith)))

-- the keys up to k are those below it, and k itself
counts : (k : ℕ) (fs : List ℕ) → KeysRise fs → upto k fs ≡ cond (has_key k fs) (suc (key_place k fs)) (key_place k fs)
counts k [] r = refl
counts k (f ∷ fs) r = elim (tri k f) [
  | less h ↦ simp (lt-leb f k h, ne_eqb k f (omega arith), (none_above k f fs (omega arith) r.0).0, le-ltb f k (omega arith))
  | same e ↦ simp (le-leb f k (omega arith), eq-eqb k f e, (none_above k f fs (omega arith) r.0).1, le-ltb f k (omega arith))
  | more h ↦
      elim (test (has_key k fs)) [
        | is e ↦ simp (le-leb f k (omega arith), ne_eqb k f (omega arith), lt-ltb f k h, e) (ap suc (simp e at (counts k fs r.1)))
        | isnt e ↦ simp (le-leb f k (omega arith), ne_eqb k f (omega arith), lt-ltb f k h, e) (ap suc (simp e at (counts k fs r.1)))
      ]
]

-- k stands in the keys fs at place i, or would, and up of them are not above it
pub record Stops (k : ℕ) (fs : List ℕ) (i up : ℕ) : Type 0 where
  pub most : i ≤ up
  pub few : up ≤ length fs
  pub place : i ≡ key_place k fs
  pub upto_is : up ≡ upto k fs

module _ (k : ℕ) (fs : List ℕ) (i : ℕ) (r : KeysRise fs) where
  pub stops_here : Ok i ≡ searched k fs → Stops k fs i (i + 1)
  unfolding searched
  stops_here e = elim (test (has_key k fs)) [
    | is h ↦
        let z : Ok i ≡ Ok (key_place k fs) = simp h at e in
        let y : i ≡ key_place k fs = cc in
        let x : upto k fs ≡ suc (key_place k fs) = simp h at (counts k fs r) in
        record { most = omega arith; few = omega (arith, upto-length k fs); place = y; upto_is = omega arith }
    | isnt h ↦ absurd (let z : Ok i ≡ Err (key_place k fs) = simp h at e in let y : ◌≡◌ {A = ℕ} 0 1 = cc in omega arith)
  ]

  pub stops_absent : Err i ≡ searched k fs → Stops k fs i i
  unfolding searched
  stops_absent e = elim (test (has_key k fs)) [
    | is h ↦ absurd (let z : Err i ≡ Ok (key_place k fs) = simp h at e in let y : ◌≡◌ {A = ℕ} 0 1 = cc in omega arith)
    | isnt h ↦
        let z : Err i ≡ Err (key_place k fs) = simp h at e in
        let y : i ≡ key_place k fs = cc in
        let x : upto k fs ≡ key_place k fs = simp h at (counts k fs r) in
        record { most = omega arith; few = omega (arith, upto-length k fs); place = y; upto_is = omega arith }
  ]

-- Keys rise

pub stored_rise : (xs : List Item) → Rising xs → KeysRise (stored xs)
stored_rise [] r = tt
stored_rise (x ∷ xs) r = r.1

-- and so in each node of a row in which they rise
pub items_rise : (R : Row) (j : ℕ) → Rising (joined R) → Rising (items_at R j)
items_rise [] j r = tt
items_rise (n ∷ R) zero r = rising_left n.items (joined R) r
items_rise (n ∷ R) (suc j) r = items_rise R j (rising_right n.items (joined R) r)

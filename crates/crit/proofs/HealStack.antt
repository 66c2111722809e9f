-- DEFINITIONS and PROOFS. Rows stacked while a tree heals. The first key of a row stands nowhere in the words, so rows are stacked up to it
use mathlib.Core.Path.{◌≡◌, refl, sym, ap, ◌∙◌}
use mathlib.Core.List.{List, [], ◌∷◌, map}
use mathlib.Core.Bool.{true, cond}
use Prim.Native.Nat.{ℕ, zero, suc, ◌-◌, ◌≤◌, ◌<◌}
use native.Mathlib.Omega.{arith}
use lib.ListN.{length, drop, get_or, length-map, get_or-map}
use lib.Dec.{ltb, eqb}
use borrow.Author.Tests.{lt-ltb, ltb-true, ltb-false, eqb-true, eqb-false}
use Rattle.forest.specs.Lists.{remove_at, sum, parent, offset}
use Rattle.forest.specs.Pairs.{Item}
use Rattle.forest.specs.Rows.{Row, size, front, nums, sizes, joined, line, items_at, Fill, rekey, refresh}
use Rattle.forest.proofs.ListLaws.{is, isnt, test, map-remove_at}
use Rattle.forest.proofs.RowLaws.{sum-sizes, length-line, parent_there, offset_there}
use Rattle.crit.proofs.HealRows.{upd, rekey_at, length-rekey_at, rekeyed_joined, upd-line, upd-nums, upd-sizes}
pub use Rattle.pool.proofs.Held.{line_same}
pub use Rattle.crit.specs.Paths.{val, Alike, Stacked}

-- Groups: the place after i
abbrev pub Some : List ℕ → Type 0
Some [] = Unit {0}
Some (g ∷ gs) = (1 ≤ g) × Some gs

pub data Next (gs : List ℕ) (i : ℕ) : Type 0 where
  within : suc (offset gs i) < get_or gs (parent gs i) 0 → parent gs (suc i) ≡ parent gs i → offset gs (suc i) ≡ suc (offset gs i) → Next gs i
  across : suc (offset gs i) ≡ get_or gs (parent gs i) 0 → parent gs (suc i) ≡ suc (parent gs i) → offset gs (suc i) ≡ 0 → Next gs i

pub first : (gs : List ℕ) → Some gs → 1 ≤ sum gs → (parent gs 0 ≡ 0) × (offset gs 0 ≡ 0)
first [] p h = absurd (omega arith)
first (g ∷ gs) p h = simp (lt-ltb 0 g p.0) (refl, refl)

pub next : (gs : List ℕ) (i : ℕ) → Some gs → suc i < sum gs → Next gs i
next [] i p h = absurd (omega arith)
next (g ∷ gs) i p h = elim (test (ltb (suc i) g)) [
  | is e ↦
      let a = ltb-true (suc i) g e in
      let b : ltb i g ≡ true = lt-ltb i g (omega arith) in
      within (simp b a) (simp (e, b)) (simp (e, b))
  | isnt e ↦
      let a = ltb-false (suc i) g e in
      elim (test (ltb i g)) [
        | is f ↦
            let b = ltb-true i g f in
            let z : suc i - g ≡ 0 = omega arith in
            let q = first gs p.1 (omega arith) in
            across (simp f (omega arith)) (simp (e, f, z) (ap suc q.0)) (simp (e, z) q.1)
        | isnt f ↦
            let b = ltb-false i g f in
            let z : suc i - g ≡ suc (i - g) = omega arith in
            elim (next gs (i - g) p.1 (omega arith)) [
              | within u v w ↦ within (simp f u) (simp (e, f, z) (ap suc v)) (simp (e, f, z) w)
              | across u v w ↦ across (simp f u) (simp (e, f, z) (ap suc v)) (simp (e, z) w)
            ]
      ]
]

pub last : (gs : List ℕ) (i : ℕ) → Some gs → suc i ≡ sum gs → (suc (offset gs i) ≡ get_or gs (parent gs i) 0) × (suc (parent gs i) ≡ length gs)
last [] i p h = absurd (omega arith)
last (g ∷ gs) i p h = elim (test (ltb i g)) [
  | is e ↦
      let a = ltb-true i g e in
      simp e (omega arith, ap suc (sym (none gs p.1 (omega arith))))
  | isnt e ↦
      let a = ltb-false i g e in
      let q = last gs (i - g) p.1 (omega arith) in
      simp e (q.0, ap suc q.1)
]
  where
    none : (gs : List ℕ) → Some gs → sum gs ≡ 0 → length gs ≡ 0
    none [] p h = refl
    none (g ∷ gs) p h = absurd (omega arith)

pub fill_some : (lo hi : ℕ) (gs : List ℕ) → 1 ≤ lo → Fill lo hi gs → Some gs
fill_some lo hi [] a f = tt
fill_some lo hi (g ∷ []) a f = (f.0, tt)
fill_some lo hi (g ∷ g' ∷ gs) a f = (omega arith, fill_some lo hi (g' ∷ gs) a f.2)

pub some_at : (gs : List ℕ) (i : ℕ) → Some gs → i < length gs → 1 ≤ get_or gs i 0
some_at [] i p h = absurd (omega arith)
some_at (g ∷ gs) zero p h = p.0
some_at (g ∷ gs) (suc i) p h = some_at gs i p.1 (omega arith)

pub some_sum : (gs : List ℕ) → Some gs → 1 ≤ length gs → 1 ≤ sum gs
some_sum [] p h = absurd (omega arith)
some_sum (g ∷ gs) p h = omega arith

pub alike_same : {xs ys : List Item} → xs ≡ ys → Alike xs ys
alike_same e = record { vals = ap (map val) e; rest = ap (drop 1) e }

pub alike_sym : {xs ys : List Item} → Alike xs ys → Alike ys xs
alike_sym a = record { vals = sym a.vals; rest = sym a.rest }

pub alike_trans : {xs ys zs : List Item} → Alike xs ys → Alike ys zs → Alike xs zs
alike_trans a b = record { vals = a.vals ∙ b.vals; rest = a.rest ∙ b.rest }

pub alike_length : {xs ys : List Item} → Alike xs ys → length xs ≡ length ys
alike_length {xs} {ys} a = sym (length-map xs val) ∙ ap length a.vals ∙ length-map ys val

drop-suc : (d : Item) (xs : List Item) (i : ℕ) → get_or xs (suc i) d ≡ get_or (drop 1 xs) i d
drop-suc d [] i = refl
drop-suc d (x ∷ xs) i = refl

pub alike_at : {xs ys : List Item} (d : Item) (i : ℕ) → Alike xs ys → get_or xs (suc i) d ≡ get_or ys (suc i) d
alike_at {xs} {ys} d i a = drop-suc d xs i ∙ ap (λ (l : List Item). get_or l i d) a.rest ∙ sym (drop-suc d ys i)

pub alike_val : {xs ys : List Item} (d : Item) (i : ℕ) → Alike xs ys → (get_or xs i d).1 ≡ (get_or ys i d).1
alike_val {xs} {ys} d i a = sym (get_or-map val xs i d) ∙ ap (λ (l : List ℕ). get_or l i d.1) a.vals ∙ get_or-map val ys i d

drop-rekey : (i k : ℕ) (xs : List Item) → drop 1 (rekey_at (suc i) k xs) ≡ rekey_at i k (drop 1 xs)
drop-rekey i k [] = refl
drop-rekey i k (x ∷ xs) = refl

pub vals_rekey : (i k : ℕ) (xs : List Item) → map val (rekey_at i k xs) ≡ map val xs
vals_rekey i k [] = refl
vals_rekey zero k (x ∷ xs) = refl
vals_rekey (suc i) k (x ∷ xs) = ap (x.1 ∷◌) (vals_rekey i k xs)

rest-rekey : (k : ℕ) (xs : List Item) → drop 1 (rekey_at zero k xs) ≡ drop 1 xs
rest-rekey k [] = refl
rest-rekey k (x ∷ xs) = refl

pub alike_rekey : {xs ys : List Item} (i k : ℕ) → Alike xs ys → Alike (rekey_at i k xs) (rekey_at i k ys)
alike_rekey {xs} {ys} zero k a = record { vals = vals_rekey 0 k xs ∙ a.vals ∙ sym (vals_rekey 0 k ys); rest = rest-rekey k xs ∙ a.rest ∙ sym (rest-rekey k ys) }
alike_rekey {xs} {ys} (suc i) k a = record {
  vals = vals_rekey (suc i) k xs ∙ a.vals ∙ sym (vals_rekey (suc i) k ys);
  rest = drop-rekey i k xs ∙ ap (rekey_at i k) a.rest ∙ sym (drop-rekey i k ys);
}

pub alike_first : (k : ℕ) (xs : List Item) → Alike (rekey_at 0 k xs) xs
alike_first k xs = record { vals = vals_rekey 0 k xs; rest = rest-rekey k xs }

rest_remove : (i : ℕ) (xs : List Item) → drop 1 (remove_at (suc i) xs) ≡ remove_at i (drop 1 xs)
rest_remove i [] = refl
rest_remove i (x ∷ xs) = refl

remove_zero : (xs : List Item) → remove_at 0 xs ≡ drop 1 xs
remove_zero [] = refl
remove_zero (x ∷ xs) = refl

pub alike_remove : {xs ys : List Item} (i : ℕ) → Alike xs ys → Alike (remove_at i xs) (remove_at i ys)
alike_remove {xs} {ys} zero a = alike_same (remove_zero xs ∙ a.rest ∙ sym (remove_zero ys))
alike_remove {xs} {ys} (suc i) a = record {
  vals = map-remove_at val (suc i) xs ∙ ap (remove_at (suc i)) a.vals ∙ sym (map-remove_at val (suc i) ys);
  rest = rest_remove i xs ∙ ap (remove_at i) a.rest ∙ sym (rest_remove i ys);
}

pub stacked-line : (R R' : Row) (Ss : List Row) → Alike (line R) (line R') → Stacked R Ss → Stacked R' Ss
stacked-line R R' [] a s = sym (length-line R') ∙ sym (alike_length a) ∙ length-line R ∙ s
stacked-line R R' (S ∷ Ss) a s = (alike_trans s.0 a, s.1, s.2)

pub stacked-sum : (R S : Row) → Alike (joined S) (line R) → sum (sizes S) ≡ length R
stacked-sum R S a = sum-sizes S ∙ alike_length a ∙ length-line R

-- The key of the i-th node below changes: in every row up to the first where it isn't the front
abbrev pub set_key : ℕ → ℕ → List Row → List Row
set_key i k [] = []
set_key i k (S ∷ Ss) =
    upd (parent (sizes S) i) (rekey_at (offset (sizes S) i) k) S ∷
    cond (eqb (offset (sizes S) i) 0) (set_key (parent (sizes S) i) k Ss) Ss

front-rekey : (k : ℕ) (xs : List Item) → 1 ≤ length xs → front (rekey_at 0 k xs) ≡ k
front-rekey k [] h = absurd (omega arith)
front-rekey k (x ∷ xs) h = refl

front_later : (i k : ℕ) (xs : List Item) → front (rekey_at (suc i) k xs) ≡ front xs
front_later i k [] = refl
front_later i k (x ∷ xs) = refl

pub set_key_stacked : (R R' : Row) (Ss : List Row) (i k : ℕ) → i < length R → Alike (rekey_at i k (line R)) (line R') → Stacked R Ss → Stacked R' (set_key i k Ss)
set_key_stacked R R' [] i k h a s = sym (length-line R') ∙ sym (alike_length a) ∙ length-rekey_at i k (line R) ∙ length-line R ∙ s
set_key_stacked R R' (S ∷ Ss) i k h a s =
    let u : sum (sizes S) ≡ length R = stacked-sum R S s.0 in
    let b : i < sum (sizes S) = omega arith in
    let par = parent (sizes S) i in
    let off = offset (sizes S) i in
    let pl : parent (sizes S) i < length S = parent_there S i b in
    let ol : offset (sizes S) i < length (items_at S (parent (sizes S) i)) = offset_there S i b in
    let S' = upd (parent (sizes S) i) (rekey_at (offset (sizes S) i) k) S in
    let z : sizes S' ≡ sizes S = upd-sizes (parent (sizes S) i) (rekey_at (offset (sizes S) i) k) S (length-rekey_at (offset (sizes S) i) k (items_at S (parent (sizes S) i))) in (
      alike_trans (alike_trans (alike_same (rekeyed_joined k S i b)) (alike_rekey i k s.0)) a,
      rw z s.1,
      elim (test (eqb (offset (sizes S) i) 0)) [
        | is e ↦ simp e (
            let q : offset (sizes S) i ≡ 0 = eqb-true _ _ e in
            let f : front (rekey_at (offset (sizes S) i) k (items_at S (parent (sizes S) i))) ≡ k = rw q (front-rekey k (items_at S (parent (sizes S) i)) (omega arith)) in
            set_key_stacked S S' Ss (parent (sizes S) i) k pl
            (alike_same (sym (upd-line (parent (sizes S) i) (rekey_at (offset (sizes S) i) k) S ∙ ap (λ (x : ℕ). rekey_at (parent (sizes S) i) x (line S)) f))) s.2)
        | isnt e ↦ simp e (
            stacked-line S S' Ss (alike_same (sym (line_same (parent (sizes S) i) (rekey_at (offset (sizes S) i) k) S (later (offset (sizes S) i) (eqb-false _ _ e) (items_at S (parent (sizes S) i)))))) s.2)
      ],
    )
  where
    later : (o : ℕ) → (o ≡ 0 → ⊥) → (xs : List Item) → front (rekey_at o k xs) ≡ front xs
    later zero n xs = absurd (n refl)
    later (suc o) n xs = front_later o k xs

-- numbers and sizes stay
pub data SameShape : List Row → List Row → Type 0 where
  none : SameShape [] []
  also : {S S' : Row} {Ss Ss' : List Row} → nums S ≡ nums S' → sizes S ≡ sizes S' → SameShape Ss Ss' → SameShape (S ∷ Ss) (S' ∷ Ss')

pub same_refl : (Ss : List Row) → SameShape Ss Ss
same_refl [] = none
same_refl (S ∷ Ss) = also refl refl (same_refl Ss)

pub same_sym : {Ss Ss' : List Row} → SameShape Ss Ss' → SameShape Ss' Ss
same_sym none = none
same_sym (also a b r) = also (sym a) (sym b) (same_sym r)

pub same_trans : {As Bs Cs : List Row} → SameShape As Bs → SameShape Bs Cs → SameShape As Cs
same_trans none t = t
same_trans (also a b r) (also c d t) = also (a ∙ c) (b ∙ d) (same_trans r t)

pub set_key_shape : (i k : ℕ) (Ss : List Row) → SameShape (set_key i k Ss) Ss
set_key_shape i k [] = none
set_key_shape i k (S ∷ Ss) =
    let r : SameShape (cond (eqb (offset (sizes S) i) 0) (set_key (parent (sizes S) i) k Ss) Ss) Ss =
    elim (test (eqb (offset (sizes S) i) 0)) [ is e ↦ simp e (set_key_shape (parent (sizes S) i) k Ss) | isnt e ↦ simp e (same_refl Ss) ] in
    also (upd-nums (parent (sizes S) i) (rekey_at (offset (sizes S) i) k) S)
    (upd-sizes (parent (sizes S) i) (rekey_at (offset (sizes S) i) k) S (length-rekey_at (offset (sizes S) i) k (items_at S (parent (sizes S) i)))) r

-- Rows of one shape are the same once they are brought up to date
pub rekey-shape : (xs : List Item) (S S' : Row) → nums S ≡ nums S' → sizes S ≡ sizes S' → rekey xs S ≡ rekey xs S'
rekey-shape xs [] [] a b = refl
rekey-shape xs [] (n ∷ S') a b = absurd (let z = ap length a in omega arith)
rekey-shape xs (n ∷ S) [] a b = absurd (let z = ap length a in omega arith)
rekey-shape xs (n ∷ S) (m ∷ S') a b =
    let p : n.num ≡ m.num = cc in
    let q : size n ≡ size m = cc in
    let r : nums S ≡ nums S' = cc in
    let s : sizes S ≡ sizes S' = cc in
    rw (p, q, rekey-shape (drop (size m) xs) S S' r s)

pub refresh-shape : (R : Row) {Ss Ss' : List Row} → SameShape Ss Ss' → refresh R Ss ≡ refresh R Ss'
refresh-shape R none = refl
refresh-shape R (also {S} {S'} {Ss} {Ss'} a b r) =
    let e = rekey-shape (line R) S S' a b in
    rw e (ap (rekey (line R) S' ∷◌) (refresh-shape (rekey (line R) S') r))

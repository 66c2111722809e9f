-- DEFINITIONS and PROOFS. What the operations on words and the functions of the cycle do to rows; a drop goes by numbers and sizes only
use mathlib.Core.Path.{◌≡◌, refl, sym, ap, ◌∙◌}
use mathlib.Core.List.{List, [], ◌∷◌, ◌++◌}
use mathlib.Core.Bool.{Bool, true, false, cond}
use Prim.Native.Nat.{ℕ, zero, suc, ◌+◌, ◌-◌, ◌*◌, ◌≤◌, ◌<◌, min}
use native.Mathlib.Omega.{arith}
use lib.ListN.{length, take, get_or, length-append, length-take, length-drop}
use lib.Dec.{ltb, eqb, leb}
use borrow.Author.Tests.{ltb-true, ltb-false}
use Rattle.forest.specs.Lists.{remove_at, sum, count, pad, parent, offset}
use Rattle.forest.specs.Pairs.{Item}
use Rattle.forest.specs.Rows.{Node, Row, size, nums, sizes, items_at, drop_row, alone, heal, without}
use Rattle.forest.specs.Trees.{numbers, drop_at, drop_up, freed_up, lost}
use Rattle.forest.specs.Pools.{push_all}
use Rattle.forest.proofs.ListLaws.{is, isnt, test, cons_eq, map-append}
use Rattle.crit.specs.States.{State}
pub use Rattle.heal.specs.Kinds.{Lawful}
use Rattle.crit.proofs.HealRows
use Rattle.crit.proofs.HealStack
use Rattle.crit.proofs.HealMem
use Rattle.crit.proofs.HealPath
use Rattle.heal.proofs.HealMend
use Rattle.heal.proofs.HealStep
use Rattle.forest.proofs.UniqueLaws.{nums-length}

-- where the cursor stands: on position j of n, or off the end
pub data Where (n j : ℕ) (on : Type 0) (before after : Bool) : Type 0 where
  here : j < n → on → after ≡ before → Where n j on before after
  past : n ≤ j → after ≡ false → Where n j on before after

-- what empty_node leaves of the rows above R', when the j-th node below them, num, goes
pub record Exit (R' : Row) (j num : ℕ) (Ss : List Row) (s s' : State) : Type 0 where
  pub rows : List Row
  pub shape : HealStack.SameShape rows (drop_up j Ss)
  pub stacked : HealStack.Stacked R' rows
  pub up : HealMem.HoldsUp s'.st rows
  pub keeps : HealMem.Keeps s.st s'.st (num ∷ numbers Ss)
  pub zeros : (x : ℕ) → 1 ≤ count x (num ∷ numbers Ss) → count x (numbers rows) ≡ 0 → s'.st x ≡ pad 16 []
  pub free : s'.free ≡ push_all (num ∷ freed_up j Ss) s.free
  pub deeper : (l : ℕ) → length Ss < l → s'.ns l ≡ s.ns l
  pub places : (l : ℕ) → length Ss ≤ l → s'.ps l ≡ s.ps l
  pub stands : Where (length R') j (HealPath.Leads R' j rows s'.ns s'.ps) s.live s'.live

-- `up` is right as empty_node at level l
abbrev pub Heals : (State → State) → ℕ → Type 0
Heals up l =
    (R R' : Row) (j : ℕ) (Ss : List Row) (s : State) → length Ss ≡ l → HealStep.Gap R' R j → j < length R → 2 ≤ length R → HealStack.Stacked R Ss →
    HealMem.Once (HealRows.num_at R j ∷ numbers Ss) → HealMem.HoldsUp s.st Ss → HealPath.Leads R j Ss s.ns s.ps → Exit R' j (HealRows.num_at R j) Ss s (up s)

-- what heal_level leaves of a row S cut at position i, and of the rows above it: the row is now M
pub record Mended (enc : List Item → List ℕ) (M : Row) (went : Bool) (i : ℕ) (S : Row) (Ss : List Row) (s s' : State) : Type 0 where
  pub rows : List Row
  pub shape : HealStack.SameShape rows (cond went (drop_up (parent (sizes S) i) Ss) Ss)
  pub stacked : HealStack.Stacked M rows
  pub row : HealMem.Holds enc s'.st M
  pub up : HealMem.HoldsUp s'.st rows
  pub keeps : HealMem.Keeps s.st s'.st (nums S ++ numbers Ss)
  pub zeros : (x : ℕ) → 1 ≤ count x (nums S) + count x (numbers Ss) → count x (nums M) + count x (numbers rows) ≡ 0 → s'.st x ≡ pad 16 []
  pub free : s'.free ≡ push_all (cond went (HealRows.num_at S (parent (sizes S) i) ∷ freed_up (parent (sizes S) i) Ss) []) s.free
  pub deeper : (l : ℕ) → length Ss < l → s'.ns l ≡ s.ns l
  pub places : (l : ℕ) → length Ss < l → s'.ps l ≡ s.ps l
  pub stands : Where (sum (sizes M)) i ((s'.ps (length Ss) ≡ offset (sizes M) i) × HealPath.Leads M (parent (sizes M) i) rows s'.ns s'.ps) s.live s'.live

-- Laws on sizes
pub sizes_before : (j : ℕ) (f : List Item → List Item) (R : Row) → take j (sizes (HealRows.upd j f R)) ≡ take j (sizes R)
sizes_before j f [] = refl
sizes_before zero f (n ∷ R) = refl
sizes_before (suc j) f (n ∷ R) = ap (size n ∷◌) (sizes_before j f R)

pub sizes_before_next : (j : ℕ) (f : List Item → List Item) (R : Row) → take j (sizes (HealRows.upd (suc j) f R)) ≡ take j (sizes R)
sizes_before_next j f [] = refl
sizes_before_next zero f (n ∷ R) = refl
sizes_before_next (suc j) f (n ∷ R) = ap (size n ∷◌) (sizes_before_next j f R)

pub sizes_before_remove : (j : ℕ) (R : Row) → take j (sizes (remove_at j R)) ≡ take j (sizes R)
sizes_before_remove j [] = refl
sizes_before_remove zero (n ∷ R) = refl
sizes_before_remove (suc j) (n ∷ R) = ap (size n ∷◌) (sizes_before_remove j R)

pub merged_size : (j : ℕ) (R : Row) → suc j < length R → get_or (sizes (HealMend.merge_at j R)) j 0 ≡ length (items_at R j) + length (items_at R (suc j))
merged_size j [] h = absurd (omega arith)
merged_size zero (n ∷ []) h = absurd (omega arith)
merged_size zero (n ∷ m ∷ R) h = length-append n.items m.items
merged_size (suc j) (n ∷ R) h = merged_size j R (omega arith)

pub items-next : (j : ℕ) (f : List Item → List Item) (R : Row) → items_at (HealRows.upd (suc j) f R) j ≡ items_at R j
items-next j f [] = refl
items-next zero f (n ∷ R) = refl
items-next (suc j) f (n ∷ R) = items-next j f R

-- A drop goes by numbers and sizes only
length-remove_at_same : (p : ℕ) (xs ys : List Item) → length xs ≡ length ys → length (remove_at p xs) ≡ length (remove_at p ys)
length-remove_at_same p [] [] e = refl
length-remove_at_same p [] (y ∷ ys) e = absurd (omega arith)
length-remove_at_same p (x ∷ xs) [] e = absurd (omega arith)
length-remove_at_same zero (x ∷ xs) (y ∷ ys) e = omega arith
length-remove_at_same (suc p) (x ∷ xs) (y ∷ ys) e = ap suc (length-remove_at_same p xs ys (omega arith))

heal-shape : (c : ℕ) (n n' m m' : Node) → n.num ≡ n'.num → size n ≡ size n' → m.num ≡ m'.num → size m ≡ size m' → (nums (heal c n m) ≡ nums (heal c n' m')) × (sizes (heal c n m) ≡ sizes (heal c n' m'))
unfolding heal
heal-shape c n n' m m' a b a' b' =
    let l : length (n.items ++ m.items) ≡ length (n'.items ++ m'.items) = length-append n.items m.items ∙ rw (b, b') (sym (length-append n'.items m'.items)) in
    elim (test (leb c (2 * size n'))) [
      | is e ↦
          let e2 : leb c (2 * size n) ≡ true = rw b e in
          simp (e, e2) (cons_eq a (cons_eq a' refl), cons_eq b (cons_eq b' refl))
      | isnt e ↦
          let e2 : leb c (2 * size n) ≡ false = rw b e in
          elim (test (leb (size n' + size m') c)) [
            | is f ↦
                let f2 : leb (size n + size m) c ≡ true = rw (b, b') f in
                simp (e, e2, f, f2) (cons_eq a' refl, cons_eq l refl)
            | isnt f ↦
                let f2 : leb (size n + size m) c ≡ false = rw (b, b') f in
                simp (e, e2, f, f2, length-take, length-drop) (rw l (cons_eq a (cons_eq a' refl), refl))
          ]
    ]

pub drop-shape : (c j p : ℕ) (R R' : Row) → nums R ≡ nums R' → sizes R ≡ sizes R' → (nums (drop_row c j p R) ≡ nums (drop_row c j p R')) × (sizes (drop_row c j p R) ≡ sizes (drop_row c j p R'))
unfolding alone heal
drop-shape c j p [] [] a b = (refl, refl)
drop-shape c j p [] (n ∷ R') a b = absurd (let z = ap length a in omega arith)
drop-shape c j p (n ∷ R) [] a b = absurd (let z = ap length a in omega arith)
drop-shape c zero p (n ∷ []) (n' ∷ []) a b =
    let e : n.num ≡ n'.num = cc in
    let f : size n ≡ size n' = cc in
    let g = length-remove_at_same p n.items n'.items f in
    elim (test (eqb (size (without p n')) 0)) [
      | is h ↦ let h2 : eqb (size (without p n)) 0 ≡ true = rw g h in simp (h, h2) (refl, refl)
      | isnt h ↦ let h2 : eqb (size (without p n)) 0 ≡ false = rw g h in simp (h, h2) (cons_eq e refl, cons_eq g refl)
    ]
drop-shape c zero p (n ∷ []) (n' ∷ m' ∷ R') a b = absurd (let z = ap length a in omega arith)
drop-shape c zero p (n ∷ m ∷ R) (n' ∷ []) a b = absurd (let z = ap length a in omega arith)
drop-shape c zero p (n ∷ m ∷ R) (n' ∷ m' ∷ R') a b =
    let e : n.num ≡ n'.num = cc in
    let f : size n ≡ size n' = cc in
    let e2 : m.num ≡ m'.num = cc in
    let f2 : size m ≡ size m' = cc in
    let r : nums R ≡ nums R' = cc in
    let t : sizes R ≡ sizes R' = cc in
    let z = heal-shape c (without p n) (without p n') m m' e (length-remove_at_same p n.items n'.items f) e2 f2 in (
      map-append (λ (n : Node). n.num) (heal c (without p n) m) R ∙ rw (z.0, r) (sym (map-append (λ (n : Node). n.num) (heal c (without p n') m') R')),
      map-append size (heal c (without p n) m) R ∙ rw (z.1, t) (sym (map-append size (heal c (without p n') m') R')),
    )
drop-shape c (suc j) p (n ∷ R) (n' ∷ R') a b =
    let z = drop-shape c j p R R' (let q : nums R ≡ nums R' = cc in q) (let q : sizes R ≡ sizes R' = cc in q) in
    let e : n.num ≡ n'.num = cc in
    let f : size n ≡ size n' = cc in
    (cons_eq e z.0, cons_eq f z.1)

pub some_upd : (j : ℕ) (f : List Item → List Item) (R : Row) → HealStack.Some (sizes R) → 1 ≤ length (f (items_at R j)) → HealStack.Some (sizes (HealRows.upd j f R))
some_upd j f [] p h = tt
some_upd zero f (n ∷ R) p h = (h, p.1)
some_upd (suc j) f (n ∷ R) p h = (p.0, some_upd j f R p.1 h)

pub not_last : (gs : List ℕ) (i : ℕ) → HealStack.Some gs → i < sum gs → suc (parent gs i) < length gs → suc i < sum gs
not_last [] i p b h = absurd (omega arith)
not_last (g ∷ gs) i p b h = elim (test (ltb i g)) [
  | is e ↦ let z : 1 < suc (length gs) = simp e at h in let y = ltb-true i g e in let x = HealStack.some_sum gs p.1 (omega arith) in omega arith
  | isnt e ↦
      let z : suc (suc (parent gs (i - g))) < suc (length gs) = simp e at h in
      let y = ltb-false i g e in
      let x = not_last gs (i - g) p.1 (omega arith) (omega arith) in omega arith
]

pub drop_up-shape : (i : ℕ) {Ss Ss' : List Row} → HealStack.SameShape Ss Ss' → HealStack.SameShape (drop_up i Ss) (drop_up i Ss')
drop_up-shape i HealStack.none = HealStack.none
drop_up-shape i (HealStack.also {S} {S'} {Ss} {Ss'} a b r) =
    let z = drop-shape 8 (parent (sizes S') i) (offset (sizes S') i) S S' a b in
    let len = nums-length S S' a in
    let len2 = nums-length (drop_row 8 (parent (sizes S') i) (offset (sizes S') i) S) (drop_at i S') z.0 in
    rw b (elim (test (lost (drop_at i S') S')) [
      | is e ↦
          let e2 : lost (drop_row 8 (parent (sizes S') i) (offset (sizes S') i) S) S ≡ true = rw (len, len2) e in
          simp (e, e2) (HealStack.also z.0 z.1 (drop_up-shape (parent (sizes S') i) r))
      | isnt e ↦
          let e2 : lost (drop_row 8 (parent (sizes S') i) (offset (sizes S') i) S) S ≡ false = rw (len, len2) e in
          simp (e, e2) (HealStack.also z.0 z.1 r)
    ])

pub freed_up-shape : (i : ℕ) {Ss Ss' : List Row} → HealStack.SameShape Ss Ss' → freed_up i Ss ≡ freed_up i Ss'
freed_up-shape i HealStack.none = refl
freed_up-shape i (HealStack.also {S} {S'} {Ss} {Ss'} a b r) =
    let z = drop-shape 8 (parent (sizes S') i) (offset (sizes S') i) S S' a b in
    let len = nums-length S S' a in
    let len2 = nums-length (drop_row 8 (parent (sizes S') i) (offset (sizes S') i) S) (drop_at i S') z.0 in
    rw (b, len, len2, a, freed_up-shape (parent (sizes S') i) r)

pub least_of : (a b : ℕ) → a ≤ b → min a b ≡ a
least_of a b h = omega arith

pub remove_upd : (j : ℕ) (f : List Item → List Item) (R : Row) → remove_at j (HealRows.upd j f R) ≡ remove_at j R
remove_upd j f [] = refl
remove_upd zero f (n ∷ R) = refl
remove_upd (suc j) f (n ∷ R) = ap (n ∷◌) (remove_upd j f R)

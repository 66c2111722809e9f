-- PROOFS. A path is of numbers and sizes only, and the path to the right neighbour
use mathlib.Core.Path.{◌≡◌, refl, sym, ap, ◌∙◌}
use mathlib.Core.List.{List, [], ◌∷◌}
use mathlib.Core.Bool.{true, false}
use Prim.Native.Nat.{ℕ, zero, suc, ◌≤◌, ◌<◌}
use native.Mathlib.Omega.{arith}
use lib.ListN.{length, get_or, length-map}
use borrow.Author.Tests.{lt-ltb, le-ltb, eq-eqb, ne_eqb}
use Rattle.forest.specs.Lists.{sum, parent, offset}
use Rattle.forest.specs.Pairs.{Item}
use Rattle.forest.specs.Rows.{Row, size, nums, sizes, items_at}
use Rattle.forest.specs.Trees.{numbers}
use Rattle.forest.specs.Pools.{inner_words}
use Rattle.forest.proofs.ListLaws.{is, isnt, test}
use Rattle.forest.proofs.RowLaws.{length-items, parent_there}
use Rattle.crit.proofs.HealRows
use Rattle.crit.proofs.HealStack
use Rattle.crit.proofs.HealMem
use Rattle.crit.proofs.HealPath
pub use Rattle.crit.specs.States.{at, next_at}

-- a path is of numbers and sizes only
pub num_at-nums : (R : Row) (j : ℕ) → HealRows.num_at R j ≡ get_or (nums R) j 0
num_at-nums [] j = refl
num_at-nums (n ∷ R) zero = refl
num_at-nums (n ∷ R) (suc j) = num_at-nums R j

pub num_at_same : (R R' : Row) (j : ℕ) → nums R ≡ nums R' → HealRows.num_at R j ≡ HealRows.num_at R' j
num_at_same R R' j e = num_at-nums R j ∙ ap (λ (l : List ℕ). get_or l j 0) e ∙ sym (num_at-nums R' j)

pub shape-length : {Ss Ss' : List Row} → HealStack.SameShape Ss Ss' → length Ss ≡ length Ss'
shape-length HealStack.none = refl
shape-length (HealStack.also a b r) = ap suc (shape-length r)

pub shape-numbers : {Ss Ss' : List Row} → HealStack.SameShape Ss Ss' → numbers Ss ≡ numbers Ss'
shape-numbers HealStack.none = refl
shape-numbers (HealStack.also a b r) = rw (a, shape-numbers r)

pub path_shape : (R R' : Row) (j : ℕ) {Ss Ss' : List Row} (ns ps : ℕ → ℕ) → HealRows.num_at R j ≡ HealRows.num_at R' j → HealStack.SameShape Ss Ss' → HealPath.Leads R j Ss ns ps → HealPath.Leads R' j Ss' ns ps
path_shape R R' j ns ps e HealStack.none p = p ∙ e
path_shape R R' j ns ps e (HealStack.also {S} {S'} {Ss} {Ss'} a b r) p =
    let l = shape-length r in (
      rw (← l) (p.0 ∙ e),
      rw (← l) (p.1 ∙ ap (λ (g : List ℕ). offset g j) b),
      path_shape S S' (parent (sizes S') j) ns ps (num_at_same S S' (parent (sizes S') j) a) r (rw b at p.2),
    )

-- a path reads no deeper than its row
pub path_deeper : (R : Row) (j : ℕ) (Ss : List Row) (ns ps ns' ps' : ℕ → ℕ) → ((l : ℕ) → l ≤ length Ss → ns' l ≡ ns l) → ((l : ℕ) → l < length Ss → ps' l ≡ ps l) → HealPath.Leads R j Ss ns ps → HealPath.Leads R j Ss ns' ps'
path_deeper R j [] ns ps ns' ps' a b p = a 0 (omega arith) ∙ p
path_deeper R j (S ∷ Ss) ns ps ns' ps' a b p = (
  a (suc (length Ss)) (omega arith) ∙ p.0,
  b (length Ss) (omega arith) ∙ p.1,
  path_deeper S (parent (sizes S) j) Ss ns ps ns' ps' (λ l h. a l (omega arith)) (λ l h. b l (omega arith)) p.2,
)

module _ (st : HealMem.Store) (ns ps : ℕ → ℕ) where
  pub next_deeper : (l x : ℕ) → (l < x → (next_at st ns ps l).0 x ≡ ns x) × (l ≤ x → (next_at st ns ps l).1 x ≡ ps x)
  next_deeper zero x = ((λ _. refl), (λ _. refl))
  next_deeper (suc l) x = elim (test (HealPath.more st ns ps l)) [
    | is e ↦ simp e ((λ q. simp (ne_eqb x (suc l) (omega arith))), (λ q. simp (ne_eqb x l (omega arith))))
    | isnt e ↦
        let z = next_deeper l x in
        simp e ((λ q. simp (ne_eqb x (suc l) (omega arith)) (z.0 (omega arith))), (λ q. simp (ne_eqb x l (omega arith)) (z.1 (omega arith))))
  ]

  pub next_path_lem : (R : Row) (j : ℕ) (Ss : List Row) → suc j < length R → HealStack.Stacked R Ss → HealMem.HoldsUp st Ss → HealPath.Leads R j Ss ns ps →
      HealPath.Leads R (suc j) Ss (next_at st ns ps (length Ss)).0 (next_at st ns ps (length Ss)).1
  next_path_lem R j [] h s hu p = absurd (omega arith)
  next_path_lem R j (S ∷ Ss) h s hu p =
      let u : sum (sizes S) ≡ length R = HealStack.stacked-sum R S s.0 in
      let r = HealPath.here st ns ps S Ss j (omega arith) s.1 hu.0 p.1 p.2 in
      let m = HealPath.more_is st ns ps r in
      let big = HealStack.fill_some 4 8 (sizes S) (omega arith) s.1 in
      let q : (get_or (items_at S (parent (sizes S) (suc j))) (offset (sizes S) (suc j)) (0, 0)).1 ≡ HealRows.num_at R (suc j) =
      ap (λ (x : Item). x.1) (sym (HealRows.item_at (0, 0) S (suc j) (omega arith)) ∙ HealStack.alike_at (0, 0) j s.0 ∙ HealRows.line_at (0, 0) R (suc j) h) in
      elim (HealStack.next (sizes S) j big (omega arith)) [
        | HealStack.within x y z ↦
            let g : suc (offset (sizes S) j) < length (items_at S (parent (sizes S) j)) = omega (arith, r.wide) in
            let e : HealPath.more st ns ps (length Ss) ≡ true = m ∙ lt-ltb (suc (offset (sizes S) j)) (length (items_at S (parent (sizes S) j))) g in
            let q' = rw (y, z) at q in
            simp e (
              simp (eq-eqb (suc (length Ss)) (suc (length Ss)) refl) (rw (r.words, r.place) (HealPath.inner_child (items_at S (parent (sizes S) j)) (suc (offset (sizes S) j)) (omega (arith, r.few)) ∙ q')),
              simp (eq-eqb (length Ss) (length Ss) refl) (ap suc r.place ∙ sym z),
              rw y (path_deeper S (parent (sizes S) j) Ss ns ps (at ns (suc (length Ss)) _) (at ps (length Ss) _)
                  (λ l b. simp (ne_eqb l (suc (length Ss)) (omega arith))) (λ l b. simp (ne_eqb l (length Ss) (omega arith))) p.2),
            )
        | HealStack.across x y z ↦
            let e : HealPath.more st ns ps (length Ss) ≡ false = m ∙ le-ltb (suc (offset (sizes S) j)) (length (items_at S (parent (sizes S) j))) (omega (arith, r.wide)) in
            let n2 : suc (parent (sizes S) j) < length S = rw y at (parent_there S (suc j) (omega arith)) in
            let q' = rw (y, z) at q in
            let l2 = length-items S (suc (parent (sizes S) j)) in
            let one : 1 ≤ length (items_at S (suc (parent (sizes S) j))) = rw l2 (HealStack.some_at (sizes S) (suc (parent (sizes S) j)) big (rw (length-map S size) n2)) in
            let ih = next_path_lem S (parent (sizes S) j) Ss n2 s.2 hu.1 p.2 in
            let w : st ((next_at st ns ps (length Ss)).0 (length Ss)) ≡ inner_words (items_at S (suc (parent (sizes S) j))) =
            ap st (HealPath.path_node S (suc (parent (sizes S) j)) Ss (next_at st ns ps (length Ss)).0 (next_at st ns ps (length Ss)).1 ih) ∙ HealMem.holds_at inner_words st S (suc (parent (sizes S) j)) n2 hu.0 in
            simp e (
              simp (eq-eqb (suc (length Ss)) (suc (length Ss)) refl) (rw w (HealPath.inner_child (items_at S (suc (parent (sizes S) j))) 0 (omega arith) ∙ q')),
              simp (eq-eqb (length Ss) (length Ss) refl) (sym z),
              rw y (path_deeper S (suc (parent (sizes S) j)) Ss (next_at st ns ps (length Ss)).0 (next_at st ns ps (length Ss)).1 (at (next_at st ns ps (length Ss)).0 (suc (length Ss)) _) (at (next_at st ns ps (length Ss)).1 (length Ss) _)
                  (λ l b. simp (ne_eqb l (suc (length Ss)) (omega arith))) (λ l b. simp (ne_eqb l (length Ss) (omega arith))) ih),
            )
      ]

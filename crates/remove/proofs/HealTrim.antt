-- DEFINITIONS and PROOFS. Roots with one child go, from the top
use mathlib.Core.Path.{◌≡◌, refl, sym, ap, ◌∙◌}
use mathlib.Core.List.{List, [], ◌∷◌, ◌++◌, append-nil}
use mathlib.Core.Bool.{true, false}
use Prim.Native.Nat.{ℕ, suc, ◌+◌, ◌-◌, ◌≤◌, ◌<◌}
use native.Mathlib.Omega.{arith}
use lib.ListN.{length, get_or, length-map}
use lib.Dec.{ltb, eqb}
use borrow.Author.Tests.{lt-ltb, le-ltb, ltb-true, ltb-false, eqb-false, eq-eqb, ne_eqb}
use Rattle.forest.specs.Lists.{sum, once, pad, parent}
use Rattle.forest.specs.Pairs.{Item}
use Rattle.forest.specs.Rows.{Row, size, nums, sizes, joined, items_at}
use Rattle.forest.specs.Trees.{numbers, trim, trimmed, from_top}
use Rattle.forest.specs.Pools.{inner_words, push_all, root_above}
use Rattle.forest.proofs.ListLaws.{is, isnt, test}
use Rattle.forest.proofs.TowerLaws.{trim_weight, top_weight, some_length}
use Rattle.crit.specs.States.{State}
use Rattle.heal.specs.Steps.{free_node}
use Rattle.remove.specs.Ends.{shrink}
use Rattle.crit.proofs.HealRows
use Rattle.crit.proofs.HealStack
use Rattle.crit.proofs.HealMem
use Rattle.crit.proofs.HealPath

-- numbers are freed in order
abbrev pub free_all : List ℕ → State → State
free_all [] s = s
free_all (x ∷ xs) s = free_all xs (free_node s x)

pub free_all_append : (xs ys : List ℕ) (s : State) → free_all (xs ++ ys) s ≡ free_all ys (free_all xs s)
free_all_append [] ys s = refl
free_all_append (x ∷ xs) ys s = free_all_append xs ys (free_node s x)

pub free_all_free : (xs : List ℕ) (s : State) → (free_all xs s).free ≡ push_all xs s.free
free_all_free [] s = refl
free_all_free (x ∷ xs) s = free_all_free xs (free_node s x)

pub free_all_keeps : (xs : List ℕ) (s : State) → HealMem.Keeps s.st (free_all xs s).st xs
free_all_keeps [] s x c = refl
free_all_keeps (y ∷ xs) s x c = elim (test (eqb x y)) [
  | is e ↦ absurd (let z = simp e at c in omega arith)
  | isnt e ↦ let z = simp e at c in free_all_keeps xs (free_node s y) x (omega arith) ∙ HealMem.put_other s.st y (pad 16 []) x (eqb-false x y e)
]

pub only : (gs : List ℕ) → HealStack.Some gs → sum gs ≡ 1 → length gs ≡ 1
only [] p e = absurd (omega arith)
only (g ∷ []) p e = refl
only (g ∷ g' ∷ gs) p e = absurd (omega arith)

pub one_row : (R : Row) → length R ≡ 1 → nums R ≡ HealRows.num_at R 0 ∷ []
one_row [] e = absurd (omega arith)
one_row (n ∷ []) e = refl
one_row (n ∷ m ∷ R) e = absurd (omega arith)

pub one_size : (R : Row) → length R ≡ 1 → sum (sizes R) ≡ length (items_at R 0)
one_size [] e = absurd (omega arith)
one_size (n ∷ []) e = omega arith
one_size (n ∷ m ∷ R) e = absurd (omega arith)

pub one_joined : (R : Row) → length R ≡ 1 → joined R ≡ items_at R 0
one_joined [] e = absurd (omega arith)
one_joined (n ∷ []) e = append-nil n.items
one_joined (n ∷ m ∷ R) e = absurd (omega arith)

-- a single node keeps its words while those above it are freed
top_words : (S : Row) (Ss : List Row) (s : State) → length S ≡ 1 → HealMem.Once (numbers (S ∷ Ss)) → HealMem.HoldsUp s.st (S ∷ Ss) → (free_all (from_top Ss) s).st (HealRows.num_at S 0) ≡ inner_words (items_at S 0)
top_words S Ss s e o hu =
    let a = HealMem.once-append (nums S) (numbers Ss) o in
    let q = HealMem.num_at-counts S 0 (omega arith) in
    free_all_keeps (from_top Ss) s (HealRows.num_at S 0) (omega (arith, a (HealRows.num_at S 0), top_weight (λ y. once (eqb (HealRows.num_at S 0) y)) Ss)) ∙ HealMem.holds_at inner_words s.st S 0 (omega arith) hu.0

-- above a single node every root goes
pub single : (R : Row) (Ss : List Row) (f : ℕ) (s : State) → length R ≡ 1 → HealStack.Stacked R Ss → HealMem.Once (numbers Ss) → HealMem.HoldsUp s.st Ss →
    shrink (length Ss + f) s (root_above R Ss) ≡ shrink f (free_all (from_top Ss) s) (HealRows.num_at R 0)
single R [] f s e st o hu =
    let z : 0 + f ≡ f = omega arith in
    rw (z, one_row R e)
single R (S ∷ Ss) f s e st o hu =
    let u : sum (sizes S) ≡ length R = HealStack.stacked-sum R S st.0 in
    let l_s : length S ≡ 1 = sym (length-map S size) ∙ only (sizes S) (HealStack.fill_some 4 8 (sizes S) (omega arith) st.1) (u ∙ e) in
    let a = HealMem.once-append (nums S) (numbers Ss) o in
    let z : suc (length Ss) + f ≡ length Ss + suc f = omega arith in
    let ih = single S Ss (suc f) s l_s st.2 (λ x. omega (arith, a x)) hu.1 in
    let w = top_words S Ss s l_s o hu in
    let l1 : length (items_at S 0) ≡ 1 = sym (one_size S l_s) ∙ u ∙ e in
    let t : eqb (get_or ((free_all (from_top Ss) s).st (HealRows.num_at S 0)) 0 0) 16 ≡ true = rw w (eq-eqb (16 + (length (items_at S 0) - 1)) 16 (omega arith)) in
    let child : get_or ((free_all (from_top Ss) s).st (HealRows.num_at S 0)) 8 0 ≡ HealRows.num_at R 0 =
    rw w (HealPath.inner_child (items_at S 0) 0 (omega arith) ∙ ap (λ (l : List Item). (get_or l 0 (0, 0)).1) (sym (one_joined S l_s)) ∙
    HealStack.alike_val (0, 0) 0 st.0 ∙ ap (λ (x : Item). x.1) (HealRows.line_at (0, 0) R 0 (omega arith))) in
    rw z (ih ∙ simp t (ap (λ (n : ℕ). shrink f (free_node (free_all (from_top Ss) s) (HealRows.num_at S 0)) n) child) ∙
    ap (λ (t : State). shrink f t (HealRows.num_at R 0)) (sym (free_all_append (from_top Ss) (nums S) s ∙ ap (λ (l : List ℕ). free_all l (free_all (from_top Ss) s)) (one_row S l_s))))

short : (R : Row) (Ss : List Row) → length R < 2 → (trim R Ss ≡ []) × (trimmed R Ss ≡ from_top Ss)
short R [] h = (refl, refl)
short R (S ∷ Ss) h = simp (lt-ltb (length R) 2 h) (refl, refl)

-- over two nodes and more the last root stays
pub several : (R : Row) (Ss : List Row) (f : ℕ) (s : State) → 2 ≤ length R → HealStack.Stacked R Ss → HealMem.Once (numbers Ss) → HealMem.HoldsUp s.st Ss →
    shrink (length Ss + f) s (root_above R Ss) ≡ record { state = free_all (trimmed R Ss) s; root = root_above R (trim R Ss) }
several R [] f s e st o hu = absurd (omega arith)
several R (S ∷ Ss) f s e st o hu =
    let u : sum (sizes S) ≡ length R = HealStack.stacked-sum R S st.0 in
    let a = HealMem.once-append (nums S) (numbers Ss) o in
    let z : suc (length Ss) + f ≡ length Ss + suc f = omega arith in
    let r : ltb (length R) 2 ≡ false = le-ltb (length R) 2 e in
    elim (test (ltb (length S) 2)) [
      | isnt g ↦ rw z (simp r (several S Ss (suc f) s (ltb-false _ _ g) st.2 (λ x. omega (arith, a x)) hu.1))
      | is g ↦
          let g2 = ltb-true (length S) 2 g in
          let l_s : length S ≡ 1 = (let q = some_length S (omega arith) in omega arith) in
          let w = top_words S Ss s l_s o hu in
          let l2 : 2 ≤ length (items_at S 0) = omega (arith, one_size S l_s) in
          let t : eqb (get_or ((free_all (from_top Ss) s).st (HealRows.num_at S 0)) 0 0) 16 ≡ false = rw w (ne_eqb (16 + (length (items_at S 0) - 1)) 16 (omega arith)) in
          let h = short S Ss g2 in
          rw z (single S Ss (suc f) s l_s st.2 (λ x. omega (arith, a x)) hu.1 ∙ simp t (simp (r, h.0, h.1)))
    ]

-- SHRINKING THE ROOT
pub shrunk : (R : Row) (Ss : List Row) (s : State) → 1 ≤ length R → HealStack.Stacked R Ss → HealMem.Once (numbers Ss) → HealMem.HoldsUp s.st Ss →
    shrink (length Ss) s (root_above R Ss) ≡ record { state = free_all (trimmed R Ss) s; root = root_above R (trim R Ss) }
shrunk R Ss s h st o hu =
    let z : length Ss + 0 ≡ length Ss = omega arith in
    elim (test (ltb (length R) 2)) [
      | is e ↦
          let e2 = ltb-true (length R) 2 e in
          let q = short R Ss e2 in
          rw (← z) (single R Ss 0 s (omega arith) st o hu ∙ simp (q.0, q.1))
      | isnt e ↦ rw (← z) (several R Ss 0 s (ltb-false _ _ e) st o hu)
    ]

pub trim_holds : (R : Row) (Ss : List Row) (st : HealMem.Store) → HealMem.HoldsUp st Ss → HealMem.HoldsUp st (trim R Ss)
trim_holds R [] st h = tt
trim_holds R (S ∷ Ss) st h = elim (test (ltb (length R) 2)) [ is e ↦ simp e tt | isnt e ↦ simp e (h.0, trim_holds S Ss st h.1) ]

pub trim-stacked : (R : Row) (Ss : List Row) → 1 ≤ length R → HealStack.Stacked R Ss → HealStack.Stacked R (trim R Ss)
trim-stacked R [] h s = s
trim-stacked R (S ∷ Ss) h s = elim (test (ltb (length R) 2)) [
  | is e ↦ simp e (let z = ltb-true (length R) 2 e in omega arith)
  | isnt e ↦
      let z = ltb-false (length R) 2 e in
      simp e (s.0, s.1, trim-stacked S Ss (some_length S (omega (arith, HealStack.stacked-sum R S s.0))) s.2)
]

-- the freed words touch no row that stays
pub trimmed_holds : (R : Row) (Ss : List Row) (s : State) → HealMem.Once (numbers Ss) → HealMem.HoldsUp s.st Ss → HealMem.HoldsUp (free_all (trimmed R Ss) s).st (trim R Ss)
trimmed_holds R Ss s o hu =
    HealMem.up_apart s.st (free_all (trimmed R Ss) s).st (trimmed R Ss) (trim R Ss) (free_all_keeps (trimmed R Ss) s)
    (λ x. omega (arith, trim_weight (λ y. once (eqb x y)) R Ss, o x)) (trim_holds R Ss s.st hu)

-- the path, d levels up
pub path_trim : (R : Row) (j : ℕ) (Ss : List Row) (ns ps : ℕ → ℕ) (d : ℕ) → length (trim R Ss) + d ≡ length Ss → HealPath.Leads R j Ss ns ps →
    HealPath.Leads R j (trim R Ss) (λ l. ns (l + d)) (λ l. ps (l + d))
path_trim R j [] ns ps d e p = let z : 0 + d ≡ 0 = e in rw z p
path_trim R j (S ∷ Ss) ns ps d e p = elim (test (ltb (length R) 2)) [
  | is t ↦
      let z : 0 + d ≡ suc (length Ss) = simp t at e in
      simp t (rw z p.0)
  | isnt t ↦
      let z : suc (length (trim S Ss)) + d ≡ suc (length Ss) = simp t at e in
      let y : length (trim S Ss) + d ≡ length Ss = omega arith in
      simp t (rw z p.0, rw y p.1, path_trim S (parent (sizes S) j) Ss ns ps d y p.2)
]

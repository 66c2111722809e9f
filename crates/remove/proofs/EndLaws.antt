-- PROOFS. After remove_pair: the root, what shrinking asks, and the words and the cursor of the definition
use mathlib.Core.Path.{◌≡◌, refl, sym, ap, ◌∙◌, subst}
use mathlib.Core.List.{List, [], ◌∷◌, ◌++◌}
use mathlib.Core.Bool.{Bool, true, false, cond}
use Prim.Native.Nat.{ℕ, ◌+◌, ◌≤◌, ◌<◌}
use native.Mathlib.Omega.{arith}
use lib.ListN.{length, get_or}
use lib.Dec.{eqb}
use borrow.Author.Tests.{ltb-true, ltb-false}
use Rattle.forest.specs.Lists.{remove_at, once, count, parent, offset}
use Rattle.forest.specs.Rows.{Row, nums, sizes, drop_row}
use Rattle.forest.specs.Trees.{numbers, drop_at, drop_up, freed_up, lost}
use Rattle.forest.specs.Pools.{root_above, leaf_words}
use Rattle.forest.proofs.ListLaws.{is, isnt, test}
use Rattle.forest.proofs.RowLaws.{drop_row_kept, drop_row_lost}
use Rattle.forest.proofs.TowerLaws.{tower_levels, drop_weight, went_length}
use Rattle.forest.proofs.PoolLaws.{total_push}
use Rattle.crit.specs.States.{State}
use Rattle.crit.specs.Paths.{num_at, Stacked}
use Rattle.heal.specs.Wounds.{Within}
use Rattle.crit.proofs.HealRows
use Rattle.crit.proofs.HealStack
use Rattle.crit.proofs.HealMem
use Rattle.crit.proofs.HealNext
use Rattle.heal.proofs.HealUp.{Mended}
use Rattle.remove.proofs.HealEnd.{root-shape}
use Rattle.remove.proofs.HealTrim.{free_all}
use Rattle.forest.proofs.UniqueLaws.{nums-length}
use Rattle.forest.proofs.WordLaws.{count-append}

two_nils : (b : Bool) → cond {A = List Row} b [] [] ≡ []
two_nils true = refl
two_nils false = refl

-- the root keeps its number while a tree heals
pub root-drop : (X Y S : Row) (Ss : List Row) (j : ℕ) (rows : List Row) → HealStack.SameShape rows (drop_up j (S ∷ Ss)) → Stacked X rows → Stacked Y (S ∷ Ss) → root_above X (drop_up j (S ∷ Ss)) ≡ root_above Y (S ∷ Ss)
root-drop X Y S [] j rows sh sx sy = top rows sh sx
  where
    top : (rows : List Row) → HealStack.SameShape rows (drop_up j (S ∷ [])) → Stacked X rows → root_above X (drop_up j (S ∷ [])) ≡ root_above Y (S ∷ [])
    top rows sh sx = at rows (subst (λ (Zs : List Row). HealStack.SameShape rows (drop_at j S ∷ Zs)) (two_nils (lost (drop_at j S) S)) sh) sx
      where
        at : (rows : List Row) → HealStack.SameShape rows (drop_at j S ∷ []) → Stacked X rows → root_above X (drop_up j (S ∷ [])) ≡ root_above Y (S ∷ [])
        at [] sh sx = elim sh [ ]
        at (A ∷ []) (HealStack.also a b r) sx =
            let l : length (drop_at j S) ≡ 1 = sym (nums-length A (drop_at j S) a) ∙ sx.2 in
            let k : nums (drop_at j S) ≡ nums S = drop_row_kept 8 (parent (sizes S) j) (offset (sizes S) j) S (omega (arith, sy.2)) in
            ap (root_above X) (ap (drop_at j S ∷◌) (two_nils (lost (drop_at j S) S))) ∙ ap (λ (l : List ℕ). get_or l 0 0) k
        at (A ∷ B ∷ rest) sh sx = absurd (let z = HealNext.shape-length sh in omega arith)
root-drop X Y S (S2 ∷ Ss) j rows sh sx sy = elim (test (lost (drop_at j S) S)) [
  | isnt e ↦ simp e refl
  | is e ↦ simp e (up (λ A rest r st. root-drop A S S2 Ss (parent (sizes S) j) rest r st sy.2) rows (simp e at sh) sx)
]
  where
    up : ((A : Row) (rest : List Row) → HealStack.SameShape rest (drop_up (parent (sizes S) j) (S2 ∷ Ss)) → Stacked A rest → root_above A (drop_up (parent (sizes S) j) (S2 ∷ Ss)) ≡ root_above S (S2 ∷ Ss)) →
        (rows : List Row) → HealStack.SameShape rows (drop_at j S ∷ drop_up (parent (sizes S) j) (S2 ∷ Ss)) → Stacked X rows → root_above (drop_at j S) (drop_up (parent (sizes S) j) (S2 ∷ Ss)) ≡ root_above S (S2 ∷ Ss)
    up ih [] sh sx = elim sh [ ]
    up ih (A ∷ rest) (HealStack.also a b r) sx = ih A rest r sx.2

-- the state after remove_pair
module _ {M L : Row} {Rs : List Row} {i : ℕ} {s s' : State} (m : Mended leaf_words M (lost M L) i L Rs s s') (is-M : M ≡ drop_row 7 (parent (sizes L) i) (offset (sizes L) i) L)
    (some-M : 1 ≤ length M) (stacked : Stacked L Rs) (par_in : parent (sizes L) i < length L) where
  abbrev above : List Row
  above = cond (lost M L) (drop_up (parent (sizes L) i) Rs) Rs

  pub root_same : root_above M m.rows ≡ root_above L Rs
  root_same = from Rs m.shape stacked
    where
      kept : length L ≡ 1 → nums M ≡ nums L
      kept one = ap nums is-M ∙ drop_row_kept 7 (parent (sizes L) i) (offset (sizes L) i) L (omega (arith, ap length is-M))

      from : (Rs : List Row) → HealStack.SameShape m.rows (cond (lost M L) (drop_up (parent (sizes L) i) Rs) Rs) → Stacked L Rs → root_above M m.rows ≡ root_above L Rs
      from [] sh st = root-shape M M refl sh ∙ ap (root_above M) (two_nils (lost M L)) ∙ ap (λ (l : List ℕ). get_or l 0 0) (kept st)
      from (S ∷ Ss) sh st = elim (test (lost M L)) [
        | is e ↦ let sh2 = simp e at sh in root-shape M M refl sh2 ∙ root-drop M L S Ss (parent (sizes L) i) m.rows sh2 m.stacked st
        | isnt e ↦ let sh2 = simp e at sh in root-shape M M refl sh2
      ]

  pub rows_length : length m.rows ≡ length Rs
  rows_length = HealNext.shape-length m.shape ∙ went_length (lost M L) (parent (sizes L) i) Rs

  -- no number is lost
  balance : Rattle.forest.specs.Rows.Tower L Rs → (x : ℕ) → count x (nums M) + count x (numbers above) + count x (cond (lost M L) (num_at L (parent (sizes L) i) ∷ freed_up (parent (sizes L) i) Rs) []) ≡ count x (nums L) + count x (numbers Rs)
  balance tower x = elim (test (lost M L)) [
    | is e ↦
        let k : nums M ≡ remove_at (parent (sizes L) i) (nums L) = ap nums is-M ∙ drop_row_lost 7 (parent (sizes L) i) (offset (sizes L) i) L (rw is-M at (ltb-true (length M) (length L) e)) in
        let c : count x (nums M) ≡ count x (nums (remove_at (parent (sizes L) i) L)) = ap (count x) (k ∙ sym (HealRows.nums-remove_at (parent (sizes L) i) L)) in
        simp e (omega (arith, HealMem.gone_count L (parent (sizes L) i) x par_in, drop_weight (λ z. once (eqb x z)) (length L) Rs (parent (sizes L) i) par_in (tower_levels L Rs tower)))
    | isnt e ↦
        let k : nums M ≡ nums L = ap nums is-M ∙ drop_row_kept 7 (parent (sizes L) i) (offset (sizes L) i) L (rw is-M at (ltb-false (length M) (length L) e)) in
        let c : count x (nums M) ≡ count x (nums L) = ap (count x) k in
        simp e (omega arith)
  ]

  pub within_after : (N : ℕ) → Rattle.forest.specs.Rows.Tower L Rs → Within N (nums L ++ numbers Rs) s.free → Within N (nums M ++ numbers m.rows) s'.free
  within_after N tower w x =
      let a : count x s'.free ≡ count x (cond (lost M L) (num_at L (parent (sizes L) i) ∷ freed_up (parent (sizes L) i) Rs) []) + count x s.free =
      ap (count x) m.free ∙ total_push (λ z. once (eqb x z)) (cond (lost M L) (num_at L (parent (sizes L) i) ∷ freed_up (parent (sizes L) i) Rs) []) s.free in
      let b : count x (numbers m.rows) ≡ count x (numbers above) = ap (count x) (HealNext.shape-numbers m.shape) in
      omega (arith, balance tower x, w x, count-append x (nums M) (numbers m.rows), count-append x (nums L) (numbers Rs))

pub free_all_path : (xs : List ℕ) (s : State) → ((free_all xs s).ns ≡ s.ns) × ((free_all xs s).ps ≡ s.ps) × ((free_all xs s).live ≡ s.live)
free_all_path [] s = (refl, refl, refl)
free_all_path (x ∷ xs) s = let r = free_all_path xs (Rattle.heal.specs.Steps.free_node s x) in (r.0, r.1, r.2)

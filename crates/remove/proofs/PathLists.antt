-- PROOFS. A cursor's levels as a path through rows, and back
use mathlib.Core.Path.{◌≡◌, refl, sym, ap, ◌∙◌}
use mathlib.Core.List.{List, [], ◌∷◌, map}
use Prim.Native.Nat.{ℕ, suc, ◌+◌, ◌≤◌, ◌<◌}
use native.Mathlib.Omega.{arith}
use lib.ListN.{length, get_or, length-map, take, drop, length-take, length-drop, get_or-map}
use lib.Seq.{ext_get_or, get_or-drop, get_or-take}
use lib.Dec.{eqb}
use borrow.Author.Tests.{eqb-true, eqb-false}
use Rattle.forest.specs.Lists.{parent, offset}
use Rattle.forest.specs.Rows.{Row, nums, sizes}
use Rattle.forest.specs.Cursors.{path_up}
use Rattle.forest.proofs.ListLaws.{is, isnt, test}
use Rattle.crit.specs.Paths.{Leads}

abbrev Levels : Type 0
Levels = List (ℕ × ℕ)

abbrev node_of : ℕ × ℕ → ℕ
node_of q = q.0

abbrev place_of : ℕ × ℕ → ℕ
place_of q = q.1

-- what stands below
up_below : (j : ℕ) (Ss : List Row) (below : Levels) (i : ℕ) → get_or (path_up j Ss below) (length Ss + i) (0, 0) ≡ get_or below i (0, 0)
up_below j [] below i = ap (λ (k : ℕ). get_or below k (0, 0)) (omega arith)
up_below j (S ∷ Ss) below i =
    let z : suc (length Ss) + i ≡ length Ss + suc i = omega arith in
    rw z (up_below (parent (sizes S) j) Ss ((get_or (nums S) (parent (sizes S) j) 0, offset (sizes S) j) ∷ below) (suc i))

-- a path list is a path
pub up_path : (R : Row) (j e : ℕ) (Ss : List Row) (below : Levels) →
    Leads R j Ss (λ l. get_or (map node_of (path_up j Ss ((get_or (nums R) j 0, e) ∷ below))) l 0) (λ l. get_or (map place_of (path_up j Ss ((get_or (nums R) j 0, e) ∷ below))) l 0)
up_path R j e [] below = refl
up_path R j e (S ∷ Ss) below =
    let P = path_up (parent (sizes S) j) Ss ((get_or (nums S) (parent (sizes S) j) 0, offset (sizes S) j) ∷ (get_or (nums R) j 0, e) ∷ below) in
    let z1 : suc (length Ss) ≡ length Ss + 1 = omega arith in
    let z0 : length Ss ≡ length Ss + 0 = omega arith in
    let a = up_below (parent (sizes S) j) Ss ((get_or (nums S) (parent (sizes S) j) 0, offset (sizes S) j) ∷ (get_or (nums R) j 0, e) ∷ below) 1 in
    let b = up_below (parent (sizes S) j) Ss ((get_or (nums S) (parent (sizes S) j) 0, offset (sizes S) j) ∷ (get_or (nums R) j 0, e) ∷ below) 0 in (
      get_or-map node_of P (suc (length Ss)) (0, 0) ∙ ap (λ (k : ℕ). node_of (get_or P k (0, 0))) z1 ∙ ap node_of a,
      get_or-map place_of P (length Ss) (0, 0) ∙ ap (λ (k : ℕ). place_of (get_or P k (0, 0))) z0 ∙ ap place_of b,
      up_path S (parent (sizes S) j) (offset (sizes S) j) Ss ((get_or (nums R) j 0, e) ∷ below),
    )

-- its last place
pub up_place : (R : Row) (j e : ℕ) (Ss : List Row) → get_or (map place_of (path_up j Ss ((get_or (nums R) j 0, e) ∷ []))) (length Ss) 0 ≡ e
up_place R j e Ss =
    let z0 : length Ss ≡ length Ss + 0 = omega arith in
    get_or-map place_of (path_up j Ss ((get_or (nums R) j 0, e) ∷ [])) (length Ss) (0, 0) ∙ ap (λ (k : ℕ). place_of (get_or (path_up j Ss ((get_or (nums R) j 0, e) ∷ [])) k (0, 0))) z0 ∙ ap place_of (up_below j Ss ((get_or (nums R) j 0, e) ∷ []) 0)

-- paths to one node agree
pub same_path_lem : (R : Row) (j : ℕ) (Ss : List Row) (ns ps ns' ps' : ℕ → ℕ) → Leads R j Ss ns ps → Leads R j Ss ns' ps' → (l : ℕ) → (l ≤ length Ss → ns l ≡ ns' l) × (l < length Ss → ps l ≡ ps' l)
same_path_lem R j [] ns ps ns' ps' p q l = ((λ h. let z : l ≡ 0 = omega arith in rw z (p ∙ sym q)), (λ h. absurd (omega arith)))
same_path_lem R j (S ∷ Ss) ns ps ns' ps' p q l =
    let ih = same_path_lem S (parent (sizes S) j) Ss ns ps ns' ps' p.2 q.2 l in (
      (λ h. elim (test (eqb l (suc (length Ss)))) [
        | is e ↦ rw (eqb-true l (suc (length Ss)) e) (p.0 ∙ sym q.0)
        | isnt e ↦ let z = eqb-false l (suc (length Ss)) e in ih.0 (omega arith)
      ]),
      (λ h. elim (test (eqb l (length Ss))) [
        | is e ↦ rw (eqb-true l (length Ss) e) (p.1 ∙ sym q.1)
        | isnt e ↦ let z = eqb-false l (length Ss) e in ih.1 (omega arith)
      ]),
    )

-- the levels that are kept are those of the path
pub kept-levels : (f : ℕ × ℕ → ℕ) (P : Levels) (xs : List ℕ) (k : ℕ) → length xs ≡ 16 → k + length P ≤ 16 → ((l : ℕ) → l < length P → get_or xs (k + l) 0 ≡ get_or (map f P) l 0) → take (length P) (drop k xs) ≡ map f P
kept-levels f P xs k h b g =
    ext_get_or 0 (take (length P) (drop k xs)) (map f P) (length-take (length P) (drop k xs) ∙ omega (arith, length-drop k xs, length-map P f))
    (λ l c. let d : l < length P = (let z = length-take (length P) (drop k xs) in omega arith) in rw (get_or-take (length P) (drop k xs) l 0 d, get_or-drop k xs l 0) (g l d))

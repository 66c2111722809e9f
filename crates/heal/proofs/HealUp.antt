-- PROOFS. Healing upward: empty_node cuts the parent, which heals in turn
use mathlib.Core.Path.{◌≡◌, refl, sym, ap, ◌∙◌, subst}
use mathlib.Core.List.{List, [], ◌∷◌, ◌++◌}
use mathlib.Core.Bool.{false}
use Rattle.std.specs.Prelude.{Some}
use Prim.Native.Nat.{ℕ, zero, suc, ◌+◌, ◌≤◌, ◌<◌}
use native.Mathlib.Omega.{arith}
use lib.ListN.{length, get_or}
use lib.Dec.{ltb, eqb}
use borrow.Author.Tests.{ltb-true, ltb-false, eqb-true, eq-eqb, ne_eqb}
use Rattle.forest.specs.Lists.{remove_at, sum, once, count, pad, parent, offset}
use Rattle.forest.specs.Pairs.{Item}
use Rattle.forest.specs.Rows.{Row, front, nums, sizes, joined, line, items_at}
use Rattle.forest.specs.Trees.{numbers, drop_at, lost}
use Rattle.forest.specs.Pools.{inner_words}
use Rattle.forest.proofs.ListLaws.{is, isnt, test, offset_lt, parent_start, length-remove_at}
use Rattle.forest.proofs.RowLaws.{length-line, drop_row_joined, drop_row_fill}
use Rattle.crit.specs.States.{State, lives, node_at, through_right}
use Rattle.heal.specs.Steps.{Ops, free_node, heal_level, parent_cut, empty_from, empty_with, empty_node}
use Rattle.heal.specs.Wounds.{Left, alive, dead, Wounded, Within}
use Rattle.crit.proofs.HealRows
use Rattle.crit.proofs.HealStack
use Rattle.crit.proofs.HealMem
use Rattle.crit.proofs.HealPath
use Rattle.crit.proofs.HealNext
use Rattle.heal.proofs.HealStep
pub use Rattle.heal.proofs.HealShape.{Lawful, Where, here, past, Exit, Heals, Mended, drop_up-shape, freed_up-shape}
pub use Rattle.heal.proofs.HealLevel.{heal_some}
pub use Rattle.heal.proofs.HealNone.{heal_none}
use Rattle.forest.proofs.WordLaws.{count-append}
use Rattle.forest.proofs.TowerLaws.{went_length}
use Rattle.heal.proofs.HealCut.{cut_left}

-- One step of empty_node: the parent is cut and heals
module _ {o : Ops} (law : Lawful o inner_words 8 4) (up : State → State) (R R' : Row) (j : ℕ) (S : Row) (Ss : List Row)
    (ih : Heals up (length Ss))
    (s : State) (g : HealStep.Gap R' R j) (h : j < length R) (two : 2 ≤ length R) (stacked : HealStack.Stacked R (S ∷ Ss))
    (once : HealMem.Once (HealRows.num_at R j ∷ numbers (S ∷ Ss))) (hu : HealMem.HoldsUp s.st (S ∷ Ss)) (p : HealPath.Leads R j (S ∷ Ss) s.ns s.ps) where
  abbrev n : ℕ
  n = HealRows.num_at R j

  abbrev l : ℕ
  l = length Ss

  total-S : sum (sizes S) ≡ length R
  total-S = HealStack.stacked-sum R S stacked.0

  b_in : j < sum (sizes S)
  b_in = omega (arith, total-S)

  abbrev pub s_a : State
  s_a = free_node s (HealRows.num_at R j)

  counts : (x : ℕ) → Rattle.forest.specs.Lists.once (eqb x (HealRows.num_at R j)) + (count x (nums S) + count x (numbers Ss)) ≤ 1
  counts x = rw (count-append x (nums S) (numbers Ss)) at (once x)

  once_s : HealMem.Once (nums S ++ numbers Ss)
  once_s x = rw (count-append x (nums S) (numbers Ss)) (omega (arith, counts x))

  keeps_a : HealMem.Keeps s.st s_a.st (HealRows.num_at R j ∷ [])
  keeps_a = HealMem.put_keeps s.st (HealRows.num_at R j) (pad 16 []) (HealRows.num_at R j ∷ []) (simp (eq-eqb (HealRows.num_at R j) (HealRows.num_at R j) refl) (omega arith))

  hu_a : HealMem.HoldsUp s_a.st (S ∷ Ss)
  hu_a = HealMem.up_apart s.st s_a.st (HealRows.num_at R j ∷ []) (S ∷ Ss) keeps_a (λ x. omega (arith, once x)) hu

  at-S : HealPath.Here s_a.st s.ns s.ps S j (length Ss)
  at-S = HealPath.here s_a.st s.ns s.ps S Ss j b_in stacked.1 hu_a.0 p.1 p.2

  name-S : s.ns (length Ss) ≡ HealRows.num_at S (parent (sizes S) j)
  name-S = HealPath.path_node S (parent (sizes S) j) Ss s.ns s.ps p.2

  abbrev pub s_b : State
  s_b = parent_cut o s_a (length Ss)

  keeps_b : HealMem.Keeps s_a.st s_b.st (nums S)
  keeps_b = HealMem.put_keeps s_a.st (s.ns (length Ss)) (o.cut (s_a.st (s.ns (length Ss))) (s.ps (length Ss))) (nums S) (rw name-S (HealMem.num_at-counts S (parent (sizes S) j) at-S.par))

  hu_b : HealMem.HoldsUp s_b.st Ss
  hu_b = HealMem.up_apart s_a.st s_b.st (nums S) Ss keeps_b (λ x. omega (arith, counts x)) hu_a.1

  remains : Left inner_words S j Ss s_b
  remains = elim (test (ltb 1 (length (items_at S (parent (sizes S) j))))) [
    | is e ↦
        let more = ltb-true 1 (length (items_at S (parent (sizes S) j))) e in
        let w : o.cut (s_a.st (s.ns (length Ss))) (s.ps (length Ss)) ≡ inner_words (remove_at (offset (sizes S) j) (items_at S (parent (sizes S) j))) =
        rw (at-S.words, at-S.place) (law.cut_is (items_at S (parent (sizes S) j)) (offset (sizes S) j) at-S.off more at-S.few) in
        alive more (HealStep.cut_stacked R' R j S Ss g h stacked more)
        (rw name-S (HealMem.holds_upd inner_words s_a.st S (parent (sizes S) j) (remove_at (offset (sizes S) j)) (o.cut (s_a.st (HealRows.num_at S (parent (sizes S) j))) (s.ps (length Ss))) at-S.par (λ x. omega (arith, counts x)) (rw name-S at w) hu_a.0))
    | isnt e ↦
        let one : length (items_at S (parent (sizes S) j)) ≡ 1 = (let z = ltb-false 1 (length (items_at S (parent (sizes S) j))) e in omega (arith, at-S.off)) in
        let w : o.cut (s_a.st (s.ns (length Ss))) (s.ps (length Ss)) ≡ pad 16 [] = rw at-S.words (law.cut_none (items_at S (parent (sizes S) j)) (s.ps (length Ss)) one) in
        dead one stacked.2 (omega (arith, total-S)) (HealMem.put_same s_a.st (s.ns (length Ss)) _ ∙ w)
        (HealMem.frame inner_words s_a.st (s.ns (length Ss)) (o.cut (s_a.st (s.ns (length Ss))) (s.ps (length Ss))) (remove_at (parent (sizes S) j) S)
        (rw name-S (HealMem.gone inner_words S (parent (sizes S) j) at-S.par (λ x. omega (arith, counts x)))) (HealMem.holds_remove inner_words s_a.st S (parent (sizes S) j) hu_a.0))
  ]

  -- heal_level may be called
  pub wounded : (N : ℕ) → Within N (HealRows.num_at R j ∷ numbers (S ∷ Ss)) s.free → Wounded inner_words 8 4 N (length Ss) s_b
  wounded N within = record {
    row = S;
    at = j;
    rows = Ss;
    level = refl;
    inside = b_in;
    fill = stacked.1;
    within = λ x. omega (arith, within x);
    up = hu_b;
    place = p.1;
    path = p.2;
    left = remains;
  }

  mended : Mended inner_words (drop_at j S) (lost (drop_at j S) S) j S Ss s_b (heal_level o 8 up (length Ss) s_b)
  mended = elim remains [
    | alive more st row ↦
        heal_some law up j S Ss ih s_b b_in stacked.1 once_s hu_b p.1 p.2
        (omega (arith, cut_left j S b_in)) st row
    | dead one st big zeros rest ↦
        heal_none law up j S Ss ih s_b b_in stacked.1 once_s hu_b p.1 p.2 st
        (omega (arith, cut_left j S b_in)) big zeros rest
  ]

  abbrev s_c : State
  s_c = heal_level o 8 up (length Ss) s_b

  length-R' : suc (length R') ≡ length R
  length-R' =
      omega (arith, HealStack.alike_length g.alike, length-remove_at j (line R) (omega (arith, length-line R)), length-line R, length-line R')

  drop_alike : HealStack.Alike (joined (drop_at j S)) (line R')
  drop_alike =
      let q : joined (drop_at j S) ≡ remove_at j (joined S) =
      rw (drop_row_joined 8 (parent (sizes S) j) (offset (sizes S) j) S at-S.par (offset_lt (sizes S) j b_in), parent_start (sizes S) j b_in) in
      HealStack.alike_trans (HealStack.alike_same q) (HealStack.alike_trans (HealStack.alike_remove j stacked.0) g.alike)

  drop-total : sum (sizes (drop_at j S)) ≡ length R'
  drop-total = HealStack.stacked-sum R' (drop_at j S) drop_alike

  right_name : suc j < length R → HealRows.num_at R (suc j) ≡ HealRows.num_at R' j
  right_name q =
      let a : (get_or (remove_at j (line R)) j (0, 0)).1 ≡ (get_or (line R') j (0, 0)).1 = HealStack.alike_val (0, 0) j g.alike in
      let c : get_or (remove_at j (line R)) j (0, 0) ≡ (front (items_at R (suc j)), HealRows.num_at R (suc j)) = shift j (line R) ∙ HealRows.line_at (0, 0) R (suc j) q in
      let d : get_or (line R') j (0, 0) ≡ (front (items_at R' j), HealRows.num_at R' j) = HealRows.line_at (0, 0) R' j (omega (arith, length-R')) in
      sym (ap (λ (x : Item). x.1) c) ∙ a ∙ ap (λ (x : Item). x.1) d
    where
      shift : (j : ℕ) (xs : List Item) → get_or (remove_at j xs) j (0, 0) ≡ get_or xs (suc j) (0, 0)
      shift j [] = refl
      shift zero (x ∷ xs) = refl
      shift (suc j) (x ∷ xs) = shift j xs

  rows_length : length mended.rows ≡ length Ss
  rows_length = HealNext.shape-length mended.shape ∙ went_length (lost (drop_at j S) S) (parent (sizes S) j) Ss

  -- the state at the end has the words of s_c, and another cursor
  leaves : (t : State) → t.st ≡ s_c.st → t.free ≡ s_c.free → ((x : ℕ) → suc (length Ss) < x → t.ns x ≡ s_c.ns x) → t.ps ≡ s_c.ps →
      Where (length R') j (HealPath.Leads R' j (drop_at j S ∷ mended.rows) t.ns t.ps) s.live t.live → Exit R' j (HealRows.num_at R j) (S ∷ Ss) s t
  leaves t a f n_same p-same w = record {
    rows = drop_at j S ∷ mended.rows;
    shape = HealStack.also refl refl mended.shape;
    stacked = (drop_alike, drop_row_fill 8 4 (omega arith) (omega arith) (parent (sizes S) j) (offset (sizes S) j) S (offset_lt (sizes S) j b_in) stacked.1, mended.stacked);
    up = subst (λ (x : HealMem.Store). HealMem.HoldsUp x (drop_at j S ∷ mended.rows)) (sym a) (mended.row, mended.up);
    keeps = λ x c.
        let c2 : Rattle.forest.specs.Lists.once (eqb x (HealRows.num_at R j)) + (count x (nums S) + count x (numbers Ss)) ≡ 0 =
        rw (count-append x (nums S) (numbers Ss)) at c in
        ap (λ (st : HealMem.Store). st x) a ∙ mended.keeps x (rw (count-append x (nums S) (numbers Ss)) (omega arith)) ∙ keeps_b x (omega arith) ∙ keeps_a x (omega arith);
    zeros = λ x c d.
        let c2 : 1 ≤ Rattle.forest.specs.Lists.once (eqb x (HealRows.num_at R j)) + (count x (nums S) + count x (numbers Ss)) = rw (count-append x (nums S) (numbers Ss)) at c in
        let d2 : count x (nums (drop_at j S)) + count x (numbers mended.rows) ≡ 0 = rw (count-append x (nums (drop_at j S)) (numbers mended.rows)) at d in
        ap (λ (st : HealMem.Store). st x) a ∙ elim (test (eqb x (HealRows.num_at R j))) [
          | is e ↦
              let q : x ≡ HealRows.num_at R j = eqb-true _ _ e in
              let c3 : 1 + (count x (nums S) + count x (numbers Ss)) ≤ 1 = simp e at (counts x) in
              mended.keeps x (rw (count-append x (nums S) (numbers Ss)) (omega arith)) ∙ keeps_b x (omega arith) ∙ simp e
          | isnt e ↦ let c3 : 1 ≤ 0 + (count x (nums S) + count x (numbers Ss)) = simp e at c2 in mended.zeros x (omega arith) d2
        ];
    free = f ∙ rw (← (HealNext.num_at-nums S (parent (sizes S) j))) mended.free;
    deeper = λ x d. n_same x d ∙ mended.deeper x (omega arith);
    places = λ x d. ap (λ (q : ℕ → ℕ). q x) p-same ∙ mended.places x (omega arith);
    stands = w;
  }

  step : Exit R' j (HealRows.num_at R j) (S ∷ Ss) s (through_right (HealPath.right_sibling s_a.st s.ns s.ps (suc (length Ss))) (suc (length Ss)) s_c)
  step = elim (test (ltb (suc j) (length R))) [
    | is e ↦
        let q = ltb-true (suc j) (length R) e in
        let r : HealPath.right_sibling s_a.st s.ns s.ps (suc (length Ss)) ≡ Some (front (items_at R (suc j)), HealRows.num_at R (suc j)) =
        HealPath.right_is s_a.st s.ns s.ps R j (S ∷ Ss) q stacked hu_a p ∙ ap Some (HealRows.line_at (0, 0) R (suc j) q) in
        rw r (leaves (node_at s_c (suc (length Ss)) (HealRows.num_at R (suc j))) refl refl (λ x d. simp (ne_eqb x (suc (length Ss)) (omega arith))) refl
        (elim mended.stands [
          | here a w v ↦ here (omega (arith, length-R')) (
            simp (rows_length, eq-eqb (suc (length Ss)) (suc (length Ss)) refl) (right_name q),
            rw rows_length w.0,
            HealNext.path_deeper (drop_at j S) (parent (sizes (drop_at j S)) j) mended.rows s_c.ns s_c.ps (HealNext.at s_c.ns (suc (length Ss)) (HealRows.num_at R (suc j))) s_c.ps
                (λ x d. simp (ne_eqb x (suc (length Ss)) (omega (arith, rows_length)))) (λ x d. refl) w.1,
          ) v
          | past a v ↦ absurd (omega (arith, drop-total, length-R'))
        ]))
    | isnt e ↦
        let q : suc j ≡ length R = (let z = ltb-false (suc j) (length R) e in omega arith) in
        let r = HealPath.right_none s_a.st s.ns s.ps R j (S ∷ Ss) q stacked hu_a p in
        rw r (leaves (lives s_c false) refl refl (λ x d. refl) refl (past (omega (arith, length-R')) refl))
  ]

-- HEALING UPWARD: the cycle leaves the rows of drop_up, up to keys that refresh brings, the numbers of freed_up, and the cursor on what followed
pub empty_up : {o : Ops} (law : Lawful o inner_words 8 4) (l : ℕ) → Heals (empty_node o l) l
empty_up law zero R R' j [] s e g h two st once hu p = absurd (omega arith)
empty_up law zero R R' j (S ∷ Ss) s e g h two st once hu p = absurd (omega arith)
empty_up law (suc l) R R' j [] s e g h two st once hu p = absurd (omega arith)
empty_up {o} law (suc l) R R' j (S ∷ Ss) s e g h two st once hu p =
    let q : l ≡ length Ss = omega arith in
    subst (λ (l : ℕ). Heals (empty_node o l) l → Exit R' j (HealRows.num_at R j) (S ∷ Ss) s (empty_with o (empty_node o l) l s)) (sym q)
    (λ ih. subst (λ (t : State). Exit R' j (HealRows.num_at R j) (S ∷ Ss) s t)
    (ap (λ (x : ℕ). empty_from o (empty_node o (length Ss)) (length Ss) x s) (sym p.0)) (step law (empty_node o (length Ss)) R R' j S Ss ih s g h two st once hu p))
    (empty_up law l)

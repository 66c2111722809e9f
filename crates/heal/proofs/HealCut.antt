-- PROOFS. A row cut at position i: the items left, the sizes, the path; and a node with one item, which is the last of its row
use mathlib.Core.Path.{◌≡◌, sym, ap, ◌∙◌}
use mathlib.Core.List.{List, [], ◌∷◌}
use Prim.Native.Nat.{ℕ, suc, ◌≤◌, ◌<◌}
use native.Mathlib.Omega.{arith}
use lib.ListN.{length, get_or, length-map}
use lib.Dec.{ltb}
use borrow.Author.Tests.{ltb-true, ltb-false}
use Rattle.forest.specs.Lists.{remove_at, sum, parent, offset}
use Rattle.forest.specs.Rows.{Row, size, sizes, joined, items_at, Fill, drop_row}
use Rattle.forest.proofs.ListLaws.{is, isnt, test, offset_lt, parent_start, length-remove_at}
use Rattle.forest.proofs.RowLaws.{sum-sizes, length-items, drop_row_joined, parent_there, offset_there}
use Rattle.forest.proofs.Sentences.{fill_inside}
use Rattle.heal.specs.Wounds.{Gap, cut_row}
use Rattle.crit.proofs.HealRows
use Rattle.crit.proofs.HealStack
use Rattle.crit.proofs.HealPath
use Rattle.crit.proofs.HealNext

pub cut_length : (i : ℕ) (S : Row) → length (cut_row i S) ≡ length S
cut_length i S = HealRows.upd-length (parent (sizes S) i) (remove_at (offset (sizes S) i)) S

pub cut_name : (i : ℕ) (S : Row) → HealRows.num_at (cut_row i S) (parent (sizes S) i) ≡ HealRows.num_at S (parent (sizes S) i)
cut_name i S = HealRows.upd-num_at (parent (sizes S) i) (parent (sizes S) i) (remove_at (offset (sizes S) i)) S

pub cut_path : (i : ℕ) (S : Row) (Ss : List Row) (ns ps : ℕ → ℕ) → HealPath.Leads S (parent (sizes S) i) Ss ns ps → HealPath.Leads (cut_row i S) (parent (sizes S) i) Ss ns ps
cut_path i S Ss ns ps p = HealNext.path_shape S (cut_row i S) (parent (sizes S) i) ns ps (sym (cut_name i S)) (HealStack.same_refl Ss) p

-- the last of groups has one, and all have two: so there are two groups
two_groups : (gs : List ℕ) (i : ℕ) → suc (parent gs i) ≡ length gs → get_or gs (parent gs i) 0 ≡ 1 → 2 ≤ sum gs → 2 ≤ length gs
two_groups [] i e h t = absurd (omega arith)
two_groups (g ∷ []) i e h t = absurd (let z : parent (g ∷ []) i ≡ 0 = omega arith in let y : g ≡ 1 = rw z at h in omega arith)
two_groups (g ∷ g' ∷ gs) i e h t = omega arith

module _ (i : ℕ) (S : Row) (b : i < sum (sizes S)) where
  pub cut_left : suc (length (remove_at (offset (sizes S) i) (items_at S (parent (sizes S) i)))) ≡ length (items_at S (parent (sizes S) i))
  cut_left = length-remove_at (offset (sizes S) i) (items_at S (parent (sizes S) i)) (offset_there S i b)

  pub cut_size : get_or (sizes (cut_row i S)) (parent (sizes S) i) 0 ≡ length (remove_at (offset (sizes S) i) (items_at S (parent (sizes S) i)))
  cut_size = sym (length-items (cut_row i S) (parent (sizes S) i)) ∙ ap length (HealRows.upd_same (parent (sizes S) i) (remove_at (offset (sizes S) i)) S (parent_there S i b))

  pub cut_sum : suc (sum (sizes (cut_row i S))) ≡ sum (sizes S)
  cut_sum = omega (arith, sum-sizes (cut_row i S), sum-sizes S, ap length (HealRows.cut_joined S i b), length-remove_at i (joined S) (omega (arith, sum-sizes S)))

  pub drop-sum : (cap : ℕ) → suc (sum (sizes (drop_row cap (parent (sizes S) i) (offset (sizes S) i) S))) ≡ sum (sizes S)
  drop-sum cap =
      let j : joined (drop_row cap (parent (sizes S) i) (offset (sizes S) i) S) ≡ remove_at i (joined S) =
      rw (drop_row_joined cap (parent (sizes S) i) (offset (sizes S) i) S (parent_there S i b) (offset_lt (sizes S) i b), parent_start (sizes S) i b) in
      omega (arith, sum-sizes (drop_row cap (parent (sizes S) i) (offset (sizes S) i) S), sum-sizes S, ap length j, length-remove_at i (joined S) (omega (arith, sum-sizes S)))

  module _ (low cap : ℕ) (two : 2 ≤ low) (fill : Fill low cap (sizes S)) (one : length (items_at S (parent (sizes S) i)) ≡ 1) where
    pub alone_last : suc (parent (sizes S) i) ≡ length S
    alone_last = elim (test (ltb (suc (parent (sizes S) i)) (length S))) [
      | is e ↦
          let y = fill_inside low cap (sizes S) (parent (sizes S) i) fill (rw (length-map S size) (ltb-true (suc (parent (sizes S) i)) (length S) e)) in
          absurd (omega (arith, length-items S (parent (sizes S) i)))
      | isnt e ↦ let z = ltb-false (suc (parent (sizes S) i)) (length S) e in omega (arith, parent_there S i b)
    ]

    pub alone_gap : Gap (remove_at (parent (sizes S) i) S) S (parent (sizes S) i)
    alone_gap = record {
      alike = HealStack.alike_same (sym (HealRows.line-remove_at (parent (sizes S) i) S));
      fronts = λ a c. absurd (omega (arith, alone_last));
    }

    pub alone_two : 2 ≤ sum (sizes S) → 2 ≤ length S
    alone_two more = rw (length-map S size) at (two_groups (sizes S) i (alone_last ∙ sym (length-map S size)) (sym (length-items S (parent (sizes S) i)) ∙ one) more)

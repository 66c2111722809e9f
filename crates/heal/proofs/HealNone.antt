-- PROOFS. heal_level with no item left: the node is the last of its row, and goes
use mathlib.Core.Path.{◌≡◌, refl, sym, ap, ◌∙◌}
use mathlib.Core.List.{List, [], ◌∷◌, ◌++◌}
use mathlib.Core.Bool.{true}
use Prim.Native.Nat.{ℕ, suc, ◌+◌, ◌*◌, ◌≤◌, ◌<◌}
use native.Mathlib.Omega.{arith}
use lib.ListN.{length, length-map}
use borrow.Author.Tests.{lt-ltb, lt-leb}
use Rattle.forest.specs.Lists.{remove_at, sum, count, pad, parent, offset}
use Rattle.forest.specs.Pairs.{Item}
use Rattle.forest.specs.Rows.{Row, size, nums, sizes, items_at, Fill, drop_row}
use Rattle.forest.specs.Trees.{numbers, lost}
use Rattle.forest.proofs.ListLaws.{length-remove_at}
use Rattle.forest.proofs.RowLaws.{length-items, parent_there, offset_there}
use Rattle.crit.specs.States.{State}
use Rattle.heal.specs.Steps.{Ops, heal_level}
use Rattle.crit.proofs.HealRows
use Rattle.crit.proofs.HealStack
use Rattle.crit.proofs.HealMem
use Rattle.crit.proofs.HealPath
use Rattle.heal.proofs.HealMend
use Rattle.heal.proofs.HealCut.{cut_length, cut_left, drop-sum, alone_last, alone_gap, alone_two}
use Rattle.heal.proofs.HealStep
use Rattle.heal.proofs.HealShape.{Lawful, here, past, Exit, Heals, Mended, remove_upd}
use Rattle.forest.proofs.WordLaws.{count-append}

module _ {enc : List Item → List ℕ} {cap low : ℕ} {o : Ops} (law : Lawful o enc cap low) (up : State → State) (i : ℕ) (S : Row) (Ss : List Row)
    (ih : Heals up (length Ss))
    (s : State) (b : i < sum (sizes S)) (fill : Fill low cap (sizes S))
    (once : HealMem.Once (nums S ++ numbers Ss)) (hu : HealMem.HoldsUp s.st Ss)
    (place : s.ps (length Ss) ≡ offset (sizes S) i) (path : HealPath.Leads S (parent (sizes S) i) Ss s.ns s.ps) where
  par_in : parent (sizes S) i < length S
  par_in = parent_there S i b

  apart : HealMem.Apart (nums S) (numbers Ss)
  apart = HealMem.once-append (nums S) (numbers Ss) once

  -- heal_level with none left
  pub heal_none : HealStack.Stacked S Ss → length (remove_at (offset (sizes S) i) (items_at S (parent (sizes S) i))) ≡ 0 → 2 ≤ sum (sizes S) → s.st (s.ns (length Ss)) ≡ pad 16 [] → HealMem.Holds enc s.st (remove_at (parent (sizes S) i) S) →
      Mended enc (drop_row cap (parent (sizes S) i) (offset (sizes S) i) S) (lost (drop_row cap (parent (sizes S) i) (offset (sizes S) i) S) S) i S Ss s (heal_level o cap up (length Ss) s)
  heal_none stacked_s zero_left two zeros rest = rw (is-M, fewer, se) (with-exit (ih S (remove_at (parent (sizes S) i) S) (parent (sizes S) i) Ss s refl (alone_gap i S b low cap law.least_two fill alone) par_in (alone_two i S b low cap law.least_two fill alone two) stacked_s
      (λ x. omega (arith, HealMem.gone_count S (parent (sizes S) i) x par_in, apart x)) hu path))
    where
      alone : length (items_at S (parent (sizes S) i)) ≡ 1
      alone = omega (arith, cut_left i S b)

      is_last : suc (parent (sizes S) i) ≡ length S
      is_last = alone_last i S b low cap law.least_two fill alone

      is-M : drop_row cap (parent (sizes S) i) (offset (sizes S) i) S ≡ remove_at (parent (sizes S) i) S
      is-M = HealMend.drop_mend cap (parent (sizes S) i) (offset (sizes S) i) S ∙ HealMend.mend_empty cap (parent (sizes S) i) (HealStep.cut_row i S)
          (ap length (HealRows.upd_same (parent (sizes S) i) (remove_at (offset (sizes S) i)) S par_in) ∙ zero_left)
          (is_last ∙ sym (cut_length i S)) ∙
          remove_upd (parent (sizes S) i) (remove_at (offset (sizes S) i)) S

      len-M : suc (length (remove_at (parent (sizes S) i) S)) ≡ length S
      len-M = length-remove_at (parent (sizes S) i) S par_in

      fewer : lost (remove_at (parent (sizes S) i) S) S ≡ true
      fewer = lt-ltb (length (remove_at (parent (sizes S) i) S)) (length S) (omega (arith, len-M))

      se : heal_level o cap up (length Ss) s ≡ up s
      se = simp (zeros, law.entries_none, lt-leb cap (2 * 0) (omega (arith, law.least_two, law.least_half)))

      with-exit : Exit (remove_at (parent (sizes S) i) S) (parent (sizes S) i) (HealRows.num_at S (parent (sizes S) i)) Ss s (up s) → Mended enc (remove_at (parent (sizes S) i) S) true i S Ss s (up s)
      with-exit x = record {
        rows = x.rows;
        shape = x.shape;
        stacked = x.stacked;
        row = HealMem.holds_apart enc s.st (up s).st (HealRows.num_at S (parent (sizes S) i) ∷ numbers Ss) (remove_at (parent (sizes S) i) S) x.keeps
            (λ y. omega (arith, HealMem.gone_count S (parent (sizes S) i) y par_in, apart y)) rest;
        up = x.up;
        keeps = λ y c.
            let c2 : count y (nums S) + count y (numbers Ss) ≡ 0 = rw (count-append y (nums S) (numbers Ss)) at c in
            x.keeps y (omega (arith, HealMem.gone_count S (parent (sizes S) i) y par_in));
        zeros = λ y c d. x.zeros y (omega (arith, HealMem.gone_count S (parent (sizes S) i) y par_in)) (omega arith);
        free = x.free;
        deeper = x.deeper;
        places = λ l d. x.places l (omega arith);
        stands = elim x.stands [
          | here a p g ↦ absurd (omega (arith, len-M, is_last))
          | past a g ↦ past (rw (← is-M) (omega (arith, drop-sum i S b cap, HealStep.ends (sizes S) i b (is_last ∙ sym (length-map S size)), length-items S (parent (sizes S) i), alone, offset_there S i b))) g
        ];
      }

-- PROOFS. heal_level with an item left: the cases, by what is left in the node and by its right neighbour
use mathlib.Core.Path.{◌≡◌, refl, sym, ap, ◌∙◌}
use mathlib.Core.List.{List, ◌∷◌, ◌++◌}
use mathlib.Core.Bool.{true, false}
use Rattle.std.specs.Prelude.{Some, None}
use Prim.Native.Nat.{ℕ, suc, ◌+◌, ◌*◌, ◌≤◌, ◌<◌}
use native.Mathlib.Omega.{arith}
use lib.ListN.{length, take, drop, get_or, length-append, length-map, length-take}
use lib.Dec.{ltb, eqb, leb}
use borrow.Author.Tests.{lt-ltb, le-ltb, ltb-true, ltb-false, eqb-true, eqb-false, eq-eqb, ne_eqb, leb-true, leb-false}
use Rattle.forest.specs.Lists.{remove_at, sum, count, parent, offset}
use Rattle.forest.specs.Pairs.{Item}
use Rattle.forest.specs.Rows.{Row, size, front, nums, sizes, line, items_at, Fill, drop_row}
use Rattle.forest.specs.Trees.{numbers, lost}
use Rattle.forest.proofs.ListLaws.{is, isnt, test, length-remove_at}
use Rattle.forest.proofs.RowLaws.{length-items, fill_at, parent_there, offset_there}
use Rattle.crit.specs.States.{State, stored, lives, next_node}
use Rattle.heal.specs.Steps.{Ops, heal_level}
use Rattle.crit.proofs.HealRows
use Rattle.crit.proofs.HealStack
use Rattle.crit.proofs.HealMem
use Rattle.crit.proofs.HealPath
use Rattle.crit.proofs.HealNext
use Rattle.heal.proofs.HealMend
use Rattle.heal.proofs.HealCut.{cut_length, cut_path, cut_left, cut_size, cut_sum, drop-sum}
use Rattle.heal.proofs.HealStep
use Rattle.heal.proofs.HealShape.{Lawful, Where, here, past, Exit, Heals, Mended, sizes_before, sizes_before_next, sizes_before_remove, merged_size, items-next, some_upd, not_last, drop_up-shape, freed_up-shape, least_of}
use Rattle.forest.proofs.Descent.{front-append, front-take}
use Rattle.forest.proofs.WordLaws.{count-append}

module _ {enc : List Item → List ℕ} {cap low : ℕ} {o : Ops} (law : Lawful o enc cap low) (up : State → State) (i : ℕ) (S : Row) (Ss : List Row)
    (ih : Heals up (length Ss))
    (s : State) (b : i < sum (sizes S)) (fill : Fill low cap (sizes S))
    (once : HealMem.Once (nums S ++ numbers Ss)) (hu : HealMem.HoldsUp s.st Ss)
    (place : s.ps (length Ss) ≡ offset (sizes S) i) (path : HealPath.Leads S (parent (sizes S) i) Ss s.ns s.ps) where
  abbrev pub C : Row
  C = HealStep.cut_row i S

  par_in : parent (sizes S) i < length S
  par_in = parent_there S i b

  off_in : offset (sizes S) i < length (items_at S (parent (sizes S) i))
  off_in = offset_there S i b

  abbrev pub left_over : ℕ
  left_over = length (remove_at (offset (sizes S) i) (items_at S (parent (sizes S) i)))

  drop_is : drop_row cap (parent (sizes S) i) (offset (sizes S) i) S ≡ HealMend.mend cap (parent (sizes S) i) C
  drop_is = HealMend.drop_mend cap (parent (sizes S) i) (offset (sizes S) i) S

  apart : HealMem.Apart (nums S) (numbers Ss)
  apart = HealMem.once-append (nums S) (numbers Ss) once

  path_c : HealPath.Leads C (parent (sizes S) i) Ss s.ns s.ps
  path_c = cut_path i S Ss s.ns s.ps path

  -- an item is left
  module _ (some_left : 1 ≤ left_over) (stacked : HealStack.Stacked C Ss) (row : HealMem.Holds enc s.st C) where
    -- the words stay as they are; the cursor stands, or is off the end
    still : (t : State) → t.st ≡ s.st → t.free ≡ s.free → ((l : ℕ) → length Ss < l → t.ns l ≡ s.ns l) → ((l : ℕ) → length Ss < l → t.ps l ≡ s.ps l) →
        Where (sum (sizes C)) i ((t.ps (length Ss) ≡ offset (sizes C) i) × HealPath.Leads C (parent (sizes C) i) Ss t.ns t.ps) s.live t.live → Mended enc C false i S Ss s t
    still t a f n p w = record {
      rows = Ss;
      shape = HealStack.same_refl Ss;
      stacked = stacked;
      row = rw a row;
      up = rw a hu;
      keeps = λ x c. ap (λ (st : HealMem.Store). st x) a;
      zeros = λ x c d. absurd (let z = rw (HealRows.upd-nums (parent (sizes S) i) (remove_at (offset (sizes S) i)) S) at d in omega arith);
      free = f;
      deeper = n;
      places = p;
      stands = w;
    }

    -- nothing more to do
    stays : offset (sizes S) i < left_over → Mended enc C false i S Ss s s
    stays h =
        let q = HealStep.spot (sizes S) (sizes C) i (sizes_before (parent (sizes S) i) (remove_at (offset (sizes S) i)) S) (rw (cut_size i S b) h) in
        let n = HealStep.inside (sizes S) i b (omega (arith, cut_left i S b, length-items S (parent (sizes S) i))) in
        still s refl refl (λ l d. refl) (λ l d. refl) (here (omega (arith, cut_sum i S b)) (place ∙ sym q.1, rw q.0 path_c) refl)

    -- off the end
    ends-here : offset (sizes S) i ≡ left_over → suc (parent (sizes S) i) ≡ length S → Mended enc C false i S Ss s (lives s false)
    ends-here h e =
        let z = HealStep.ends (sizes S) i b (e ∙ sym (length-map S size)) in
        still (lives s false) refl refl (λ l d. refl) (λ l d. refl) (past (omega (arith, cut_sum i S b, cut_left i S b, length-items S (parent (sizes S) i))) refl)

    big : HealStack.Some (sizes S)
    big = HealStack.fill_some low cap (sizes S) (omega (arith, law.least_two)) fill

    length-C : length C ≡ length S
    length-C = cut_length i S

    -- the last item went, and there is a next node
    moves : offset (sizes S) i ≡ left_over → suc (parent (sizes S) i) < length S → Mended enc C false i S Ss s (next_node (length Ss) s)
    moves h e =
        let n2 : suc (parent (sizes S) i) < length C = omega (arith, length-C) in
        let r = HealPath.right_is s.st s.ns s.ps C (parent (sizes S) i) Ss n2 stacked hu path_c in
        let q = HealStep.spot_next (sizes S) (sizes C) i (sizes_before (parent (sizes S) i) (remove_at (offset (sizes S) i)) S) (cut_size i S b ∙ sym h)
        (some_upd (parent (sizes S) i) (remove_at (offset (sizes S) i)) S big some_left) (rw (length-map C size) n2) in
        let n = not_last (sizes S) i big b (rw (length-map S size) e) in
        let np = HealNext.next_path_lem s.st s.ns s.ps C (parent (sizes S) i) Ss n2 stacked hu path_c in
        rw r (still _ refl refl (λ l d. (HealNext.next_deeper s.st s.ns s.ps (length Ss) l).0 d)
        (λ l d. simp (ne_eqb l (length Ss) (omega arith)) ((HealNext.next_deeper s.st s.ns s.ps (length Ss) l).1 (omega arith)))
        (here (omega (arith, cut_sum i S b)) (
          simp (eq-eqb (length Ss) (length Ss) refl) (sym q.1),
          rw q.0 (HealNext.path_deeper C (suc (parent (sizes S) i)) Ss (HealNext.next_at s.st s.ns s.ps (length Ss)).0 (HealNext.next_at s.st s.ns s.ps (length Ss)).1
              (HealNext.next_at s.st s.ns s.ps (length Ss)).0 (HealNext.at (HealNext.next_at s.st s.ns s.ps (length Ss)).1 (length Ss) 0)
              (λ l d. refl) (λ l d. simp (ne_eqb l (length Ss) (omega arith))) np),
        ) refl))

    -- no right neighbour
    is_last : ltb (suc (parent (sizes S) i)) (length S) ≡ false → suc (parent (sizes S) i) ≡ length S
    is_last f = let y = ltb-false (suc (parent (sizes S) i)) (length S) f in omega (arith, par_in)

    right_none : suc (parent (sizes S) i) ≡ length S → HealPath.right_sibling s.st s.ns s.ps (length Ss) ≡ None
    right_none e = HealPath.right_none s.st s.ns s.ps C (parent (sizes S) i) Ss (omega (arith, length-C)) stacked hu path_c

    -- the node and its right neighbour
    abbrev xs : List Item
    xs = items_at C (parent (sizes S) i)

    abbrev ys : List Item
    ys = items_at C (suc (parent (sizes S) i))

    xs-length : length xs ≡ left_over
    xs-length = ap length (HealRows.upd_same (parent (sizes S) i) (remove_at (offset (sizes S) i)) S par_in)

    ys-length : length ys ≡ get_or (sizes S) (suc (parent (sizes S) i)) 0
    ys-length = ap length (HealRows.upd-next (parent (sizes S) i) (remove_at (offset (sizes S) i)) S) ∙ length-items S (suc (parent (sizes S) i))

    here_words : s.st (s.ns (length Ss)) ≡ enc xs
    here_words = ap s.st (HealPath.path_node C (parent (sizes S) i) Ss s.ns s.ps path_c) ∙ HealMem.holds_at enc s.st C (parent (sizes S) i) (omega (arith, length-C, par_in)) row

    module _ (e : suc (parent (sizes S) i) < length S) where
      next_c : suc (parent (sizes S) i) < length C
      next_c = omega (arith, length-C)

      right-words : s.st (HealRows.num_at C (suc (parent (sizes S) i))) ≡ enc ys
      right-words = HealMem.holds_at enc s.st C (suc (parent (sizes S) i)) next_c row

      right_some : HealPath.right_sibling s.st s.ns s.ps (length Ss) ≡ Some (front ys, HealRows.num_at C (suc (parent (sizes S) i)))
      right_some =
          HealPath.right_is s.st s.ns s.ps C (parent (sizes S) i) Ss next_c stacked hu path_c ∙
          ap Some (HealRows.line_at (0, 0) C (suc (parent (sizes S) i)) next_c)

      once_c : HealMem.Once (nums C ++ numbers Ss)
      once_c = rw (HealRows.upd-nums (parent (sizes S) i) (remove_at (offset (sizes S) i)) S) once

      -- they share
      abbrev u : List Item
      u = xs ++ ys

      abbrev C1 : Row
      C1 = HealRows.upd (parent (sizes S) i) (λ _. take (HealMend.keep u) u) C

      abbrev st1 : HealMem.Store
      st1 = HealMem.put s.st (HealRows.num_at C (parent (sizes S) i)) (enc (take (HealMend.keep u) u))

      abbrev st2 : HealMem.Store
      st2 = HealPath.right_set (HealMem.put st1 (HealRows.num_at C1 (suc (parent (sizes S) i))) (enc (drop (HealMend.keep u) u))) s.ns s.ps (length Ss) (front (drop (HealMend.keep u) u))

      C-in : parent (sizes S) i < length C
      C-in = omega (arith, length-C, par_in)

      n1 : suc (parent (sizes S) i) < length C1
      n1 = rw (HealRows.upd-length (parent (sizes S) i) (λ _. take (HealMend.keep u) u) C) next_c

      shares : 2 * left_over < cap → cap < left_over + length ys → Mended enc (HealMend.share_at (parent (sizes S) i) u C) false i S Ss s (stored s st2)
      shares low high =
          let k = front (drop (HealMend.keep u) u) in
          let lu : length u ≡ left_over + length ys = length-append xs ys ∙ ap (◌+ length ys) xs-length in
          let large : left_over < HealMend.keep u = omega arith in
          let row1 : HealMem.Holds enc st1 C1 =
          HealMem.holds_upd enc s.st C (parent (sizes S) i) (λ _. take (HealMend.keep u) u) (enc (take (HealMend.keep u) u)) C-in (λ x. omega (arith, (HealMem.once-append (nums C) (numbers Ss) once_c) x)) refl row in
          let keeps1 : HealMem.Keeps s.st st1 (nums C) = HealMem.put_keeps s.st (HealRows.num_at C (parent (sizes S) i)) (enc (take (HealMend.keep u) u)) (nums C) (HealMem.num_at-counts C (parent (sizes S) i) C-in) in
          let up1 : HealMem.HoldsUp st1 Ss = HealMem.up_apart s.st st1 (nums C) Ss keeps1 (HealMem.once-append (nums C) (numbers Ss) once_c) hu in
          let f1 : front (take (HealMend.keep u) u) ≡ front xs = front-take (HealMend.keep u) u (omega arith) ∙ front-append xs ys (omega (arith, xs-length)) in
          let line1 : line C1 ≡ line C = HealStack.line_same (parent (sizes S) i) (λ _. take (HealMend.keep u) u) C f1 in
          let stacked1 : HealStack.Stacked C1 Ss = HealStack.stacked-line C C1 Ss (HealStack.alike_same (sym line1)) stacked in
          let path1 : HealPath.Leads C1 (parent (sizes S) i) Ss s.ns s.ps =
          HealNext.path_shape C C1 (parent (sizes S) i) s.ns s.ps (sym (HealRows.upd-num_at (parent (sizes S) i) (parent (sizes S) i) (λ _. take (HealMend.keep u) u) C)) (HealStack.same_refl Ss) path_c in
          let once1 : HealMem.Once (nums C1 ++ numbers Ss) = rw (HealRows.upd-nums (parent (sizes S) i) (λ _. take (HealMend.keep u) u) C) once_c in
          let g : List Item → List Item = λ _. drop (HealMend.keep u) u in
          let w = enc (drop (HealMend.keep u) u) in
          let M = HealMend.share_at (parent (sizes S) i) u C in
          let k = front (drop (HealMend.keep u) u) in
          let is-M : drop_row cap (parent (sizes S) i) (offset (sizes S) i) S ≡ M = drop_is ∙ HealMend.mend_shares cap (parent (sizes S) i) C (omega (arith, xs-length)) next_c (omega (arith, xs-length)) in
          let before : take (parent (sizes S) i) (sizes M) ≡ take (parent (sizes S) i) (sizes S) =
          sizes_before_next (parent (sizes S) i) g C1 ∙ sizes_before (parent (sizes S) i) (λ _. take (HealMend.keep u) u) C ∙ sizes_before (parent (sizes S) i) (remove_at (offset (sizes S) i)) S in
          let size-M : get_or (sizes M) (parent (sizes S) i) 0 ≡ HealMend.keep u =
          sym (length-items M (parent (sizes S) i)) ∙ ap length (items-next (parent (sizes S) i) g C1 ∙ HealRows.upd_same (parent (sizes S) i) (λ _. take (HealMend.keep u) u) C C-in) ∙
          length-take (HealMend.keep u) u ∙ least_of (HealMend.keep u) (length u) (omega arith) in
          let q = HealStep.spot (sizes S) (sizes M) i before (omega (arith, cut_left i S b, off_in)) in
          record {
            rows = HealStack.set_key (suc (parent (sizes S) i)) k Ss;
            shape = HealStack.set_key_shape (suc (parent (sizes S) i)) k Ss;
            stacked = HealStack.set_key_stacked C1 M Ss (suc (parent (sizes S) i)) k n1 (HealStack.alike_same (sym (HealRows.upd-line (suc (parent (sizes S) i)) g C1))) stacked1;
            row = HealStep.keyed_row enc C1 (parent (sizes S) i) Ss st1 s.ns s.ps stacked1 n1 once1 row1 up1 path1 w g refl k;
            up = HealStep.keyed_up enc C1 (parent (sizes S) i) Ss st1 s.ns s.ps stacked1 n1 once1 row1 up1 path1 w g refl k;
            keeps = λ x c.
                let c2 : count x (nums S) + count x (numbers Ss) ≡ 0 = rw (count-append x (nums S) (numbers Ss)) at c in
                let c3 : count x (nums C) ≡ 0 = rw (HealRows.upd-nums (parent (sizes S) i) (remove_at (offset (sizes S) i)) S) (omega arith) in
                let c4 : count x (nums C1) ≡ 0 = rw (HealRows.upd-nums (parent (sizes S) i) (λ _. take (HealMend.keep u) u) C) c3 in
                HealStep.keyed_keeps enc C1 (parent (sizes S) i) Ss st1 s.ns s.ps stacked1 n1 once1 row1 up1 path1 w g refl k x (omega arith) ∙
                HealStep.righted_keeps enc C1 (parent (sizes S) i) Ss st1 s.ns s.ps stacked1 n1 once1 row1 up1 path1 st1 w x c4 ∙ keeps1 x c3;
            zeros = λ x c d. absurd (let z = rw (HealMend.share-nums (parent (sizes S) i) u C ∙ HealRows.upd-nums (parent (sizes S) i) (remove_at (offset (sizes S) i)) S, HealNext.shape-numbers (HealStack.set_key_shape (suc (parent (sizes S) i)) k Ss)) at d in omega arith);
            free = refl;
            deeper = λ l d. refl;
            places = λ l d. refl;
            stands = here (rw (← is-M) (omega (arith, drop-sum i S b cap, not_last (sizes S) i big b (rw (length-map S size) e)))) (
              place ∙ sym q.1,
              rw q.0 (HealNext.path_shape C1 M (parent (sizes S) i) s.ns s.ps (sym (HealRows.upd-num_at (parent (sizes S) i) (suc (parent (sizes S) i)) g C1))
                  (HealStack.same_sym (HealStack.set_key_shape (suc (parent (sizes S) i)) k Ss)) path1),
            ) refl;
          }

      -- all goes right
      abbrev st3 : HealMem.Store
      st3 = HealStep.hand_key (HealMem.put s.st (HealRows.num_at C (suc (parent (sizes S) i))) (enc (xs ++ ys))) s.ns s.ps (length Ss)

      abbrev MR : Row
      MR = HealMend.merge_at (parent (sizes S) i) C

      merges : HealStep.Merged enc C (parent (sizes S) i) Ss s.st st3 → 2 * left_over < cap → left_over + length ys ≤ cap →
          Mended enc MR true i S Ss s (up (stored s st3))
      merges m low fits = with-exit (ih m.ghost MR (parent (sizes S) i) m.rows (stored s st3) (HealNext.shape-length m.shape) m.gap (rw m.len C-in) (rw m.len (omega (arith, next_c))) m.stacked
          (λ x. rw (same-num, HealNext.shape-numbers m.shape) (omega (arith, HealMem.gone_count S (parent (sizes S) i) x par_in, apart x))) m.up
          (HealNext.path_shape C m.ghost (parent (sizes S) i) s.ns s.ps (sym m.name) (HealStack.same_sym m.shape) path_c))
        where
          same-num : HealRows.num_at m.ghost (parent (sizes S) i) ≡ HealRows.num_at S (parent (sizes S) i)
          same-num = m.name ∙ HealRows.upd-num_at (parent (sizes S) i) (parent (sizes S) i) (remove_at (offset (sizes S) i)) S

          same_length : length m.rows ≡ length Ss
          same_length = HealNext.shape-length m.shape

          with-exit : Exit MR (parent (sizes S) i) (HealRows.num_at m.ghost (parent (sizes S) i)) m.rows (stored s st3) (up (stored s st3)) → Mended enc MR true i S Ss s (up (stored s st3))
          with-exit x =
              let is-M : drop_row cap (parent (sizes S) i) (offset (sizes S) i) S ≡ MR = drop_is ∙ HealMend.mend_merges cap (parent (sizes S) i) C (omega (arith, xs-length)) next_c (omega (arith, xs-length)) in
              let f : List Item → List Item = λ ys. xs ++ ys in
              let len-M : suc (length MR) ≡ length C = length-remove_at (parent (sizes S) i) (HealRows.upd (suc (parent (sizes S) i)) f C) (rw (HealRows.upd-length (suc (parent (sizes S) i)) f C) C-in) ∙ HealRows.upd-length (suc (parent (sizes S) i)) f C in
              let before : take (parent (sizes S) i) (sizes MR) ≡ take (parent (sizes S) i) (sizes S) =
              sizes_before_remove (parent (sizes S) i) (HealRows.upd (suc (parent (sizes S) i)) f C) ∙ sizes_before_next (parent (sizes S) i) f C ∙ sizes_before (parent (sizes S) i) (remove_at (offset (sizes S) i)) S in
              let size-M : get_or (sizes MR) (parent (sizes S) i) 0 ≡ left_over + length ys = merged_size (parent (sizes S) i) C next_c ∙ ap (◌+ length ys) xs-length in
              let ys-some : 1 ≤ length ys = rw ys-length (HealStack.some_at (sizes S) (suc (parent (sizes S) i)) big (rw (length-map S size) e)) in
              let q = HealStep.spot (sizes S) (sizes MR) i before (omega (arith, cut_left i S b, off_in)) in
              let counts : (y : ℕ) → count y (HealRows.num_at m.ghost (parent (sizes S) i) ∷ numbers m.rows) + count y (nums MR) ≡ count y (nums S) + count y (numbers Ss) =
              λ y. rw (same-num, HealNext.shape-numbers m.shape, HealMend.merge_nums (parent (sizes S) i) C, HealRows.upd-nums (parent (sizes S) i) (remove_at (offset (sizes S) i)) S, ← (HealRows.nums-remove_at (parent (sizes S) i) S))
              (omega (arith, HealMem.gone_count S (parent (sizes S) i) y par_in)) in
              record {
                rows = x.rows;
                shape = HealStack.same_trans x.shape (drop_up-shape (parent (sizes S) i) m.shape);
                stacked = x.stacked;
                row = HealMem.holds_apart enc st3 (up (stored s st3)).st (HealRows.num_at m.ghost (parent (sizes S) i) ∷ numbers m.rows) MR x.keeps (λ y. omega (arith, counts y, apart y)) m.row;
                up = x.up;
                keeps = λ y c.
                    let c2 : count y (nums S) + count y (numbers Ss) ≡ 0 = rw (count-append y (nums S) (numbers Ss)) at c in
                    x.keeps y (omega (arith, counts y)) ∙ m.keeps y (rw (HealRows.upd-nums (parent (sizes S) i) (remove_at (offset (sizes S) i)) S) c);
                zeros = λ y c d. x.zeros y (omega (arith, counts y)) (omega arith);
                free = rw (← same-num, ← (freed_up-shape (parent (sizes S) i) m.shape)) x.free;
                deeper = λ l d. x.deeper l (rw same_length d);
                places = λ l d. x.places l (omega (arith, same_length));
                stands = elim x.stands [
                  | here a p g ↦ here (rw (← is-M) (omega (arith, drop-sum i S b cap, not_last (sizes S) i big b (rw (length-map S size) e))))
                      (x.places (length Ss) (omega (arith, same_length)) ∙ place ∙ sym q.1, rw q.0 p) g
                  | past a g ↦ absurd (omega (arith, len-M, next_c))
                ];
              }

      merged-length : length MR < length S
      merged-length =
          let f : List Item → List Item = λ ys. xs ++ ys in
          omega (arith, length-remove_at (parent (sizes S) i) (HealRows.upd (suc (parent (sizes S) i)) f C) (rw (HealRows.upd-length (suc (parent (sizes S) i)) f C) C-in), HealRows.upd-length (suc (parent (sizes S) i)) f C, length-C)

      shared-length : length (HealMend.share_at (parent (sizes S) i) u C) ≡ length S
      shared-length = HealRows.upd-length (suc (parent (sizes S) i)) (λ _. drop (HealMend.keep u) u) C1 ∙ HealRows.upd-length (parent (sizes S) i) (λ _. take (HealMend.keep u) u) C ∙ length-C

    -- heal_level with an item left
    pub heal_some : Mended enc (drop_row cap (parent (sizes S) i) (offset (sizes S) i) S) (lost (drop_row cap (parent (sizes S) i) (offset (sizes S) i) S) S) i S Ss s (heal_level o cap up (length Ss) s)
    heal_some =
        let en : o.entries (s.st (s.ns (length Ss))) ≡ left_over = ap o.entries here_words ∙ law.entries_is xs (omega (arith, xs-length)) ∙ xs-length in
        let same : lost C S ≡ false = le-ltb (length C) (length S) (omega (arith, length-C)) in
        elim (test (leb cap (2 * left_over))) [
          | is h ↦
              let z = leb-true cap (2 * left_over) h in
              let is-M : drop_row cap (parent (sizes S) i) (offset (sizes S) i) S ≡ C = drop_is ∙ HealMend.mend_stays cap (parent (sizes S) i) C (omega (arith, xs-length)) (omega (arith, length-C, par_in)) (omega arith) in
              elim (test (eqb (offset (sizes S) i) left_over)) [
                | is q ↦
                    let at-end = eqb-true (offset (sizes S) i) left_over q in
                    elim (test (ltb (suc (parent (sizes S) i)) (length S))) [
                      | is f ↦
                          let se : heal_level o cap up (length Ss) s ≡ next_node (length Ss) s = simp (en, h, place, q) in
                          rw (is-M, same, se) (moves at-end (ltb-true _ _ f))
                      | isnt f ↦
                          let lst = is_last f in
                          let none_right = right_none (is_last f) in
                          let se : heal_level o cap up (length Ss) s ≡ lives s false = simp (en, h, place, q, none_right) in
                          rw (is-M, same, se) (ends-here at-end lst)
                    ]
                | isnt q ↦
                    let y = eqb-false (offset (sizes S) i) left_over q in
                    let se : heal_level o cap up (length Ss) s ≡ s = simp (en, h, place, q) in
                    rw (is-M, same, se) (stays (omega (arith, cut_left i S b, off_in)))
              ]
          | isnt h ↦
              let z = leb-false cap (2 * left_over) h in
              let nz : eqb left_over 0 ≡ false = ne_eqb left_over 0 (omega arith) in
              elim (test (ltb (suc (parent (sizes S) i)) (length S))) [
                | isnt f ↦
                    let lst = is_last f in
                    let none_right = right_none (is_last f) in
                    let is-M : drop_row cap (parent (sizes S) i) (offset (sizes S) i) S ≡ C = drop_is ∙ HealMend.mend_last cap (parent (sizes S) i) C (omega (arith, xs-length)) (omega (arith, length-C)) in
                    elim (test (ltb (offset (sizes S) i) left_over)) [
                      | is q ↦
                          let se : heal_level o cap up (length Ss) s ≡ s = simp (en, h, nz, place, none_right, q) in
                          rw (is-M, same, se) (stays (ltb-true _ _ q))
                      | isnt q ↦
                          let y = ltb-false (offset (sizes S) i) left_over q in
                          let se : heal_level o cap up (length Ss) s ≡ lives s false = simp (en, h, nz, place, none_right, q) in
                          rw (is-M, same, se) (ends-here (omega (arith, cut_left i S b, off_in)) lst)
                    ]
                | is f ↦
                    let e = ltb-true (suc (parent (sizes S) i)) (length S) f in
                    let rs = right_some e in
                    let ys-some : 1 ≤ length ys = rw ys-length (HealStack.some_at (sizes S) (suc (parent (sizes S) i)) big (rw (length-map S size) e)) in
                    let ys-few : length ys ≤ cap = rw ys-length (fill_at low cap (sizes S) (suc (parent (sizes S) i)) fill) in
                    let xs-some : 1 ≤ length xs = omega (arith, xs-length) in
                    let xs-few : length xs ≤ cap = omega (arith, xs-length) in
                    let en2 : o.entries (s.st (HealRows.num_at C (suc (parent (sizes S) i)))) ≡ length ys = ap o.entries (right-words e) ∙ law.entries_is ys ys-some in
                    elim (test (leb (left_over + length ys) cap)) [
                      | is g ↦
                          let fits = leb-true (left_over + length ys) cap g in
                          let ga : o.gather (s.st (s.ns (length Ss))) (s.st (HealRows.num_at C (suc (parent (sizes S) i)))) (front ys) ≡ enc (xs ++ ys) =
                          rw (here_words, right-words e) (law.gather_is xs ys xs-some ys-some (omega (arith, xs-length))) in
                          let is-M : drop_row cap (parent (sizes S) i) (offset (sizes S) i) S ≡ MR e = drop_is ∙ HealMend.mend_merges cap (parent (sizes S) i) C (omega (arith, xs-length)) (next_c e) (omega (arith, xs-length)) in
                          let fewer : lost (MR e) S ≡ true = lt-ltb (length (MR e)) (length S) (merged-length e) in
                          let se : heal_level o cap up (length Ss) s ≡ up (stored s (st3 e)) = simp (en, h, nz, rs, en2, g, ga) in
                          rw (is-M, fewer, se) (merges e
                          (HealStep.merge_ready enc C (parent (sizes S) i) Ss s.st s.ns s.ps stacked (next_c e) xs-some (once_c e) row hu path_c (enc (xs ++ ys)) refl) z fits)
                      | isnt g ↦
                          let big2 = leb-false (left_over + length ys) cap g in
                          let high : cap < length xs + length ys = omega (arith, xs-length) in
                          let le : o.left (s.st (s.ns (length Ss))) (s.st (HealRows.num_at C (suc (parent (sizes S) i)))) (front ys) ≡ enc (take (HealMend.keep (u e)) (u e)) =
                          rw (here_words, right-words e) (law.left_is xs ys xs-some xs-few ys-few high) in
                          let ri : o.right (s.st (s.ns (length Ss))) (s.st (HealRows.num_at C (suc (parent (sizes S) i)))) (front ys) ≡ enc (drop (HealMend.keep (u e)) (u e)) =
                          rw (here_words, right-words e) (law.right_is xs ys xs-some xs-few ys-few high) in
                          let mi : o.mid (s.st (s.ns (length Ss))) (s.st (HealRows.num_at C (suc (parent (sizes S) i)))) (front ys) ≡ front (drop (HealMend.keep (u e)) (u e)) =
                          rw (here_words, right-words e) (law.mid_is xs ys xs-some xs-few ys-few high) in
                          let nm = HealPath.path_node C (parent (sizes S) i) Ss s.ns s.ps path_c in
                          let mate = HealRows.upd-num_at (suc (parent (sizes S) i)) (parent (sizes S) i) (λ _. take (HealMend.keep (u e)) (u e)) C in
                          let is-M : drop_row cap (parent (sizes S) i) (offset (sizes S) i) S ≡ HealMend.share_at (parent (sizes S) i) (u e) C = drop_is ∙ HealMend.mend_shares cap (parent (sizes S) i) C (omega (arith, xs-length)) (next_c e) high in
                          let as_many : lost (HealMend.share_at (parent (sizes S) i) (u e) C) S ≡ false = le-ltb (length (HealMend.share_at (parent (sizes S) i) (u e) C)) (length S) (omega (arith, shared-length e)) in
                          let se : heal_level o cap up (length Ss) s ≡ stored s (st2 e) = simp (en, h, nz, rs, en2, g) (rw (le, ri, mi, nm, mate)) in
                          rw (is-M, as_many, se) (shares e z big2)
                    ]
              ]
        ]

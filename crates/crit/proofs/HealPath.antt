-- DEFINITIONS and PROOFS. A path through stacked rows; the right neighbour, the critical keys, and one store at the branch level
use mathlib.Core.Path.{subst, ◌≡◌, refl, sym, ap, ◌∙◌}
use mathlib.Core.List.{List, [], ◌∷◌, ◌++◌, map}
use mathlib.Core.Bool.{true, false}
use Rattle.std.specs.Prelude.{Some, None}
use Prim.Native.Nat.{ℕ, zero, suc, ◌+◌, ◌-◌, ◌≤◌, ◌<◌}
use native.Mathlib.Omega.{arith}
use lib.ListN.{length, get_or, set, length-map}
use lib.Seq.{set-append_left}
use lib.Dec.{ltb, eqb}
use borrow.Author.Tests.{lt-ltb, le-ltb, ltb-true, ltb-false, eqb-true, eqb-false, ne_eqb}
use Rattle.forest.specs.Lists.{sum, count, pad, parent, offset}
use Rattle.forest.specs.Pairs.{Item}
use Rattle.forest.specs.Rows.{Row, size, front, nums, sizes, line, items_at, Fill}
use Rattle.forest.specs.Trees.{numbers}
use Rattle.forest.specs.Pools.{inner_words}
use Rattle.forest.proofs.ListLaws.{is, isnt, test, offset_lt}
use Rattle.forest.proofs.RowLaws.{length-items, fill_at, parent_there}
use Rattle.crit.proofs.HealRows.{upd, num_at, rekey_at, length-rekey_at, item_at, line_at, upd-nums}
use Rattle.crit.proofs.HealStack.{within, across, next, last, first, fill_some, some_at, vals_rekey, alike_at, Stacked, stacked-sum, set_key}
use Rattle.crit.proofs.HealMem.{Store, put, Keeps, Once, once-append, Holds, holds_at, holds_apart, holds_upd, holds_same, HoldsUp, up_apart, put_keeps, num_at-counts}
use Rattle.forest.proofs.CountLaws.{length-pad, set-pad}
use Rattle.forest.proofs.Descent.{front-first}
pub use Rattle.node.proofs.Words.{inner_first, inner_key, inner_child}
pub use Rattle.crit.specs.Paths.{Leads}
pub use Rattle.crit.specs.States.{more, right_sibling, crit_key, right_set, left_set}
use Rattle.forest.proofs.WordLaws.{count-append}

-- Words of an inner node
abbrev fst : Item → ℕ
fst x = x.0

abbrev snd : Item → ℕ
snd x = x.1

keys-rekey : (i k : ℕ) (xs : List Item) → map fst (rekey_at i k xs) ≡ set (map fst xs) i k
keys-rekey i k [] = refl
keys-rekey zero k (x ∷ xs) = refl
keys-rekey (suc i) k (x ∷ xs) = ap (x.0 ∷◌) (keys-rekey i k xs)

pub inner_set : (o k : ℕ) (xs : List Item) → suc o < length xs → length xs ≤ 8 → set (inner_words xs) (suc o) k ≡ inner_words (rekey_at (suc o) k xs)
inner_set o k [] h l = absurd (omega arith)
inner_set o k (x ∷ xs) h l =
    let a : length (pad 7 (map fst xs)) ≡ 7 = length-pad 7 (map fst xs) in
    let b : o < length (map fst xs) = rw (length-map xs fst) (omega arith) in
    let c : set (pad 7 (map fst xs) ++ pad 8 (map snd (x ∷ xs))) o k ≡ pad 7 (map fst (rekey_at o k xs)) ++ pad 8 (map snd (x ∷ rekey_at o k xs)) =
    set-append_left (pad 7 (map fst xs)) (pad 8 (map snd (x ∷ xs))) o k (omega arith) ∙
    rw (keys-rekey o k xs, vals_rekey o k xs, ← (set-pad 7 (map fst xs) o k b)) in
    rw (length-rekey_at o k xs) (ap ((16 + (length (x ∷ xs) - 1)) ∷◌) c)

pub inner_set' : (o k : ℕ) (xs : List Item) → (o ≡ 0 → ⊥) → o < length xs → length xs ≤ 8 → set (inner_words xs) o k ≡ inner_words (rekey_at o k xs)
inner_set' zero k xs n h l = absurd (n refl)
inner_set' (suc o) k xs n h l = inner_set o k xs h l

pub inner_key' : (o : ℕ) (xs : List Item) → (o ≡ 0 → ⊥) → o < length xs → length xs ≤ 8 → get_or (inner_words xs) o 0 ≡ (get_or xs o (0, 0)).0
inner_key' zero xs n h l = absurd (n refl)
inner_key' (suc o) xs n h l = inner_key xs o (omega arith)

pub path_node : (R : Row) (j : ℕ) (Ss : List Row) (ns ps : ℕ → ℕ) → Leads R j Ss ns ps → ns (length Ss) ≡ num_at R j
path_node R j [] ns ps p = p
path_node R j (S ∷ Ss) ns ps p = p.0

module _ (st : Store) (ns ps : ℕ → ℕ) where
  -- what is known at one level
  pub record Here (S : Row) (i : ℕ) (l : ℕ) : Type 0 where
    pub par : parent (sizes S) i < length S
    pub off : offset (sizes S) i < length (items_at S (parent (sizes S) i))
    pub few : length (items_at S (parent (sizes S) i)) ≤ 8
    pub wide : get_or (sizes S) (parent (sizes S) i) 0 ≡ length (items_at S (parent (sizes S) i))
    pub words : st (ns l) ≡ inner_words (items_at S (parent (sizes S) i))
    pub place : ps l ≡ offset (sizes S) i

  pub here : (S : Row) (Ss : List Row) (i : ℕ) → i < sum (sizes S) → Fill 4 8 (sizes S) → Holds inner_words st S → ps (length Ss) ≡ offset (sizes S) i → Leads S (parent (sizes S) i) Ss ns ps → Here S i (length Ss)
  here S Ss i b f hs q p =
      let pl : parent (sizes S) i < length S = parent_there S i b in
      let e = length-items S (parent (sizes S) i) in
      record {
        par = pl;
        off = rw e (offset_lt (sizes S) i b);
        few = rw e (fill_at 4 8 (sizes S) (parent (sizes S) i) f);
        wide = sym e;
        words = ap st (path_node S (parent (sizes S) i) Ss ns ps p) ∙ holds_at inner_words st S (parent (sizes S) i) pl hs;
        place = q;
      }

  pub more_is : {S : Row} {i l : ℕ} → Here S i l → more st ns ps l ≡ ltb (suc (offset (sizes S) i)) (length (items_at S (parent (sizes S) i)))
  more_is {S} {i} {l} r = rw (r.words, r.place) (count (offset (sizes S) i) (length (items_at S (parent (sizes S) i))) r.off)
    where
      count : (o n : ℕ) → o < n → ltb o (16 + (n - 1) - 16) ≡ ltb (suc o) n
      count o n h = elim (test (ltb (suc o) n)) [
        | is e ↦ rw e (lt-ltb o (16 + (n - 1) - 16) (let z = ltb-true (suc o) n e in omega arith))
        | isnt e ↦ rw e (le-ltb o (16 + (n - 1) - 16) (let z = ltb-false (suc o) n e in omega arith))
      ]

  -- the key of the right neighbour changes in all rows: one word changes
  pub right_set-keeps : (R : Row) (j k : ℕ) (Ss : List Row) → j < length R → Stacked R Ss → HoldsUp st Ss → Leads R j Ss ns ps → Keeps st (right_set st ns ps (length Ss) k) (numbers Ss)
  right_set-keeps R j k [] h s hs p x c = refl
  right_set-keeps R j k (S ∷ Ss) h s hs p x c =
      let u : sum (sizes S) ≡ length R = stacked-sum R S s.0 in
      let r = here S Ss j (omega arith) s.1 hs.0 p.1 p.2 in
      let c' : count x (nums S) + count x (numbers Ss) ≡ 0 = rw (count-append x (nums S) (numbers Ss)) at c in
      elim (test (more st ns ps (length Ss))) [
        | is e ↦ simp e (
            put_keeps st (ns (length Ss)) (set (st (ns (length Ss))) (suc (ps (length Ss))) k) (nums S)
            (rw (path_node S (parent (sizes S) j) Ss ns ps p.2) (num_at-counts S (parent (sizes S) j) r.par)) x (omega arith))
        | isnt e ↦ simp e (right_set-keeps S (parent (sizes S) j) k Ss r.par s.2 hs.1 p.2 x (omega arith))
      ]

  pub right_set_holds : (R : Row) (j k : ℕ) (Ss : List Row) → suc j < length R → Stacked R Ss → Once (numbers Ss) → HoldsUp st Ss → Leads R j Ss ns ps →
      HoldsUp (right_set st ns ps (length Ss) k) (set_key (suc j) k Ss)
  right_set_holds R j k [] h s o hs p = tt
  right_set_holds R j k (S ∷ Ss) h s o hs p =
      let u : sum (sizes S) ≡ length R = stacked-sum R S s.0 in
      let r = here S Ss j (omega arith) s.1 hs.0 p.1 p.2 in
      let m = more_is r in
      let a = once-append (nums S) (numbers Ss) o in
      let items = items_at S (parent (sizes S) j) in
      elim (next (sizes S) j (fill_some 4 8 (sizes S) (omega arith) s.1) (omega arith)) [
        | within x y z ↦
            let g : suc (offset (sizes S) j) < length (items_at S (parent (sizes S) j)) = omega (arith, r.wide) in
            let e : more st ns ps (length Ss) ≡ true = m ∙ lt-ltb (suc (offset (sizes S) j)) (length (items_at S (parent (sizes S) j))) g in
            let w : set (st (ns (length Ss))) (suc (ps (length Ss))) k ≡ inner_words (rekey_at (suc (offset (sizes S) j)) k (items_at S (parent (sizes S) j))) =
            rw (r.words, r.place) (inner_set (offset (sizes S) j) k (items_at S (parent (sizes S) j)) g r.few) in
            let nn = path_node S (parent (sizes S) j) Ss ns ps p.2 in
            let v : right_set st ns ps (length (S ∷ Ss)) k ≡ put st (ns (length Ss)) (set (st (ns (length Ss))) (suc (ps (length Ss))) k) = simp e refl in
            subst (λ (x : Store). HoldsUp x (set_key (suc j) k (S ∷ Ss))) (sym v) (simp (y, z, ne_eqb (suc (offset (sizes S) j)) 0 (omega arith)) (
              rw nn (holds_upd inner_words st S (parent (sizes S) j) (rekey_at (suc (offset (sizes S) j)) k) _ r.par (λ q. omega (arith, a q)) (rw nn at w) hs.0),
              up_apart st (put st (ns (length Ss)) (set (st (ns (length Ss))) (suc (ps (length Ss))) k)) (nums S) Ss
                  (put_keeps st (ns (length Ss)) _ (nums S) (rw nn (num_at-counts S (parent (sizes S) j) r.par))) a hs.1,
            ))
        | across x y z ↦
            let e : more st ns ps (length Ss) ≡ false = m ∙ le-ltb (suc (offset (sizes S) j)) (length (items_at S (parent (sizes S) j))) (omega (arith, r.wide)) in
            let n2 : suc (parent (sizes S) j) < length S =
            rw y at (parent_there S (suc j) (omega arith)) in
            let v : right_set st ns ps (length (S ∷ Ss)) k ≡ right_set st ns ps (length Ss) k = simp e refl in
            subst (λ (x : Store). HoldsUp x (set_key (suc j) k (S ∷ Ss))) (sym v) (simp (y, z) (
              holds_apart inner_words st (right_set st ns ps (length Ss) k) (numbers Ss) (upd (suc (parent (sizes S) j)) (rekey_at 0 k) S)
                  (right_set-keeps S (parent (sizes S) j) k Ss r.par s.2 hs.1 p.2)
                  (λ q. rw (upd-nums (suc (parent (sizes S) j)) (rekey_at 0 k) S) (omega (arith, a q)))
                  (holds_same inner_words st S (suc (parent (sizes S) j)) (rekey_at 0 k) (inner_first k (items_at S (suc (parent (sizes S) j)))) hs.0),
              right_set_holds S (parent (sizes S) j) k Ss n2 s.2 (λ q. omega (arith, a q)) hs.1 p.2,
            ))
      ]

  -- the key of the node itself changes in all rows: one word changes, none at the far left
  pub left_set-keeps : (R : Row) (j k : ℕ) (Ss : List Row) → j < length R → Stacked R Ss → HoldsUp st Ss → Leads R j Ss ns ps → Keeps st (left_set st ns ps (length Ss) k) (numbers Ss)
  left_set-keeps R j k [] h s hs p x c = refl
  left_set-keeps R j k (S ∷ Ss) h s hs p x c =
      let u : sum (sizes S) ≡ length R = stacked-sum R S s.0 in
      let r = here S Ss j (omega arith) s.1 hs.0 p.1 p.2 in
      let c' : count x (nums S) + count x (numbers Ss) ≡ 0 = rw (count-append x (nums S) (numbers Ss)) at c in
      elim (test (eqb (ps (length Ss)) 0)) [
        | is e ↦ simp e (left_set-keeps S (parent (sizes S) j) k Ss r.par s.2 hs.1 p.2 x (omega arith))
        | isnt e ↦ simp e (
            put_keeps st (ns (length Ss)) (set (st (ns (length Ss))) (ps (length Ss)) k) (nums S)
            (rw (path_node S (parent (sizes S) j) Ss ns ps p.2) (num_at-counts S (parent (sizes S) j) r.par)) x (omega arith))
      ]

  pub left_set_holds : (R : Row) (j k : ℕ) (Ss : List Row) → j < length R → Stacked R Ss → Once (numbers Ss) → HoldsUp st Ss → Leads R j Ss ns ps →
      HoldsUp (left_set st ns ps (length Ss) k) (set_key j k Ss)
  left_set_holds R j k [] h s o hs p = tt
  left_set_holds R j k (S ∷ Ss) h s o hs p =
      let u : sum (sizes S) ≡ length R = stacked-sum R S s.0 in
      let r = here S Ss j (omega arith) s.1 hs.0 p.1 p.2 in
      let a = once-append (nums S) (numbers Ss) o in
      let nn = path_node S (parent (sizes S) j) Ss ns ps p.2 in
      elim (test (eqb (offset (sizes S) j) 0)) [
        | is e ↦
            let z : offset (sizes S) j ≡ 0 = eqb-true _ _ e in
            let t : eqb (ps (length Ss)) 0 ≡ true = rw r.place e in
            let v : left_set st ns ps (length (S ∷ Ss)) k ≡ left_set st ns ps (length Ss) k = simp t refl in
            subst (λ (x : Store). HoldsUp x (set_key j k (S ∷ Ss))) (sym v) (simp e (
              holds_apart inner_words st (left_set st ns ps (length Ss) k) (numbers Ss) (upd (parent (sizes S) j) (rekey_at (offset (sizes S) j) k) S)
                  (left_set-keeps S (parent (sizes S) j) k Ss r.par s.2 hs.1 p.2)
                  (λ q. rw (upd-nums (parent (sizes S) j) (rekey_at (offset (sizes S) j) k) S) (omega (arith, a q)))
                  (holds_same inner_words st S (parent (sizes S) j) (rekey_at (offset (sizes S) j) k) (rw z (inner_first k (items_at S (parent (sizes S) j)))) hs.0),
              left_set_holds S (parent (sizes S) j) k Ss r.par s.2 (λ q. omega (arith, a q)) hs.1 p.2,
            ))
        | isnt e ↦
            let t : eqb (ps (length Ss)) 0 ≡ false = rw r.place e in
            let w : set (st (ns (length Ss))) (ps (length Ss)) k ≡ inner_words (rekey_at (offset (sizes S) j) k (items_at S (parent (sizes S) j))) =
            rw (r.words, r.place) (inner_set' (offset (sizes S) j) k (items_at S (parent (sizes S) j)) (eqb-false _ _ e) r.off r.few) in
            let v : left_set st ns ps (length (S ∷ Ss)) k ≡ put st (ns (length Ss)) (set (st (ns (length Ss))) (ps (length Ss)) k) = simp t refl in
            subst (λ (x : Store). HoldsUp x (set_key j k (S ∷ Ss))) (sym v) (simp e (
              rw nn (holds_upd inner_words st S (parent (sizes S) j) (rekey_at (offset (sizes S) j) k) _ r.par (λ q. omega (arith, a q)) (rw nn at w) hs.0),
              up_apart st (put st (ns (length Ss)) (set (st (ns (length Ss))) (ps (length Ss)) k)) (nums S) Ss
                  (put_keeps st (ns (length Ss)) _ (nums S) (rw nn (num_at-counts S (parent (sizes S) j) r.par))) a hs.1,
            ))
      ]

  -- the right neighbour is the next of the row, with its key
  pub right_is : (R : Row) (j : ℕ) (Ss : List Row) → suc j < length R → Stacked R Ss → HoldsUp st Ss → Leads R j Ss ns ps →
      right_sibling st ns ps (length Ss) ≡ Some (get_or (line R) (suc j) (0, 0))
  right_is R j [] h s hs p = absurd (omega arith)
  right_is R j (S ∷ Ss) h s hs p =
      let u : sum (sizes S) ≡ length R = stacked-sum R S s.0 in
      let r = here S Ss j (omega arith) s.1 hs.0 p.1 p.2 in
      let m = more_is r in
      let q : get_or (items_at S (parent (sizes S) (suc j))) (offset (sizes S) (suc j)) (0, 0) ≡ get_or (line R) (suc j) (0, 0) =
      sym (item_at (0, 0) S (suc j) (omega arith)) ∙ alike_at (0, 0) j s.0 in
      elim (next (sizes S) j (fill_some 4 8 (sizes S) (omega arith) s.1) (omega arith)) [
        | within x y z ↦
            let g : suc (offset (sizes S) j) < length (items_at S (parent (sizes S) j)) = omega (arith, r.wide) in
            let e : more st ns ps (length Ss) ≡ true = m ∙ lt-ltb (suc (offset (sizes S) j)) (length (items_at S (parent (sizes S) j))) g in
            let q' = rw (y, z) at q in
            simp e (simp (r.words, r.place, inner_key (items_at S (parent (sizes S) j)) (offset (sizes S) j) (omega (arith, r.few)), inner_child (items_at S (parent (sizes S) j)) (suc (offset (sizes S) j)) (omega (arith, r.few)))
            (ap Some q'))
        | across x y z ↦
            let e : more st ns ps (length Ss) ≡ false = m ∙ le-ltb (suc (offset (sizes S) j)) (length (items_at S (parent (sizes S) j))) (omega (arith, r.wide)) in
            let n2 : suc (parent (sizes S) j) < length S = rw y at (parent_there S (suc j) (omega arith)) in
            let q' = rw (y, z) at q in
            let l2 = length-items S (suc (parent (sizes S) j)) in
            let one : 1 ≤ length (items_at S (suc (parent (sizes S) j))) =
            rw l2 (some_at (sizes S) (suc (parent (sizes S) j)) (fill_some 4 8 (sizes S) (omega arith) s.1) (rw (length-map S size) n2)) in
            let w : st (num_at S (suc (parent (sizes S) j))) ≡ inner_words (items_at S (suc (parent (sizes S) j))) = holds_at inner_words st S (suc (parent (sizes S) j)) n2 hs.0 in
            simp (
              e,
              right_is S (parent (sizes S) j) Ss n2 s.2 hs.1 p.2,
              line_at (0, 0) S (suc (parent (sizes S) j)) n2,
              w,
              inner_child (items_at S (suc (parent (sizes S) j))) 0 (omega arith),
            )
            (ap Some (whole (items_at S (suc (parent (sizes S) j))) one ∙ q'))
      ]
    where
      whole : (xs : List Item) → 1 ≤ length xs → ◌≡◌ {A = Item} (front xs, (get_or xs 0 (0, 0)).1) (get_or xs 0 (0, 0))
      whole [] h = absurd (omega arith)
      whole (x ∷ xs) h = refl

  pub right_none : (R : Row) (j : ℕ) (Ss : List Row) → suc j ≡ length R → Stacked R Ss → HoldsUp st Ss → Leads R j Ss ns ps → right_sibling st ns ps (length Ss) ≡ None
  right_none R j [] h s hs p = refl
  right_none R j (S ∷ Ss) h s hs p =
      let u : sum (sizes S) ≡ length R = stacked-sum R S s.0 in
      let r = here S Ss j (omega arith) s.1 hs.0 p.1 p.2 in
      let z = last (sizes S) j (fill_some 4 8 (sizes S) (omega arith) s.1) (omega arith) in
      let e : more st ns ps (length Ss) ≡ false = more_is r ∙ le-ltb (suc (offset (sizes S) j)) (length (items_at S (parent (sizes S) j))) (omega (arith, r.wide)) in
      simp (e, right_none S (parent (sizes S) j) Ss (z.1 ∙ length-map S size) s.2 hs.1 p.2)

  -- the critical key is the front of the node; at the far left there is none
  pub crit_is : (R : Row) (j : ℕ) (Ss : List Row) → suc j < length R → Stacked R Ss → HoldsUp st Ss → Leads R (suc j) Ss ns ps → crit_key st ns ps (length Ss) ≡ Some (front (items_at R (suc j)))
  crit_is R j [] h s hs p = absurd (omega arith)
  crit_is R j (S ∷ Ss) h s hs p =
      let u : sum (sizes S) ≡ length R = stacked-sum R S s.0 in
      let r = here S Ss (suc j) (omega arith) s.1 hs.0 p.1 p.2 in
      let q : get_or (items_at S (parent (sizes S) (suc j))) (offset (sizes S) (suc j)) (0, 0) ≡ (front (items_at R (suc j)), num_at R (suc j)) =
      sym (item_at (0, 0) S (suc j) (omega arith)) ∙ alike_at (0, 0) j s.0 ∙ line_at (0, 0) R (suc j) h in
      let k : (get_or (items_at S (parent (sizes S) (suc j))) (offset (sizes S) (suc j)) (0, 0)).0 ≡ front (items_at R (suc j)) = ap fst q in
      elim (next (sizes S) j (fill_some 4 8 (sizes S) (omega arith) s.1) (omega arith)) [
        | within x y z ↦
            let t : eqb (ps (length Ss)) 0 ≡ false = rw (r.place, z) (ne_eqb (suc (offset (sizes S) j)) 0 (omega arith)) in
            simp t (rw (r.words, r.place) (ap Some (inner_key' (offset (sizes S) (suc j)) (items_at S (parent (sizes S) (suc j))) (λ o. let v = sym z ∙ o in omega arith) r.off r.few ∙ k)))
        | across x y z ↦
            let t : eqb (ps (length Ss)) 0 ≡ true = rw (r.place, z) refl in
            let n2 : suc (parent (sizes S) j) < length S = rw y at r.par in
            let k' = rw (y, z) at k in
            let one = rw (y, z) at r.off in
            simp (t, crit_is S (parent (sizes S) j) Ss n2 s.2 hs.1 (rw y at p.2)) (ap Some (front-first (items_at S (suc (parent (sizes S) j))) one ∙ k'))
      ]

  pub crit_none : (R : Row) (Ss : List Row) → 1 ≤ length R → Stacked R Ss → HoldsUp st Ss → Leads R 0 Ss ns ps → crit_key st ns ps (length Ss) ≡ None
  crit_none R [] h s hs p = refl
  crit_none R (S ∷ Ss) h s hs p =
      let u : sum (sizes S) ≡ length R = stacked-sum R S s.0 in
      let r = here S Ss 0 (omega arith) s.1 hs.0 p.1 p.2 in
      let f = first (sizes S) (fill_some 4 8 (sizes S) (omega arith) s.1) (omega arith) in
      let t : eqb (ps (length Ss)) 0 ≡ true = rw (r.place, f.1) refl in
      simp (t, crit_none S Ss (rw f.0 at r.par) s.2 hs.1 (rw f.0 at p.2))

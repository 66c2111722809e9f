-- PROOFS. After healing and shrinking: the rows, the numbers freed, the root and the path are those of the definition
use mathlib.Core.Path.{◌≡◌, refl, sym, ap, ◌∙◌, subst}
use mathlib.Core.List.{List, [], ◌∷◌}
use mathlib.Core.Bool.{Bool, true, false, cond}
use Prim.Native.Nat.{ℕ, ◌+◌, ◌≤◌}
use lib.ListN.{length, get_or}
use lib.Dec.{ltb}
use Rattle.forest.specs.Lists.{sum, parent}
use Rattle.forest.specs.Pairs.{Item}
use Rattle.forest.specs.Rows.{Row, nums, sizes, line, refresh, rekey}
use Rattle.forest.specs.Trees.{numbers, drop_up, trim, trimmed, from_top}
use Rattle.forest.specs.Pools.{push_all, root_above}
use Rattle.forest.proofs.ListLaws.{is, isnt, test}
use Rattle.forest.proofs.RowLaws.{length-line, rekey-nums, rekey-sizes}
use Rattle.crit.specs.States.{State}
use Rattle.remove.specs.Ends.{shrink}
use Rattle.crit.proofs.HealStack
use Rattle.crit.proofs.HealMem
use Rattle.crit.proofs.HealPath
use Rattle.crit.proofs.HealNext
use Rattle.heal.proofs.HealUp.{Mended}
use Rattle.heal.proofs.HealTree.{refresh_holds}
use Rattle.remove.proofs.HealTrim.{free_all, free_all_free, shrunk, trim-stacked, trimmed_holds, path_trim}
use Rattle.forest.proofs.UniqueLaws.{nums-length}

pub trim-shape : (n : ℕ) (R R' : Row) {Ss Ss' : List Row} → length R ≡ length R' → HealStack.SameShape Ss Ss' → HealStack.SameShape (trim R Ss) (trim R' Ss')
trim-shape n R R' e HealStack.none = HealStack.none
trim-shape n R R' e (HealStack.also {S} {S'} {Ss} {Ss'} a b r) = elim (test (ltb (length R') 2)) [
  | is t ↦ let t2 : ltb (length R) 2 ≡ true = rw e t in simp (t, t2) HealStack.none
  | isnt t ↦ let t2 : ltb (length R) 2 ≡ false = rw e t in simp (t, t2) (HealStack.also a b (trim-shape n S S' (nums-length S S' a) r))
]

top_shape : {Ss Ss' : List Row} → HealStack.SameShape Ss Ss' → from_top Ss ≡ from_top Ss'
top_shape HealStack.none = refl
top_shape (HealStack.also a b r) = rw (top_shape r, a)

pub trimmed-shape : (R R' : Row) {Ss Ss' : List Row} → length R ≡ length R' → HealStack.SameShape Ss Ss' → trimmed R Ss ≡ trimmed R' Ss'
trimmed-shape R R' e HealStack.none = refl
trimmed-shape R R' e (HealStack.also {S} {S'} {Ss} {Ss'} a b r) = rw (e, top_shape r, a, trimmed-shape S S' (nums-length S S' a) r)

pub root-shape : (R R' : Row) {Ss Ss' : List Row} → nums R ≡ nums R' → HealStack.SameShape Ss Ss' → root_above R Ss ≡ root_above R' Ss'
root-shape R R' e HealStack.none = ap (λ (l : List ℕ). get_or l 0 0) e
root-shape R R' e (HealStack.also {S} {S'} a b r) = root-shape S S' a r

-- bringing rows up to date keeps their shape
pub refresh_same : (R : Row) (Ss : List Row) → HealStack.Stacked R Ss → HealStack.SameShape (refresh R Ss) Ss
refresh_same R [] s = HealStack.none
refresh_same R (S ∷ Ss) s =
    let z : sum (sizes S) ≡ length (line R) = HealStack.stacked-sum R S s.0 ∙ sym (length-line R) in
    HealStack.also (rekey-nums (line R) S) (rekey-sizes (line R) S z) (on S Ss (rekey (line R) S) (rekey-nums (line R) S) s.2)
  where
    -- only the row's length counts
    on : (S : Row) (Ss : List Row) (S' : Row) → nums S' ≡ nums S → HealStack.Stacked S Ss → HealStack.SameShape (refresh S' Ss) Ss
    on S [] S' e s = HealStack.none
    on S (U ∷ Us) S' e s =
        let z : sum (sizes U) ≡ length (line S') = HealStack.stacked-sum S U s.0 ∙ sym (nums-length S' S e) ∙ sym (length-line S') in
        HealStack.also (rekey-nums (line S') U) (rekey-sizes (line S') U z) (on U Us (rekey (line S') U) (rekey-nums (line S') U) s.2)

-- the rows of the definition
module _ {enc : List Item → List ℕ} {M : Row} {w : Bool} {i : ℕ} {L : Row} {Rs : List Row} {s s' : State} (m : Mended enc M w i L Rs s s')
    (some_left : 1 ≤ length M) (once : HealMem.Once (numbers (cond w (drop_up (parent (sizes L) i) Rs) Rs))) where
  abbrev pub above : List Row
  above = cond w (drop_up (parent (sizes L) i) Rs) Rs

  abbrev pub new : List Row
  new = refresh M (trim M above)

  once_rows : HealMem.Once (numbers m.rows)
  once_rows x = rw (HealNext.shape-numbers m.shape) (once x)

  -- the loop's end
  pub end : shrink (length m.rows) s' (root_above M m.rows) ≡ record { state = free_all (trimmed M above) s'; root = root_above M new }
  end =
      let a = shrunk M m.rows s' some_left m.stacked once_rows m.up in
      let t = trimmed-shape M M refl m.shape in
      let e : refresh M (trim M m.rows) ≡ new = HealStack.refresh-shape M (trim-shape 0 M M refl m.shape) in
      let r : root_above M (trim M m.rows) ≡ root_above M new =
      root-shape M M refl (HealStack.same_sym (refresh_same M (trim M m.rows) (trim-stacked M m.rows some_left m.stacked))) ∙ ap (root_above M) e in
      a ∙ rw (t, r)

  pub end_holds : HealMem.HoldsUp (free_all (trimmed M above) s').st new
  end_holds =
      let t = trimmed-shape M M refl m.shape in
      let e : refresh M (trim M m.rows) ≡ new = HealStack.refresh-shape M (trim-shape 0 M M refl m.shape) in
      rw (← e, ← t) (refresh_holds M (trim M m.rows) (free_all (trimmed M m.rows) s').st (trim-stacked M m.rows some_left m.stacked) (trimmed_holds M m.rows s' once_rows m.up))

  pub end_free : (free_all (trimmed M above) s').free ≡ push_all (trimmed M above) s'.free
  end_free = free_all_free (trimmed M above) s'

  pub end_path : (j d : ℕ) → length new + d ≡ length m.rows → HealPath.Leads M j m.rows s'.ns s'.ps → HealPath.Leads M j new (λ l. s'.ns (l + d)) (λ l. s'.ps (l + d))
  end_path j d e p =
      let q : refresh M (trim M m.rows) ≡ new = HealStack.refresh-shape M (trim-shape 0 M M refl m.shape) in
      let sh : HealStack.SameShape (refresh M (trim M m.rows)) (trim M m.rows) = refresh_same M (trim M m.rows) (trim-stacked M m.rows some_left m.stacked) in
      let e' : length (trim M m.rows) + d ≡ length m.rows = rw (← (HealNext.shape-length sh), q) e in
      subst (λ (Ts : List Row). HealPath.Leads M j Ts (λ l. s'.ns (l + d)) (λ l. s'.ps (l + d))) q
      (HealNext.path_shape M M j (λ l. s'.ns (l + d)) (λ l. s'.ps (l + d)) refl (HealStack.same_sym sh) (path_trim M j m.rows s'.ns s'.ps d e' p))

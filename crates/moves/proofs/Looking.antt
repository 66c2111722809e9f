-- PROOFS. The pair that a cursor is on, and the one before it
use mathlib.Core.Path.{◌≡◌, refl, sym, ap, ◌∙◌}
use mathlib.Core.List.{List}
use mathlib.Core.Bool.{true, false, true≢false}
use Prim.Native.Nat.{ℕ, zero, suc, ◌-◌, ◌≤◌}
use native.Mathlib.Omega.{arith}
use lib.ListN.{get_or}
use lib.Dec.{ltb, eqb}
use Rattle.std.specs.Prelude.{Option, Some, None, is_none}
use Rattle.std.proofs.lemmas.Option.{none-some}
use borrow.Author.Tests.{eq-eqb, eqb-true, ltb-true}
use Rattle.forest.specs.Rows.{Row}
use Rattle.forest.specs.Pools.{Pool, tree_of}
use Rattle.forest.specs.Cursors.{Spot, off, on, leaves, pair_at, prev, prev_pair, path_of, cursor_at}
use Rattle.forest.specs.Answers.{told, nothing}
use Rattle.forest.specs.declared.Cursor.{Cursor}
use Rattle.forest.specs.declared.Moved.{Moved}
use Rattle.forest.proofs.ListLaws.{is, isnt, test, tests}
use Rattle.path.specs.Levels.{left_branch}
use Rattle.path.specs.Cores.{Ready, Of, At}
use Rattle.path.proofs.Seats.{off_is, Seat, seat, leaf_place}
use Rattle.moves.specs.Moves.{at_first, Steps, Seen, Back}
use Rattle.moves.proofs.Neighbours.{no_left, prev_left}
use Rattle.moves.proofs.Moving.{moved_tree, moved_at}
use Rattle.forest.proofs.CursorCalls.{fits-prev}

-- at the first entry

none_is : (b : Option ℕ) → is_none b ≡ true → b ≡ None
none_is None e = refl
none_is (Some l) e = absurd (true≢false (sym e))

parts : (c : Cursor) → at_first c ≡ true → (1 ≤ c.size) × (get_or c.places (c.size - 1) 0 ≡ 0) × (left_branch c.places (c.size - 1) ≡ None)
unfolding at_first
parts c h = elim (test (ltb 0 c.size)) [
  | isnt a ↦ absurd (true≢false (sym (simp a at h)))
  | is a ↦ elim (test (eqb (get_or c.places (c.size - 1) 0) 0)) [
    | isnt b ↦ absurd (true≢false (sym (simp (a, b) at h)))
    | is b ↦ (ltb-true _ _ a, eqb-true _ _ b, none_is _ (simp (a, b) at h))
  ]
]

module _ (ws : List ℕ) (t : ℕ) (c : Cursor) (y : Ready ws t c.tree) where
  -- there it stands at the first pair of the first leaf
  first_spot : at_first c ≡ true → (p : Pool) (s : Spot) → Of ws p → At p c s → s ≡ on 0 0
  first_spot e p s o a = go (seat ws t c y (parts c e).0 p s o a) (seat ws t c y (parts c e).0 p s o a).j refl
    where
      go : (u : Seat ws t p c s) (i : ℕ) → u.j ≡ i → s ≡ on 0 0
      go u zero k =
          let z : u.e ≡ 0 = sym (leaf_place ws t c p s u) ∙ (parts c e).1 in
          u.spot_is ∙ cc
      go u (suc i) k = absurd (none-some _ (sym (parts c e).2 ∙ (prev_left ws t c y (parts c e).0 p s u i k).branch))

  at_front : (p : Pool) → Of ws p → At p c (on 0 0) → at_first c ≡ true
  unfolding at_first
  at_front p o a = elim (test (ltb 0 c.size)) [
    | isnt k ↦
        let z = off_is c p (on 0 0) (omega tests) a in
        absurd (let w : ◌≡◌ {A = ℕ} 0 1 = cc in omega arith)
    | is k ↦
        let h : 1 ≤ c.size = ltb-true _ _ k in
        let u = seat ws t c y h p (on 0 0) o a in
        let q = u.spot_is in
        let i : u.j ≡ 0 = cc in
        let j : u.e ≡ 0 = cc in
        simp (k, eq-eqb (get_or c.places (c.size - 1) 0) 0 (leaf_place ws t c p (on 0 0) u ∙ j), no_left ws t c y h p (on 0 0) u i)
  ]

  -- elsewhere the pair before is the one at the spot before
  other_pair : at_first c ≡ false → (p : Pool) (s : Spot) → Of ws p → At p c s → (L : Row) → prev_pair L s ≡ pair_at L (prev L s)
  other_pair e p off o a L = refl
  other_pair e p (on zero zero) o a L = absurd (true≢false (sym (at_front p o a) ∙ e))
  other_pair e p (on (suc j) zero) o a L = refl
  other_pair e p (on j (suc k)) o a L = refl

  -- prev gives none there, and the cursor stays
  pub back_first : at_first c ≡ true → Back ws c (record { reply = nothing; cursor = c })
  back_first e = record {
    cursor = record {
      to = λ p s o a.
          let q = first_spot e p s o a in
          let z : prev (leaves (tree_of p c.tree)) s ≡ s = rw q in
          sym (ap (λ (v : Spot). cursor_at c.tree (path_of (tree_of p c.tree) v)) z ∙ a.same);
    };
    pair = λ p s o a. let q = first_spot e p s o a in rw q;
  }

  -- elsewhere it gives the pair that the moved cursor is on
  pub back_seen : at_first c ≡ false → (d : Cursor) (r : Moved) → Steps prev ws c d → Seen ws d r → Back ws c r
  back_seen e d r x z = record {
    cursor = rw z.cursor x;
    pair = λ p s o a.
        let b = moved_at prev fits-prev ws c d x p s o a in
        let k = moved_tree prev fits-prev ws c d x p s o a in
        z.pair p (prev (leaves (tree_of p c.tree)) s) o b ∙
        ap (λ (n : ℕ). told (pair_at (leaves (tree_of p n)) (prev (leaves (tree_of p c.tree)) s))) k ∙ ap told (sym (other_pair e p s o a (leaves (tree_of p c.tree))));
  }

-- PROOFS. The level where a path branches off, turn by turn of the loops that look for it
use mathlib.Core.Path.{◌≡◌, refl, sym, ap, ◌∙◌}
use mathlib.Core.Bool.{Bool, true, false, not, true≢false}
use mathlib.Core.List.{List}
use Prim.Native.Nat.{ℕ, zero, suc, ◌+◌, ◌≤◌, ◌<◌}
use native.Mathlib.Omega.{arith}
use lib.ListN.{get_or}
use lib.Dec.{eqb}
use Rattle.std.specs.Prelude.{Option, Some, None}
use Rattle.std.proofs.lemmas.Option.{none-some, same_Some}
use borrow.Author.Tests.{ltb-true}
use Rattle.forest.proofs.ListLaws.{is, isnt, test, tests, tri, less, same, more}
use Rattle.path.specs.Ways.{base, block}
use Rattle.path.specs.Levels.{more_right, right_branch, left_branch}
use Rattle.path.proofs.Steps.{first_word}

-- r is the last place below n where a test holds, and none where there is none
pub record IsLast (test : ℕ → Bool) (n : ℕ) (r : Option ℕ) : Type 0 where
  pub none : r ≡ None → (k : ℕ) → k < n → test k ≡ false
  pub within : (i : ℕ) → r ≡ Some i → i < n
  pub here : (i : ℕ) → r ≡ Some i → test i ≡ true
  pub after : (i : ℕ) → r ≡ Some i → (k : ℕ) → i + 1 ≤ k → k < n → test k ≡ false

last_none : (test : ℕ → Bool) (r : Option ℕ) → IsLast test 0 r → r ≡ None
last_none test None x = refl
last_none test (Some i) x = absurd (omega (arith, x.within i refl))

last_here : (test : ℕ → Bool) (n : ℕ) (r : Option ℕ) → test n ≡ true → IsLast test (suc n) r → r ≡ Some n
last_here test n None e x = absurd (true≢false (sym e ∙ x.none refl n (omega arith)))
last_here test n (Some i) e x = elim (tri i n) [
  | less h ↦ absurd (true≢false (sym e ∙ x.after i refl n (omega arith) (omega arith)))
  | same h ↦ ap Some h
  | more h ↦ absurd (omega (arith, x.within i refl))
]

last_below : (test : ℕ → Bool) (n : ℕ) (r : Option ℕ) → test n ≡ false → IsLast test (suc n) r → IsLast test n r
last_below test n r e x = record {
  none = λ q k h. x.none q k (omega arith);
  within = λ i q. elim (tri i n) [
    | less h ↦ h
    | same h ↦ absurd (true≢false (sym (rw h at (x.here i q)) ∙ e))
    | more h ↦ absurd (omega (arith, x.within i q))
  ];
  here = x.here;
  after = λ i q k m h. x.after i q k m (omega arith);
}

module _ (ws : List ℕ) (t : ℕ) (ns ps : List ℕ) where
  -- looking for that level from the right
  pub right_is : (l : ℕ) (r : Option ℕ) → IsLast (more_right ws t ns ps) l r → r ≡ right_branch ws t ns ps l
  unfolding right_branch
  right_is zero r x = last_none (more_right ws t ns ps) r x
  right_is (suc l) r x = elim (test (more_right ws t ns ps l)) [
    | is e ↦ simp e (last_here (more_right ws t ns ps) l r e x)
    | isnt e ↦ simp e (right_is l r (last_below (more_right ws t ns ps) l r e x))
  ]

  -- the level that is found has more to the right
  pub right_more : (l k : ℕ) → right_branch ws t ns ps l ≡ Some k → (k < l) × (get_or ps k 0 + 16 < get_or ws (base t (get_or ns k 0)) 0)
  unfolding right_branch
  right_more zero k h = absurd (none-some k h)
  right_more (suc l) k h = elim (test (more_right ws t ns ps l)) [
    | is e ↦
        let z = same_Some l k (simp e at h) in
        rw (← z) (omega arith, rw first_word at (ltb-true (get_or ps l 0 + 16) (get_or (block ws t (get_or ns l 0)) 0 0) e))
    | isnt e ↦ let z = right_more l k (simp e at h) in (omega arith, z.1)
  ]

module _ (ps : List ℕ) where
  -- looking for that level from the right
  pub left_is : (l : ℕ) (r : Option ℕ) → IsLast (λ k. not (eqb (get_or ps k 0) 0)) l r → r ≡ left_branch ps l
  unfolding left_branch
  left_is zero r x = last_none (λ k. not (eqb (get_or ps k 0) 0)) r x
  left_is (suc l) r x = elim (test (eqb (get_or ps l 0) 0)) [
    | is e ↦ simp e (left_is l r (last_below (λ k. not (eqb (get_or ps k 0) 0)) l r (simp e) x))
    | isnt e ↦ simp e (last_here (λ k. not (eqb (get_or ps k 0) 0)) l r (simp e) x)
  ]

  -- the level that is found has something to the left
  pub left_more : (l k : ℕ) → left_branch ps l ≡ Some k → (k < l) × (1 ≤ get_or ps k 0)
  unfolding left_branch
  left_more zero k h = absurd (none-some k h)
  left_more (suc l) k h = elim (test (eqb (get_or ps l 0) 0)) [
    | isnt e ↦ let z = same_Some l k (simp e at h) in rw (← z) (omega arith, omega tests)
    | is e ↦ let z = left_more l k (simp e at h) in (omega arith, z.1)
  ]

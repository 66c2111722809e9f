-- PROOFS. A request for no call is answered with 6, and a pool is lent its part of the words, which come back before the others
use mathlib.Core.Path.{◌≡◌, sym, ap, ◌∙◌}
use mathlib.Core.List.{List, [], ◌++◌, append-nil}
use Prim.Native.Nat.{ℕ, min}
use native.Mathlib.Omega.{arith}
use lib.Dec.{ltb}
use lib.ListN.{length, take, drop, length-take, length-append, length-drop, drop_of_length-le}
use lib.Seq.{take_all, take_at, drop_at}
use borrow.Author.Tests.{ne_eqb, ltb-true, ltb-false}
use Rattle.forest.proofs.ListLaws.{test, is, isnt}
use Rattle.forest.specs.declared.Answer.{Answer}
use Rattle.forest.specs.Answers.{refusal}
use Rattle.requests.specs.Replay.{asked}
use Rattle.requests.specs.Turns.{Heeds}

-- a request for no call
pub heeds_none : (kind t k v : ℕ) (before after : List ℕ) (a : Answer) → (kind ≡ 1 → ⊥) → (kind ≡ 2 → ⊥) → (kind ≡ 3 → ⊥) → after ≡ before → a ≡ refusal 6 →
    Heeds (asked kind t k v) before after a
unfolding asked
heeds_none kind t k v before after a n m o e f = rw (ne_eqb kind 1 n, ne_eqb kind 2 m, ne_eqb kind 3 o) (e, f)

-- the first n words of s, where n is the smaller of `words` and all that there are
module _ (s : List ℕ) (words n : ℕ) (e : n ≡ min words (length s)) where
  pub lent_length : n ≡ length (take n s)
  lent_length = sym (simp length-take (omega arith))

  pub lent : take n s ≡ take words s
  lent = elim (test (ltb words (length s))) [
    | is l ↦ let q : n ≡ words = omega (arith, ltb-true words (length s) l) in ap (λ (k : ℕ). take k s) q
    | isnt l ↦
        let h = ltb-false words (length s) l in
        take_all n s (omega arith) ∙ sym (take_all words s h)
  ]

  -- and they come back as v
  pub back : (v : List ℕ) → length v ≡ length (take n s) → take words (v ++ drop n s) ≡ v
  back v h =
      let k : length v ≡ n = h ∙ sym lent_length in
      elim (test (ltb words (length s))) [
        | is l ↦ take_at v (drop n s) words (omega (arith, ltb-true words (length s) l))
        | isnt l ↦
            let o = ltb-false words (length s) l in
            let z : drop n s ≡ [] = drop_of_length-le s {i = n} (omega arith) in
            rw (z, append-nil) (take_all words v (omega arith))
      ]

  -- the others stay
  pub behind : (v : List ℕ) → length v ≡ length (take n s) → drop words (v ++ drop n s) ≡ drop words s
  behind v h =
      let k : length v ≡ n = h ∙ sym lent_length in
      elim (test (ltb words (length s))) [
        | is l ↦
            let q : n ≡ words = omega (arith, ltb-true words (length s) l) in
            rw q (drop_at v (drop words s) words (k ∙ q))
        | isnt l ↦
            let o = ltb-false words (length s) l in
            drop_of_length-le (v ++ drop n s) {i = words} (simp (length-append, length-drop) (omega arith)) ∙ sym (drop_of_length-le s {i = words} o)
      ]

-- PROOFS. Demand 3, once for every kind of call: where a call's answer and the shape it leaves go by its tree's shape alone, and other trees stay as they are,
-- each tree does what it would do alone
use mathlib.Core.Path.{◌≡◌, refl, sym, ap, ◌∙◌}
use mathlib.Core.List.{List, [], ◌∷◌}
use mathlib.Core.Bool.{true, false}
use mathlib.Core.Logic.{◌≢◌}
use Prim.Native.Nat.{ℕ}
use lib.Dec.{eqb}
use borrow.Author.Tests.{eqb-true, eqb-false}
use Rattle.forest.specs.Runs.{Kind, finally, replies, mine, own_calls, own_replies, AllKept}
use Rattle.forest.proofs.ListLaws.{is, isnt, test, cons_eq}

-- what a kind of call must meet: `shape p t` is the shape of tree t in state p; `Room t p q` says that tree t has in q at least the room that it has in p
pub record ByShape {Call State Answer Shape : Type 0} (k : Kind Call State Answer) (shape : State → ℕ → Shape) (Room : ℕ → State → State → Type 0) : Type 0 where
  -- of a kept call, answer and new shape are functions of the call and the old shape
  pub says : Call → Shape → Answer
  pub makes : Call → Shape → Shape
  pub answer_by : (c : Call) (p : State) → k.kept c p ≡ true → k.answer c p ≡ says c (shape p (k.target c))
  pub shape_by : (c : Call) (p : State) → k.kept c p ≡ true → shape (k.next c p) (k.target c) ≡ makes c (shape p (k.target c))
  -- other trees keep their shape, and a call that is struck out changes none
  pub others : (c : Call) (p : State) (t : ℕ) → t ≢ k.target c → shape (k.next c p) t ≡ shape p t
  pub struck : (c : Call) (p : State) (t : ℕ) → k.kept c p ≡ false → shape (k.next c p) t ≡ shape p t
  -- what is kept in p is kept in q, and there is room again afterwards
  pub keeps : (c : Call) (p q : State) → Room (k.target c) p q → shape p (k.target c) ≡ shape q (k.target c) → k.kept c p ≡ true → k.kept c q ≡ true
  pub room_own : (c : Call) (p q : State) → Room (k.target c) p q → shape p (k.target c) ≡ shape q (k.target c) → k.kept c p ≡ true →
      Room (k.target c) (k.next c p) (k.next c q)
  pub room_other : (c : Call) (t : ℕ) (p q : State) → Room t p q → shape (k.next c p) t ≡ shape p t → Room t (k.next c p) q

-- the calls of t that were kept in p, made alone in q: the same answers, none struck out, the same shape
pub record Same {Call State Answer Shape : Type 0} (k : Kind Call State Answer) (shape : State → ℕ → Shape) (t : ℕ) (cs : List Call) (p q : State) : Type 0 where
  pub same_replies : replies k (own_calls k t cs p) q ≡ own_replies k t cs p
  pub all_kept : AllKept k (own_calls k t cs p) q
  pub same_shape : shape (finally k (own_calls k t cs p) q) t ≡ shape (finally k cs p) t

module _ {Call State Answer Shape : Type 0} (k : Kind Call State Answer) (shape : State → ℕ → Shape) (Room : ℕ → State → State → Type 0) (b : ByShape k shape Room) where
  -- a call that is not of t, or struck out, is as if it were not made
  skip : (t : ℕ) (c : Call) (cs : List Call) (p q : State) → mine k t c p ≡ false → Same k shape t cs (k.next c p) q → Same k shape t (c ∷ cs) p q
  skip t c cs p q e s = record { same_replies = simp e s.same_replies; all_kept = simp e s.all_kept; same_shape = simp e s.same_shape }

  pub alone : (t : ℕ) (cs : List Call) (p q : State) → Room t p q → shape p t ≡ shape q t → Same k shape t cs p q
  alone t [] p q r a = record { same_replies = refl; all_kept = tt; same_shape = sym a }
  alone t (c ∷ cs) p q r a = elim (test (k.kept c p)) [
    | is e ↦ elim (test (eqb (k.target c) t)) [
      | is f ↦
          let z : k.target c ≡ t = eqb-true (k.target c) t f in
          let r' : Room (k.target c) p q = rw z r in
          let a' : shape p (k.target c) ≡ shape q (k.target c) = rw z a in
          let d : k.kept c q ≡ true = b.keeps c p q r' a' e in
          let own : shape (k.next c p) (k.target c) ≡ shape (k.next c q) (k.target c) =
          b.shape_by c p e ∙ ap (b.makes c) a' ∙ sym (b.shape_by c q d) in
          let s = alone t cs (k.next c p) (k.next c q) (rw z at (b.room_own c p q r' a' e)) (rw z at own) in
          let reply : k.answer c q ≡ k.answer c p = b.answer_by c q d ∙ ap (b.says c) (sym a') ∙ sym (b.answer_by c p e) in
          record {
            same_replies = simp (e, f) (cons_eq reply s.same_replies);
            all_kept = simp (e, f) (d, s.all_kept);
            same_shape = simp (e, f) s.same_shape;
          }
      | isnt f ↦
          let o = b.others c p t (λ z. eqb-false _ _ f (sym z)) in
          skip t c cs p q (simp f) (alone t cs (k.next c p) q (b.room_other c t p q r o) (o ∙ a))
    ]
    | isnt e ↦
        let o = b.struck c p t e in
        skip t c cs p q (elim (test (eqb (k.target c) t)) [ is f ↦ simp (e, f) | isnt f ↦ simp f ]) (alone t cs (k.next c p) q (b.room_other c t p q r o) (o ∙ a))
  ]

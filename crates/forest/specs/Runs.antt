-- DEFINITIONS. Calls in a row, for any kind of call: what comes of them, and what one tree has of them. Demand 3 is said of these
use Rattle.std.specs.Prelude.{List, [], ◌∷◌, Bool, true, cond, ◌&&◌, ◌≡◌, ℕ, eqb}

-- a kind of call on states of trees
pub record Kind (Call State Answer : Type 0) : Type 0 where
  -- the answer, and the state afterwards
  pub answer : Call → State → Answer
  pub next : Call → State → State
  -- the number of the tree it is for
  pub target : Call → ℕ
  -- is it kept, that is not one of those that are struck out for their refusal
  pub kept : Call → State → Bool

module _ {Call State Answer : Type 0} (k : Kind Call State Answer) where
  -- the state after some calls
  abbrev pub finally : List Call → State → State
  finally [] p = p
  finally (c ∷ cs) p = finally cs (k.next c p)

  -- and their answers
  abbrev pub replies : List Call → State → List Answer
  replies [] p = []
  replies (c ∷ cs) p = k.answer c p ∷ replies cs (k.next c p)

  -- is c a call of tree t that is kept
  abbrev pub mine : ℕ → Call → State → Bool
  mine t c p = eqb (k.target c) t && k.kept c p

  -- the calls of tree t that are kept, the others struck out
  abbrev pub own_calls : ℕ → List Call → State → List Call
  own_calls t [] p = []
  own_calls t (c ∷ cs) p = cond (mine t c p) (c ∷ own_calls t cs (k.next c p)) (own_calls t cs (k.next c p))

  -- and the answers to these
  abbrev pub own_replies : ℕ → List Call → State → List Answer
  own_replies t [] p = []
  own_replies t (c ∷ cs) p = cond (mine t c p) (k.answer c p ∷ own_replies t cs (k.next c p)) (own_replies t cs (k.next c p))

  -- none of some calls is one that is struck out
  abbrev pub AllKept : List Call → State → Type 0
  AllKept [] p = Unit {0}
  AllKept (c ∷ cs) p = (k.kept c p ≡ true) × AllKept cs (k.next c p)

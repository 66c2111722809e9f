-- PROOFS. A reason against a call, or none: by cases; and no two of them are the same, since their numbers differ
use mathlib.Core.Path.{◌≡◌, refl}
use mathlib.Core.Option.{Option, none, some}
use Prim.Native.Nat.{ℕ}
use Rattle.forest.specs.declared.Refusal.{Refusal}
use Rattle.forest.specs.Answers.{number_of}

pub data Verdict (o : Option Refusal) : Type 0 where
  passes : o ≡ none → Verdict o
  stops : (x : Refusal) → o ≡ some x → Verdict o

pub verdict : (o : Option Refusal) → Verdict o
verdict none = passes refl
verdict (some x) = stops x refl

-- the number of a reason, 0 if there is none: of two that are not the same `omega` sees it
abbrev pub number : Option Refusal → ℕ
number none = 0
number (some x) = number_of x

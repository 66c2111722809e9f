-- DEFINITIONS. An answer as a line of text, in bytes
use Rattle.std.specs.Prelude.{List, [], ◌∷◌, ◌++◌, cond, ℕ, zero, suc, ◌+◌, ◌/◌, ◌%◌, ltb}
use Rattle.forest.specs.Lists.{once}
use Rattle.forest.specs.declared.Answer.{Answer}

-- the decimal digits of n, with no zero in front, before a text; at most `most` of them
abbrev pub digits_of : ℕ → ℕ → List ℕ → List ℕ
digits_of zero n text = text
digits_of (suc most) n text = cond (ltb n 10) ((48 + n) ∷ text) (digits_of most (n / 10) ((48 + n % 10) ∷ text))

-- a word as text: ten digits hold it
unfoldable pub decimal : ℕ → List ℕ
decimal n = digits_of 10 n []

-- the line of an answer: number, found as 0 or 1, value, with a space (32) between, and a line end (10)
unfoldable pub line : Answer → List ℕ
line a = decimal a.number ++ (32 ∷ (48 + once a.found) ∷ 32 ∷ (decimal a.value ++ (10 ∷ [])))

-- the text of some answers, a line each
abbrev pub lines : List Answer → List ℕ
lines [] = []
lines (a ∷ more) = line a ++ lines more

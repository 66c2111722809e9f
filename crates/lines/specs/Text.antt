-- DEFINITIONS. What the programs print of words and replies
use Rattle.std.specs.Prelude.{ℕ, List, [], ◌∷◌, ◌++◌, flat_map}
use Rattle.std.specs.Fmt.{decimal}
use Rattle.std.specs.Int.{from_bool}
use Rattle.forest.specs.declared.Answer.{Answer}

-- a number's digits, and a blank
abbrev pub spaced : ℕ → List ℕ
spaced n = decimal n ++ 32 ∷ []

-- the four numbers of an answer; found is 1, not found 0
abbrev pub answer_text : Answer → List ℕ
answer_text a = flat_map spaced (a.number ∷ from_bool a.found ∷ a.key ∷ a.value ∷ [])

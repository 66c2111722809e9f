-- DEFINITIONS. Answers: what a call finds or is refused for, and the one numbering
use Rattle.std.specs.Prelude.{Bool, true, false, ℕ, Result, Ok, Err, Some, None}
use Rattle.std.specs.Prelude as rust
use Rattle.std.proofs.Math.Option.{Option, none, some}
use Rattle.forest.specs.Pairs.{Item}
use Rattle.forest.specs.declared.Answer.{Answer}
use Rattle.forest.specs.declared.Refusal.{Refusal}
use Rattle.forest.specs.declared.Refusal.TheVariants.{Unsound, NoTree, NoPlace, NoRoom, NoFormat}
use Rattle.forest.specs.declared.Hit.{Hit}
use Rattle.forest.specs.declared.Hit.TheVariants.{Value, Pair}

-- what a call answers: what it finds, if anything, or why it is refused
abbrev pub Reply : Type 0
Reply = Result (rust.Option Hit) Refusal

-- done, and nothing found
abbrev pub nothing : Reply
nothing = Ok None

-- done, and a value found
abbrev pub value : ℕ → Reply
value v = Ok (Some (Value v))

-- done, and a pair found
abbrev pub pair : ℕ → ℕ → Reply
pair k v = Ok (Some (Pair k v))

-- found with a value, or not found
abbrev pub held : Option ℕ → Reply
held none = nothing
held (some v) = value v

-- found with key and value, or not found
abbrev pub told : Option Item → Reply
told none = nothing
told (some x) = pair x.0 x.1

-- of a pair the value alone
abbrev pub valued : Option Item → Reply
valued none = nothing
valued (some x) = value x.1

-- does it count in demand 3: a refusal is struck out
abbrev pub kept : Reply → Bool
kept (Ok o) = true
kept (Err x) = false

-- Document 01's numbers

-- the table
abbrev pub number_of : Refusal → ℕ
number_of Unsound = 1
number_of NoTree = 2
number_of NoPlace = 3
number_of NoRoom = 4
number_of NoFormat = 5

-- a number, and nothing found: refused by it, unless it is 0
abbrev pub refusal : ℕ → Answer
refusal n = record { number = n; found = false; key = 0; value = 0 }

-- done, and found with a key and a value; 0 for a key that is not told
abbrev pub found_with : ℕ → ℕ → Answer
found_with k v = record { number = 0; found = true; key = k; value = v }

-- the answer that a reply is
abbrev pub answer_of : Reply → Answer
answer_of (Ok None) = refusal 0
answer_of (Ok (Some (Value v))) = found_with 0 v
answer_of (Ok (Some (Pair k v))) = found_with k v
answer_of (Err x) = refusal (number_of x)

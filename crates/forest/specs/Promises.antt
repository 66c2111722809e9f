-- DEFINITIONS. What the public calls promise of the words, for any words
use Rattle.std.specs.Prelude.{◌≡◌, List, ℕ, Err}
use Rattle.forest.specs.Answers.{Reply}
use Rattle.forest.specs.Pools.{Pool, WellFormed, Sound, encode, Call, call}
use Rattle.forest.specs.declared.Refusal.TheVariants.{Unsound}
use Rattle.forest.specs.declared.Cursor.{Cursor}
use Rattle.forest.specs.Cursors.{Move, move}

-- a call by key: `before` and `after` are the words, r is the answer
pub record Calls (m : ℕ) (c : Call) (before after : List ℕ) (r : Reply) : Type 0 where
  pub sound_words : (p : Pool) → WellFormed m p → encode p ≡ before → encode (call c p).pool ≡ after
  pub sound_answer : (p : Pool) → WellFormed m p → encode p ≡ before → (call c p).answer ≡ r
  pub unsound_words : (Sound m before → ⊥) → after ≡ before
  pub unsound_answer : (Sound m before → ⊥) → r ≡ Err Unsound

-- a cursor call: c is the cursor handed in, d the one handed back
pub record Moves (m : ℕ) (v : Move) (c : Cursor) (before after : List ℕ) (r : Reply) (d : Cursor) : Type 0 where
  pub sound_words : (p : Pool) → WellFormed m p → encode p ≡ before → encode (move v c p).pool ≡ after
  pub sound_answer : (p : Pool) → WellFormed m p → encode p ≡ before → (move v c p).answer ≡ r
  pub sound_cursor : (p : Pool) → WellFormed m p → encode p ≡ before → (move v c p).cursor ≡ d
  pub unsound_words : (Sound m before → ⊥) → after ≡ before
  pub unsound_answer : (Sound m before → ⊥) → r ≡ Err Unsound
  pub unsound_cursor : (Sound m before → ⊥) → d ≡ c

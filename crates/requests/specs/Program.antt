-- DEFINITIONS. The replay program: a turn as it was taken, and the turns from the first word on
use Rattle.std.specs.Prelude.{◌≡◌, List, ◌++◌, cond, ℕ, ◌≤◌, ◌<◌, take}
use Rattle.requests.specs.declared.Stage.{Stage}
use Rattle.requests.specs.declared.Stage.TheVariants.{Kind, Stopped}
use Rattle.requests.specs.declared.Piece.{Piece}
use Rattle.requests.specs.declared.Taken.{Taken}
use Rattle.requests.specs.Text.{lines}
use Rattle.requests.specs.Turns.{wants_of, spoken, Turned}

-- the bytes that were read
abbrev pub bytes_of : Piece → List ℕ
bytes_of p = take p.got.count p.bytes

-- the text that is handed to the writer
abbrev pub text_of : Taken → List ℕ
text_of d = lines (spoken d.told.said)

-- what is read after a turn: nothing where what is said could not be written
abbrev pub following : Taken → Stage
following d = cond d.told.written d.turn.stage Stopped

-- a turn taken at stage s: what the stage wants is asked for, what was got is judged, and what is to be said is said
pub record TakesTurn (s : Stage) (before after : List ℕ) (d : Taken) : Type 0 where
  pub asks : d.read.got.asked ≡ wants_of s
  pub reads : d.read.got.count ≤ d.read.got.asked
  pub turned : Turned s (bytes_of d.read) before after d.turn
  pub tells : d.told.said ≡ d.turn.said

-- turns from the first word on, each at the stage and on the words that the one before it left: the words, the bytes read, the text and the last turn
pub data Takings (ws : List ℕ) : List ℕ → List ℕ → List ℕ → Taken → Type 0 where
  first : {vs : List ℕ} {d : Taken} → TakesTurn Kind ws vs d → Takings ws vs (bytes_of d.read) (text_of d) d
  then : {vs us b text : List ℕ} {d e : Taken} → Takings ws vs b text d → 0 < wants_of (following d) → TakesTurn (following d) vs us e →
      Takings ws us (b ++ bytes_of e.read) (text ++ text_of e) e

-- what the program's turns come to: they end where nothing more is read
pub record Replays (before after : List ℕ) (d : Taken) : Type 0 where
  pub bytes : List ℕ
  pub text : List ℕ
  pub turns : Takings before after bytes text d
  pub ended : following d ≡ Stopped

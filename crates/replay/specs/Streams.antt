-- DEFINITIONS. The replay between a reader and a writer whose bytes are known
use Rattle.std.specs.Prelude.{List, ℕ, IsTrue}
use Rattle.std.specs.declared.option.Option.{Option}
use Rattle.std.specs.Io.KnownBytes.{Consumes, Appends}
use Rattle.requests.specs.declared.Taken.{Taken}
use Rattle.requests.specs.Replay.{replay}
use Rattle.requests.specs.Program.{Takings}

-- turns from the first word on: what the reader had left and has left, what the writer held and holds, and the words, before and after.
-- The bytes that were judged are those that the reader gave, in order and each once; where the last turn was written, the writer has
-- got the text of all turns, in order and each once, and nothing else
pub record Streams (from to held holds : Option (List ℕ)) (before after : List ℕ) (d : Taken) : Type 0 where
  pub bytes : List ℕ
  pub text : List ℕ
  pub turns : Takings before after bytes text d
  pub reads : Consumes from to bytes
  pub writes : IsTrue d.told.written → Appends held holds text

-- the writer has got the answers to some bytes, and these are what the reader gave
abbrev pub Answers : Option (List ℕ) → Option (List ℕ) → Option (List ℕ) → Option (List ℕ) → Type 0
Answers from to held holds = (bytes : List ℕ) × Consumes from to bytes × Appends held holds (replay bytes)

-- DEFINITIONS. A run of the replay: turn by turn until nothing more is read
use Rattle.std.specs.Prelude.{List, [], ◌++◌, ℕ, take, drop}
use Rattle.requests.specs.declared.Stage.{Stage}
use Rattle.requests.specs.declared.Stage.TheVariants.{Stopped}
use Rattle.requests.specs.declared.Turn.{Turn}
use Rattle.requests.specs.Text.{lines}
use Rattle.requests.specs.Turns.{wants_of, spoken, Turned}

-- from stage s and words ws, with the bytes b left to read, the text is written: each turn reads what its stage wants, or all where there is less
pub data Run : Stage → List ℕ → List ℕ → List ℕ → Type 0 where
  ended : {ws b : List ℕ} → Run Stopped ws b []
  turned : {s : Stage} {ws vs b text : List ℕ} {r : Turn} → Turned s (take (wants_of s) b) ws vs r →
      Run r.stage vs (drop (wants_of s) b) text → Run s ws b (lines (spoken r.said) ++ text)

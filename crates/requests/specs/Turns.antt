-- DEFINITIONS. The replay in turns: at each stage so many bytes are read, and judged
use Rattle.std.specs.Prelude.{◌≡◌, List, [], ◌∷◌, cond, ℕ, zero, suc, ◌+◌, ◌≤◌, ◌<◌, length, take, drop, leb, eqb, Some, None}
use Rattle.std.specs.declared.option.Option.{Option as Maybe}
use Rattle.std.proofs.Math.Option.{Option, none, some}
use Rattle.forest.specs.Sizes.{most_trees, most_nodes}
use Rattle.forest.specs.declared.Answer.{Answer}
use Rattle.forest.specs.Answers.{refusal, answer_of}
use Rattle.forest.specs.Pools.{Call, format_words, format_answer}
use Rattle.map.specs.Numbers.{AnswersCall}
use Rattle.requests.specs.declared.Stage.{Stage}
use Rattle.requests.specs.declared.Stage.TheVariants.{Kind, Sizes, Count, Request, Stopped}
use Rattle.requests.specs.declared.Turn.{Turn}
use Rattle.requests.specs.Replay.{most_requests, word_at, sized, request}

-- the words that a pool of eight bytes' T and N has
abbrev pub sized_by : List ℕ → ℕ
sized_by b = sized (word_at b 0) (word_at b 4)

-- the words of the largest pool
abbrev pub room : ℕ
room = sized most_trees most_nodes

-- the bytes that a stage reads
abbrev pub wants_of : Stage → ℕ
wants_of Kind = 4
wants_of Sizes = 8
wants_of (Count words) = 4
wants_of (Request words more) = 16
wants_of Stopped = 0

-- what is said, as answers
abbrev pub spoken : Maybe Answer → List Answer
spoken None = []
spoken (Some a) = a ∷ []

-- nothing is said, and stage s is next
abbrev pub goes : Stage → Turn
goes s = record { stage = s; said = None }

-- the number n is said, and nothing more is read
abbrev pub stops : ℕ → Turn
stops n = record { stage = Stopped; said = Some (refusal n) }

-- n requests are left
abbrev pub asking : ℕ → ℕ → Stage
asking words zero = Stopped
asking words (suc more) = Request words more

-- the first word judged
unfoldable pub after_kind : List ℕ → Turn
after_kind b = cond (eqb (word_at b 0) 2) (goes Sizes) (stops 7)

-- a format's answer judged, for a pool of so many words
unfoldable pub after_format : ℕ → Answer → Turn
after_format words a = cond (eqb a.number 0) (goes (Count words)) (record { stage = Stopped; said = Some a })

-- the count judged
unfoldable pub after_count : ℕ → List ℕ → Turn
after_count words b = cond (leb (word_at b 0) most_requests) (goes (asking words (word_at b 0))) (stops 7)

-- T and N judged: as many words as they ask for, all if there are fewer, are formatted
pub record Sized (b before after : List ℕ) (r : Turn) : Type 0 where
  pub turn : r ≡ after_format (sized_by b) (answer_of (format_answer (word_at b 0) (word_at b 4) (take (sized_by b) before)))
  pub words : take (sized_by b) after ≡ format_words (word_at b 0) (word_at b 4) (take (sized_by b) before)
  pub others : drop (sized_by b) after ≡ drop (sized_by b) before

-- a request on words: what the call promises; 6 and nothing changed where it is unknown
abbrev pub Heeds : Option Call → List ℕ → List ℕ → Answer → Type 0
Heeds none before after a = (after ≡ before) × (a ≡ refusal 6)
Heeds (some c) before after a = AnswersCall c before after a

-- a request judged, on the pool's part of the words: its answer is said, and the next is asked for
pub record Requested (words more : ℕ) (b before after : List ℕ) (r : Turn) : Type 0 where
  pub answer : Answer
  pub turn : r ≡ record { stage = asking words more; said = Some answer }
  pub heeds : Heeds (request b) (take words before) (take words after) answer
  pub others : drop words after ≡ drop words before

-- what a stage has read, judged
abbrev pub Judged : Stage → List ℕ → List ℕ → List ℕ → Turn → Type 0
Judged Kind b before after r = (r ≡ after_kind b) × (after ≡ before)
Judged Sizes b before after r = Sized b before after r
Judged (Count words) b before after r = (r ≡ after_count words b) × (after ≡ before)
Judged (Request words more) b before after r = Requested words more b before after r
Judged Stopped b before after r = (r ≡ goes Stopped) × (after ≡ before)

-- what a turn is held to, for any bytes b and any words: 7 where the input ends early
pub record Turned (s : Stage) (b before after : List ℕ) (r : Turn) : Type 0 where
  pub early_turn : length b < wants_of s → r ≡ stops 7
  pub early_words : length b < wants_of s → after ≡ before
  pub whole : wants_of s ≤ length b → Judged s b before after r

-- the turns that a stage has before it at most
abbrev pub rank : Stage → ℕ
rank Kind = most_requests + 3
rank Sizes = most_requests + 2
rank (Count words) = most_requests + 1
rank (Request words more) = more + 1
rank Stopped = 0

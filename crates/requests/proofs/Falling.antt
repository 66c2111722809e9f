-- PROOFS. A turn leaves fewer turns, whatever it has read
use mathlib.Core.Path.{◌≡◌}
use mathlib.Core.List.{List}
use Prim.Native.Nat.{ℕ, zero, suc, ◌+◌, ◌-◌, ◌≤◌, ◌<◌}
use native.Mathlib.Omega.{arith}
use lib.Dec.{ltb, leb, eqb}
use lib.ListN.{length, take}
use borrow.Author.Tests.{ltb-true, ltb-false, leb-true}
use Rattle.forest.specs.declared.Answer.{Answer}
use Rattle.forest.specs.Answers.{answer_of, Reply}
use Rattle.forest.specs.Pools.{format_answer}
use Rattle.forest.proofs.ListLaws.{test, is, isnt}
use Rattle.requests.specs.declared.Stage.{Stage}
use Rattle.requests.specs.declared.Stage.TheVariants.{Kind, Sizes, Count, Request, Stopped}
use Rattle.requests.specs.declared.Turn.{Turn}
use Rattle.requests.specs.Replay.{most_requests, word_at}
use Rattle.requests.specs.Turns.{sized_by, wants_of, asking, after_kind, after_format, after_count, Judged, Turned, rank}

-- after what a stage has read whole
rank-asking : (words n : ℕ) → rank (asking words n) ≤ n
rank-asking words zero = omega arith
rank-asking words (suc n) = omega arith

kind_falls : (b : List ℕ) → rank (after_kind b).stage ≤ most_requests + 2
unfolding after_kind
kind_falls b = elim (test (eqb (word_at b 0) 2)) [ is e ↦ simp e (omega arith) | isnt e ↦ simp e (omega arith) ]

format_falls : (words : ℕ) (a : Answer) → rank (after_format words a).stage ≤ most_requests + 1
unfolding after_format
format_falls words a = elim (test (eqb a.number 0)) [ is e ↦ simp e (omega arith) | isnt e ↦ simp e (omega arith) ]

count_falls : (words : ℕ) (b : List ℕ) → rank (after_count words b).stage ≤ most_requests
unfolding after_count
count_falls words b = elim (test (leb (word_at b 0) most_requests)) [
  | is e ↦ simp e (omega (arith, leb-true (word_at b 0) most_requests e, rank-asking words (word_at b 0)))
  | isnt e ↦ simp e (omega arith)
]

pub judged_falls : (s : Stage) (b before after : List ℕ) (r : Turn) → Judged s b before after r → rank r.stage ≤ rank s - 1
judged_falls Kind b before after r j = rw j.0 (omega (arith, kind_falls b))
judged_falls Sizes b before after r j = rw j.turn (omega (arith, format_falls (sized_by b) (answer_of (format_answer (word_at b 0) (word_at b 4) (take (sized_by b) before)))))
judged_falls (Count words) b before after r j = rw j.0 (omega (arith, count_falls words b))
judged_falls (Request words more) b before after r j = rw j.turn (omega (arith, rank-asking words more))
judged_falls Stopped b before after r j = rw j.0 (omega arith)

-- after any turn
pub turned_falls : (s : Stage) (b before after : List ℕ) (r : Turn) → Turned s b before after r → rank r.stage ≤ rank s - 1
turned_falls s b before after r t = elim (test (ltb (length b) (wants_of s))) [
  | is e ↦ rw (t.early_turn (ltb-true _ _ e)) (omega arith)
  | isnt e ↦ judged_falls s b before after r (t.whole (ltb-false _ _ e))
]

-- a stage that wants something has a turn left
pub wanting : (s : Stage) (w : ℕ) → w ≡ wants_of s → 0 < w → 1 ≤ rank s
wanting Kind w e h = omega arith
wanting Sizes w e h = omega arith
wanting (Count words) w e h = omega arith
wanting (Request words more) w e h = omega arith
wanting Stopped w e h = absurd (omega arith)

-- PROOFS. Every delivery has a run: each stage has an outcome, and fewer turns are left. So the premise of run-replay is met
use mathlib.Core.Path.{◌≡◌, refl, sym, ap, ◌∙◌}
use mathlib.Core.List.{List, [], ◌++◌}
use mathlib.Core.Option.{Option, none, some}
use Prim.Native.Nat.{ℕ, zero, suc, ◌≤◌, min}
use native.Mathlib.Omega.{arith}
use lib.Dec.{ltb}
use lib.ListN.{length, take, drop, length-replicate}
use borrow.Author.Tests.{ltb-true, ltb-false}
use Rattle.forest.specs.declared.Answer.{Answer}
use Rattle.forest.specs.Answers.{refusal, answer_of}
use Rattle.forest.specs.Pools.{Call, fresh, formatted, format_words, format_answer}
use Rattle.forest.proofs.ListLaws.{test, is, isnt}
use Rattle.forest.proofs.CountLaws.{format_in, encode-length}
use Rattle.history.proofs.Laws.{same_length}
use Rattle.history.proofs.Premises.{honest, honest_keeps}
use Rattle.requests.specs.declared.Stage.{Stage}
use Rattle.requests.specs.declared.Stage.TheVariants.{Kind, Sizes, Count, Request, Stopped}
use Rattle.std.specs.Prelude.{Some}
use Rattle.requests.specs.declared.Turn.{Turn}
use Rattle.requests.specs.Replay.{word_at, request, replay}
use Rattle.requests.specs.Turns.{sized_by, room, wants_of, goes, stops, asking, after_kind, after_format, after_count, Heeds, Judged, Turned, rank}
use Rattle.requests.specs.Runs.{Run, ended, turned}
use Rattle.requests.proofs.Judging.{lent, back, behind}
use Rattle.requests.proofs.Falling.{turned_falls}
use Rattle.requests.proofs.Whole.{run-replay}

-- formatting keeps the number of words
format_length : (T N : ℕ) (ws : List ℕ) → length (format_words T N ws) ≡ length ws
unfolding format_words
format_length T N ws = elim (test (formatted T N (length ws))) [
  | is e ↦ simp e (encode-length (fresh T N) ∙ rw length-replicate (sym (format_in T N (length ws) e).3))
  | isnt e ↦ simp e
]

-- a request has an outcome, of as many words
record Heeded (o : Option Call) (ws : List ℕ) : Type 0 where
  words : List ℕ
  answer : Answer
  heeds : Heeds o ws words answer
  long : length words ≡ length ws

heeded : (o : Option Call) (ws : List ℕ) → Heeded o ws
heeded none ws = record { words = ws; answer = refusal 6; heeds = (refl, refl); long = refl }
heeded (some c) ws = record {
  words = (honest c ws).words;
  answer = answer_of (honest c ws).answer;
  heeds = record { reply = (honest c ws).answer; promise = honest_keeps c ws; numbered = refl };
  long = same_length c ws _ _ (honest_keeps c ws);
}

-- so has a stage whose bytes are whole
record Judges (s : Stage) (b ws : List ℕ) : Type 0 where
  words : List ℕ
  turn : Turn
  judged : Judged s b ws words turn

judges : (s : Stage) (b ws : List ℕ) → Judges s b ws
judges Kind b ws = record { words = ws; turn = after_kind b; judged = (refl, refl) }
judges Sizes b ws =
    let T = word_at b 0 in
    let N = word_at b 4 in
    let n = min (sized_by b) (length ws) in
    let part = lent ws (sized_by b) n refl in
    let v = format_words T N (take n ws) in
    let long = format_length T N (take n ws) in
    record {
      words = v ++ drop n ws;
      turn = after_format (sized_by b) (answer_of (format_answer T N (take n ws)));
      judged = record {
        turn = ap (λ (x : List ℕ). after_format (sized_by b) (answer_of (format_answer T N x))) part;
        words = back ws (sized_by b) n refl v long ∙ ap (format_words T N) part;
        others = behind ws (sized_by b) n refl v long;
      };
    }
judges (Count words) b ws = record { words = ws; turn = after_count words b; judged = (refl, refl) }
judges (Request words more) b ws =
    let n = min words (length ws) in
    let h = heeded (request b) (take n ws) in
    record {
      words = h.words ++ drop n ws;
      turn = record { stage = asking words more; said = Some h.answer };
      judged = record {
        answer = h.answer;
        turn = refl;
        heeds = rw (back ws words n refl h.words h.long, ← (lent ws words n refl)) h.heeds;
        others = behind ws words n refl h.words h.long;
      };
    }
judges Stopped b ws = record { words = ws; turn = goes Stopped; judged = (refl, refl) }

-- and any turn
record Turns (s : Stage) (b ws : List ℕ) : Type 0 where
  words : List ℕ
  turn : Turn
  held : Turned s b ws words turn

turns : (s : Stage) (b ws : List ℕ) → Turns s b ws
turns s b ws = elim (test (ltb (length b) (wants_of s))) [
  | is e ↦
      let early = ltb-true (length b) (wants_of s) e in
      record { words = ws; turn = stops 7; held = record { early_turn = λ _. refl; early_words = λ _. refl; whole = λ z. absurd (omega arith) } }
  | isnt e ↦
      let all = ltb-false (length b) (wants_of s) e in
      let j = judges s b ws in
      record {
        words = j.words;
        turn = j.turn;
        held = record { early_turn = λ z. absurd (omega arith); early_words = λ z. absurd (omega arith); whole = λ _. j.judged };
      }
]

-- turn by turn, with at most n of them left
record Writes (s : Stage) (ws b : List ℕ) : Type 0 where
  text : List ℕ
  run : Run s ws b text

spent : (s : Stage) → rank s ≤ 0 → s ≡ Stopped
spent Kind h = absurd (omega arith)
spent Sizes h = absurd (omega arith)
spent (Count words) h = absurd (omega arith)
spent (Request words more) h = absurd (omega arith)
spent Stopped h = refl

writes : (n : ℕ) (s : Stage) (ws b : List ℕ) → rank s ≤ n → Writes s ws b
writes zero s ws b h = rw (spent s h) (record { text = []; run = ended })
writes (suc n) s ws b h =
    let t = turns s (take (wants_of s) b) ws in
    let w = writes n t.turn.stage t.words (drop (wants_of s) b) (omega (arith, turned_falls s _ ws t.words t.turn t.held)) in
    record { text = _; run = turned t.held w.run }

-- a delivery in room for the largest pool has a run, and it writes the replay of its bytes
pub any_run : (ws b : List ℕ) → room ≤ length ws → Run Kind ws b (replay b)
any_run ws b h =
    let w = writes (rank Kind) Kind ws b (omega arith) in
    rw (← (run-replay ws b w.text h w.run)) w.run

-- PROOFS. The whole delivery: a run from the first word on writes the replay of its bytes, and what stands after the last request makes no difference
use mathlib.Core.Path.{◌≡◌, refl, sym, ap, ◌∙◌}
use mathlib.Core.List.{List, [], ◌∷◌, ◌++◌, append_assoc}
use mathlib.Core.Bool.{true, false}
use mathlib.Core.Option.{Option, none, some}
use Prim.Native.Nat.{ℕ, zero, suc, ◌+◌, ◌*◌, ◌≤◌, ◌<◌, min}
use native.Mathlib.Omega.{arith}
use lib.Dec.{ltb, leb, eqb}
use lib.ListN.{length, take, drop, length-take, length-drop, length-append, get_or-append}
use lib.Seq.{get_or-take, get_or-drop, drop-append-le}
use borrow.Author.Tests.{ltb-true, ltb-false, leb-true, lt-ltb, le-ltb}
use Rattle.forest.specs.Sizes.{leaf_least}
use Rattle.forest.specs.declared.Answer.{Answer}
use Rattle.forest.specs.Answers.{refusal, answer_of}
use Rattle.forest.specs.Pools.{Pool, WellFormed, encode, Call, fresh, formatted, format_words, format_answer}
use Rattle.forest.proofs.ListLaws.{test, is, isnt}
use Rattle.forest.proofs.CountLaws.{fresh_formed, format_in}
use Rattle.forest.proofs.PoolLaws.{call_formed}
use Rattle.requests.specs.declared.Stage.{Stage}
use Rattle.requests.specs.declared.Stage.TheVariants.{Kind, Sizes, Count, Request, Stopped}
use Rattle.std.specs.Prelude.{Some}
use Rattle.requests.specs.declared.Turn.{Turn}
use Rattle.requests.specs.Text.{line, lines}
use Rattle.requests.specs.Replay.{word_at, sized, request, heed, answered, counted, pooled, replayed, replay}
use Rattle.requests.specs.Turns.{room, wants_of, spoken, stops, goes, asking, after_kind, after_format, after_count, Heeds, Judged, Turned}
use Rattle.requests.specs.Runs.{Run, ended, turned}

-- the answers from a stage on
abbrev rest : Stage → List ℕ → Pool → List Answer
rest Kind b p = replayed b
rest Sizes b p = pooled b
rest (Count words) b p = counted b p
rest (Request words more) b p = answered (suc more) b p
rest Stopped b p = []

-- the pool's words are the first of the room
record Shown (words : ℕ) (ws : List ℕ) (p : Pool) : Type 0 where
  formed : WellFormed leaf_least p
  same : encode p ≡ take words ws

abbrev Shows : Stage → List ℕ → Pool → Type 0
Shows Kind ws p = room ≤ length ws
Shows Sizes ws p = room ≤ length ws
Shows (Count words) ws p = Shown words ws p
Shows (Request words more) ws p = Shown words ws p
Shows Stopped ws p = Unit {0}

lines-append : (xs ys : List Answer) → lines (xs ++ ys) ≡ lines xs ++ lines ys
lines-append [] ys = refl
lines-append (x ∷ xs) ys = ap (λ (t : List ℕ). line x ++ t) (lines-append xs ys) ∙ sym (append_assoc (line x) (lines xs) (lines ys))

-- a word of what was read
word_read : (n : ℕ) (b : List ℕ) (i : ℕ) → i + 4 ≤ n → word_at (take n b) i ≡ word_at b i
unfolding word_at
word_read n b i h =
    rw (get_or-take n b i 0 (omega arith), get_or-take n b (i + 1) 0 (omega arith), get_or-take n b (i + 2) 0 (omega arith), get_or-take n b (i + 3) 0 (omega arith))

-- what is left after n words or all that there are
pub record TurnsTo (s : Stage) (b : List ℕ) (p : Pool) (vs : List ℕ) (r : Turn) : Type 0 where
  pool : Pool
  shows : Shows r.stage vs pool
  answers : rest s b p ≡ spoken r.said ++ rest r.stage (drop (wants_of s) b) pool

goes_by : {s : Stage} {b : List ℕ} {p : Pool} {vs : List ℕ} {r t : Turn} → r ≡ t → TurnsTo s b p vs t → TurnsTo s b p vs r
goes_by e g = rw e g

-- the input ends early
early : (s : Stage) (b : List ℕ) (p : Pool) → length b < wants_of s → rest s b p ≡ refusal 7 ∷ []
unfolding replayed pooled counted
early Kind b p h = rw (lt-ltb (length b) 4 h)
early Sizes b p h = rw (lt-ltb (length b) 8 h)
early (Count words) b p h = rw (lt-ltb (length b) 4 h)
early (Request words more) b p h = rw (lt-ltb (length b) 16 h)
early Stopped b p h = absurd (omega arith)

stops_early : (s : Stage) (b : List ℕ) (p : Pool) (vs : List ℕ) → length b < wants_of s → TurnsTo s b p vs (stops 7)
stops_early s b p vs h = record { pool = p; shows = tt; answers = early s b p h }

-- the first word
kind_goes : (b : List ℕ) (p : Pool) (ws : List ℕ) → room ≤ length ws → 4 ≤ length b → TurnsTo Kind b p ws (after_kind (take 4 b))
unfolding after_kind replayed
kind_goes b p ws l h = elim (test (eqb (word_at b 0) 2)) [
  | is e ↦ simp (word_read 4 b 0 (omega arith), e) (record { pool = p; shows = l; answers = rw (le-ltb (length b) 4 h, e) })
  | isnt e ↦ simp (word_read 4 b 0 (omega arith), e) (record { pool = p; shows = tt; answers = rw (le-ltb (length b) 4 h, e) })
]

-- T and N decide whether a format is refused, where the room is large enough
module _ (T N : ℕ) where
  format_room : (n : ℕ) → room ≤ n → formatted T N (min (sized T N) n) ≡ formatted T N (sized T N)
  unfolding formatted
  format_room n h = elim (test (leb T 32)) [
    | isnt e ↦ simp e (elim (test (leb 1 T)) [ is f ↦ simp f | isnt f ↦ simp f ])
    | is e ↦ elim (test (leb N 512)) [
      | isnt f ↦ simp (e, f) (elim (test (leb 1 T)) [ is g ↦ simp g | isnt g ↦ simp g ])
      | is f ↦
          let q : min (sized T N) n ≡ sized T N = omega (arith, leb-true T 32 e, leb-true N 512 f) in
          rw q
    ]
  ]

-- T and N
module _ (b : List ℕ) (p : Pool) (ws vs : List ℕ) (T N : ℕ) (l : room ≤ length ws) (h : 8 ≤ length b) (t : T ≡ word_at b 0) (n : N ≡ word_at b 4)
    (w : take (sized T N) vs ≡ format_words T N (take (sized T N) ws)) where
  taken : formatted T N (length (take (sized T N) ws)) ≡ formatted T N (sized T N)
  taken = rw length-take (format_room T N (length ws) l)

  sizes-done : formatted T N (sized T N) ≡ true → TurnsTo Sizes b p vs (goes (Count (sized T N)))
  unfolding pooled format_words
  sizes-done e =
      let fits = format_in T N (sized T N) e in
      record {
        pool = fresh T N;
        shows = record { formed = fresh_formed leaf_least T N fits.0 fits.1 fits.2; same = sym (w ∙ rw (taken, e)) };
        answers = rw (le-ltb (length b) 8 h, ← t, ← n, e);
      }

  sizes-refused : formatted T N (sized T N) ≡ false → TurnsTo Sizes b p vs (stops 5)
  unfolding pooled
  sizes-refused e = record {
    pool = p;
    shows = tt;
    answers = rw (le-ltb (length b) 8 h, ← t, ← n, e);
  }

  sizes-goes : TurnsTo Sizes b p vs (after_format (sized T N) (answer_of (format_answer T N (take (sized T N) ws))))
  unfolding after_format format_answer
  sizes-goes = rw taken (elim (test (formatted T N (sized T N))) [ is e ↦ simp e (sizes-done e) | isnt e ↦ simp e (sizes-refused e) ])

-- the count
rest-asking : (words n : ℕ) (b : List ℕ) (p : Pool) → rest (asking words n) b p ≡ answered n b p
rest-asking words zero b p = refl
rest-asking words (suc n) b p = refl

shows_asking : (words n : ℕ) (vs : List ℕ) (p : Pool) → Shown words vs p → Shows (asking words n) vs p
shows_asking words zero vs p s = tt
shows_asking words (suc n) vs p s = s

count-goes : (words : ℕ) (b : List ℕ) (p : Pool) (ws : List ℕ) → Shown words ws p → 4 ≤ length b → TurnsTo (Count words) b p ws (after_count words (take 4 b))
unfolding after_count counted
count-goes words b p ws s h = elim (test (leb (word_at b 0) 4096)) [
  | is e ↦ simp (word_read 4 b 0 (omega arith), e) (record {
    pool = p;
    shows = shows_asking words (word_at b 0) ws p s;
    answers = rw (le-ltb (length b) 4 h, e) (sym (rest-asking words (word_at b 0) (drop 4 b) p));
  })
  | isnt e ↦ simp (word_read 4 b 0 (omega arith), e) (record { pool = p; shows = tt; answers = rw (le-ltb (length b) 4 h, e) })
]

-- a request
record Heeded (o : Option Call) (words : ℕ) (vs : List ℕ) (p : Pool) (a : Answer) : Type 0 where
  answer : (heed o p).answer ≡ a
  shown : Shown words vs (heed o p).pool

heeded : (o : Option Call) (words : ℕ) (ws vs : List ℕ) (p : Pool) (a : Answer) → Shown words ws p → Heeds o (take words ws) (take words vs) a → Heeded o words vs p a
heeded none words ws vs p a s h = record { answer = sym h.1; shown = record { formed = s.formed; same = s.same ∙ sym h.0 } }
heeded (some c) words ws vs p a s h = record {
  answer = ap answer_of (h.promise.sound_answer p s.formed s.same) ∙ sym h.numbered;
  shown = record { formed = call_formed leaf_least (omega arith) (omega arith) c p s.formed; same = h.promise.sound_words p s.formed s.same };
}

request_read : (b : List ℕ) → request (take 16 b) ≡ request b
request_read b = rw (word_read 16 b 0 (omega arith), word_read 16 b 4 (omega arith), word_read 16 b 8 (omega arith), word_read 16 b 12 (omega arith))

request-goes : (words more : ℕ) (b : List ℕ) (p : Pool) (ws vs : List ℕ) (a : Answer) → Shown words ws p → 16 ≤ length b →
    Heeds (request (take 16 b)) (take words ws) (take words vs) a → TurnsTo (Request words more) b p vs (record { stage = asking words more; said = Some a })
request-goes words more b p ws vs a s h k =
    let d = heeded (request b) words ws vs p a s (rw request_read at k) in
    record {
      pool = (heed (request b) p).pool;
      shows = shows_asking words more vs _ d.shown;
      answers = rw (le-ltb (length b) 16 h, d.answer, rest-asking);
    }

-- a turn that is whole
judged_goes : (s : Stage) (b : List ℕ) (p : Pool) (ws vs : List ℕ) (r : Turn) → Shows s ws p → wants_of s ≤ length b → Judged s (take (wants_of s) b) ws vs r → TurnsTo s b p vs r
judged_goes Kind b p ws vs r s h j = goes_by j.0 (rw j.1 (kind_goes b p ws s h))
judged_goes Sizes b p ws vs r s h j =
    let t = word_read 8 b 0 (omega arith) in
    let n = word_read 8 b 4 (omega arith) in
    goes_by j.turn (sizes-goes b p ws vs _ _ s h t n j.words)
judged_goes (Count words) b p ws vs r s h j = goes_by j.0 (rw j.1 (count-goes words b p ws s h))
judged_goes (Request words more) b p ws vs r s h j = goes_by j.turn (request-goes words more b p ws vs _ s h j.heeds)
judged_goes Stopped b p ws vs r s h j = goes_by j.0 (record { pool = p; shows = tt; answers = refl })

turn_goes : (s : Stage) (b : List ℕ) (p : Pool) (ws vs : List ℕ) (r : Turn) → Shows s ws p → Turned s (take (wants_of s) b) ws vs r → TurnsTo s b p vs r
turn_goes s b p ws vs r g t =
    let k : length (take (wants_of s) b) ≡ min (wants_of s) (length b) = length-take (wants_of s) b in
    elim (test (ltb (length b) (wants_of s))) [
      | is e ↦
          let h = ltb-true _ _ e in
          goes_by (t.early_turn (omega arith)) (stops_early s b p vs h)
      | isnt e ↦
          let h = ltb-false _ _ e in
          judged_goes s b p ws vs r g h (t.whole (omega arith))
    ]

run-rest : {s : Stage} {ws b text : List ℕ} → Run s ws b text → (p : Pool) → Shows s ws p → text ≡ lines (rest s b p)
run-rest ended p g = refl
run-rest {s} {ws} {b} (turned {vs = vs} {text = text} {r = r} t u) p g =
    let d = turn_goes s b p ws vs r g t in
    rw (d.answers, lines-append) (ap (λ (x : List ℕ). lines (spoken r.said) ++ x) (run-rest u d.pool d.shows))

-- a run from the first word on, in room for the largest pool, writes the replay of its bytes
pub run-replay : (ws b text : List ℕ) → room ≤ length ws → Run Kind ws b text → text ≡ replay b
run-replay ws b text h u = run-rest u (fresh 1 0) h

-- what stands after the last request is not read
word_front : (b more : List ℕ) (i : ℕ) → i + 4 ≤ length b → word_at (b ++ more) i ≡ word_at b i
unfolding word_at
word_front b more i h =
    rw (get_or-append b more 0 i (omega arith), get_or-append b more 0 (i + 1) (omega arith), get_or-append b more 0 (i + 2) (omega arith), get_or-append b more 0 (i + 3) (omega arith))

answered-front : (n : ℕ) (b more : List ℕ) (p : Pool) → 16 * n ≤ length b → answered n (b ++ more) p ≡ answered n b p
answered-front zero b more p h = refl
answered-front (suc n) b more p h =
    let k : 16 ≤ length b = omega arith in
    rw (
      le-ltb (length (b ++ more)) 16 (simp length-append (omega arith)),
      le-ltb (length b) 16 k,
      word_front b more 0 (omega arith),
      word_front b more 4 (omega arith),
      word_front b more 8 (omega arith),
      word_front b more 12 (omega arith),
      drop-append-le 16 b more k,
      answered-front n (drop 16 b) more _ (simp length-drop (omega arith)),
    )

counted-front : (b more : List ℕ) (p : Pool) → 4 + 16 * word_at b 0 ≤ length b → counted (b ++ more) p ≡ counted b p
unfolding counted
counted-front b more p h =
    rw (
      le-ltb (length (b ++ more)) 4 (simp length-append (omega arith)),
      le-ltb (length b) 4 (omega arith),
      word_front b more 0 (omega arith),
      drop-append-le 4 b more (omega arith),
      answered-front (word_at b 0) (drop 4 b) more p (simp length-drop (omega arith)),
    )

count_word : (b : List ℕ) → word_at (drop 8 (drop 4 b)) 0 ≡ word_at b 12
unfolding word_at
count_word b = simp get_or-drop

pooled-front : (b more : List ℕ) → 12 + 16 * word_at (drop 8 b) 0 ≤ length b → pooled (b ++ more) ≡ pooled b
unfolding pooled
pooled-front b more h =
    rw (
      le-ltb (length (b ++ more)) 8 (simp length-append (omega arith)),
      le-ltb (length b) 8 (omega arith),
      word_front b more 0 (omega arith),
      word_front b more 4 (omega arith),
      drop-append-le 8 b more (omega arith),
      counted-front (drop 8 b) more _ (simp length-drop (omega arith)),
    )

replayed-front : (b more : List ℕ) → 16 + 16 * word_at b 12 ≤ length b → replayed (b ++ more) ≡ replayed b
unfolding replayed
replayed-front b more h =
    rw (
      le-ltb (length (b ++ more)) 4 (simp length-append (omega arith)),
      le-ltb (length b) 4 (omega arith),
      word_front b more 0 (omega arith),
      drop-append-le 4 b more (omega arith),
      pooled-front (drop 4 b) more (rw count_word (simp length-drop (omega arith))),
    )

pub unread : (b more : List ℕ) → 16 + 16 * word_at b 12 ≤ length b → replay (b ++ more) ≡ replay b
unread b more h = ap lines (replayed-front b more h)

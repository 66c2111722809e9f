-- PROOFS. The program's turns: each leaves fewer, and together they write the replay of what they read
use mathlib.Core.Path.{◌≡◌, refl}
use mathlib.Core.List.{List, [], ◌++◌, append-nil, append_assoc}
use mathlib.Core.Bool.{Bool, true, false, cond}
use Prim.Native.Nat.{ℕ, ◌-◌, ◌≤◌, ◌<◌}
use native.Mathlib.Omega.{arith}
use lib.Dec.{ltb}
use lib.ListN.{length, take, drop, length-take}
use lib.Seq.{take_at, drop_at, take_all}
use borrow.Author.Tests.{ltb-true, ltb-false}
use Rattle.forest.proofs.ListLaws.{test, is, isnt}
use Rattle.requests.specs.declared.Stage.{Stage}
use Rattle.requests.specs.declared.Stage.TheVariants.{Kind, Sizes, Count, Request, Stopped}
use Rattle.requests.specs.declared.Taken.{Taken}
use Rattle.requests.specs.Replay.{replay}
use Rattle.requests.specs.Turns.{room, wants_of, rank}
use Rattle.requests.specs.Runs.{Run, ended, turned}
use Rattle.requests.specs.Program.{bytes_of, text_of, following, TakesTurn, Takings, first, then, Replays}
use Rattle.requests.proofs.Falling.{turned_falls, wanting}
use Rattle.requests.proofs.Whole.{run-replay}

-- fewer turns are left, also where what is said could not be written
following_falls : (w : Bool) (s t : Stage) → rank t ≤ rank s - 1 → rank (cond w t Stopped) ≤ rank s - 1
following_falls true s t h = h
following_falls false s t h = omega arith

pub takes_falls : (s next : Stage) (w : ℕ) (vs us : List ℕ) (e : Taken) → w ≡ wants_of s → 0 < w → TakesTurn s vs us e → next ≡ following e → rank next < rank s
takes_falls s next w vs us e q h t n =
    let falls = following_falls e.told.written s e.turn.stage (turned_falls s _ vs us _ t.turned) in
    rw n (omega (arith, wanting s w q h))

-- a stage that wants nothing is the end
pub wants_none : (s : Stage) (w : ℕ) → w ≡ wants_of s → w ≤ 0 → s ≡ Stopped
wants_none Kind w e h = absurd (omega arith)
wants_none Sizes w e h = absurd (omega arith)
wants_none (Count words) w e h = absurd (omega arith)
wants_none (Request words more) w e h = absurd (omega arith)
wants_none Stopped w e h = refl

-- no more was read than the stage wants
read_length : (s : Stage) (vs us : List ℕ) (d : Taken) → TakesTurn s vs us d → length (bytes_of d.read) ≤ wants_of s
read_length s vs us d t = rw length-take (omega (arith, t.asks, t.reads))

-- a turn that another follows was written and had read all that its stage wants
written_on : (s : Stage) (vs us : List ℕ) (d : Taken) → TakesTurn s vs us d → 0 < wants_of (following d) →
    (following d ≡ d.turn.stage) × (length (bytes_of d.read) ≡ wants_of s)
written_on s vs us d t h = elim (test d.told.written) [
  | isnt w ↦ absurd (let z : 0 < wants_of Stopped = rw w at h in omega arith)
  | is w ↦
      let e : following d ≡ d.turn.stage = rw w in
      let l = read_length s vs us d t in (
        e,
        elim (test (ltb (length (bytes_of d.read)) (wants_of s))) [
          | is early ↦
              let z : 0 < wants_of Stopped = rw (e, t.turned.early_turn (ltb-true _ _ early)) at h in
              absurd (omega arith)
          | isnt whole ↦ omega (arith, ltb-false (length (bytes_of d.read)) (wants_of s) whole)
        ],
      )
]

-- so it is a turn of a run, before those that follow
run_on : (s : Stage) (vs us b text : List ℕ) (d : Taken) → TakesTurn s vs us d → 0 < wants_of (following d) → Run (following d) us b text →
    Run s vs (bytes_of d.read ++ b) (text_of d ++ text)
run_on s vs us b text d t h r =
    let o = written_on s vs us d t h in
    let x = bytes_of d.read in
    let front : take (wants_of s) (x ++ b) ≡ x = take_at x b (wants_of s) o.1 in
    let back : drop (wants_of s) (x ++ b) ≡ b = drop_at x b (wants_of s) o.1 in
    rw t.tells (turned {s = s} {ws = vs} {vs = us} {b = x ++ b} {text = text} {r = d.turn} (rw front t.turned) (rw (back, ← o.0) r))

-- the last turn is a run
run_last : (s : Stage) (vs us : List ℕ) (d : Taken) → TakesTurn s vs us d → d.turn.stage ≡ Stopped → Run s vs (bytes_of d.read) (text_of d)
run_last s vs us d t e =
    let x = bytes_of d.read in
    let all : take (wants_of s) x ≡ x = take_all (wants_of s) x (read_length s vs us d t) in
    let end : Run d.turn.stage us (drop (wants_of s) x) [] = rw e ended in
    rw t.tells (rw append-nil at (turned {s = s} {ws = vs} {vs = us} {b = x} {text = []} {r = d.turn} (rw all t.turned) end))

takings_on : {ws vs b text : List ℕ} {d : Taken} (c more : List ℕ) → Takings ws vs b text d → 0 < wants_of (following d) →
    Run (following d) vs c more → Run Kind ws (b ++ c) (text ++ more)
takings_on c more (first t) h r = run_on Kind _ _ c more _ t h r
takings_on c more (then k l t) h r = simp append_assoc (takings_on _ _ k l (run_on _ _ _ c more _ t h r))

takings_run : {ws vs b text : List ℕ} {d : Taken} → Takings ws vs b text d → d.turn.stage ≡ Stopped → Run Kind ws b text
takings_run (first t) e = run_last Kind _ _ _ t e
takings_run (then k l t) e = takings_on _ _ k l (run_last _ _ _ _ t e)

-- where the last turn was written, the text that was handed to the writer is the replay of the bytes that were read
pub replays_text : (ws vs : List ℕ) (d : Taken) (r : Replays ws vs d) → room ≤ length ws → d.told.written ≡ true → r.text ≡ replay r.bytes
replays_text ws vs d r h w =
    let e : d.turn.stage ≡ Stopped = rw w at r.ended in
    run-replay ws r.bytes r.text h (takings_run r.turns e)

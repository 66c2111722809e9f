-- PROOFS. The turns between a reader and a writer, one more at a time
use Rattle.std.proofs.Common.{◌≡◌, refl, List, ◌++◌, Bool, true, false, cond, ℕ, ◌≤◌, ◌<◌, length, subst, arith}
use Rattle.std.specs.declared.option.Option.{Option}
use Rattle.std.specs.Prelude.{IsTrue}
use Rattle.std.specs.Io.KnownBytes.{Consumes, Appends}
use Rattle.std.proofs.KnownBytes.{Consumes-trans, Appends-trans}
use Rattle.requests.specs.declared.Stage.{Stage}
use Rattle.requests.specs.declared.Stage.TheVariants.{Kind, Stopped}
use Rattle.requests.specs.declared.Taken.{Taken}
use Rattle.requests.specs.Turns.{wants_of, room}
use Rattle.requests.specs.Program.{bytes_of, text_of, following, TakesTurn, first, then, Replays}
use Rattle.requests.proofs.Program.{replays_text}
use Rattle.replay.specs.Streams.{Streams, Answers}

-- the first turn
pub streams_first : (from to held holds : Option (List ℕ)) (ws vs : List ℕ) (d : Taken) → TakesTurn Kind ws vs d → Consumes from to (bytes_of d.read) →
    (IsTrue d.told.written → Appends held holds (text_of d)) → Streams from to held holds ws vs d
streams_first from to held holds ws vs d t reads writes = record { bytes = _; text = _; turns = first t; reads = reads; writes = writes }

-- a turn is followed by another one only if it was written
was_written : (b : Bool) (s : Stage) → 0 < wants_of (cond b s Stopped) → IsTrue b
was_written true s h = refl
was_written false s h = absurd (omega arith)

-- one more turn, at the stage that follows
pub streams_on : (from mid to held has holds : Option (List ℕ)) (ws vs us : List ℕ) (d e : Taken) (s : Stage) (w : ℕ) → Streams from mid held has ws vs d →
    s ≡ following d → w ≡ wants_of s → 0 < w → TakesTurn s vs us e → Consumes mid to (bytes_of e.read) →
    (IsTrue e.told.written → Appends has holds (text_of e)) → Streams from to held holds ws us e
streams_on from mid to held has holds ws vs us d e s w k q n h t reads writes =
    let m : 0 < wants_of (following d) = rw (← q, ← n) h in
    let f : TakesTurn (following d) vs us e = rw q at t in
    record {
      bytes = k.bytes ++ bytes_of e.read;
      text = k.text ++ text_of e;
      turns = then k.turns m f;
      reads = Consumes-trans from mid to _ _ k.reads reads;
      writes = λ y. Appends-trans held has holds _ _ (k.writes (was_written d.told.written d.turn.stage m)) (writes y);
    }

-- where nothing more is read, and the last turn was written, the text is the replay of the bytes
pub streams_answer : (from to held holds : Option (List ℕ)) (ws vs : List ℕ) (d : Taken) → Streams from to held holds ws vs d → following d ≡ Stopped →
    room ≤ length ws → IsTrue d.told.written → Answers from to held holds
streams_answer from to held holds ws vs d k e h w =
    let all : Replays ws vs d = record { bytes = k.bytes; text = k.text; turns = k.turns; ended = e } in
    (k.bytes, k.reads, subst (Appends held holds) (replays_text ws vs d all h w) (k.writes w))

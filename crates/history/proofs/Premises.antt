-- PROOFS. The premises of Laws, AnyCalls and Fakes are met: a program that keeps every promise and an exact check, for any words; a history with refused calls, by key and on cursors
use mathlib.Core.Path.{◌≡◌, refl, sym}
use mathlib.Core.List.{List, [], ◌∷◌}
use mathlib.Core.Bool.{false, true≢false}
use Prim.Native.Nat.{ℕ}
use native.Mathlib.Omega.{arith}
use lib.ListN.{replicate}
use Rattle.std.specs.Prelude.{Err}
use Rattle.forest.specs.Answers.{Reply, nothing, pair, value}
use Rattle.forest.specs.Sizes.{leaf_least}
use Rattle.forest.specs.declared.Refusal.TheVariants.{Unsound, NoTree, NoPlace, NoRoom, NoFormat}
use Rattle.forest.specs.declared.Cursor.{Cursor}
use Rattle.forest.specs.Pools.{Pool, WellFormed, Sound, encode, fresh, Call, put, remove, get, call, run, format_words, format_answer}
use Rattle.forest.specs.Cursors.{cursor_at, Move, move, to_first, to_key, to_next, to_remove}
use Rattle.forest.specs.Promises.{Calls, Moves}
use Rattle.forest.proofs.CountLaws.{fresh_formed}
use Rattle.forest.proofs.CursorCalls.{move_formed}
use Rattle.forest.proofs.RunLaws.{run_formed}
use Rattle.forest.proofs.PromiseLaws.{calls_by, calls_unsound, moves_by, moves_unsound}
use Rattle.forest.proofs.Trials.{steps}
use Rattle.sound.specs.Checks.{checked, framed}
use Rattle.sound.specs.Exact.{Exact}
use Rattle.sound.proofs.CheckSteps.{exact}
use Rattle.history.specs.Histories.{ask, least, Ran, own_of, answers_of, Event, format, key, at, Went, stays, formats, calls, moves, Unformatted, acts_of, replies_of}
use Rattle.history.proofs.Deciding.{Decided, sound, unsound, decide}
use Rattle.history.proofs.AnyCalls.{any_calls}
use Rattle.history.proofs.Fakes.{Outcome, Program, Keeps, Handed, Mover, KeepsMoves, start, start_formed, filed, on_nine}

-- the outcome on sound words, and on others
abbrev outcome : (c : Call) (ws : List ℕ) → Decided ws → Outcome
outcome c ws (sound s) = let p = s.pool in record { words = encode (call c p).pool; answer = (call c p).answer }
outcome c ws (unsound n) = record { words = ws; answer = Err Unsound }

-- the definitions themselves, run
abbrev pub honest : Program
honest c ws = outcome c ws (decide ws)

outcome_keeps : (c : Call) (ws : List ℕ) (x : Decided ws) → Calls leaf_least c ws (outcome c ws x).words (outcome c ws x).answer
outcome_keeps c ws (sound s) = calls_by leaf_least (omega arith) c ws _ _ s refl refl
outcome_keeps c ws (unsound n) = calls_unsound leaf_least (omega arith) c ws n

pub honest_keeps : Keeps honest
honest_keeps c ws = outcome_keeps c ws (decide ws)

-- and one of the cursor calls
abbrev handed : (v : Move) (c : Cursor) (ws : List ℕ) → Decided ws → Handed
handed v c ws (sound s) =
    let p = s.pool in
    record { words = encode (move v c p).pool; answer = (move v c p).answer; cursor = (move v c p).cursor }
handed v c ws (unsound n) = record { words = ws; answer = Err Unsound; cursor = c }

abbrev pub honest_moves : Mover
honest_moves v c ws = handed v c ws (decide ws)

handed_keeps : (v : Move) (c : Cursor) (ws : List ℕ) (x : Decided ws) →
    Moves leaf_least v c ws (handed v c ws x).words (handed v c ws x).answer (handed v c ws x).cursor
handed_keeps v c ws (sound s) = moves_by leaf_least (omega arith) v c ws _ _ _ s refl refl refl
handed_keeps v c ws (unsound n) = moves_unsound leaf_least (omega arith) v c ws n

pub moves_kept : KeepsMoves honest_moves
moves_kept v c ws = handed_keeps v c ws (decide ws)

-- a move on the words of a pool
pub on_pool : (v : Move) (c : Cursor) (p : Pool) → WellFormed leaf_least p → Moves leaf_least v c (encode p) (encode (move v c p).pool) (move v c p).answer (move v c p).cursor
on_pool v c p w = moves_by leaf_least (omega arith) v c _ _ _ _ (record { pool = p; formed = w; same = refl }) refl refl refl

-- a call on the words of a pool
pub on_key : (c : Call) (p : Pool) → WellFormed leaf_least p → Calls leaf_least c (encode p) (encode (call c p).pool) (call c p).answer
on_key c p w = calls_by leaf_least (omega arith) c _ _ _ (record { pool = p; formed = w; same = refl }) refl refl

-- public calls in two trees of a pool of one node: tree 1 is refused for room, tree 2 is not there, a format is refused for its length; 9 is taken at a cursor, which
-- then stands nowhere; 5 is filed, sought and told by first
abbrev events : List Event
events =
    key (put 0 9 100) ∷ key (put 1 5 50) ∷ key (put 2 7 70) ∷ format 1 1 ∷ key (get 1 5) ∷ at to_remove on_nine ∷ at to_next on_nine ∷ key (put 1 5 60) ∷
    at (to_key 5) (cursor_at 1 []) ∷ at to_first (cursor_at 1 []) ∷ []

-- the pools in between
abbrev one_filed : Pool
one_filed = run (put 0 9 100 ∷ []) (fresh 2 1)

abbrev emptied : Pool
emptied = (move to_remove on_nine one_filed).pool

abbrev last : Pool
last = run (put 1 5 60 ∷ []) emptied

fresh_two : WellFormed leaf_least (fresh 2 1)
fresh_two = fresh_formed leaf_least 2 1 (omega arith) (omega arith) (omega arith)

one_formed : WellFormed leaf_least one_filed
one_formed = run_formed leaf_least (omega arith) (omega arith) (put 0 9 100 ∷ []) (fresh 2 1) fresh_two

emptied_formed : WellFormed leaf_least emptied
emptied_formed = move_formed leaf_least (omega arith) (omega arith) to_remove on_nine one_filed one_formed

last_formed : WellFormed leaf_least last
last_formed = run_formed leaf_least (omega arith) (omega arith) (put 1 5 60 ∷ []) emptied emptied_formed

-- their answers
abbrev told : List Reply
told = nothing ∷ Err NoRoom ∷ Err NoTree ∷ Err NoFormat ∷ nothing ∷ value 100 ∷ Err NoPlace ∷ nothing ∷ value 60 ∷ pair 5 60 ∷ []

pub some_events : Went leaf_least events (encode (fresh 2 1)) told (encode last)
unfolding steps format_words format_answer
some_events =
    calls (on_key (put 0 9 100) (fresh 2 1) fresh_two)
    (calls (on_key (put 1 5 50) one_filed one_formed)
    (calls (on_key (put 2 7 70) one_filed one_formed)
    (formats 1 1 refl refl
    (calls (on_key (get 1 5) one_filed one_formed)
    (moves (on_pool to_remove on_nine one_filed one_formed)
    (moves (on_pool to_next on_nine emptied emptied_formed)
    (calls (on_key (put 1 5 60) emptied emptied_formed)
    (moves (on_pool (to_key 5) (cursor_at 1 []) last last_formed)
    (moves (on_pool to_first (cursor_at 1 []) last last_formed)
    stays)))))))))

pub none_formats : Unformatted events told
none_formats = (refl, tt)

-- what they count as, and what demand 3 keeps of it for each tree
pub some_acts :
    (own_of 0 (acts_of events (fresh 2 1)) (replies_of events told (fresh 2 1)) ≡ ask (put 0 9 100) ∷ ask (remove 0 9) ∷ []) ×
    (own_of 1 (acts_of events (fresh 2 1)) (replies_of events told (fresh 2 1)) ≡ ask (get 1 5) ∷ ask (put 1 5 60) ∷ ask (get 1 5) ∷ least 1 ∷ []) ×
    (answers_of 1 (acts_of events (fresh 2 1)) (replies_of events told (fresh 2 1)) ≡ nothing ∷ nothing ∷ value 60 ∷ pair 5 60 ∷ [])
unfolding steps
some_acts = (refl, refl, refl)

-- a history, then
pub some_history : Ran leaf_least (acts_of events (fresh 2 1)) (encode (fresh 2 1)) (encode last) (replies_of events told (fresh 2 1))
some_history = any_calls leaf_least (omega arith) (omega arith) some_events none_formats (fresh 2 1) fresh_two refl

-- sound words; and words that are no pool: refused there, then formatted
abbrev pub start_sound : Sound leaf_least (encode start)
start_sound = record { pool = start; formed = start_formed; same = refl }

pub some_calls : (Sound leaf_least (replicate 38 0) → ⊥) ×
    Went leaf_least (key (put 0 9 100) ∷ format 1 2 ∷ key (put 0 9 100) ∷ []) (replicate 38 0) (Err Unsound ∷ nothing ∷ nothing ∷ []) (encode filed)
unfolding steps checked framed format_words format_answer
some_calls =
    let n : Sound leaf_least (replicate 38 0) → ⊥ = λ q. true≢false (sym ((exact (replicate 38 0) false refl).every q)) in
    (n, calls (calls_unsound leaf_least (omega arith) (put 0 9 100) (replicate 38 0) n) (formats 1 2 refl refl (calls (on_key (put 0 9 100) start start_formed) stays)))

-- a check that is exact, for any words
pub some_check : (ws : List ℕ) → Exact leaf_least ws (checked ws leaf_least)
some_check ws = exact ws (checked ws leaf_least) refl

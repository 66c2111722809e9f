-- DEFINITIONS. Histories: public calls one after another on the same words, each of which keeps its promise. Demand 3 and soundness after every call are said of these
use Rattle.std.specs.Prelude.{◌≡◌, List, [], ◌∷◌, Bool, false, cond, ◌&&◌, ℕ, length, eqb}
use Rattle.std.proofs.Math.Option.{Option, none, some}
use Rattle.forest.specs.Pairs.{Item}
use Rattle.forest.specs.declared.Cursor.{Cursor}
use Rattle.forest.specs.declared.Refusal.{Refusal}
use Rattle.forest.specs.Answers.{kept, Reply}
use Rattle.forest.specs.Runs.{Kind}
use Rattle.forest.specs.Pools.{Pool, WellFormed, Sound, encode, fresh, Call, remove, get, target, tree_of, call, formatted, format_words, format_answer, shape, AllDone}
use Rattle.forest.specs.Cursors.{leaves, pair_at, spot_of, path_in, cursor_at, Move, to_first, to_key, to_next, to_prev, to_settled, to_remove, blocked, move}
use Rattle.forest.specs.Promises.{Calls, Moves}

-- What counts

-- what counts in demand 3: a call by key; and first, whose answer goes by the tree number alone
pub data Act : Type 0 where
  ask : Call → Act
  least : ℕ → Act

-- the tree that an act is for
abbrev pub act_tree : Act → ℕ
act_tree (ask c) = target c
act_tree (least t) = t

-- what it answers on a pool
abbrev pub act_answer : Act → Pool → Reply
act_answer (ask c) p = (call c p).answer
act_answer (least t) p = (move to_first (cursor_at t []) p).answer

-- and the pool that it leaves
abbrev pub act_pool : Act → Pool → Pool
act_pool (ask c) p = (call c p).pool
act_pool (least t) p = p

-- acts as a kind of call; every refusal is struck out
abbrev pub act_kind : Kind Act Pool Reply
act_kind = record { answer = act_answer; next = act_pool; target = act_tree; kept = λ a p. kept (act_answer a p) }

-- Acts made on words

-- in the words ws a remove at the cursor c is not refused, and it takes the pair y
pub record Takes (m : ℕ) (c : Cursor) (ws : List ℕ) (y : Item) : Type 0 where
  pub free : (p : Pool) → WellFormed m p → encode p ≡ ws → blocked to_remove c p ≡ none
  pub pair : (p : Pool) → WellFormed m p → encode p ≡ ws → pair_at (leaves (tree_of p c.tree)) (spot_of (tree_of p c.tree) (path_in c)) ≡ some y

-- a public call that counts as an act: a call by key as itself; a remove at a cursor that took the pair of key k, as remove of k; a seek of k, as get of k; first
pub data Made (m : ℕ) : Act → List ℕ → List ℕ → Reply → Type 0 where
  by_key : {c : Call} {ws us : List ℕ} {r : Reply} → Calls m c ws us r → Made m (ask c) ws us r
  took : {c d : Cursor} {y : Item} {ws us : List ℕ} {r : Reply} → Moves m to_remove c ws us r d → Takes m c ws y → Made m (ask (remove c.tree y.0)) ws us r
  sought : {k : ℕ} {c d : Cursor} {ws us : List ℕ} {r : Reply} → Moves m (to_key k) c ws us r d → Made m (ask (get c.tree k)) ws us r
  led : {c d : Cursor} {ws us : List ℕ} {r : Reply} → Moves m to_first c ws us r d → Made m (least c.tree) ws us r

-- acts on any trees, made in this order: the words before and after, and the answers. In between, what counts as none: a format that was refused, and a move that
-- changed no word; what such a move answers, and the cursor it hands back, may go by the nodes' numbers, and nothing is claimed of them here
pub data Ran (m : ℕ) : List Act → List ℕ → List ℕ → List Reply → Type 0 where
  no_calls : {ws : List ℕ} → Ran m [] ws ws []
  one : {a : Act} {cs : List Act} {ws us vs : List ℕ} {r : Reply} {rs : List Reply} → Made m a ws us r → Ran m cs us vs rs → Ran m (a ∷ cs) ws vs (r ∷ rs)
  moved : {v : Move} {c d : Cursor} {cs : List Act} {ws us vs : List ℕ} {r : Reply} {rs : List Reply} →
      Moves m v c ws us r d → us ≡ ws → Ran m cs us vs rs → Ran m cs ws vs rs
  unformatted : (T N : ℕ) {cs : List Act} {ws vs : List ℕ} {rs : List Reply} → formatted T N (length ws) ≡ false → Ran m cs ws vs rs → Ran m cs ws vs rs

-- the words after each step
abbrev pub ran_words : {m : ℕ} {cs : List Act} {ws vs : List ℕ} {rs : List Reply} → Ran m cs ws vs rs → List (List ℕ)
ran_words no_calls = []
ran_words (one {us = us} k h) = us ∷ ran_words h
ran_words (moved {us = us} k e h) = us ∷ ran_words h
ran_words (unformatted T N {ws = ws} e h) = ws ∷ ran_words h

-- all of some words are sound
abbrev pub AllSound : ℕ → List (List ℕ) → Type 0
AllSound m [] = Unit {0}
AllSound m (ws ∷ rest) = Sound m ws × AllSound m rest

-- Demand 3

-- is r the answer to an act of tree t that was not refused
abbrev pub counts : ℕ → Act → Reply → Bool
counts t a r = eqb (act_tree a) t && kept r

-- the acts of tree t, those that were refused struck out
abbrev pub own_of : ℕ → List Act → List Reply → List Act
own_of t [] rs = []
own_of t (a ∷ cs) [] = []
own_of t (a ∷ cs) (r ∷ rs) = cond (counts t a r) (a ∷ own_of t cs rs) (own_of t cs rs)

-- and the answers to these
abbrev pub answers_of : ℕ → List Act → List Reply → List Reply
answers_of t [] rs = []
answers_of t (a ∷ cs) [] = []
answers_of t (a ∷ cs) (r ∷ rs) = cond (counts t a r) (r ∷ answers_of t cs rs) (answers_of t cs rs)

-- the words vs and us are sound, and tree t is the same in both: levels, node contents and pairs
pub record SameTree (m t : ℕ) (vs us : List ℕ) : Type 0 where
  pub left : Sound m vs
  pub right : Sound m us
  pub same : shape (tree_of left.pool t) ≡ shape (tree_of right.pool t)

-- The acts cs made vs of the words ws, with answers rs. Those of tree t that were not refused, made alone on ws, in the same order: they can be made, and however
-- they are made, by key or at a cursor, none is refused, the answers are the same, and the tree is the same
pub record Independent (m t : ℕ) (ws : List ℕ) (cs : List Act) (vs : List ℕ) (rs : List Reply) : Type 0 where
  pub words : List ℕ
  pub answers : List Reply
  pub alone : Ran m (own_of t cs rs) ws words answers
  pub same_answers : (us : List ℕ) (bs : List Reply) → Ran m (own_of t cs rs) ws us bs → bs ≡ answers_of t cs rs
  pub all_done : (us : List ℕ) (bs : List Reply) → Ran m (own_of t cs rs) ws us bs → AllDone bs
  pub same_tree : (us : List ℕ) (bs : List Reply) → Ran m (own_of t cs rs) ws us bs → SameTree m t vs us

-- Any public calls

-- a public call that may write or that reads a cursor
pub data Event : Type 0 where
  format : ℕ → ℕ → Event
  key : Call → Event
  at : Move → Cursor → Event

-- events in this order: the words before, the answers, the words after
pub data Went (m : ℕ) : List Event → List ℕ → List Reply → List ℕ → Type 0 where
  stays : {ws : List ℕ} → Went m [] ws [] ws
  formats : (T N : ℕ) {ds : List Event} {ws us vs : List ℕ} {r : Reply} {rs : List Reply} →
      us ≡ format_words T N ws → r ≡ format_answer T N ws → Went m ds us rs vs → Went m (format T N ∷ ds) ws (r ∷ rs) vs
  calls : {c : Call} {ds : List Event} {ws us vs : List ℕ} {r : Reply} {rs : List Reply} → Calls m c ws us r → Went m ds us rs vs → Went m (key c ∷ ds) ws (r ∷ rs) vs
  moves : {v : Move} {c d : Cursor} {ds : List Event} {ws us vs : List ℕ} {r : Reply} {rs : List Reply} →
      Moves m v c ws us r d → Went m ds us rs vs → Went m (at v c ∷ ds) ws (r ∷ rs) vs

-- the words after each of them
abbrev pub went_words : {m : ℕ} {ds : List Event} {ws vs : List ℕ} {rs : List Reply} → Went m ds ws rs vs → List (List ℕ)
went_words stays = []
went_words (formats T N {us = us} e a h) = us ∷ went_words h
went_words (calls {us = us} k h) = us ∷ went_words h
went_words (moves {us = us} k h) = us ∷ went_words h

-- no format among them is done
abbrev pub Unformatted : List Event → List Reply → Type 0
Unformatted [] rs = Unit {0}
Unformatted (d ∷ ds) [] = Unit {0}
Unformatted (format T N ∷ ds) (r ∷ rs) = (kept r ≡ false) × Unformatted ds rs
Unformatted (key c ∷ ds) (r ∷ rs) = Unformatted ds rs
Unformatted (at v c ∷ ds) (r ∷ rs) = Unformatted ds rs

-- What they count as, computed

-- the pool after an event
abbrev pub event_pool : Event → Pool → Pool
event_pool (format T N) p = cond (formatted T N (length (encode p))) (fresh T N) p
event_pool (key c) p = (call c p).pool
event_pool (at v c) p = (move v c p).pool

-- a remove at a cursor: of the key of the pair that it takes, if it is not refused and takes one
abbrev pub taken_act : ℕ → Option Refusal → Option Item → Option Act
taken_act t none none = none
taken_act t none (some y) = some (ask (remove t y.0))
taken_act t (some x) o = none

-- the act that a move counts as, if it counts
abbrev pub move_act : Move → Cursor → Pool → Option Act
move_act to_first c p = some (least c.tree)
move_act (to_key k) c p = some (ask (get c.tree k))
move_act to_next c p = none
move_act to_prev c p = none
move_act to_settled c p = none
move_act to_remove c p = taken_act c.tree (blocked to_remove c p) (pair_at (leaves (tree_of p c.tree)) (spot_of (tree_of p c.tree) (path_in c)))

-- and an event
abbrev pub event_act : Event → Pool → Option Act
event_act (format T N) p = none
event_act (key c) p = some (ask c)
event_act (at v c) p = move_act v c p

-- x comes first if the act counts
abbrev pub count_in : {A : Type 0} → Option Act → (Act → A) → List A → List A
count_in none x xs = xs
count_in (some a) x xs = x a ∷ xs

-- the acts that events on a pool count as
abbrev pub acts_of : List Event → Pool → List Act
acts_of [] p = []
acts_of (d ∷ ds) p = count_in (event_act d p) (λ a. a) (acts_of ds (event_pool d p))

-- and of the answers to all of them, those to the acts
abbrev pub replies_of : List Event → List Reply → Pool → List Reply
replies_of [] rs p = []
replies_of (d ∷ ds) [] p = []
replies_of (d ∷ ds) (r ∷ rs) p = count_in (event_act d p) (λ a. r) (replies_of ds rs (event_pool d p))

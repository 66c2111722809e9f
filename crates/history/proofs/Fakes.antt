-- PROOFS. The fakes of document 01: no program that keeps the promises does what one of them does
use mathlib.Core.Path.{◌≡◌, refl, sym, ap, ◌∙◌}
use mathlib.Core.List.{List, [], ◌∷◌}
use mathlib.Core.Bool.{Bool, true, false, true≢false}
use Prim.Native.Nat.{ℕ, ◌+◌, ◌*◌, ◌<◌}
use native.Mathlib.Omega.{arith}
use lib.ListN.{length, get_or}
use lib.Seq.{get_or-drop}
use Rattle.std.specs.Prelude.{Err}
use Rattle.forest.specs.Sizes.{leaf_least}
use Rattle.forest.specs.declared.Refusal.TheVariants.{NoRoom}
use Rattle.forest.specs.declared.Cursor.{Cursor}
use Rattle.forest.specs.Answers.{kept, answer_of, Reply, pair, value}
use Rattle.forest.specs.Pools.{Pool, WellFormed, encode, fresh, Call, put, remove, get, call, tree_of, used, run}
use Rattle.forest.specs.Trees.{need}
use Rattle.forest.specs.Cursors.{Move, to_first, to_key, to_prev, to_remove, move, cursor_at}
use Rattle.forest.specs.Promises.{Calls, Moves}
use Rattle.forest.proofs.WordLaws.{free_part}
use Rattle.forest.proofs.CountLaws.{fresh_formed, nodes_all}
use Rattle.forest.proofs.CallLaws.{room_exactly}
use Rattle.forest.proofs.RunLaws.{run_formed}
use Rattle.forest.proofs.Premises.{unsound}
use Rattle.forest.proofs.Trials.{steps}
use Rattle.sound.specs.Exact.{Exact}

-- what a program makes of a call: the words afterwards and the answer
pub record Outcome : Type 0 where
  pub words : List ℕ
  pub answer : Reply

-- a program of the calls by key, and one that keeps the promises
abbrev pub Program : Type 0
Program = Call → List ℕ → Outcome

abbrev pub Keeps : Program → Type 0
Keeps f = (c : Call) (ws : List ℕ) → Calls leaf_least c ws (f c ws).words (f c ws).answer

-- a fresh pool of one tree and two nodes; 9 filed in it
abbrev pub start : Pool
start = fresh 1 2

pub start_formed : WellFormed leaf_least start
start_formed = fresh_formed leaf_least 1 2 (omega arith) (omega arith) (omega arith)

abbrev pub filed : Pool
filed = run (put 0 9 100 ∷ []) start

pub filed_formed : WellFormed leaf_least filed
filed_formed = run_formed leaf_least (omega arith) (omega arith) (put 0 9 100 ∷ []) start start_formed

-- one that only refuses: the exact table says that get of a tree that is there is done
pub only_refuses : (f : Program) → ((c : Call) (ws : List ℕ) → kept (f c ws).answer ≡ false) → Keeps f → ⊥
unfolding steps
only_refuses f never k =
    true≢false (ap kept ((k (get 0 9) (encode start)).sound_answer start start_formed refl) ∙ never (get 0 9) (encode start))

-- one with a fixed answer: get finds nothing in an empty tree, and 100 where 9 is filed with 100
pub fixed_answer : (f : Program) (a : Reply) → ((c : Call) (ws : List ℕ) → (f c ws).answer ≡ a) → Keeps f → ⊥
unfolding steps
fixed_answer f a same k =
    let e : 0 ≡ (answer_of a).value = ap (λ (x : Reply). (answer_of x).value) ((k (get 0 9) (encode start)).sound_answer start start_formed refl ∙ same (get 0 9) (encode start)) in
    let g : 100 ≡ (answer_of a).value = ap (λ (x : Reply). (answer_of x).value) ((k (get 0 9) (encode filed)).sound_answer filed filed_formed refl ∙ same (get 0 9) (encode filed)) in
    omega (arith, e, g)

-- one that does nothing: a put of 9 in a fresh pool sets the root
pub does_nothing : (f : Program) → ((c : Call) (ws : List ℕ) → (f c ws).words ≡ ws) → Keeps f → ⊥
unfolding steps
does_nothing f same k =
    let e : ◌≡◌ {A = ℕ} 1 0 = ap (λ (x : List ℕ). get_or x 1 0) ((k (put 0 9 100) (encode start)).sound_words start start_formed refl ∙ same (put 0 9 100) (encode start)) in
    omega (arith, e)

-- one that files everything at the first call and pretends later: after a put of 9 the pool has 9 alone, word for word, and a put of 8 then changes it
pub files_ahead : (f : Program) → Keeps f → (f (put 0 9 100) (encode start)).words ≡ (f (put 0 8 50) (f (put 0 9 100) (encode start)).words).words → ⊥
unfolding steps
files_ahead f k same =
    let us = (f (put 0 9 100) (encode start)).words in
    let e : encode filed ≡ us = (k (put 0 9 100) (encode start)).sound_words start start_formed refl in
    let g : encode (call (put 0 8 50) filed).pool ≡ (f (put 0 8 50) us).words = (k (put 0 8 50) us).sound_words filed filed_formed e in
    let h : ◌≡◌ {A = ℕ} 33 34 = ap (λ (x : List ℕ). get_or x 3 0) (e ∙ same ∙ sym g) in
    omega (arith, h)

-- a made-up free count: F of sound words is what the trees leave of N
pub free_count_lem : (p : Pool) → WellFormed leaf_least p → get_or (encode p) (length p.trees + 2 + 16 * p.count) 0 + length (used p.trees) ≡ p.count
free_count_lem p w =
    let z : length p.trees + 2 + 16 * p.count ≡ length p.trees + 2 + 16 * p.count + 0 = omega arith in
    let e : get_or (encode p) (length p.trees + 2 + 16 * p.count) 0 ≡ length p.free =
    ap (λ (i : ℕ). get_or (encode p) i 0) z ∙ sym (get_or-drop (length p.trees + 2 + 16 * p.count) (encode p) 0 0) ∙ ap (λ (x : List ℕ). get_or x 0 0) (free_part p) in
    omega (arith, e, nodes_all leaf_least p w)

-- a made-up need: a put is refused with 4 exactly where the rule's need is above F
pub need-count : (f : Program) → Keeps f → (t k v : ℕ) (p : Pool) → WellFormed leaf_least p → t < length p.trees →
    ((f (put t k v) (encode p)).answer ≡ Err NoRoom → length p.free < need 7 k (tree_of p t)) ×
    (length p.free < need 7 k (tree_of p t) → (f (put t k v) (encode p)).answer ≡ Err NoRoom)
need-count f k t key v p w there =
    let e = (k (put t key v) (encode p)).sound_answer p w refl in
    let x = room_exactly t key v p there in
    (λ g. x.0 (e ∙ g), λ g. sym e ∙ x.1 g)

-- The same of the cursor calls: the cursor is handed in with the words

pub record Handed : Type 0 where
  pub words : List ℕ
  pub answer : Reply
  pub cursor : Cursor

abbrev pub Mover : Type 0
Mover = Move → Cursor → List ℕ → Handed

abbrev pub KeepsMoves : Mover → Type 0
KeepsMoves f = (v : Move) (c : Cursor) (ws : List ℕ) → Moves leaf_least v c ws (f v c ws).words (f v c ws).answer (f v c ws).cursor

-- a cursor off the end of tree 0, and one on 9
abbrev off_end : Cursor
off_end = cursor_at 0 []

abbrev pub on_nine : Cursor
on_nine = cursor_at 0 ((1, 0) ∷ [])

pub only_refuses_moves : (f : Mover) → ((v : Move) (c : Cursor) (ws : List ℕ) → kept (f v c ws).answer ≡ false) → KeepsMoves f → ⊥
unfolding steps
only_refuses_moves f never k =
    true≢false (ap kept ((k to_first off_end (encode start)).sound_answer start start_formed refl) ∙ never to_first off_end (encode start))

-- first tells nothing in an empty tree, and 9 where it is filed
pub fixed_answer_moves : (f : Mover) (a : Reply) → ((v : Move) (c : Cursor) (ws : List ℕ) → (f v c ws).answer ≡ a) → KeepsMoves f → ⊥
unfolding steps
fixed_answer_moves f a same k =
    let e : 0 ≡ (answer_of a).key = ap (λ (x : Reply). (answer_of x).key) ((k to_first off_end (encode start)).sound_answer start start_formed refl ∙ same to_first off_end (encode start)) in
    let g : 9 ≡ (answer_of a).key = ap (λ (x : Reply). (answer_of x).key) ((k to_first off_end (encode filed)).sound_answer filed filed_formed refl ∙ same to_first off_end (encode filed)) in
    omega (arith, e, g)

-- remove at the cursor on 9 empties the tree
pub does_nothing_moves : (f : Mover) → ((v : Move) (c : Cursor) (ws : List ℕ) → (f v c ws).words ≡ ws) → KeepsMoves f → ⊥
unfolding steps
does_nothing_moves f same k =
    let e : ◌≡◌ {A = ℕ} 0 1 = ap (λ (x : List ℕ). get_or x 1 0) ((k to_remove on_nine (encode filed)).sound_words filed filed_formed refl ∙ same to_remove on_nine (encode filed)) in
    omega (arith, e)

-- and first goes from off the end to 9
pub stays_put : (f : Mover) → ((v : Move) (c : Cursor) (ws : List ℕ) → (f v c ws).cursor ≡ c) → KeepsMoves f → ⊥
unfolding steps
stays_put f same k =
    let e : ◌≡◌ {A = ℕ} 1 0 = ap (λ (x : Cursor). x.size) ((k to_first off_end (encode filed)).sound_cursor filed filed_formed refl ∙ same to_first off_end (encode filed)) in
    omega (arith, e)

-- One that tells a value as a pair of key 0, or a pair of key 0 as a value: in numbers they are the same, and the reply is another

-- 0 filed with 5
abbrev pub zeroed : Pool
zeroed = run (put 0 0 5 ∷ []) start

pub zeroed_formed : WellFormed leaf_least zeroed
zeroed_formed = run_formed leaf_least (omega arith) (omega arith) (put 0 0 5 ∷ []) start start_formed

pub same_numbers : answer_of (value 5) ≡ answer_of (pair 0 5)
same_numbers = refl

value_pair : value 5 ≡ pair 0 5 → ⊥
value_pair e = let z : ◌≡◌ {A = ℕ} 0 1 = cc in omega arith

-- get, put and remove of a key that is held, and seek and a remove at the cursor on it
pub pair_for_value : (f : Program) → Keeps f → (c : Call) → (call c zeroed).answer ≡ value 5 → (f c (encode zeroed)).answer ≡ pair 0 5 → ⊥
pair_for_value f k c e g = value_pair (sym e ∙ (k c (encode zeroed)).sound_answer zeroed zeroed_formed refl ∙ g)

pub pair_for_value_moves : (f : Mover) → KeepsMoves f → (v : Move) (c : Cursor) → (move v c zeroed).answer ≡ value 5 → (f v c (encode zeroed)).answer ≡ pair 0 5 → ⊥
pair_for_value_moves f k v c e g = value_pair (sym e ∙ (k v c (encode zeroed)).sound_answer zeroed zeroed_formed refl ∙ g)

pub values_held : ((call (get 0 0) zeroed).answer ≡ value 5) × ((call (put 0 0 6) zeroed).answer ≡ value 5) × ((call (remove 0 0) zeroed).answer ≡ value 5) ×
    ((move (to_key 0) off_end zeroed).answer ≡ value 5) × ((move to_remove on_nine zeroed).answer ≡ value 5)
unfolding steps
values_held = (refl, refl, refl, refl, refl)

-- first, and prev from off the end
pub value_for_pair : (f : Mover) → KeepsMoves f → (v : Move) (c : Cursor) → (move v c zeroed).answer ≡ pair 0 5 → (f v c (encode zeroed)).answer ≡ value 5 → ⊥
value_for_pair f k v c e g = value_pair (sym (sym e ∙ (k v c (encode zeroed)).sound_answer zeroed zeroed_formed refl ∙ g))

pub pairs-told : ((move to_first off_end zeroed).answer ≡ pair 0 5) × ((move to_prev off_end zeroed).answer ≡ pair 0 5)
unfolding steps
pairs-told = (refl, refl)

-- a check with a fixed answer: some words are sound and some are not
pub fixed_check : (f : List ℕ → Bool) (b : Bool) → ((ws : List ℕ) → f ws ≡ b) → ((ws : List ℕ) → Exact leaf_least ws (f ws)) → ⊥
fixed_check f b same k =
    let yes : f (encode start) ≡ true = (k (encode start)).every (record { pool = start; formed = start_formed; same = refl }) in
    unsound leaf_least ((k []).yes (same [] ∙ sym (same (encode start)) ∙ yes))

-- DEFINITIONS. The check and the first refusals of every call, and what a value at a look is
use Rattle.std.specs.Prelude.{◌≡◌, List, Bool, true, cond, ℕ, ◌<◌, get_or, eqb, ⊤, Result, Ok, Err, Some, None, IsOk}
use Rattle.std.specs.Prelude as rust
use Rattle.std.proofs.Math.Option.{Option, some}
use Rattle.forest.specs.Sizes.{leaf_least}
use Rattle.forest.specs.Pools.{Pool, WellFormed, Sound, encode, gate}
use Rattle.forest.specs.Cursors.{Move, to_next, reads, blocked, move}
use Rattle.forest.specs.Answers.{kept}
use Rattle.forest.specs.declared.Cursor.{Cursor}
use Rattle.forest.specs.declared.Refusal.{Refusal}
use Rattle.forest.specs.declared.Refusal.TheVariants.{Unsound}
use Rattle.forest.specs.declared.Moved.{Moved}
use Rattle.forest.specs.declared.Hit.{Hit}
use Rattle.forest.specs.declared.Hit.TheVariants.{Value}
use Rattle.forest.specs.Promises.{Moves}
use Rattle.path.specs.Cores.{Of, Standing, Look}
use Rattle.path.specs.declared.Tree.{Tree}

-- the check: the words are sound; else they are not, and that is the reason
pub record Checks (ws : List ℕ) (r : Result ⊤ Refusal) : Type 0 where
  pub sound : IsOk r → Sound leaf_least ws
  pub unsound : (x : Refusal) → r ≡ Err x → (x ≡ Unsound) × (Sound leaf_least ws → ⊥)

-- what passes: the tree of these words; else the reason against every call, whatever the call asks besides
pub record Gates (ws : List ℕ) (tree : ℕ) (r : Result Tree Refusal) : Type 0 where
  pub passes : (x : Tree) → r ≡ Ok x → (x.words.now ≡ ws) × (x.number ≡ tree)
  pub shut : (x : Refusal) → r ≡ Err x → (p : Pool) → Of ws p → (rest : Option Refusal) → gate p tree rest ≡ some x

-- the words are sound, and the cursor stands in a tree that is there
pub record Stood (ws : List ℕ) (c : Cursor) : Type 0 where
  pub sound : Sound leaf_least ws
  pub there : c.tree < get_or ws 0 0
  pub standing : Standing ws c

-- whether it does: yes exactly where `next`, as every move that reads the cursor, is not refused
pub record Told (ws : List ℕ) (c : Cursor) (r : Bool) : Type 0 where
  pub tells : (p : Pool) → WellFormed leaf_least p → encode p ≡ ws → r ≡ kept (move to_next c p).answer
  pub yes : r ≡ true → Stood ws c

-- the gate for a cursor: it stands; else the reason against every move that reads it
pub record Admits (ws : List ℕ) (c : Cursor) (r : Result ⊤ Refusal) : Type 0 where
  pub stood : IsOk r → Stood ws c
  pub shut : (x : Refusal) → r ≡ Err x → (p : Pool) → Of ws p → (v : Move) → reads v ≡ true → blocked v c p ≡ some x

-- both, of any words: every move that reads the cursor keeps its promise when it is refused for that
pub record Allows (ws : List ℕ) (c : Cursor) (r : Result ⊤ Refusal) : Type 0 where
  pub stood : IsOk r → Stood ws c
  pub shut : (x : Refusal) → r ≡ Err x → (v : Move) → reads v ≡ true → Moves leaf_least v c ws ws (Err x) c

-- a refused move: the cursor comes back
abbrev pub turned_back : Refusal → Cursor → Moved
turned_back x c = record { reply = Err x; cursor = c }

-- the value of a key where it would be
abbrev pub held_at : Look → ℕ → rust.Option Hit
held_at (Some (k, v)) key = cond (eqb k key) (Some (Value v)) None
held_at None key = None

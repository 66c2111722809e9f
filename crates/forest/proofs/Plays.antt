-- DEFINITIONS. Runs of calls by key and at cursors, and what is seen of them: the crate's recorded runs are held against these (Recorded)
use mathlib.Core.List.{List, [], ◌∷◌, ◌++◌}
use Prim.Native.Nat.{ℕ, zero, suc}
use lib.ListN.{get_or, set}
use Rattle.forest.specs.declared.Cursor.{Cursor}
use Rattle.forest.specs.Pools.{Pool, Call, call, encode, fresh}
use Rattle.forest.specs.Cursors.{Move, Moved, cursor_at, move}
use Rattle.forest.proofs.Trials.{answer, path}

-- a call by key, a call at the cursor of a tree, a look at the words
pub data Deed : Type 0 where
  ask : Call → Deed
  go : ℕ → Move → Deed
  look : Deed

-- what is seen of a move: its answer, and of the cursor handed back the size and the path
abbrev seen_move : Moved → List ℕ
seen_move r = answer r.answer ++ (r.cursor.size ∷ path r.cursor)

abbrev moved : Moved → (Pool → Cursor → List (List ℕ)) → List (List ℕ)
moved r rest = seen_move r ∷ rest r.pool r.cursor

-- what is seen of some deeds; each tree has its cursor
abbrev pub plays : List Deed → Pool → List Cursor → List (List ℕ)
plays [] p cs = []
plays (ask c ∷ ds) p cs = answer (call c p).answer ∷ plays ds (call c p).pool cs
plays (go t v ∷ ds) p cs = moved (move v (get_or cs t (cursor_at t [])) p) (λ q c. plays ds q (set cs t c))
plays (look ∷ ds) p cs = encode p ∷ plays ds p cs

-- no tree has a place at first
abbrev starts : ℕ → ℕ → List Cursor
starts t zero = []
starts t (suc n) = cursor_at t [] ∷ starts (suc t) n

-- from a fresh pool of T trees and N nodes on
abbrev pub play : ℕ → ℕ → List Deed → List (List ℕ)
play T N ds = plays ds (fresh T N) (starts 0 T)

-- answers: not found, found with a value, found with a pair
abbrev pub no : List ℕ
no = 0 ∷ 0 ∷ 0 ∷ 0 ∷ []

abbrev pub value : ℕ → List ℕ
value v = 0 ∷ 1 ∷ 0 ∷ v ∷ []

abbrev pub pair : ℕ → ℕ → List ℕ
pair k v = 0 ∷ 1 ∷ k ∷ v ∷ []

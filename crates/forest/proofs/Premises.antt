-- PROOFS. The premises of the laws are met: a well formed pool with trees in use, a cursor on a pair in it, a cursor off the end, a refusal of each kind, sound words
-- and words that are not sound
use mathlib.Core.Path.{◌≡◌, refl, ap}
use mathlib.Core.List.{List, [], ◌∷◌}
use mathlib.Core.Option.{none, some}
use Prim.Native.Nat.{ℕ}
use native.Mathlib.Omega.{arith}
use lib.ListN.{length}
use Rattle.forest.specs.Rows.{Tree}
use Rattle.forest.specs.declared.Cursor.{Cursor}
use Rattle.forest.specs.declared.Refusal.TheVariants.{NoTree, NoPlace, NoRoom}
use Rattle.forest.specs.Pools.{Pool, WellFormed, Sound, encode, Call, put, get, refused, run, fresh}
use Rattle.forest.specs.Cursors.{off, Stands, pair_at, cursor_at, to_key, to_next, to_remove, move, blocked}
use Rattle.forest.proofs.CountLaws.{fresh_formed, encode-length}
use Rattle.forest.proofs.RunLaws.{run_formed}
use Rattle.forest.proofs.MoveLaws.{row, spot_in}
use Rattle.forest.proofs.Trials.{steps}

-- nine pairs in tree 0, which has two levels, and one in tree 1; one node of five is free
abbrev pub deeds : List Call
deeds =
    put 0 10 1 ∷ put 0 20 2 ∷ put 0 30 3 ∷ put 0 40 4 ∷ put 0 50 5 ∷ put 0 60 6 ∷ put 0 70 7 ∷ put 0 35 8 ∷ put 0 80 9 ∷ put 1 5 1 ∷ []

abbrev pub pool : Pool
pool = run deeds (fresh 2 5)

pub pool_formed : WellFormed 3 pool
pool_formed = run_formed 3 (omega arith) (omega arith) deeds (fresh 2 5) (fresh_formed 3 2 5 (omega arith) (omega arith) (omega arith))

pub pool_sound : Sound 3 (encode pool)
pool_sound = record { pool = pool; formed = pool_formed; same = refl }

-- a cursor on the pair with key 30
abbrev pub cursor : Cursor
cursor = (move (to_key 30) (cursor_at 0 []) pool).cursor

pub cursor_free : blocked to_remove cursor pool ≡ none
unfolding steps
cursor_free = refl

pub cursor_pair : pair_at (row pool cursor) (spot_in pool cursor) ≡ some (30, 3)
unfolding steps
cursor_pair = refl

-- off the end a cursor stands in every tree
pub off_stands : (t : Tree) (n : ℕ) → Stands t (cursor_at n [])
off_stands t n = record { spot = off; fits = tt; same = refl }

-- a refusal of each kind: no such tree, no such place, no room
pub refused_tree : refused (get 2 5) pool ≡ some NoTree
unfolding steps
refused_tree = refl

pub refused-place : blocked to_next (cursor_at 0 ((1, 0) ∷ [])) pool ≡ some NoPlace
unfolding steps
refused-place = refl

pub refused-room : refused (put 0 48 1) (run (put 0 15 1 ∷ put 0 17 1 ∷ put 0 18 1 ∷ put 0 25 1 ∷ put 0 45 1 ∷ put 0 47 1 ∷ []) pool) ≡ some NoRoom
unfolding steps
refused-room = refl

-- and words of no well formed pool
pub unsound : (m : ℕ) → Sound m [] → ⊥
unsound m s = omega (arith, encode-length s.pool, ap length s.same)

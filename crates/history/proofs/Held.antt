-- PROOFS. The premises of Holdings and Places are met: words that hold two lists, calls and moves on them that keep their promise, and cursors on a pair, on none and nowhere
use mathlib.Core.Path.{◌≡◌, refl}
use mathlib.Core.List.{List, [], ◌∷◌}
use mathlib.Core.Bool.{true, false}
use mathlib.Core.Logic.{◌≢◌}
use mathlib.Core.Option.{none, some}
use Prim.Native.Nat.{ℕ, ◌≤◌, ◌<◌}
use native.Mathlib.Omega.{arith}
use lib.ListN.{length, get_or, replicate}
use Rattle.forest.specs.Sizes.{leaf_cap, leaf_least}
use Rattle.forest.specs.Pairs.{Item, lookup}
use Rattle.forest.specs.Trees.{pairs, need}
use Rattle.forest.specs.Answers.{kept, value}
use Rattle.forest.specs.Pools.{Pool, WellFormed, encode, Call, put, get, tree_of, call, run, formatted}
use Rattle.forest.specs.Cursors.{cursor_at, stands, to_first, to_key, to_next, to_remove, move}
use Rattle.forest.proofs.PoolLaws.{call_formed}
use Rattle.forest.proofs.RunLaws.{run_formed}
use Rattle.forest.proofs.Premises.{pool, pool_formed, cursor}
use Rattle.forest.proofs.Trials.{steps}
use Rattle.history.specs.Holdings.{HoldsPairs, StandsAt, Whole, TakesOut}
use Rattle.history.proofs.Holdings.{put_again}
use Rattle.history.proofs.Places.{remove_at_holds}
use Rattle.history.proofs.Premises.{on_key, on_pool}

-- Words: nine pairs in tree 0 and one in tree 1

abbrev pub words : List ℕ
words = encode pool

abbrev pub nine : List Item
nine = (10, 1) ∷ (20, 2) ∷ (30, 3) ∷ (35, 8) ∷ (40, 4) ∷ (50, 5) ∷ (60, 6) ∷ (70, 7) ∷ (80, 9) ∷ []

pub two_trees : (0 < length pool.trees) × (1 < length pool.trees)
unfolding steps
two_trees = (omega arith, omega arith)

pub two_lists : (pairs (tree_of pool 0) ≡ nine) × (pairs (tree_of pool 1) ≡ (5, 1) ∷ [])
unfolding steps
two_lists = (refl, refl)

abbrev pub nine_held : HoldsPairs leaf_least words 0 nine
nine_held = record { sound = record { pool = pool; formed = pool_formed; same = refl }; there = two_trees.0; same = two_lists.0 }

pub one_held : (◌≢◌ {A = ℕ} 1 0) × HoldsPairs leaf_least words 1 ((5, 1) ∷ [])
one_held = (λ e. omega arith, record { sound = record { pool = pool; formed = pool_formed; same = refl }; there = two_trees.1; same = two_lists.1 })

-- a format that is done
pub format_done : formatted 1 2 (length {A = ℕ} (replicate 38 0)) ≡ true
unfolding steps
format_done = refl

-- two trees, and no third
pub tree_word : (1 < get_or words 0 0) × (get_or words 0 0 ≤ 2)
unfolding steps
tree_word = (omega arith, omega arith)

-- a key that is held, and one that is not
pub key_held : lookup 30 nine ≡ some 3
key_held = refl

pub key_absent : lookup 37 nine ≡ none
key_absent = refl

-- a put that is done, and made again; a call that is refused
pub put-done : kept (call (put 0 37 1) pool).answer ≡ true
unfolding steps
put-done = refl

abbrev pub grown : Pool
grown = (call (put 0 37 1) pool).pool

pub grown_formed : WellFormed leaf_least grown
grown_formed = call_formed leaf_least (omega arith) (omega arith) (put 0 37 1) pool pool_formed

pub put_twice_done : ((call (put 0 37 1) grown).answer ≡ value 1) × (encode (call (put 0 37 1) grown).pool ≡ encode grown)
put_twice_done = put_again (on_key (put 0 37 1) pool pool_formed) put-done (on_key (put 0 37 1) grown grown_formed)

pub get_refused : kept (call (get 2 5) pool).answer ≡ false
unfolding steps
get_refused = refl

-- words with no room for 48
abbrev pub more : List Call
more = put 0 15 1 ∷ put 0 17 1 ∷ put 0 18 1 ∷ put 0 25 1 ∷ put 0 45 1 ∷ put 0 47 1 ∷ []

abbrev pub crowded : Pool
crowded = run more pool

pub crowded_there : 0 < length crowded.trees
unfolding steps
crowded_there = omega arith

abbrev pub crowded_held : HoldsPairs leaf_least (encode crowded) 0 (pairs (tree_of crowded 0))
crowded_held = record {
  sound = record { pool = crowded; formed = run_formed leaf_least (omega arith) (omega arith) more pool pool_formed; same = refl };
  there = crowded_there;
  same = refl;
}

pub no_room_left : length crowded_held.sound.pool.free < need leaf_cap 48 (tree_of crowded_held.sound.pool 0)
unfolding steps
no_room_left = omega arith

-- Cursors: on 30; on the least pair; one past the last of a leaf, with five pairs behind; off the end

pub on_thirty : StandsAt leaf_least words cursor nine 2 (some (30, 3))
unfolding steps
on_thirty = record { holds = nine_held; standing = refl; before = refl; pair = refl }

pub on_ten : StandsAt leaf_least words (move to_first (cursor_at 0 []) pool).cursor nine 0 (some (10, 1))
unfolding steps
on_ten = record { holds = nine_held; standing = refl; before = refl; pair = refl }

pub past_leaf : StandsAt leaf_least words (move (to_key 37) (cursor_at 0 []) pool).cursor nine 4 none
unfolding steps
past_leaf = record { holds = nine_held; standing = refl; before = refl; pair = refl }

pub off_end : StandsAt leaf_least words (cursor_at 0 []) nine 9 none
unfolding steps
off_end = record { holds = nine_held; standing = refl; before = refl; pair = refl }

-- all have their sixteen levels
pub wholes : Whole cursor × Whole (move to_first (cursor_at 0 []) pool).cursor × Whole (move (to_key 37) (cursor_at 0 []) pool).cursor × Whole (cursor_at 0 [])
unfolding steps
wholes = (record { nodes = refl; places = refl }, record { nodes = refl; places = refl }, record { nodes = refl; places = refl }, record { nodes = refl; places = refl })

-- one that stands nowhere in tree 0, so that next is refused
pub nowhere : (stands (tree_of nine_held.sound.pool 0) (cursor_at 0 ((1, 0) ∷ [])) ≡ false) × (kept (move to_next (cursor_at 0 ((1, 0) ∷ [])) pool).answer ≡ false)
unfolding steps
nowhere = (refl, refl)

-- 30 is taken out at its cursor
pub thirty_taken : TakesOut leaf_least cursor (encode (move to_remove cursor pool).pool) (move to_remove cursor pool).answer (move to_remove cursor pool).cursor nine 2 (30, 3)
thirty_taken = remove_at_holds leaf_least (omega arith) (omega arith) (on_pool to_remove cursor pool pool_formed) on_thirty

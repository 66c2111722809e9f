-- DEFINITIONS. Demand 2 is said of these: which sorted list the words hold in a tree, and where a cursor stands in it
use Rattle.std.specs.Prelude.{◌≡◌, List, true, ℕ, suc, ◌≤◌, ◌<◌, length, Err}
use Rattle.std.proofs.Math.Option.{Option, some}
use Rattle.std.proofs.Math.ListN.{get_elem?}
use Rattle.forest.specs.Sizes.{most_levels}
use Rattle.forest.specs.Lists.{remove_at}
use Rattle.forest.specs.Pairs.{Item, lookup, place}
use Rattle.forest.specs.Trees.{pairs}
use Rattle.forest.specs.declared.Refusal.TheVariants.{NoRoom}
use Rattle.forest.specs.declared.Cursor.{Cursor}
use Rattle.forest.specs.Answers.{held, Reply, value}
use Rattle.forest.specs.Pools.{Sound, Call, put, target, tree_of, acts, key_of}
use Rattle.forest.specs.Cursors.{leaves, pair_at, position, spot_of, path_in, stands}

-- the words hold the pairs xs in tree t: they are those of a well formed pool that has this tree with these pairs
pub record HoldsPairs (m : ℕ) (ws : List ℕ) (t : ℕ) (xs : List Item) : Type 0 where
  pub sound : Sound m ws
  pub there : t < length sound.pool.trees
  pub same : pairs (tree_of sound.pool t) ≡ xs

-- they hold some list
pub record Listed (m : ℕ) (ws : List ℕ) (t : ℕ) : Type 0 where
  pub list : List Item
  pub holds : HoldsPairs m ws t list

-- a cursor stands in the words: its tree holds xs, i pairs come before it, and o is the pair that it is on, if it is on one
pub record StandsAt (m : ℕ) (ws : List ℕ) (c : Cursor) (xs : List Item) (i : ℕ) (o : Option Item) : Type 0 where
  pub holds : HoldsPairs m ws c.tree xs
  pub standing : stands (tree_of holds.sound.pool c.tree) c ≡ true
  pub before :
      position (leaves (tree_of holds.sound.pool c.tree)) (spot_of (tree_of holds.sound.pool c.tree) (path_in c)) ≡ i
  pub pair :
      pair_at (leaves (tree_of holds.sound.pool c.tree)) (spot_of (tree_of holds.sound.pool c.tree) (path_in c)) ≡ o

-- Calls by key

-- a call was done on a tree of pairs xs: it answers the value held, and the words then hold what it makes of them
pub record Does (m : ℕ) (c : Call) (us : List ℕ) (r : Reply) (xs : List Item) : Type 0 where
  pub answer : r ≡ held (lookup (key_of c) xs)
  pub holds : HoldsPairs m us (target c) (acts c xs)

-- a put is done, or it is refused for room and changes no word
pub data Filed (m t k v : ℕ) (ws us : List ℕ) (r : Reply) (xs : List Item) : Type 0 where
  filed : Does m (put t k v) us r xs → Filed m t k v ws us r xs
  no_room : r ≡ Err NoRoom → us ≡ ws → Filed m t k v ws us r xs

-- Cursor calls

-- a cursor has all its levels, used or not
pub record Whole (c : Cursor) : Type 0 where
  pub nodes : length c.nodes ≡ most_levels
  pub places : length c.places ≡ most_levels

-- the cursor d that is handed back for c: it is of the same tree, and it stands in the words
pub record Comes (m : ℕ) (c : Cursor) (us : List ℕ) (d : Cursor) (xs : List Item) (i : ℕ) (o : Option Item) : Type 0 where
  pub tree : d.tree ≡ c.tree
  pub whole : Whole d
  pub stood : StandsAt m us d xs i o

-- a move changes no word, it answers a, and its cursor has i pairs before it and is on o; with no pair left it is off the end
pub record Arrives (m : ℕ) (c : Cursor) (ws us : List ℕ) (r : Reply) (d : Cursor) (a : Reply) (xs : List Item) (i : ℕ) (o : Option Item) : Type 0 where
  pub words : us ≡ ws
  pub answer : r ≡ a
  pub comes : Comes m c us d xs i o
  pub ended : length xs ≤ i → d.size ≡ 0

-- a move changes neither word nor cursor, bit for bit, and it answers a
pub record Remains (c : Cursor) (ws us : List ℕ) (r : Reply) (d : Cursor) (a : Reply) : Type 0 where
  pub words : us ≡ ws
  pub answer : r ≡ a
  pub cursor : d ≡ c

-- a seek of k: the value held, and the place of the key; where the key is held the cursor is on its pair
pub record Seeks (m k : ℕ) (c : Cursor) (ws us : List ℕ) (r : Reply) (d : Cursor) (xs : List Item) : Type 0 where
  pub words : us ≡ ws
  pub answer : r ≡ held (lookup k xs)
  pub on : Option Item
  pub comes : Comes m c us d xs (place k xs) on
  pub found : (v : ℕ) → lookup k xs ≡ some v → on ≡ some (k, v)

-- a remove at a cursor on y, the i-th pair: y goes, its value is answered, and the cursor has its place, on the pair that came after it, or off the end
pub record TakesOut (m : ℕ) (c : Cursor) (us : List ℕ) (r : Reply) (d : Cursor) (xs : List Item) (i : ℕ) (y : Item) : Type 0 where
  pub answer : r ≡ value y.1
  pub holds : HoldsPairs m us c.tree (remove_at i xs)
  pub comes : Comes m c us d (remove_at i xs) i (get_elem? xs (suc i))
  pub ended : length xs ≤ suc i → d.size ≡ 0

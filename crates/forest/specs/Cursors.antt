-- DEFINITIONS. Cursors: where one stands in a tree, its path, how it moves, and the calls
use Rattle.std.specs.Prelude.{◌≡◌, List, [], ◌∷◌, map, reverse, Bool, true, false, cond, ◌&&◌, ℕ, zero, suc, ◌+◌, ◌-◌, ◌≤◌, ◌<◌, length, take, drop, get_or, ltb, leb, eqb, Err}
use Rattle.std.proofs.Math.Option.{Option, none, some}
use Rattle.std.proofs.Math.ListN.{get_elem?}
use Rattle.forest.specs.Sizes.{most_levels}
use Rattle.forest.specs.Lists.{sum, parent, offset, pad}
use Rattle.forest.specs.Pairs.{Item, place}
use Rattle.forest.specs.Rows.{Row, Tree, sizes, nums, items_at}
use Rattle.forest.specs.Trees.{leaf_of, leaf_items, get_tree}
use Rattle.forest.specs.declared.Refusal.{Refusal}
use Rattle.forest.specs.declared.Refusal.TheVariants.{NoPlace}
use Rattle.forest.specs.declared.Cursor.{Cursor}
use Rattle.forest.specs.Answers.{held, told, valued, Reply, nothing}
use Rattle.forest.specs.Pools.{Pool, remove, call, tree_of, gate}

-- at entry e of the j-th leaf (e may be one past the last), or off the end
pub data Spot : Type 0 where
  off : Spot
  on : ℕ → ℕ → Spot

-- the leaf row of a tree
abbrev pub leaves : Tree → Row
leaves [] = []
leaves (L ∷ Rs) = L

-- the entries of the j-th leaf
abbrev pub size_at : Row → ℕ → ℕ
size_at L j = get_or (sizes L) j 0

-- a spot that a cursor can stand at
abbrev pub Fits : Row → Spot → Type 0
Fits L off = Unit {0}
Fits L (on j e) = (j < length L) × (e ≤ size_at L j)

-- the pair there
abbrev pub pair_at : Row → Spot → Option Item
pair_at L off = none
pair_at L (on j e) = get_elem? (items_at L j) e

-- Moves

-- the first pair of the j-th leaf, off the end if there is no such leaf
abbrev pub leaf_start : Row → ℕ → Spot
leaf_start L j = cond (ltb j (length L)) (on j 0) off

-- the last pair of the j-th leaf
abbrev pub leaf_end : Row → ℕ → Spot
leaf_end L j = on j (size_at L j - 1)

-- the least pair
abbrev pub first : Row → Spot
first L = leaf_start L 0

-- the leaf of key k, and its place there or its insert place, which may be one past the last entry
abbrev pub seek : ℕ → Row → Spot
seek k L = cond (ltb 0 (length L)) (on (leaf_of k L) (place k (leaf_items k L))) off

-- from one past a leaf's last entry to the first pair of the next leaf; otherwise unmoved
abbrev pub settle : Row → Spot → Spot
settle L off = off
settle L (on j e) = cond (ltb e (size_at L j)) (on j e) (leaf_start L (suc j))

-- from a pair the pair after it; from one past a leaf's last entry the first pair of the next leaf
abbrev pub next : Row → Spot → Spot
next L off = off
next L (on j e) = cond (ltb (suc e) (size_at L j)) (on j (suc e)) (leaf_start L (suc j))

-- the pair before the place; off the end the last pair of all; at the first pair it stays
abbrev pub prev : Row → Spot → Spot
prev L off = cond (ltb 0 (length L)) (leaf_end L (length L - 1)) off
prev L (on zero zero) = on 0 0
prev L (on (suc j) zero) = leaf_end L j
prev L (on j (suc e)) = on j e

-- the pair that prev gives: none at the first pair
abbrev pub prev_pair : Row → Spot → Option Item
prev_pair L off = pair_at L (prev L off)
prev_pair L (on zero zero) = none
prev_pair L (on (suc j) zero) = pair_at L (leaf_end L j)
prev_pair L (on j (suc e)) = pair_at L (on j e)

-- how many pairs stand before the spot
abbrev pub position : Row → Spot → ℕ
position L off = sum (sizes L)
position L (on j e) = sum (take j (sizes L)) + e

-- the spot of the i-th pair, off the end if there is none
abbrev pub spot_at : Row → ℕ → Spot
spot_at L i = cond (ltb i (sum (sizes L))) (on (parent (sizes L) i) (offset (sizes L) i)) off

-- Paths

-- node and place of each level, root first
abbrev pub Path : Type 0
Path = List (ℕ × ℕ)

-- the levels above, for the i-th node of the row below
abbrev pub path_up : ℕ → List Row → Path → Path
path_up i [] below = below
path_up i (S ∷ Ss) below = path_up (parent (sizes S) i) Ss ((get_or (nums S) (parent (sizes S) i) 0, offset (sizes S) i) ∷ below)

-- the path to a spot, empty off the end
abbrev pub path_of : Tree → Spot → Path
path_of t off = []
path_of [] (on j e) = []
path_of (L ∷ Rs) (on j e) = path_up j Rs ((get_or (nums L) j 0, e) ∷ [])

-- the cursor of a path, its unused levels 0
abbrev pub cursor_at : ℕ → Path → Cursor
cursor_at t path = record {
  tree = t;
  size = length path;
  nodes = pad most_levels (map (λ (q : ℕ × ℕ). q.0) path);
  places = pad most_levels (map (λ (q : ℕ × ℕ). q.1) path);
}

-- a cursor stands in a tree: it is the cursor of a spot
pub record Stands (t : Tree) (c : Cursor) : Type 0 where
  pub spot : Spot
  pub fits : Fits (leaves t) spot
  pub same : cursor_at c.tree (path_of t spot) ≡ c

-- The same, computed

-- the index of the node that a path names in the row below Rs, by its places; the path leaf first
abbrev pub index_under : List Row → Path → ℕ
index_under [] ps = 0
index_under (S ∷ Ss) [] = 0
index_under (S ∷ Ss) (p ∷ ps) = sum (take (index_under Ss ps) (sizes S)) + p.1

-- the spot that a path names, under the rows Rs; the path leaf first
abbrev pub spot_up : List Row → Path → Spot
spot_up Rs [] = off
spot_up Rs (p ∷ ps) = on (index_under Rs ps) p.1

-- the spot that a path names in a tree; the path root first
abbrev pub spot_of : Tree → Path → Spot
spot_of [] path = off
spot_of (L ∷ Rs) path = spot_up Rs (reverse path)

-- are two paths the same
abbrev pub same_path : Path → Path → Bool
same_path [] [] = true
same_path [] (q ∷ qs) = false
same_path (p ∷ ps) [] = false
same_path (p ∷ ps) (q ∷ qs) = eqb p.0 q.0 && (eqb p.1 q.1 && same_path ps qs)

-- is it a spot that a cursor can stand at
abbrev pub fits : Row → Spot → Bool
fits L off = true
fits L (on j e) = ltb j (length L) && leb e (size_at L j)

-- a path runs from the root to a leaf, each node the named child, and the leaf place is at most the entry count; or it is empty
abbrev pub runs : Tree → Path → Bool
runs t path = fits (leaves t) (spot_of t path) && same_path (path_of t (spot_of t path)) path

-- some levels as a path
abbrev pub levels_of : ℕ → List ℕ → List ℕ → Path
levels_of zero ns ps = []
levels_of (suc s) ns ps = (get_or ns 0 0, get_or ps 0 0) ∷ levels_of s (drop 1 ns) (drop 1 ps)

-- the levels of a cursor that are in use
abbrev pub path_in : Cursor → Path
path_in c = levels_of c.size c.nodes c.places

-- are all of them 0
abbrev pub all_zero : List ℕ → Bool
all_zero [] = true
all_zero (x ∷ xs) = eqb x 0 && all_zero xs

-- the size is at most 16 and the unused levels hold 0
unfoldable pub clean : Cursor → Bool
clean c = leb c.size most_levels && (all_zero (drop c.size c.nodes) && all_zero (drop c.size c.places))

-- does a cursor stand in a tree
abbrev pub stands : Tree → Cursor → Bool
stands t c = clean c && runs t (path_in c)

-- The calls

-- the calls on a cursor
pub data Move : Type 0 where
  to_first : Move
  to_key : ℕ → Move
  to_next : Move
  to_prev : Move
  to_settled : Move
  to_remove : Move

-- what a move answers from a spot
abbrev pub tells : Move → Tree → Spot → Reply
tells to_first t s = told (pair_at (leaves t) (first (leaves t)))
tells (to_key k) t s = held (get_tree k t)
tells to_next t s = told (pair_at (leaves t) (next (leaves t) s))
tells to_prev t s = told (prev_pair (leaves t) s)
tells to_settled t s = nothing
tells to_remove t s = valued (pair_at (leaves t) s)

-- first and seek read only the tree number of the cursor
abbrev pub reads : Move → Bool
reads to_first = false
reads (to_key k) = false
reads to_next = true
reads to_prev = true
reads to_settled = true
reads to_remove = true

-- a remove at a cursor is the remove by key of the pair that it is on
abbrev pub removed : ℕ → Option Item → Pool → Pool
removed t none p = p
removed t (some x) p = (call (remove t x.0) p).pool

-- the pool after a move from spot s of tree t
abbrev pub left_pool : Move → ℕ → Spot → Pool → Pool
left_pool to_first t s p = p
left_pool (to_key k) t s p = p
left_pool to_next t s p = p
left_pool to_prev t s p = p
left_pool to_settled t s p = p
left_pool to_remove t s p = removed t (pair_at (leaves (tree_of p t)) s) p

-- after a remove, the spot of the next pair, which has the place of the one removed
abbrev pub removed_spot : Option Item → Row → Row → Spot → Spot
removed_spot none L L' s = s
removed_spot (some x) L L' s = spot_at L' (position L s)

-- where a move from spot s leaves the cursor; L and L' are the leaves before and afterwards
abbrev pub left_spot : Move → Row → Row → Spot → Spot
left_spot to_first L L' s = first L
left_spot (to_key k) L L' s = seek k L
left_spot to_next L L' s = next L s
left_spot to_prev L L' s = prev L s
left_spot to_settled L L' s = settle L s
left_spot to_remove L L' s = removed_spot (pair_at L s) L L' s

-- what comes of a move
pub record Moved : Type 0 where
  pub answer : Reply
  pub cursor : Cursor
  pub pool : Pool

-- why a move is refused, if it is: the cursor is read and does not stand in its tree
unfoldable pub blocked : Move → Cursor → Pool → Option Refusal
blocked v c p = gate p c.tree (cond (reads v) (cond (stands (tree_of p c.tree) c) none (some NoPlace)) none)

-- a move that is not refused, done from a spot
unfoldable pub move_from : Move → ℕ → Spot → Pool → Moved
move_from v t s p = record {
  answer = tells v (tree_of p t) s;
  cursor = cursor_at t (path_of (tree_of (left_pool v t s p) t) (left_spot v (leaves (tree_of p t)) (leaves (tree_of (left_pool v t s p) t)) s));
  pool = left_pool v t s p;
}

-- what comes of it: where there is a reason against it neither pool nor cursor changes, else it is done
abbrev pub unless_moved : Option Refusal → Cursor → Pool → Moved → Moved
unless_moved none c p d = d
unless_moved (some x) c p d = record { answer = Err x; cursor = c; pool = p }

-- a move
unfoldable pub move : Move → Cursor → Pool → Moved
move v c p = unless_moved (blocked v c p) c p (move_from v c.tree (spot_of (tree_of p c.tree) (path_in c)) p)

-- DEFINITIONS. put, remove and get on one tree
use Rattle.std.specs.Prelude.{List, [], ◌∷◌, ◌++◌, Bool, cond, ℕ, suc, length, drop, get_or, ltb}
use Rattle.std.proofs.Math.Option.{Option, none}
use Rattle.forest.specs.Sizes.{inner_cap}
use Rattle.forest.specs.Lists.{parent, offset, upto}
use Rattle.forest.specs.Pairs.{Item, lookup, has, place}
use Rattle.forest.specs.Rows.{Row, Tree, node, nums, sizes, fronts, items_at, joined, put_row, set_row, drop_row, full, refresh}

-- the pairs of a tree
abbrev pub pairs : Tree → List Item
pairs [] = []
pairs (L ∷ Rs) = joined L

-- the numbers of a tree's nodes
abbrev pub numbers : List Row → List ℕ
numbers [] = []
numbers (R ∷ Rs) = nums R ++ numbers Rs

-- the leaf of key k: so many leaves behind the first start at k or before
abbrev pub leaf_of : ℕ → Row → ℕ
leaf_of k L = upto k (drop 1 (fronts L))

-- its entries
abbrev pub leaf_items : ℕ → Row → List Item
leaf_items k L = items_at L (leaf_of k L)

-- a seat for a child; `refresh` fills in its key and its number
abbrev pub seat : Item
seat = (0, 0)

-- the numbers that put takes are the list `new`, in order

-- one node more in the row below, directly right of the i-th
abbrev pub grow_up : ℕ → List ℕ → List Row → List Row
grow_up i new [] = (node (get_or new 0 0) (seat ∷ seat ∷ []) ∷ []) ∷ []
grow_up i new (S ∷ Ss) =
    put_row inner_cap (parent (sizes S) i) (suc (offset (sizes S) i)) seat (get_or new 0 0) S ∷
    cond (full inner_cap (parent (sizes S) i) S) (grow_up (parent (sizes S) i) (drop 1 new) Ss) Ss

-- and how many nodes that takes
abbrev pub need_up : ℕ → List Row → ℕ
need_up i [] = 1
need_up i (S ∷ Ss) = cond (full inner_cap (parent (sizes S) i) S) (suc (need_up (parent (sizes S) i) Ss)) 0

-- from here on c is the capacity of a leaf

-- the leaf row with k put in, which is absent
unfoldable pub put_leaf : ℕ → ℕ → ℕ → List ℕ → Row → Row
put_leaf c k v new L = put_row c (leaf_of k L) (place k (leaf_items k L)) (k, v) (get_or new 0 0) L

-- put: an entry replaced; or put in, the rows above grown where the leaf was full, and brought up to date; the first entry of all makes a leaf
unfoldable pub put_tree : ℕ → ℕ → ℕ → List ℕ → Tree → Tree
put_tree c k v new [] = (node (get_or new 0 0) ((k, v) ∷ []) ∷ []) ∷ []
put_tree c k v new (L ∷ Rs) =
    cond (has k (leaf_items k L))
    (set_row (leaf_of k L) (place k (leaf_items k L)) (k, v) L ∷ Rs)
    (put_leaf c k v new L ∷ refresh (put_leaf c k v new L) (cond (full c (leaf_of k L) L) (grow_up (leaf_of k L) (drop 1 new) Rs) Rs))

-- how many nodes a put takes
unfoldable pub need : ℕ → ℕ → Tree → ℕ
need c k [] = 1
need c k (L ∷ Rs) = cond (has k (leaf_items k L)) 0 (cond (full c (leaf_of k L) L) (suc (need_up (leaf_of k L) Rs)) 0)

-- a row without its item at position i, healed
abbrev pub drop_at : ℕ → Row → Row
drop_at i S = drop_row inner_cap (parent (sizes S) i) (offset (sizes S) i) S

-- has row S become shorter
abbrev pub lost : Row → Row → Bool
lost S' S = ltb (length S') (length S)

-- the i-th node of the row below went
abbrev pub drop_up : ℕ → List Row → List Row
drop_up i [] = []
drop_up i (S ∷ Ss) = drop_at i S ∷ cond (lost (drop_at i S) S) (drop_up (parent (sizes S) i) Ss) Ss

-- the numbers that frees, upward
abbrev pub freed_up : ℕ → List Row → List ℕ
freed_up i [] = []
freed_up i (S ∷ Ss) = cond (lost (drop_at i S) S) (get_or (nums S) (parent (sizes S) i) 0 ∷ freed_up (parent (sizes S) i) Ss) []

-- roots with one child go: the rows that stay above R
abbrev pub trim : Row → List Row → List Row
trim R [] = []
trim R (S ∷ Ss) = cond (ltb (length R) 2) [] (S ∷ trim S Ss)

-- the numbers of some rows from the top
abbrev pub from_top : List Row → List ℕ
from_top [] = []
from_top (S ∷ Ss) = from_top Ss ++ nums S

-- and the numbers that `trim` frees
abbrev pub trimmed : Row → List Row → List ℕ
trimmed R [] = []
trimmed R (S ∷ Ss) = cond (ltb (length R) 2) (from_top (S ∷ Ss)) (trimmed S Ss)

-- a tree of leaves L under the rows Rs; none without leaves
abbrev pub stand : Row → List Row → Tree
stand [] Rs = []
stand (n ∷ L) Rs = (n ∷ L) ∷ refresh (n ∷ L) (trim (n ∷ L) Rs)

-- the leaf row without k
unfoldable pub drop_leaf : ℕ → ℕ → Row → Row
drop_leaf c k L = drop_row c (leaf_of k L) (place k (leaf_items k L)) L

-- the rows above it
unfoldable pub drop_above : ℕ → ℕ → Row → List Row → List Row
drop_above c k L Rs = cond (lost (drop_leaf c k L) L) (drop_up (leaf_of k L) Rs) Rs

-- remove: an absent key changes nothing
unfoldable pub remove_tree : ℕ → ℕ → Tree → Tree
remove_tree c k [] = []
remove_tree c k (L ∷ Rs) = cond (has k (leaf_items k L)) (stand (drop_leaf c k L) (drop_above c k L Rs)) (L ∷ Rs)

-- the numbers that a remove frees, in order: lowest level first, upward, then the roots that go, from the top
unfoldable pub freed : ℕ → ℕ → Tree → List ℕ
freed c k [] = []
freed c k (L ∷ Rs) =
    cond (has k (leaf_items k L))
    (cond (lost (drop_leaf c k L) L) (get_or (nums L) (leaf_of k L) 0 ∷ freed_up (leaf_of k L) Rs) [] ++ trimmed (drop_leaf c k L) (drop_above c k L Rs))
    []

-- get: the value held, in the leaf of the key
unfoldable pub get_tree : ℕ → Tree → Option ℕ
get_tree k [] = none
get_tree k (L ∷ Rs) = lookup k (leaf_items k L)

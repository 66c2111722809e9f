-- DEFINITIONS. A level of a tree is a row of nodes, left to right; a tree is its rows, leaves first. The steps on nodes and rows, over the capacity c
use Rattle.std.specs.Prelude.{◌≡◌, List, [], ◌∷◌, ◌++◌, map, Bool, cond, ℕ, zero, suc, ◌+◌, ◌-◌, ◌*◌, ◌/◌, ◌≤◌, length, take, drop, get_or, set, ltb, leb, eqb}
use Rattle.forest.specs.Sizes.{inner_cap, inner_least}
use Rattle.forest.specs.Lists.{insert_at, remove_at}
use Rattle.forest.specs.Pairs.{Item, Rising}

-- a node: its number, and its items in order
pub record Node : Type 0 where
  pub num : ℕ
  pub items : List Item

-- the nodes of one level, left to right
abbrev pub Row : Type 0
Row = List Node

-- the levels of a tree, leaves first; an empty tree has none
abbrev pub Tree : Type 0
Tree = List Row

-- a node by its parts
abbrev pub node : ℕ → List Item → Node
node n xs = record { num = n; items = xs }

-- how many items a node has: entries in a leaf, children in an inner node
abbrev pub size : Node → ℕ
size n = length n.items

-- the key of the first item
abbrev pub front : List Item → ℕ
front [] = 0
front (x ∷ xs) = x.0

-- the numbers of the nodes
abbrev pub nums : Row → List ℕ
nums R = map (λ n. n.num) R

-- how many items each has
abbrev pub sizes : Row → List ℕ
sizes R = map size R

-- the first key of each
abbrev pub fronts : Row → List ℕ
fronts R = map (λ n. front n.items) R

-- the items of the j-th node
abbrev pub items_at : Row → ℕ → List Item
items_at [] j = []
items_at (n ∷ R) zero = n.items
items_at (n ∷ R) (suc j) = items_at R j

-- all items of the row
abbrev pub joined : Row → List Item
joined [] = []
joined (n ∷ R) = n.items ++ joined R

-- what the row above holds: of each node its smallest key and its number
abbrev pub line : Row → List Item
line [] = []
line (n ∷ R) = (front n.items, n.num) ∷ line R

-- the least that a node may hold that has nodes of sizes xs to its right: the minimum, but 1 for the last
abbrev pub least : ℕ → List ℕ → ℕ
least lo [] = 1
least lo (y ∷ ys) = lo

-- the fill rule: minimum lo, capacity hi
abbrev pub Fill : ℕ → ℕ → List ℕ → Type 0
Fill lo hi [] = Unit {0}
Fill lo hi (x ∷ xs) = (least lo xs ≤ x) × (x ≤ hi) × Fill lo hi xs

-- the rows above R: there is one as long as there are two nodes, and its items, joined, are the line of the row below
abbrev pub Tower : Row → List Row → Type 0
Tower R [] = length R ≡ 1
Tower R (S ∷ Ss) = (2 ≤ length R) × (joined S ≡ line R) × Fill inner_least inner_cap (sizes S) × Tower S Ss

-- a tree is well formed, with m the minimum and c the capacity of a leaf: keys rise, the leaves are filled, the rows are stacked
abbrev pub Good : ℕ → ℕ → Tree → Type 0
Good m c [] = Unit {0}
Good m c (L ∷ Rs) = Rising (joined L) × Fill m c (sizes L) × Tower L Rs

-- Steps on nodes

-- how many items a full node of c keeps that gets one more at place p: half, and the new one if it lands left
unfoldable pub keeps : ℕ → ℕ → ℕ
keeps c p = cond (leb p (c / 2)) (suc (c / 2)) (suc c / 2)

-- x comes to place p of node n; where n is full, its right part goes to a node `new`
unfoldable pub put_node : ℕ → ℕ → Item → ℕ → Node → Row
put_node c p x new n =
    cond (ltb (size n) c)
    (node n.num (insert_at p x n.items) ∷ [])
    (node n.num (take (keeps c p) (insert_at p x n.items)) ∷ node new (drop (keeps c p) (insert_at p x n.items)) ∷ [])

-- a node with no right neighbour stays, unless it is empty
unfoldable pub alone : Node → Row
alone n = cond (eqb (size n) 0) [] (n ∷ [])

-- two nodes share their items: the right gets half rounded down
abbrev pub share : ℕ → ℕ → List Item → Row
share a b u = node a (take (length u - length u / 2) u) ∷ node b (drop (length u - length u / 2) u) ∷ []

-- a node that has lost an item is healthy at half of the capacity: 4 of 7 entries, 4 of 8 children
abbrev pub healthy : ℕ → Node → Bool
healthy c n = leb c (2 * size n)

-- a node and its right neighbour: a healthy one stays; else everything goes to the right if it fits, or they share
unfoldable pub heal : ℕ → Node → Node → Row
heal c n m =
    cond (healthy c n) (n ∷ m ∷ [])
    (cond (leb (size n + size m) c) (node m.num (n.items ++ m.items) ∷ [])
    (share n.num m.num (n.items ++ m.items)))

-- a node that has lost item p
abbrev pub without : ℕ → Node → Node
without p n = node n.num (remove_at p n.items)

-- Steps on rows

-- x comes to place p of the j-th node
abbrev pub put_row : ℕ → ℕ → ℕ → Item → ℕ → Row → Row
put_row c j p x new [] = []
put_row c zero p x new (n ∷ R) = put_node c p x new n ++ R
put_row c (suc j) p x new (n ∷ R) = n ∷ put_row c j p x new R

-- x stands instead of item p of the j-th node
abbrev pub set_row : ℕ → ℕ → Item → Row → Row
set_row j p x [] = []
set_row zero p x (n ∷ R) = node n.num (set n.items p x) ∷ R
set_row (suc j) p x (n ∷ R) = n ∷ set_row j p x R

-- item p of the j-th node goes, and the node heals
abbrev pub drop_row : ℕ → ℕ → ℕ → Row → Row
drop_row c j p [] = []
drop_row c zero p (n ∷ []) = alone (without p n)
drop_row c zero p (n ∷ m ∷ R) = heal c (without p n) m ++ R
drop_row c (suc j) p (n ∷ R) = n ∷ drop_row c j p R

-- is the j-th node full
abbrev pub full : ℕ → ℕ → Row → Bool
full c j R = leb c (get_or (sizes R) j 0)

-- the row takes the items xs, each node as many as it has: so it is brought up to date with the row below, whose line xs is
abbrev pub rekey : List Item → Row → Row
rekey xs [] = []
rekey xs (n ∷ R) = node n.num (take (size n) xs) ∷ rekey (drop (size n) xs) R

-- all rows above R brought up to date, upward
abbrev pub refresh : Row → List Row → List Row
refresh R [] = []
refresh R (S ∷ Ss) = rekey (line R) S ∷ refresh (rekey (line R) S) Ss

-- DEFINITIONS. What a put does to the words, node by node: over a store, for rows of nodes and the path that leads up from one of them
use Rattle.std.specs.Prelude.{◌≡◌, List, [], ◌∷◌, true, cond, ℕ, suc, ◌+◌, ◌≤◌, ◌<◌, length, take, drop, get_or, set}
use Rattle.forest.specs.Sizes.{most_trees, most_nodes, most_levels, leaf_cap, inner_cap}
use Rattle.forest.specs.Lists.{insert_at, count, parent, offset}
use Rattle.forest.specs.Pairs.{Item}
use Rattle.forest.specs.Rows.{Row, front, nums, sizes, items_at, keeps, full, Tower}
use Rattle.forest.specs.Trees.{numbers, need_up}
use Rattle.forest.specs.Pools.{leaf_words, inner_words, root_above}
pub use Rattle.pool.specs.Stores.{num_at, Holds, HoldsUp}
use Rattle.pool.specs.Stores.{Store, put, spell, Sixteen, with_block, top_node, taken_words, Stocked, Placed}

-- Words

-- the words with the top of the stack taken, w in it, and it the root of a tree
unfoldable pub planted_words : List ℕ → ℕ → ℕ → List ℕ → List ℕ
planted_words ws t tree w = set (with_block (taken_words ws t) t (top_node ws t) w) (tree + 1) (top_node ws t)

-- the words with node n cut: `left` stays in n, `right` goes to the top of the stack
unfoldable pub cut_words : List ℕ → ℕ → ℕ → List ℕ → List ℕ → List ℕ
cut_words ws t n left right = with_block (with_block (taken_words ws t) t n left) t (top_node ws t) right

-- what a full node of c keeps that gets x at place p
abbrev pub left_part : ℕ → ℕ → Item → List Item → List Item
left_part c p x ys = take (keeps c p) (insert_at p x ys)

-- what goes to its new right neighbour
abbrev pub right_part : ℕ → ℕ → Item → List Item → List Item
right_part c p x ys = drop (keeps c p) (insert_at p x ys)

-- the store with node a cut, its right part in b
abbrev pub cut_store : (List Item → List ℕ) → ℕ → List Item → ℕ → List Item → Store → Store
cut_store words a ls b rs st = put (put st a (words ls)) b (words rs)

-- the rows above get the item x, directly right of the i-th; r is the root, `new` the numbers to take
abbrev pub up_store : ℕ → ℕ → Item → List ℕ → List Row → Store → Store
up_store r i x new [] st = put st (get_or new 0 0) (inner_words ((0, r) ∷ x ∷ []))
up_store r i x new (S ∷ Ss) st =
    cond (full inner_cap (parent (sizes S) i) S)
    (up_store r (parent (sizes S) i) (front (right_part inner_cap (suc (offset (sizes S) i)) x (items_at S (parent (sizes S) i))), get_or new 0 0) (drop 1 new) Ss
    (cut_store inner_words (num_at S (parent (sizes S) i)) (left_part inner_cap (suc (offset (sizes S) i)) x (items_at S (parent (sizes S) i)))
    (get_or new 0 0) (right_part inner_cap (suc (offset (sizes S) i)) x (items_at S (parent (sizes S) i))) st))
    (put st (num_at S (parent (sizes S) i)) (inner_words (insert_at (suc (offset (sizes S) i)) x (items_at S (parent (sizes S) i)))))

-- the root afterwards
abbrev pub up_root : ℕ → ℕ → List ℕ → List Row → ℕ
up_root r i new [] = get_or new 0 0
up_root r i new (S ∷ Ss) = cond (full inner_cap (parent (sizes S) i) S) (up_root r (parent (sizes S) i) (drop 1 new) Ss) r

-- the entry x comes to place p of the j-th leaf, which is full
abbrev pub leaf_store : ℕ → ℕ → Item → List ℕ → Row → List Row → Store → Store
leaf_store j p x new L Rs st =
    up_store (root_above L Rs) j (front (right_part leaf_cap p x (items_at L j)), get_or new 0 0) (drop 1 new) Rs
    (cut_store leaf_words (num_at L j) (left_part leaf_cap p x (items_at L j)) (get_or new 0 0) (right_part leaf_cap p x (items_at L j)) st)

-- the root afterwards
abbrev pub leaf_root : ℕ → List ℕ → Row → List Row → ℕ
leaf_root j new L Rs = up_root (root_above L Rs) j (drop 1 new) Rs

-- Going up

-- the words over a store: roots, number of nodes, store and free numbers; a row of nodes, the rows above it, and one node of the row
pub record Scene : Type 0 where
  pub roots : List ℕ
  pub nodes : ℕ
  pub store : Store
  pub free : List ℕ
  pub row : Row
  pub rows : List Row
  pub at : ℕ

-- the levels of a cursor lead from the i-th node below up to the root, which is level 0
abbrev pub Along : List ℕ → List ℕ → ℕ → List Row → Type 0
Along ns ps i [] = Unit {0}
Along ns ps i (S ∷ Ss) =
    (get_or ns (length Ss) 0 ≡ num_at S (parent (sizes S) i)) ×
    (get_or ps (length Ss) 0 ≡ offset (sizes S) i) ×
    Along ns ps (parent (sizes S) i) Ss

-- words ws of t trees are those of a scene in tree `tree`, and the first `level` levels ns, ps of a cursor are the path up
pub record Under (s : Scene) (ws : List ℕ) (t tree : ℕ) (ns ps : List ℕ) (level : ℕ) : Type 0 where
  pub words : spell s.roots s.nodes s.store s.free ≡ ws
  pub trees : length s.roots ≡ t
  pub few_trees : t ≤ most_trees
  pub few_nodes : s.nodes ≤ most_nodes
  pub sixteen : Sixteen s.store
  pub stack : length s.free ≤ s.nodes
  pub there : tree < t
  pub root : get_or s.roots tree 0 ≡ root_above s.row s.rows
  pub levels : length s.rows ≡ level
  pub few_levels : level < most_levels
  pub within : s.at < length s.row
  pub tower : Tower s.row s.rows
  pub holds : HoldsUp s.store s.rows
  pub each_once : (y : ℕ) → count y (numbers s.rows) + count y s.free ≤ 1
  pub range : (y : ℕ) → 1 ≤ count y (numbers s.rows) + count y s.free → (1 ≤ y) × (y ≤ s.nodes)
  pub along : Along ns ps s.at s.rows

-- there is such a scene
pub record Unders (ws : List ℕ) (t tree : ℕ) (ns ps : List ℕ) (level : ℕ) : Type 0 where
  pub scene : Scene
  pub under : Under scene ws t tree ns ps level

-- and nodes enough for one child more
pub record Climb (s : Scene) (ws : List ℕ) (t tree : ℕ) (ns ps : List ℕ) (level : ℕ) : Type 0 where
  pub under : Under s ws t tree ns ps level
  pub enough : need_up s.at s.rows ≤ length s.free

-- there is such a scene
pub record Climbs (ws : List ℕ) (t tree : ℕ) (ns ps : List ℕ) (level : ℕ) : Type 0 where
  pub scene : Scene
  pub climb : Climb scene ws t tree ns ps level

-- the words once x has come right of the node of the scene
unfoldable pub climbed : Scene → ℕ → Item → List ℕ
climbed s tree x =
    spell (set s.roots tree (up_root (root_above s.row s.rows) s.at s.free s.rows)) s.nodes
    (up_store (root_above s.row s.rows) s.at x s.free s.rows s.store)
    (drop (need_up s.at s.rows) s.free)

-- the entry's place p in the leaf of the scene; ns and ps have one level more, the leaf's
pub record Site (s : Scene) (p : ℕ) (ws : List ℕ) (t tree : ℕ) (ns ps : List ℕ) (level : ℕ) : Type 0 where
  pub under : Under s ws t tree ns ps level
  pub node : get_or ns level 0 ≡ num_at s.row s.at
  pub place : get_or ps level 0 ≡ p
  pub inside : p ≤ get_or (sizes s.row) s.at 0
  pub some : 1 ≤ get_or (sizes s.row) s.at 0
  pub few : get_or (sizes s.row) s.at 0 ≤ leaf_cap
  pub leaves : Holds leaf_words s.store s.row
  pub once_more : (y : ℕ) → count y (nums s.row) + count y (numbers s.rows) + count y s.free ≤ 1
  pub range_more : (y : ℕ) → 1 ≤ count y (nums s.row) → (1 ≤ y) × (y ≤ s.nodes)

-- and the leaf is full
pub record Land (s : Scene) (p : ℕ) (ws : List ℕ) (t tree : ℕ) (ns ps : List ℕ) (level : ℕ) : Type 0 where
  pub site : Site s p ws t tree ns ps level
  pub no_room : full leaf_cap s.at s.row ≡ true

-- there is such a scene, and a place
pub record Lands (ws : List ℕ) (t tree : ℕ) (ns ps : List ℕ) (level : ℕ) : Type 0 where
  pub scene : Scene
  pub entry : ℕ
  pub land : Land scene entry ws t tree ns ps level

-- how many nodes the entry takes
abbrev pub leaf_need : Scene → ℕ
leaf_need s = suc (need_up s.at s.rows)

-- and nodes enough for the entry
pub record Landed (s : Scene) (p : ℕ) (ws : List ℕ) (t tree : ℕ) (ns ps : List ℕ) (level : ℕ) : Type 0 where
  pub land : Land s p ws t tree ns ps level
  pub enough : leaf_need s ≤ length s.free

-- there is such a scene, and a place
pub record Fits (ws : List ℕ) (t tree : ℕ) (ns ps : List ℕ) (level : ℕ) : Type 0 where
  pub scene : Scene
  pub entry : ℕ
  pub landed : Landed scene entry ws t tree ns ps level

-- the words once the entry x has come to place p of the leaf
unfoldable pub landed_words : Scene → ℕ → ℕ → Item → List ℕ
landed_words s p tree x =
    spell (set s.roots tree (leaf_root s.at s.free s.row s.rows)) s.nodes
    (leaf_store s.at p x s.free s.row s.rows s.store)
    (drop (leaf_need s) s.free)

-- What the functions ask of the words

-- the top of the stack can be taken, and has its place
pub record Takes (ws : List ℕ) (t : ℕ) : Type 0 where
  pub stock : Stocked ws t
  pub new : Placed ws t (top_node ws t)

-- and so has node n
pub record AskCut (ws : List ℕ) (t n : ℕ) : Type 0 where
  pub takes : Takes ws t
  pub node : Placed ws t n

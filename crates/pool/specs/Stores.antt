-- DEFINITIONS. The words of a pool over a store of nodes, and what is read, stored, taken and given there
use Rattle.std.specs.Prelude.{List, [], ◌∷◌, ◌++◌, reverse, cond, ◌≡◌, ℕ, zero, suc, ◌+◌, ◌-◌, ◌*◌, ◌≤◌, ◌<◌, length, take, drop, get_or, set, eqb}
pub use Rattle.forest.specs.Sizes.{base}
pub use Rattle.forest.specs.Slices.{block}
use Rattle.forest.specs.Sizes.{most_nodes, node_size}
use Rattle.forest.specs.Lists.{pad}
use Rattle.forest.specs.Pairs.{Item}
use Rattle.forest.specs.Rows.{Row, node, nums}
use Rattle.forest.specs.Pools.{inner_words, nodes_from}

-- a store: the words of each number
abbrev pub Store : Type 0
Store = ℕ → List ℕ

-- the store with the words of one number anew
abbrev pub put : Store → ℕ → List ℕ → Store
put st n w = λ x. cond (eqb x n) w (st x)

-- each number has the words of a node
abbrev pub Sixteen : Store → Type 0
Sixteen st = (n : ℕ) → length (st n) ≡ node_size

-- Rows in a store

-- the number of the j-th node
abbrev pub num_at : Row → ℕ → ℕ
num_at R j = get_or (nums R) j 0

-- the items of the j-th node become f of them
abbrev pub upd : ℕ → (List Item → List Item) → Row → Row
upd j f [] = []
upd zero f (n ∷ R) = node n.num (f n.items) ∷ R
upd (suc j) f (n ∷ R) = n ∷ upd j f R

-- the store has the words of every node of the row
abbrev pub Holds : (List Item → List ℕ) → Store → Row → Type 0
Holds words st [] = Unit {0}
Holds words st (n ∷ R) = (st n.num ≡ words n.items) × Holds words st R

-- and of the rows above the leaves
abbrev pub HoldsUp : Store → List Row → Type 0
HoldsUp st [] = Unit {0}
HoldsUp st (S ∷ Ss) = Holds inner_words st S × HoldsUp st Ss

-- The words

-- the words: roots, the store of N nodes, the free numbers with the top of the stack first
unfoldable pub spell : List ℕ → ℕ → Store → List ℕ → List ℕ
spell roots N st free = (length roots ∷ roots ++ (N ∷ [])) ++ (nodes_from st 1 N ++ (length free ∷ pad N (reverse free)))

-- xs with ys in the place of as many words from a on
unfoldable pub patched : List ℕ → ℕ → List ℕ → List ℕ
patched xs a ys = take a xs ++ (ys ++ drop (a + length ys) xs)

-- with other words for node n
unfoldable pub with_block : List ℕ → ℕ → ℕ → List ℕ → List ℕ
with_block ws t n w = patched ws (base t n) w

-- the words of a free node
abbrev pub no_words : List ℕ
no_words = pad node_size []

-- where the count of the free numbers stands
abbrev pub stack_at : List ℕ → ℕ → ℕ
stack_at ws t = t + 2 + node_size * get_or ws (t + 1) 0

-- how many numbers are free
abbrev pub free_count : List ℕ → ℕ → ℕ
free_count ws t = get_or ws (stack_at ws t) 0

-- the top of the stack
abbrev pub top_node : List ℕ → ℕ → ℕ
top_node ws t = get_or ws (stack_at ws t + free_count ws t) 0

-- the words once it is taken
unfoldable pub taken_words : List ℕ → ℕ → List ℕ
taken_words ws t = set (set ws (stack_at ws t) (free_count ws t - 1)) (stack_at ws t + free_count ws t) 0

-- the words with n on top of the stack
unfoldable pub pushed_words : List ℕ → ℕ → ℕ → List ℕ
pushed_words ws t n = set (set ws (stack_at ws t) (free_count ws t + 1)) (stack_at ws t + (free_count ws t + 1)) n

-- and with the words of n made zeros too
unfoldable pub freed_words : List ℕ → ℕ → ℕ → List ℕ
freed_words ws t n = with_block (pushed_words ws t n) t n no_words

-- node n has its place in the words
pub record Placed (ws : List ℕ) (t n : ℕ) : Type 0 where
  pub some : 1 ≤ n
  pub room : base t n + node_size ≤ length ws

-- the stack is in the words, and not empty
pub record Stocked (ws : List ℕ) (t : ℕ) : Type 0 where
  pub some : 1 ≤ free_count ws t
  pub room : stack_at ws t + free_count ws t < length ws

-- node n has its place, and the stack has room for one more
pub record Freeable (ws : List ℕ) (t n : ℕ) : Type 0 where
  pub node : Placed ws t n
  pub few : free_count ws t < most_nodes
  pub room : stack_at ws t + (free_count ws t + 1) < length ws

-- the free stack of a fresh pool as it stands: n, n - 1, .., 1
abbrev pub down : ℕ → List ℕ
down zero = []
down (suc n) = suc n ∷ down n

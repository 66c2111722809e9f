-- DEFINITIONS. A pool of trees, when it is well formed, its words, and the calls
use Rattle.std.specs.Prelude.{◌≡◌, List, [], ◌∷◌, ◌++◌, map, reverse, Bool, true, cond, ◌&&◌, ℕ, zero, suc, ◌+◌, ◌-◌, ◌*◌, ◌≤◌, length, drop, get_or, set, replicate, ltb, leb, eqb, Err}
use Rattle.std.proofs.Math.Option.{Option, none, some}
use Rattle.forest.specs.Sizes.{most_trees, most_nodes, leaf_cap, leaf_tag, inner_tag, node_size, key_words, link_words}
use Rattle.forest.specs.Lists.{once, count, pad}
use Rattle.forest.specs.Pairs.{Item, insert, delete}
use Rattle.forest.specs.Rows.{Node, Row, Tree, node, nums, Good}
use Rattle.forest.specs.declared.Refusal.{Refusal}
use Rattle.forest.specs.declared.Refusal.TheVariants.{NoTree, NoRoom, NoFormat}
use Rattle.forest.specs.Answers.{held, kept, Reply, nothing}
use Rattle.forest.specs.Runs.{Kind, finally, replies}
use Rattle.forest.specs.Trees.{numbers, put_tree, need, remove_tree, freed, get_tree}

-- T trees, N nodes, the free numbers with the top of the stack first
pub record Pool : Type 0 where
  pub trees : List Tree
  pub count : ℕ
  pub free : List ℕ

-- the numbers in use, of all trees
abbrev pub used : List Tree → List ℕ
used [] = []
used (t ∷ ts) = numbers t ++ used ts

-- every tree is well formed
abbrev pub AllGood : ℕ → List Tree → Type 0
AllGood m [] = Unit {0}
AllGood m (t ∷ ts) = Good m leaf_cap t × AllGood m ts

-- a pool is well formed, with m the minimum of a leaf: 3 in document 01
pub record WellFormed (m : ℕ) (p : Pool) : Type 0 where
  pub some_trees : 1 ≤ length p.trees
  pub few_trees : length p.trees ≤ most_trees
  pub few_nodes : p.count ≤ most_nodes
  pub good : AllGood m p.trees
  -- each number from 1 to N stands once in a tree or in the stack, and no other number does
  pub each_once : (n : ℕ) → count n (used p.trees) + count n p.free ≡ once (leb 1 n && leb n p.count)

-- The words

-- a leaf: 32 and its entries, then keys, then values, zeros in places not in use
abbrev pub leaf_words : List Item → List ℕ
leaf_words xs = (leaf_tag + length xs) ∷ (pad key_words (map (λ (x : Item). x.0) xs) ++ pad link_words (map (λ (x : Item). x.1) xs))

-- an inner node: 16 and its keys, then keys, then children; the key of the first item is not stored
abbrev pub inner_words : List Item → List ℕ
inner_words xs = (inner_tag + (length xs - 1)) ∷ (pad key_words (map (λ (x : Item). x.0) (drop 1 xs)) ++ pad link_words (map (λ (x : Item). x.1) xs))

-- the words of node n if it is in the row, or else `or`
abbrev pub in_row : (List Item → List ℕ) → ℕ → Row → List ℕ → List ℕ
in_row words n [] or = or
in_row words n (m ∷ R) or = cond (eqb n m.num) (words m.items) (in_row words n R or)

-- and if it is in one of the rows above the leaves
abbrev pub in_rows : ℕ → List Row → List ℕ → List ℕ
in_rows n [] or = or
in_rows n (R ∷ Rs) or = in_row inner_words n R (in_rows n Rs or)

-- and in a tree
abbrev pub in_tree : ℕ → Tree → List ℕ → List ℕ
in_tree n [] or = or
in_tree n (L ∷ Rs) or = in_row leaf_words n L (in_rows n Rs or)

-- and in one of the trees
abbrev pub in_trees : ℕ → List Tree → List ℕ → List ℕ
in_trees n [] or = or
in_trees n (t ∷ ts) or = in_tree n t (in_trees n ts or)

-- a free node is sixteen zeros
abbrev pub node_words : List Tree → ℕ → List ℕ
node_words ts n = in_trees n ts (pad node_size [])

-- the words of c nodes from number n on; those of each are `words` of its number
abbrev pub nodes_from : (ℕ → List ℕ) → ℕ → ℕ → List ℕ
nodes_from words n zero = []
nodes_from words n (suc c) = words n ++ nodes_from words (suc n) c

-- the number of the node at the top, 0 of the empty tree
abbrev pub root_above : Row → List Row → ℕ
root_above R [] = get_or (nums R) 0 0
root_above R (S ∷ Ss) = root_above S Ss

-- the root word of a tree
abbrev pub root : Tree → ℕ
root [] = 0
root (L ∷ Rs) = root_above L Rs

-- the words of a pool: T, the roots, N, the nodes, F, the stack with its top last and zeros behind
unfoldable pub encode : Pool → List ℕ
encode p =
    length p.trees ∷ (map root p.trees ++
    (p.count ∷ (nodes_from (node_words p.trees) 1 p.count ++
    (length p.free ∷ pad p.count (reverse p.free)))))

-- the words are those of a well formed pool; there is one such pool at most (UniqueLaws)
pub record Sound (m : ℕ) (ws : List ℕ) : Type 0 where
  pub pool : Pool
  pub formed : WellFormed m pool
  pub same : encode pool ≡ ws

-- The calls

-- the free stack of a fresh pool, from n down: top first it is 1, 2, .., N
abbrev pub fresh_stack : ℕ → ℕ → List ℕ
fresh_stack n zero = []
fresh_stack n (suc c) = n ∷ fresh_stack (suc n) c

-- the pool after formatting: empty trees, every node free
abbrev pub fresh : ℕ → ℕ → Pool
fresh T N = record { trees = replicate T []; count = N; free = fresh_stack 1 N }

-- what comes of a call: its answer, and the pool afterwards
pub record Done : Type 0 where
  pub answer : Reply
  pub pool : Pool

-- tree t, empty where there is none
abbrev pub tree_of : Pool → ℕ → Tree
tree_of p t = get_or p.trees t []

-- the pool with tree t changed, and another free stack
abbrev pub with_tree : Pool → ℕ → Tree → List ℕ → Pool
with_tree p t x f = record { trees = set p.trees t x; count = p.count; free = f }

-- each number of a list is put on top of the stack, in order
abbrev pub push_all : List ℕ → List ℕ → List ℕ
push_all [] s = s
push_all (x ∷ xs) s = push_all xs (x ∷ s)

-- the requests; the first number is the tree's
pub data Call : Type 0 where
  put : ℕ → ℕ → ℕ → Call
  remove : ℕ → ℕ → Call
  get : ℕ → ℕ → Call

-- the tree that a call is for
abbrev pub target : Call → ℕ
target (put t k v) = t
target (remove t k) = t
target (get t k) = t

-- what a call does to its tree, with the numbers `new` to take
abbrev pub after : Call → List ℕ → Tree → Tree
after (put t k v) new x = put_tree leaf_cap k v new x
after (remove t k) new x = remove_tree leaf_cap k x
after (get t k) new x = x

-- how many nodes it takes
abbrev pub takes : Call → Tree → ℕ
takes (put t k v) x = need leaf_cap k x
takes (remove t k) x = 0
takes (get t k) x = 0

-- the numbers it frees, in order
abbrev pub frees : Call → Tree → List ℕ
frees (put t k v) x = []
frees (remove t k) x = freed leaf_cap k x
frees (get t k) x = []

-- what it answers: a put the earlier value, a remove and a get the value held
abbrev pub says : Call → Tree → Reply
says (put t k v) x = held (get_tree k x)
says (remove t k) x = held (get_tree k x)
says (get t k) x = held (get_tree k x)

-- the first reasons against every call on a sound pool: the tree number is T or above; then comes what the call itself is refused for
abbrev pub gate : Pool → ℕ → Option Refusal → Option Refusal
gate p t rest = cond (leb (length p.trees) t) (some NoTree) rest

-- why a call is refused, if it is: it takes more nodes than are free
unfoldable pub refused : Call → Pool → Option Refusal
refused c p = gate p (target c) (cond (ltb (length p.free) (takes c (tree_of p (target c)))) (some NoRoom) none)

-- a call that is not refused, done
unfoldable pub done : Call → Pool → Pool
done c p =
    with_tree p (target c) (after c p.free (tree_of p (target c)))
    (push_all (frees c (tree_of p (target c))) (drop (takes c (tree_of p (target c))) p.free))

-- what comes of it: where there is a reason against it nothing changes, else it is done
abbrev pub unless : Option Refusal → Pool → Done → Done
unless none p d = d
unless (some x) p d = record { answer = Err x; pool = p }

-- a call
unfoldable pub call : Call → Pool → Done
call c p = unless (refused c p) p (record { answer = says c (tree_of p (target c)); pool = done c p })

-- may len words be formatted with T trees and N nodes
unfoldable pub formatted : ℕ → ℕ → ℕ → Bool
formatted T N len = leb 1 T && (leb T most_trees && (leb N most_nodes && eqb len (T + 17 * N + 3)))

-- the words after formatting: those of a fresh pool, or as they were
unfoldable pub format_words : ℕ → ℕ → List ℕ → List ℕ
format_words T N ws = cond (formatted T N (length ws)) (encode (fresh T N)) ws

-- and the answer
unfoldable pub format_answer : ℕ → ℕ → List ℕ → Reply
format_answer T N ws = cond (formatted T N (length ws)) nothing (Err NoFormat)

-- Calls in a row

-- get, put and remove as a kind of call; every refusal is struck out
abbrev pub calls : Kind Call Pool Reply
calls = record { answer = λ c p. (call c p).answer; next = λ c p. (call c p).pool; target = target; kept = λ c p. kept (call c p).answer }

-- the pool after some calls
abbrev pub run : List Call → Pool → Pool
run cs p = finally calls cs p

-- and their answers
abbrev pub answers : List Call → Pool → List Reply
answers cs p = replies calls cs p

-- The meaning of a call on the list of pairs

-- what becomes of the pairs
abbrev pub acts : Call → List Item → List Item
acts (put t k v) xs = insert k v xs
acts (remove t k) xs = delete k xs
acts (get t k) xs = xs

-- the key of a call
abbrev pub key_of : Call → ℕ
key_of (put t k v) = k
key_of (remove t k) = k
key_of (get t k) = k

-- A tree with its numbers erased

-- every number is 0; g is what becomes of an item's second part
abbrev pub blank : (ℕ → ℕ) → Node → Node
blank g n = node 0 (map (λ (x : Item). (x.0, g x.1)) n.items)

-- the leaves keep keys and values, the inner nodes their keys
abbrev pub shape : Tree → Tree
shape [] = []
shape (L ∷ Rs) = map (blank (λ v. v)) L ∷ map (map (blank (λ v. 0))) Rs

-- Demand 3 (history/specs/Histories)

-- no answer is a refusal
abbrev pub AllDone : List Reply → Type 0
AllDone [] = Unit {0}
AllDone (a ∷ rest) = (kept a ≡ true) × AllDone rest

-- PROOFS. Where what stands in the words of a well formed pool
use mathlib.Core.Path.{◌≡◌, refl, sym, ap, ◌∙◌}
use mathlib.Core.List.{List, [], ◌∷◌, ◌++◌, map, reverse, append_assoc}
use mathlib.Core.Bool.{◌&&◌}
use Prim.Native.Nat.{ℕ, zero, suc, ◌+◌, ◌*◌, ◌≤◌, ◌<◌}
use native.Mathlib.Omega.{arith}
use lib.ListN.{length, take, drop, get_or, set, length-map, get_or-append, get_or-map}
use lib.Seq.{drop-append-add, get_or-append-add, take_at, drop_at}
use lib.Dec.{eqb, leb}
use borrow.Author.Tests.{eq-eqb}
use Rattle.forest.specs.Lists.{once, count, pad}
use Rattle.forest.specs.Pairs.{Item}
use Rattle.forest.specs.Rows.{Row, Tree, nums, items_at}
use Rattle.forest.specs.Trees.{numbers}
use Rattle.forest.specs.Pools.{Pool, used, WellFormed, tree_of, leaf_words, inner_words, in_row, in_rows, in_tree, in_trees, node_words, nodes_from, root, encode}
use Rattle.forest.proofs.ListLaws.{is, isnt, test, total-append}
use Rattle.forest.proofs.CountLaws.{small, length-pad, get_or-pad, node-length, nodes_length}

pub count-append : (n : ℕ) (xs ys : List ℕ) → count n (xs ++ ys) ≡ count n xs + count n ys
count-append n xs ys = total-append (λ x. once (eqb n x)) xs ys

-- a number that is not there
module _ (n : ℕ) where
  pub row_miss : (words : List Item → List ℕ) (R : Row) (d : List ℕ) → count n (nums R) ≡ 0 → in_row words n R d ≡ d
  row_miss words [] d c = refl
  row_miss words (m ∷ R) d c = elim (test (eqb n m.num)) [
    | is e ↦ absurd (let z = simp e at c in omega arith)
    | isnt e ↦ simp e (row_miss words R d (let z = simp e at c in omega arith))
  ]

  pub rows_miss : (Rs : List Row) (d : List ℕ) → count n (numbers Rs) ≡ 0 → in_rows n Rs d ≡ d
  rows_miss [] d c = refl
  rows_miss (R ∷ Rs) d c =
      let a = count-append n (nums R) (numbers Rs) in
      row_miss inner_words R (in_rows n Rs d) (omega arith) ∙ rows_miss Rs d (omega arith)

  pub tree_miss : (t : Tree) (d : List ℕ) → count n (numbers t) ≡ 0 → in_tree n t d ≡ d
  tree_miss [] d c = refl
  tree_miss (L ∷ Rs) d c =
      let a = count-append n (nums L) (numbers Rs) in
      row_miss leaf_words L (in_rows n Rs d) (omega arith) ∙ rows_miss Rs d (omega arith)

  pub trees_miss : (ts : List Tree) (d : List ℕ) → count n (used ts) ≡ 0 → in_trees n ts d ≡ d
  trees_miss [] d c = refl
  trees_miss (t ∷ ts) d c =
      let a = count-append n (numbers t) (used ts) in
      tree_miss t (in_trees n ts d) (omega arith) ∙ trees_miss ts d (omega arith)

  -- a tree that has n neither before nor after may change
  trees-set : (ts : List Tree) (t : ℕ) (x : Tree) (d : List ℕ) → count n (numbers (get_or ts t [])) ≡ 0 → count n (numbers x) ≡ 0 → in_trees n (set ts t x) d ≡ in_trees n ts d
  trees-set [] t x d a b = refl
  trees-set (y ∷ ts) zero x d a b = tree_miss x (in_trees n ts d) b ∙ sym (tree_miss y (in_trees n ts d) a)
  trees-set (y ∷ ts) (suc t) x d a b = ap (in_tree n y) (trees-set ts t x d a b)

-- a number that is there once
pub count_at : (R : Row) (j : ℕ) → j < length R → 1 ≤ count (get_or (nums R) j 0) (nums R)
count_at [] j h = absurd (omega arith)
count_at (m ∷ R) zero h = rw (eq-eqb m.num m.num refl) (omega arith)
count_at (m ∷ R) (suc j) h = omega (arith, count_at R j (omega arith))

row_hit : (words : List Item → List ℕ) (R : Row) (j : ℕ) (d : List ℕ) → j < length R → count (get_or (nums R) j 0) (nums R) ≤ 1 → in_row words (get_or (nums R) j 0) R d ≡ words (items_at R j)
row_hit words [] j d h c = absurd (omega arith)
row_hit words (m ∷ R) zero d h c = rw (eq-eqb m.num m.num refl)
row_hit words (m ∷ R) (suc j) d h c = elim (test (eqb (get_or (nums R) j 0) m.num)) [
  | is e ↦ absurd (let z = simp e at c in omega (arith, count_at R j (omega arith)))
  | isnt e ↦ simp e (row_hit words R j d (omega arith) (omega arith))
]

abbrev pub row_at : List Row → ℕ → Row
row_at Rs h = get_or Rs h []

pub count_row : (n : ℕ) (Rs : List Row) (h : ℕ) → count n (nums (row_at Rs h)) ≤ count n (numbers Rs)
count_row n [] h = omega arith
count_row n (R ∷ Rs) zero = omega (arith, count-append n (nums R) (numbers Rs))
count_row n (R ∷ Rs) (suc h) = omega (arith, count-append n (nums R) (numbers Rs), count_row n Rs h)

rows_hit : (Rs : List Row) (h j : ℕ) (d : List ℕ) → j < length (row_at Rs h) → count (get_or (nums (row_at Rs h)) j 0) (numbers Rs) ≤ 1 →
    in_rows (get_or (nums (row_at Rs h)) j 0) Rs d ≡ inner_words (items_at (row_at Rs h) j)
rows_hit [] h j d a c = absurd (omega arith)
rows_hit (R ∷ Rs) zero j d a c = row_hit inner_words R j (in_rows (get_or (nums R) j 0) Rs d) a (omega (arith, count-append (get_or (nums R) j 0) (nums R) (numbers Rs)))
rows_hit (R ∷ Rs) (suc h) j d a c =
    let n = get_or (nums (row_at Rs h)) j 0 in
    let b = count-append n (nums R) (numbers Rs) in
    let e = count_at (row_at Rs h) j a in
    let f = count_row n Rs h in
    row_miss n inner_words R (in_rows n Rs d) (omega arith) ∙ rows_hit Rs h j d a (omega arith)

pub count_tree : (n : ℕ) (us : List Tree) (t : ℕ) → count n (numbers (get_or us t [])) ≤ count n (used us)
count_tree n [] t = omega arith
count_tree n (u ∷ us) zero = omega (arith, count-append n (numbers u) (used us))
count_tree n (u ∷ us) (suc t) = omega (arith, count-append n (numbers u) (used us), count_tree n us t)

-- the words of a tree's nodes are found among all trees
trees_hit : (n : ℕ) (w : List ℕ) (ts : List Tree) (t : ℕ) (d : List ℕ) → ((e : List ℕ) → in_tree n (get_or ts t []) e ≡ w) → t < length ts →
    1 ≤ count n (numbers (get_or ts t [])) → count n (used ts) ≤ 1 → in_trees n ts d ≡ w
trees_hit n w [] t d f h a c = absurd (omega arith)
trees_hit n w (y ∷ ts) zero d f h a c = f (in_trees n ts d)
trees_hit n w (y ∷ ts) (suc t) d f h a c =
    let b = count-append n (numbers y) (used ts) in
    let e = count_tree n ts t in
    tree_miss n y (in_trees n ts d) (omega arith) ∙ trees_hit n w ts t d f (omega arith) a (omega arith)

tree_there : (ts : List Tree) (t : ℕ) (L : Row) (Rs : List Row) → get_or ts t [] ≡ L ∷ Rs → t < length ts
tree_there [] t L Rs e = absurd (let y : ◌≡◌ {A = ℕ} 0 1 = cc in omega arith)
tree_there (x ∷ ts) zero L Rs e = omega arith
tree_there (x ∷ ts) (suc t) L Rs e = omega (arith, tree_there ts t L Rs e)

module _ (m : ℕ) (p : Pool) (w : WellFormed m p) where
  pub used-once : (n : ℕ) → count n (used p.trees) ≤ 1
  used-once n = omega (arith, w.each_once n, small (leb 1 n && leb n p.count))

  -- the j-th leaf of tree t
  pub leaf_words_lem : (t : ℕ) (L : Row) (Rs : List Row) (j : ℕ) → tree_of p t ≡ L ∷ Rs → j < length L → node_words p.trees (get_or (nums L) j 0) ≡ leaf_words (items_at L j)
  leaf_words_lem t L Rs j e h =
      let n = get_or (nums L) j 0 in
      let a = count_at L j h in
      let b = count-append n (nums L) (numbers Rs) in
      let c : count n (numbers (tree_of p t)) ≡ count n (nums L ++ numbers Rs) = ap (λ (x : Tree). count n (numbers x)) e in
      let d = count_tree n p.trees t in
      let u = used-once n in
      trees_hit n (leaf_words (items_at L j)) p.trees t (pad 16 []) (λ o. rw e (row_hit leaf_words L j (in_rows n Rs o) h (omega arith))) (tree_there p.trees t L Rs e) (omega arith) u

  -- the j-th node of the h-th row above the leaves
  pub inner_words_lem : (t : ℕ) (L : Row) (Rs : List Row) (h j : ℕ) → tree_of p t ≡ L ∷ Rs → j < length (row_at Rs h) →
      node_words p.trees (get_or (nums (row_at Rs h)) j 0) ≡ inner_words (items_at (row_at Rs h) j)
  inner_words_lem t L Rs h j e k =
      let n = get_or (nums (row_at Rs h)) j 0 in
      let a = count_at (row_at Rs h) j k in
      let f = count_row n Rs h in
      let b = count-append n (nums L) (numbers Rs) in
      let c : count n (numbers (tree_of p t)) ≡ count n (nums L ++ numbers Rs) = ap (λ (x : Tree). count n (numbers x)) e in
      let d = count_tree n p.trees t in
      let u = used-once n in
      trees_hit n (inner_words (items_at (row_at Rs h) j)) p.trees t (pad 16 [])
      (λ o. rw e (row_miss n leaf_words L (in_rows n Rs o) (omega arith) ∙ rows_hit Rs h j o k (omega arith))) (tree_there p.trees t L Rs e) (omega arith) u

-- word i of the keys and of the links in a node's words
module _ (w : ℕ) (ks vs : List ℕ) (i : ℕ) where
  pub key_word : i < 7 → get_or (w ∷ (pad 7 ks ++ pad 8 vs)) (suc i) 0 ≡ get_or ks i 0
  key_word h = get_or-append (pad 7 ks) (pad 8 vs) 0 i (omega (arith, length-pad 7 ks)) ∙ get_or-pad 7 ks i h

  pub link_word : i < 8 → get_or (w ∷ (pad 7 ks ++ pad 8 vs)) (8 + i) 0 ≡ get_or vs i 0
  link_word h =
      let e : 8 + i ≡ suc (length (pad 7 ks) + i) = omega (arith, length-pad 7 ks) in
      rw e (get_or-append-add (pad 7 ks) (pad 8 vs) i 0 ∙ get_or-pad 8 vs i h)

-- a free node
pub free_words : (ts : List Tree) (n : ℕ) → count n (used ts) ≡ 0 → node_words ts n ≡ pad 16 []
free_words ts n c = trees_miss n ts (pad 16 []) c

-- the frame: a node that is in the changed tree neither before nor after keeps its words
pub other_words : (ts : List Tree) (t : ℕ) (x : Tree) (n : ℕ) → count n (numbers (get_or ts t [])) ≡ 0 → count n (numbers x) ≡ 0 → node_words (set ts t x) n ≡ node_words ts n
other_words ts t x n a b = trees-set n ts t x (pad 16 []) a b

-- the places of the parts
nodes_window : (ts : List Tree) (n c i : ℕ) (rest : List ℕ) → i < c → take 16 (drop (16 * i) (nodes_from (node_words ts) n c ++ rest)) ≡ node_words ts (n + i)
nodes_window ts n zero i rest h = absurd (omega arith)
nodes_window ts n (suc c) zero rest h =
    let z : n + 0 ≡ n = omega arith in
    rw (z, append_assoc) (take_at (node_words ts n) (nodes_from (node_words ts) (suc n) c ++ rest) 16 (node-length ts n))
nodes_window ts n (suc c) (suc i) rest h =
    let z : 16 * suc i ≡ length (node_words ts n) + 16 * i = omega (arith, node-length ts n) in
    let y : n + suc i ≡ suc n + i = omega arith in
    rw (z, y, append_assoc, drop-append-add) (nodes_window ts (suc n) c i rest (omega arith))

module _ (p : Pool) where
  -- the words behind T and the roots
  behind : (i : ℕ) → drop (suc (length p.trees) + i) (encode p) ≡ drop i (p.count ∷ (nodes_from (node_words p.trees) 1 p.count ++ (length p.free ∷ pad p.count (reverse p.free))))
  unfolding encode
  behind i =
      let z : suc (length p.trees) + i ≡ suc (length (map root p.trees) + i) = omega (arith, length-map p.trees root) in
      rw z (drop-append-add (map root p.trees) _ i)

  pub first_word : get_or (encode p) 0 0 ≡ length p.trees
  unfolding encode
  first_word = refl

  pub root_word : (t : ℕ) → t < length p.trees → get_or (encode p) (suc t) 0 ≡ root (tree_of p t)
  unfolding encode
  root_word t h =
      get_or-append (map root p.trees) _ 0 t (rw (length-map p.trees root) h) ∙ get_or-map root p.trees t []

  pub node_window : (i : ℕ) → i < p.count → take 16 (drop (length p.trees + 2 + 16 * i) (encode p)) ≡ node_words p.trees (suc i)
  node_window i h =
      let z : length p.trees + 2 + 16 * i ≡ suc (length p.trees) + suc (16 * i) = omega arith in
      let y : 1 + i ≡ suc i = omega arith in
      rw (z, behind (suc (16 * i))) (nodes_window p.trees 1 p.count i _ h ∙ ap (node_words p.trees) y)

  pub free_part : drop (length p.trees + 2 + 16 * p.count) (encode p) ≡ length p.free ∷ pad p.count (reverse p.free)
  free_part =
      let z : length p.trees + 2 + 16 * p.count ≡ suc (length p.trees) + suc (16 * p.count) = omega arith in
      rw (z, behind (suc (16 * p.count))) (drop_at (nodes_from (node_words p.trees) 1 p.count) _ (16 * p.count) (nodes_length (node_words p.trees) 1 p.count (node-length p.trees)))

  pub count_word : get_or (encode p) (suc (length p.trees)) 0 ≡ p.count
  unfolding encode
  count_word =
      let z : length p.trees ≡ length (map root p.trees) + 0 = omega (arith, length-map p.trees root) in
      ap (λ (i : ℕ). get_or (encode p) (suc i) 0) z ∙ get_or-append-add (map root p.trees) _ 0 0

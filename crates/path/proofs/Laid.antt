-- PROOFS. A tree in the words: where each node lies, its words, its children
use mathlib.Core.Path.{◌≡◌, ap, ◌∙◌}
use mathlib.Core.List.{List, [], ◌∷◌, ◌++◌}
use Prim.Native.Nat.{ℕ, zero, suc, ◌+◌, ◌-◌, ◌*◌, ◌≤◌, ◌<◌}
use native.Mathlib.Omega.{arith}
use lib.ListN.{length, take, drop, get_or}
use Rattle.forest.specs.Sizes.{leaf_least, leaf_cap}
use Rattle.forest.specs.Lists.{sum, parent, offset, count}
use Rattle.forest.specs.Pairs.{Item, keys, Rising}
use Rattle.forest.specs.Rows.{Row, Tree, sizes, nums, joined, line, items_at, Fill, Tower, Good}
use Rattle.forest.specs.Trees.{numbers}
use Rattle.forest.specs.Pools.{Pool, WellFormed, used, tree_of, encode, leaf_words, inner_words, node_words, root_above}
use Rattle.forest.proofs.ListLaws.{offset_lt, parent_start}
use Rattle.forest.proofs.RowLaws.{length-items, fill_at, sum-sizes, length-line, parent_there}
use Rattle.forest.proofs.TreeLaws.{NoneEmpty, none_empty, none_at}
use Rattle.forest.proofs.UniqueLaws
use Rattle.forest.proofs.PoolLaws.{good_at}
use Rattle.forest.proofs.CountLaws.{encode-length}
use Rattle.forest.proofs.WordLaws.{count-append, count_at, count_row, count_tree, row_at, leaf_words_lem, inner_words_lem, node_window}
use Rattle.forest.proofs.Descent.{line_rising}
use Rattle.forest.proofs.Six.{six_levels}
use Rattle.path.specs.Ways.{base, block_at, block, Lies, Deep}
use Rattle.path.proofs.NodeWords.{links, link_word, link_at, links_line, group_end, inner_keys, leaf_keys_lem}
use Rattle.path.proofs.Searching.{stored_rise, items_rise}

-- the nodes of a row lie in the words, each with the words of its items
pub record RowIn (words : List Item → List ℕ) (ws : List ℕ) (t : ℕ) (R : Row) : Type 0 where
  pub range : (j : ℕ) → j < length R → (1 ≤ get_or (nums R) j 0) × (get_or (nums R) j 0 ≤ 512) × (base t (get_or (nums R) j 0) + 16 ≤ length ws)
  pub are : (j : ℕ) → j < length R → block ws t (get_or (nums R) j 0) ≡ words (items_at R j)

abbrev pub RowsIn : List ℕ → ℕ → List Row → Type 0
RowsIn ws t [] = Unit {0}
RowsIn ws t (S ∷ Ss) = RowIn inner_words ws t S × RowsIn ws t Ss

-- the tree of leaves L and rows Rs above them lies in the words
pub record Laid (ws : List ℕ) (t : ℕ) (L : Row) (Rs : List Row) : Type 0 where
  pub leaf : RowIn leaf_words ws t L
  pub inner : RowsIn ws t Rs
  pub good : Good leaf_least leaf_cap (L ∷ Rs)
  pub few : length Rs ≤ 5
  pub trees : t ≤ 32

module _ (p : Pool) (w : WellFormed leaf_least p) where
  -- a number in use
  used_range : (n : ℕ) → 1 ≤ count n (used p.trees) → (1 ≤ n) × (n ≤ p.count)
  used_range n h = UniqueLaws.inside leaf_least p w n h

  lies : (n : ℕ) → 1 ≤ count n (used p.trees) → (1 ≤ n) × (n ≤ 512) × (base (length p.trees) n + 16 ≤ length (encode p))
  lies n h =
      let r = used_range n h in
      (r.0, omega (arith, w.few_nodes), omega (arith, encode-length p))

  in_block : (n : ℕ) → 1 ≤ count n (used p.trees) → block (encode p) (length p.trees) n ≡ node_words p.trees n
  unfolding block_at
  in_block n h =
      let r = used_range n h in
      let z : base (length p.trees) n ≡ length p.trees + 2 + 16 * (n - 1) = omega arith in
      let y : suc (n - 1) ≡ n = omega arith in
      ap (λ (b : ℕ). take 16 (drop b (encode p))) z ∙ node_window p (n - 1) (omega arith) ∙ ap (node_words p.trees) y

  module _ (tree : ℕ) (L : Row) (Rs : List Row) (e : tree_of p tree ≡ L ∷ Rs) where
    tree-count : (n : ℕ) → count n (nums L) + count n (numbers Rs) ≤ count n (used p.trees)
    tree-count n =
        let c : count n (numbers (tree_of p tree)) ≡ count n (nums L ++ numbers Rs) = ap (λ (x : Tree). count n (numbers x)) e in
        omega (arith, count-append n (nums L) (numbers Rs), count_tree n p.trees tree)

    leaf_in : RowIn leaf_words (encode p) (length p.trees) L
    leaf_in =
        let c : (j : ℕ) → j < length L → 1 ≤ count (get_or (nums L) j 0) (used p.trees) =
        λ j h. omega (arith, count_at L j h, tree-count (get_or (nums L) j 0)) in
        record {
          range = λ j h. lies (get_or (nums L) j 0) (c j h);
          are = λ j h. in_block (get_or (nums L) j 0) (c j h) ∙ leaf_words_lem leaf_least p w tree L Rs j e h;
        }

    inner-in : (h : ℕ) → RowIn inner_words (encode p) (length p.trees) (row_at Rs h)
    inner-in h =
        let n : ℕ → ℕ = λ j. get_or (nums (row_at Rs h)) j 0 in
        let c : (j : ℕ) → j < length (row_at Rs h) → 1 ≤ count (get_or (nums (row_at Rs h)) j 0) (used p.trees) =
        λ j k. omega (arith, count_at (row_at Rs h) j k, count_row (get_or (nums (row_at Rs h)) j 0) Rs h, tree-count (get_or (nums (row_at Rs h)) j 0)) in
        record {
          range = λ j k. lies (get_or (nums (row_at Rs h)) j 0) (c j k);
          are = λ j k. in_block (get_or (nums (row_at Rs h)) j 0) (c j k) ∙ inner_words_lem leaf_least p w tree L Rs h j e k;
        }

    rows_in : (Ss : List Row) → ((h : ℕ) → RowIn inner_words (encode p) (length p.trees) (row_at Ss h)) → RowsIn (encode p) (length p.trees) Ss
    rows_in [] f = tt
    rows_in (S ∷ Ss) f = (f 0, rows_in Ss (λ h. f (suc h)))

    -- a tree of a well formed pool lies in its words
    pub laid : Laid (encode p) (length p.trees) L Rs
    laid = record {
      leaf = leaf_in;
      inner = rows_in Rs inner-in;
      good = rw e at (good_at leaf_least p.trees tree w.good);
      few = omega (arith, ap length e, six_levels leaf_least p tree w);
      trees = w.few_trees;
    }

-- Sizes

-- the count of a node's items, with minimum lo and capacity hi
pub size_bounds : (lo hi : ℕ) (R : Row) (j : ℕ) → 1 ≤ lo → Fill lo hi (sizes R) → j < length R → (1 ≤ length (items_at R j)) × (length (items_at R j) ≤ hi)
size_bounds lo hi R j a f h =
    (rw length-items (none_at R j (none_empty lo hi R a f) h), rw length-items (fill_at lo hi (sizes R) j f))

-- One level

-- row S has the parents of the nodes of row R
pub record ParentRow (R S : Row) : Type 0 where
  pub line_is : joined S ≡ line R
  pub filled : Fill 4 8 (sizes S)

pub parent_row : (R S : Row) (Ss : List Row) → Tower R (S ∷ Ss) → ParentRow R S
parent_row R S Ss w = record { line_is = w.1; filled = w.2 }

module _ (R S : Row) (s : ParentRow R S) where
  pub children : sum (sizes S) ≡ length R
  children = sum-sizes S ∙ ap length s.line_is ∙ length-line R

  -- the child at place o of node q
  pub child_at : (q o : ℕ) → q < length S → o < get_or (sizes S) q 0 → get_or (inner_words (items_at S q)) (8 + o) 0 ≡ get_or (nums R) (sum (take q (sizes S)) + o) 0
  child_at q o h k =
      let b = fill_at 4 8 (sizes S) q s.filled in
      link_word (16 + (length (items_at S q) - 1)) (keys (drop 1 (items_at S q))) (links (items_at S q)) o (omega arith) ∙ link_at S q o h k ∙ ap (λ (xs : List Item). get_or (links xs) (sum (take q (sizes S)) + o) 0) s.line_is ∙
      ap (λ (xs : List ℕ). get_or xs (sum (take q (sizes S)) + o) 0) (links_line R)

  pub parent_in : (i : ℕ) → i < length R → parent (sizes S) i < length S
  parent_in i h = parent_there S i (omega (arith, children))

  pub offset_in : (i : ℕ) → i < length R → offset (sizes S) i < get_or (sizes S) (parent (sizes S) i) 0
  offset_in i h = offset_lt (sizes S) i (omega (arith, children))

  -- node i below is the child that its parent names
  pub child_of : (i : ℕ) → i < length R → get_or (inner_words (items_at S (parent (sizes S) i))) (8 + offset (sizes S) i) 0 ≡ get_or (nums R) i 0
  child_of i h =
      child_at (parent (sizes S) i) (offset (sizes S) i) (parent_in i h) (offset_in i h) ∙
      ap (λ (x : ℕ). get_or (nums R) x 0) (parent_start (sizes S) i (omega (arith, children)))

-- position o of node q is one of the row below
pub inside : (R S : Row) → ParentRow R S → (q i : ℕ) → q < length S → i < get_or (sizes S) q 0 → sum (take q (sizes S)) + i < length R
inside R S s q i h k = omega (arith, children R S s, group_end (sizes S) q)

-- keys rise in a row, and no node is empty
pub record Rises (R : Row) : Type 0 where
  pub some : NoneEmpty R
  pub keys : Rising (joined R)

pub leaves_rise : (L : Row) (Rs : List Row) → Good leaf_least leaf_cap (L ∷ Rs) → Rises L
leaves_rise L Rs g = record { some = none_empty leaf_least leaf_cap L (omega arith) g.1; keys = g.0 }

pub rises_up : (R S : Row) → ParentRow R S → Rises R → Rises S
rises_up R S s x = record { some = none_empty 4 8 S (omega arith) s.filled; keys = rw s.line_is (line_rising R x.some x.keys) }

-- Every way down stays in the words

module _ (ws : List ℕ) (t : ℕ) where
  abbrev pub AllDeep : Row → Type 0
  AllDeep R = (f j : ℕ) → j < length R → Deep f ws t (get_or (nums R) j 0)

  pub leaf_first : (L : Row) → RowIn leaf_words ws t L → (j : ℕ) → j < length L → get_or (block ws t (get_or (nums L) j 0)) 0 0 ≡ 32 + length (items_at L j)
  leaf_first L r j h = rw (r.are j h)

  pub inner_first : (S : Row) → RowIn inner_words ws t S → (q : ℕ) → q < length S → get_or (block ws t (get_or (nums S) q 0)) 0 0 ≡ 16 + (length (items_at S q) - 1)
  inner_first S r q h = rw (r.are q h)

  pub leaf_deep : (L : Row) → RowIn leaf_words ws t L → Fill leaf_least leaf_cap (sizes L) → Rises L → AllDeep L
  unfolding Deep
  leaf_deep L r g x zero j h = tt
  leaf_deep L r g x (suc f) j h =
      let w = leaf_first L r j h in
      let b = size_bounds leaf_least leaf_cap L j (omega arith) g h in
      let a = r.range j h in (
        record {
          some = a.0;
          few = a.1;
          long = a.2;
          leaf = λ y. (omega arith, omega arith);
          inner = λ y. absurd (omega arith);
          leaf_rises = λ y. rw (r.are j h, leaf_keys_lem (items_at L j) b.1) (items_rise L j x.keys);
          inner_rises = λ y. absurd (omega arith);
        },
        λ i y z. absurd (omega arith),
      )

  pub inner_deep : (R S : Row) → ParentRow R S → RowIn inner_words ws t S → Rises S → AllDeep R → AllDeep S
  unfolding Deep
  inner_deep R S s r v d zero q h = tt
  inner_deep R S s r v d (suc f) q h =
      let w = inner_first S r q h in
      let b = size_bounds 4 8 S q (omega arith) s.filled h in
      let a = r.range q h in (
        record {
          some = a.0;
          few = a.1;
          long = a.2;
          leaf = λ x. absurd (omega arith);
          inner = λ x. (omega arith, omega arith);
          leaf_rises = λ x. absurd (omega arith);
          inner_rises = λ x. rw (r.are q h, inner_keys (items_at S q) b.0 b.1) (stored_rise (items_at S q) (items_rise S q v.keys));
        },
        λ i x y.
            let l = length-items S q in
            let k : i < get_or (sizes S) q 0 = omega arith in
            let m : sum (take q (sizes S)) + i < length R = inside R S s q i h k in
            let e : get_or (block ws t (get_or (nums S) q 0)) (8 + i) 0 ≡ get_or (nums R) (sum (take q (sizes S)) + i) 0 = rw (r.are q h) (child_at R S s q i h k) in
            rw e (d f (sum (take q (sizes S)) + i) m),
      )

  -- what Deep says of its node, and of each child
  pub deep_lies : (f n : ℕ) → 1 ≤ f → Deep f ws t n → Lies ws t n
  unfolding Deep
  deep_lies zero n h d = absurd (omega arith)
  deep_lies (suc f) n h d = d.0

  pub deep_child : (f n i : ℕ) → 1 ≤ f → Deep f ws t n → get_or (block ws t n) 0 0 < 32 → i ≤ get_or (block ws t n) 0 0 - 16 →
      Deep (f - 1) ws t (get_or (block ws t n) (8 + i) 0)
  unfolding Deep
  deep_child zero n i h d a b = absurd (omega arith)
  deep_child (suc f) n i h d a b = let z : suc f - 1 ≡ f = omega arith in rw z (d.1 i a b)

  pub root_deep : (R : Row) (Rs : List Row) → Tower R Rs → RowsIn ws t Rs → Rises R → AllDeep R → (f : ℕ) → Deep f ws t (root_above R Rs)
  root_deep R [] w r x d f = d f 0 (omega arith)
  root_deep R (S ∷ Ss) w r x d f =
      let v = rises_up R S (parent_row R S Ss w) x in
      root_deep S Ss w.3 r.1 v (inner_deep R S (parent_row R S Ss w) r.0 v d) f

  pub tree_deep : (L : Row) (Rs : List Row) → Laid ws t L Rs → (f : ℕ) → Deep f ws t (root_above L Rs)
  tree_deep L Rs l f = root_deep L Rs l.good.2 l.inner (leaves_rise L Rs l.good) (leaf_deep L l.leaf l.good.1 (leaves_rise L Rs l.good)) f

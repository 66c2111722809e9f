-- DEFINITIONS AND PROOFS. Document 01's sentences on a sound pool, as facts about a well formed one
use mathlib.Core.Path.{◌≡◌, refl, sym, ap, ◌∙◌}
use mathlib.Core.List.{List, [], ◌∷◌, ◌++◌, append_assoc, map}
use mathlib.Core.Bool.{true, ◌&&◌}
use mathlib.Core.Logic.{◌≢◌}
use Prim.Native.Nat.{ℕ, zero, suc, ◌+◌, ◌≤◌, ◌<◌}
use native.Mathlib.Omega.{arith}
use lib.ListN.{length, take, drop, get_or, length-map, length-append, length-drop, get_or-map}
use lib.Seq.{drop-append_seam}
use lib.Dec.{leb}
use borrow.Author.Tests.{eq-eqb, le-leb, lt-leb}
use Rattle.forest.specs.Lists.{sum, count}
use Rattle.forest.specs.Pairs.{Item, Above, Rising, has}
use Rattle.forest.specs.Rows.{Row, Tree, size, sizes, nums, front, fronts, joined, line, Fill, Tower, Good}
use Rattle.forest.specs.Trees.{pairs, numbers}
use Rattle.forest.specs.Pools.{Pool, WellFormed, used, tree_of}
use Rattle.forest.proofs.ListLaws.{cons_eq, map-append, map-drop}
use Rattle.forest.proofs.PairLaws.{rising_left, rising_right}
use Rattle.forest.proofs.RowLaws.{sum-sizes, length-line}
use Rattle.forest.proofs.TreeLaws.{NoneEmpty, none_empty}
use Rattle.forest.proofs.RootRule.{Root, tower_layers}
use Rattle.forest.proofs.PoolLaws.{good_at}
use Rattle.forest.proofs.CountLaws.{small, in_range, nodes_all}
use Rattle.forest.proofs.WordLaws.{row_at}
use Rattle.forest.proofs.CallLaws.{two_trees}

-- "In a tree keys rise strictly"
pub keys_rise : (m : ℕ) (p : Pool) (t : ℕ) → WellFormed m p → Rising (pairs (tree_of p t))
keys_rise m p t h = go (tree_of p t) (good_at m p.trees t h.good)
  where
    go : (x : Tree) → Good m 7 x → Rising (pairs x)
    go [] g = tt
    go (L ∷ Rs) g = g.0

-- "each inner key equals the smallest key below the child to its right"

-- k is the smallest key of xs: one of them, and none is smaller
abbrev pub AtLeast : ℕ → List Item → Type 0
AtLeast k [] = Unit {0}
AtLeast k (x ∷ xs) = (k ≤ x.0) × AtLeast k xs

pub record Smallest (k : ℕ) (xs : List Item) : Type 0 where
  pub there : has k xs ≡ true
  pub least : AtLeast k xs

-- all lists in one
abbrev pub flat : List (List Item) → List Item
flat [] = []
flat (x ∷ xs) = x ++ flat xs

-- the pairs below each node of a row: of a leaf its own; of an inner node, as many children as it has, those below each
abbrev pub gather : List ℕ → List (List Item) → List (List Item)
gather [] xs = []
gather (g ∷ gs) xs = flat (take g xs) ∷ gather gs (drop g xs)

-- what stands above the row R, below whose nodes are the pairs xs: its i-th item has the number of the i-th node, and the smallest key below it
pub record Guides (R S : Row) (xs : List (List Item)) : Type 0 where
  pub as_many : length (joined S) ≡ length R
  pub child : (i : ℕ) → i < length R → (get_or (joined S) i (0, 0)).1 ≡ get_or (nums R) i 0
  pub smallest : (i : ℕ) → i < length R → Smallest (get_or (joined S) i (0, 0)).0 (get_or xs i [])

-- and so at each level
abbrev pub AllGuide : Row → List (List Item) → List Row → Type 0
AllGuide R xs [] = Unit {0}
AllGuide R xs (S ∷ Ss) = Guides R S xs × AllGuide S (gather (sizes S) xs) Ss

-- no list is empty
abbrev Some : List (List Item) → Type 0
Some [] = Unit {0}
Some (x ∷ xs) = (1 ≤ length x) × Some xs

-- lists with the front keys of R's nodes, keys rising over all
record Heads (R : Row) (xs : List (List Item)) : Type 0 where
  same : map front xs ≡ fronts R
  some : Some xs
  rises : Rising (flat xs)

above_least : (k : ℕ) (xs : List Item) → Above k xs → AtLeast k xs
above_least k [] a = tt
above_least k (x ∷ xs) a = (omega arith, above_least k xs a.1)

front_smallest : (xs : List Item) → 1 ≤ length xs → Rising xs → Smallest (front xs) xs
front_smallest [] h r = absurd (omega arith)
front_smallest (x ∷ xs) h r = record { there = simp (eq-eqb x.0 x.0 refl); least = (omega arith, above_least x.0 xs r.0) }

some_at : (xs : List (List Item)) (i : ℕ) → i < length xs → Some xs → 1 ≤ length (get_or xs i [])
some_at [] i h s = absurd (omega arith)
some_at (x ∷ xs) zero h s = s.0
some_at (x ∷ xs) (suc i) h s = some_at xs i (omega arith) s.1

rising_at : (xs : List (List Item)) (i : ℕ) → Rising (flat xs) → Rising (get_or xs i [])
rising_at [] i r = tt
rising_at (x ∷ xs) zero r = rising_left x (flat xs) r
rising_at (x ∷ xs) (suc i) r = rising_at xs i (rising_right x (flat xs) r)

line_key : (R : Row) (i : ℕ) → (get_or (line R) i (0, 0)).0 ≡ get_or (fronts R) i 0
line_key [] i = refl
line_key (n ∷ R) zero = refl
line_key (n ∷ R) (suc i) = line_key R i

line_num : (R : Row) (i : ℕ) → (get_or (line R) i (0, 0)).1 ≡ get_or (nums R) i 0
line_num [] i = refl
line_num (n ∷ R) zero = refl
line_num (n ∷ R) (suc i) = line_num R i

heads_length : (R : Row) (xs : List (List Item)) → Heads R xs → length xs ≡ length R
heads_length R xs h = sym (length-map xs front) ∙ ap length h.same ∙ length-map R (λ n. front n.items)

guides : (R S : Row) (xs : List (List Item)) → joined S ≡ line R → Heads R xs → Guides R S xs
guides R S xs e h = record {
  as_many = ap length e ∙ length-line R;
  child = λ i k. rw e (line_num R i);
  smallest = λ i k.
      let z : (get_or (joined S) i (0, 0)).0 ≡ front (get_or xs i []) =
      ap (λ (us : List Item). (get_or us i (0, 0)).0) e ∙ line_key R i ∙ ap (λ (us : List ℕ). get_or us i 0) (sym h.same) ∙ get_or-map front xs i [] in
      rw z (front_smallest (get_or xs i []) (some_at xs i (omega (arith, heads_length R xs h)) h.some) (rising_at xs i h.rises));
}

-- the heads of the row above
flat_split : (g : ℕ) (xs : List (List Item)) → flat (take g xs) ++ flat (drop g xs) ≡ flat xs
flat_split zero xs = refl
flat_split (suc g) [] = refl
flat_split (suc g) (x ∷ xs) = append_assoc x (flat (take g xs)) (flat (drop g xs)) ∙ ap (x ++◌) (flat_split g xs)

flat_gather : (gs : List ℕ) (xs : List (List Item)) → sum gs ≡ length xs → flat (gather gs xs) ≡ flat xs
flat_gather [] [] e = refl
flat_gather [] (x ∷ xs) e = absurd (omega arith)
flat_gather (g ∷ gs) xs e = ap (flat (take g xs) ++◌) (flat_gather gs (drop g xs) (rw length-drop (omega arith))) ∙ flat_split g xs

some_drop : (g : ℕ) (xs : List (List Item)) → Some xs → Some (drop g xs)
some_drop zero xs s = s
some_drop (suc g) [] s = tt
some_drop (suc g) (x ∷ xs) s = some_drop g xs s.1

flat_front : (g : ℕ) (xs : List (List Item)) → 1 ≤ g → 1 ≤ length xs → Some xs → (1 ≤ length (flat (take g xs))) × (front (flat (take g xs)) ≡ get_or (map front xs) 0 0)
flat_front zero xs h k s = absurd (omega arith)
flat_front (suc g) [] h k s = absurd (omega arith)
flat_front (suc g) (x ∷ xs) h k s = (omega (arith, length-append x (flat (take g xs)), s.0), go x s.0)
  where
    go : (x : List Item) → 1 ≤ length x → front (x ++ flat (take g xs)) ≡ front x
    go [] h = absurd (omega arith)
    go (y ∷ ys) h = refl

gather_heads : (S : Row) (xs : List (List Item)) → NoneEmpty S → Some xs → sum (sizes S) ≡ length xs → map (λ (x : Item). x.0) (joined S) ≡ map front xs →
    (map front (gather (sizes S) xs) ≡ fronts S) × Some (gather (sizes S) xs)
gather_heads [] xs n s e k = (refl, tt)
gather_heads (m ∷ S) xs n s e k =
    let f = flat_front (size m) xs n.0 (omega (arith, n.0)) s in
    let split = map-append (λ (x : Item). x.0) m.items (joined S) in
    let lm : length (map (λ (x : Item). x.0) m.items) ≡ size m = length-map m.items (λ (x : Item). x.0) in
    let rest : map (λ (x : Item). x.0) (joined S) ≡ map front (drop (size m) xs) =
    sym (drop-append_seam (map (λ (x : Item). x.0) m.items) (map (λ (x : Item). x.0) (joined S))) ∙ ap (λ (i : ℕ). drop i (map (λ (x : Item). x.0) m.items ++ map (λ (x : Item). x.0) (joined S))) lm ∙
    ap (drop (size m)) (sym split ∙ k) ∙ sym (map-drop front (size m) xs) in
    let here : front (flat (take (size m) xs)) ≡ front m.items = f.1 ∙ ap (λ (us : List ℕ). get_or us 0 0) (sym k) ∙ first m.items n.0 in
    let r = gather_heads S (drop (size m) xs) n.1 (some_drop (size m) xs s) (rw length-drop (omega arith)) rest in
    (cons_eq here r.0, (f.0, r.1))
  where
    first : (us : List Item) → 1 ≤ length us → get_or (map (λ (x : Item). x.0) (us ++ joined S)) 0 0 ≡ front us
    first [] h = absurd (omega arith)
    first (u ∷ us) h = refl

keys-line : (R : Row) → map (λ (x : Item). x.0) (line R) ≡ fronts R
keys-line [] = refl
keys-line (n ∷ R) = ap (front n.items ∷◌) (keys-line R)

heads_up : (R S : Row) (xs : List (List Item)) → joined S ≡ line R → NoneEmpty S → Heads R xs → Heads S (gather (sizes S) xs)
heads_up R S xs e n h =
    let z : sum (sizes S) ≡ length xs = sum-sizes S ∙ ap length e ∙ length-line R ∙ sym (heads_length R xs h) in
    let r = gather_heads S xs n h.some z (ap (map (λ (x : Item). x.0)) e ∙ keys-line R ∙ sym h.same) in
    record { same = r.0; some = r.1; rises = rw (flat_gather (sizes S) xs z) h.rises }

all_guide : (R : Row) (Rs : List Row) (xs : List (List Item)) → Tower R Rs → Heads R xs → AllGuide R xs Rs
all_guide R [] xs w h = tt
all_guide R (S ∷ Ss) xs w h =
    (guides R S xs w.1 h, all_guide S Ss (gather (sizes S) xs) w.3 (heads_up R S xs w.1 (none_empty 4 8 S (omega arith) w.2) h))

abbrev pub leaf_lists : Row → List (List Item)
leaf_lists L = map (λ n. n.items) L

leaf_heads : (L : Row) → NoneEmpty L → (map front (leaf_lists L) ≡ fronts L) × Some (leaf_lists L) × (flat (leaf_lists L) ≡ joined L)
leaf_heads [] n = (refl, tt, refl)
leaf_heads (l ∷ L) n = let r = leaf_heads L n.1 in (ap (front l.items ∷◌) r.0, (n.0, r.1), ap (l.items ++◌) r.2)

pub separators : (m : ℕ) (L : Row) (Rs : List Row) → 1 ≤ m → Good m 7 (L ∷ Rs) → AllGuide L (leaf_lists L) Rs
separators m L Rs lo g =
    let r = leaf_heads L (none_empty m 7 L lo g.1) in
    all_guide L Rs (leaf_lists L) g.2 (record { same = r.0; some = r.1; rises = rw r.2 g.0 })

-- "Every node is in exactly one tree once, or in the stack once"
pub one_place : (m : ℕ) (p : Pool) (n : ℕ) → WellFormed m p → 1 ≤ n → n ≤ p.count → count n (used p.trees) + count n p.free ≡ 1
one_place m p n h a b = let e = h.each_once n in rw (le-leb 1 n a, le-leb n p.count b) at e

-- "F at most N"
pub stack_fits : (m : ℕ) (p : Pool) → WellFormed m p → length p.free ≤ p.count
stack_fits m p h = omega (arith, nodes_all m p h)

-- "roots, children and stack numbers naming nodes": what stands in a tree or in the stack is a number from 1 to N
pub names_node : (m : ℕ) (p : Pool) (n : ℕ) → WellFormed m p → 1 ≤ count n (used p.trees) + count n p.free → (1 ≤ n) × (n ≤ p.count)
names_node m p n h k = in_range n p.count (omega (arith, h.each_once n))

-- no other number is a node
pub no_other : (m : ℕ) (p : Pool) (n : ℕ) → WellFormed m p → p.count < n → count n (used p.trees) + count n p.free ≡ 0
no_other m p n h b = let e = h.each_once n in rw (le-leb 1 n (omega arith), lt-leb n p.count b) at e

pub one_tree : (m : ℕ) (p : Pool) (n s t : ℕ) → WellFormed m p → s ≢ t → 1 ≤ count n (numbers (tree_of p s)) →
    (count n (numbers (tree_of p s)) ≡ 1) × (count n (numbers (tree_of p t)) ≡ 0) × (count n p.free ≡ 0)
one_tree m p n s t h d k =
    let a = two_trees n p.trees s t d in
    let e = h.each_once n in
    let o = small (leb 1 n && leb n p.count) in
    (omega (arith, e, o), omega (arith, e, o), omega (arith, e, o))

-- "A node that is not the last of its level is half full", and the last is not empty

pub fill_inside : (lo hi : ℕ) (xs : List ℕ) (i : ℕ) → Fill lo hi xs → suc i < length xs → lo ≤ get_or xs i 0
fill_inside lo hi [] i f h = absurd (omega arith)
fill_inside lo hi (x ∷ []) i f h = absurd (omega arith)
fill_inside lo hi (x ∷ y ∷ xs) zero f h = f.0
fill_inside lo hi (x ∷ y ∷ xs) (suc i) f h = fill_inside lo hi (y ∷ xs) i f.2 (omega arith)

fill_last : (lo hi : ℕ) (xs : List ℕ) (i : ℕ) → 1 ≤ lo → Fill lo hi xs → i < length xs → (1 ≤ get_or xs i 0) × (get_or xs i 0 ≤ hi)
fill_last lo hi [] i k f h = absurd (omega arith)
fill_last lo hi (x ∷ []) zero k f h = (f.0, f.1)
fill_last lo hi (x ∷ []) (suc i) k f h = absurd (omega arith)
fill_last lo hi (x ∷ y ∷ xs) zero k f h = (omega (arith, f.0), f.1)
fill_last lo hi (x ∷ y ∷ xs) (suc i) k f h = fill_last lo hi (y ∷ xs) i k f.2 (omega arith)

-- the fill of the i-th node of a row: minimum lo unless it is the last, capacity hi
pub record Filled (lo hi : ℕ) (R : Row) : Type 0 where
  pub inside : (i : ℕ) → suc i < length R → lo ≤ get_or (sizes R) i 0
  pub some : (i : ℕ) → i < length R → 1 ≤ get_or (sizes R) i 0
  pub most : (i : ℕ) → i < length R → get_or (sizes R) i 0 ≤ hi

filled : (lo hi : ℕ) (R : Row) → 1 ≤ lo → Fill lo hi (sizes R) → Filled lo hi R
filled lo hi R k f =
    let z = length-map R size in
    record {
      inside = λ i h. fill_inside lo hi (sizes R) i f (omega arith);
      some = λ i h. (fill_last lo hi (sizes R) i k f (omega arith)).0;
      most = λ i h. (fill_last lo hi (sizes R) i k f (omega arith)).1;
    }

pub leaf_fill : (m : ℕ) (L : Row) (Rs : List Row) → 1 ≤ m → Good m 7 (L ∷ Rs) → Filled m 7 L
leaf_fill m L Rs lo g = filled m 7 L lo g.1

pub inner_fill : (m : ℕ) (L : Row) (Rs : List Row) (h : ℕ) → Good m 7 (L ∷ Rs) → Filled 4 8 (row_at Rs h)
inner_fill m L Rs h g = go L Rs h g.2
  where
    go : (R : Row) (Ss : List Row) (h : ℕ) → Tower R Ss → Filled 4 8 (row_at Ss h)
    go R [] h w = filled 4 8 [] (omega arith) tt
    go R (S ∷ Ss) zero w = filled 4 8 S (omega arith) w.2
    go R (S ∷ Ss) (suc h) w = go S Ss h w.3

-- "A root that is inner has at least 2 children"
pub root_rule : (m : ℕ) (L : Row) (Rs : List Row) → Good m 7 (L ∷ Rs) → Root Rs
root_rule m L Rs g = (tower_layers L Rs g.2).1

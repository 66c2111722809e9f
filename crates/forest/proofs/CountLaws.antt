-- PROOFS. A fresh pool is well formed; in a well formed pool the nodes in use and the free ones are N together; the length of the words
use mathlib.Core.Path.{◌≡◌, refl, sym, ap, ◌∙◌}
use mathlib.Core.List.{List, [], ◌∷◌, ◌++◌}
use mathlib.Core.Bool.{Bool, true, false, ◌&&◌}
use Prim.Native.Nat.{ℕ, zero, suc, ◌+◌, ◌*◌, ◌≤◌, ◌<◌}
use native.Mathlib.Omega.{arith}
use lib.ListN.{length, take, get_or, set, replicate, length-append, length-map, length-replicate}
use lib.Seq.{take-nil}
use lib.Dec.{ltb, eqb, leb}
use borrow.Author.Tests.{lt-ltb, le-ltb, eqb-true, eqb-false, eq-eqb, ne_eqb, le-leb, lt-leb, leb-true}
use Rattle.forest.specs.Sizes.{most_trees, most_nodes}
use Rattle.forest.specs.Lists.{once, count, pad}
use Rattle.forest.specs.Pairs.{Item}
use Rattle.forest.specs.Rows.{Row, Tree}
use Rattle.forest.specs.Pools.{Pool, used, AllGood, WellFormed, Sound, fresh, fresh_stack, formatted, leaf_words, inner_words, in_row, in_rows, in_tree, in_trees, node_words, nodes_from, encode}
use Rattle.forest.proofs.ListLaws.{is, isnt, test, tests, four, total-append}

-- a test as a number is at most 1
pub small : (b : Bool) → once b ≤ 1
small true = omega arith
small false = omega arith

-- a number that counts among those from 1 to N is one of them
pub in_range : (n N : ℕ) → 1 ≤ once (leb 1 n && leb n N) → (1 ≤ n) × (n ≤ N)
in_range n N h = elim (test (leb 1 n)) [
  | is a ↦ elim (test (leb n N)) [ is b ↦ (omega tests, omega tests) | isnt b ↦ absurd (let z = simp (a, b) at h in omega arith) ]
  | isnt a ↦ absurd (let z = simp a at h in omega arith)
]

-- a number from a on, c of them
abbrev within : ℕ → ℕ → ℕ → Bool
within a c n = leb a n && ltb n (a + c)

within_yes : (a c n : ℕ) → a ≤ n → n < a + c → within a c n ≡ true
within_yes a c n h k = simp (le-leb a n h, lt-ltb n (a + c) k)

within_low : (a c n : ℕ) → n < a → within a c n ≡ false
within_low a c n h = simp (lt-leb a n h)

within_high : (a c n : ℕ) → a + c ≤ n → within a c n ≡ false
within_high a c n h = elim (test (leb a n)) [ is e ↦ simp (e, le-ltb n (a + c) h) | isnt e ↦ simp e ]

once_within : (a c n : ℕ) → once (eqb n a) + once (within (suc a) c n) ≡ once (within a (suc c) n)
once_within a c n = elim (test (eqb n a)) [
  | is e ↦
      let q = eqb-true n a e in
      simp (e, within_low (suc a) c n (omega arith), within_yes a (suc c) n (omega arith) (omega arith))
  | isnt e ↦
      let q = eqb-false n a e in
      elim (test (ltb n a)) [
        | is f ↦ simp (e, within_low (suc a) c n (omega tests), within_low a (suc c) n (omega tests))
        | isnt f ↦ elim (test (ltb n (a + suc c))) [
          | is g ↦ simp (e, within_yes (suc a) c n (omega tests) (omega tests), within_yes a (suc c) n (omega tests) (omega tests))
          | isnt g ↦ simp (e, within_high (suc a) c n (omega tests), within_high a (suc c) n (omega tests))
        ]
      ]
]

count_stack : (n a c : ℕ) → count n (fresh_stack a c) ≡ once (within a c n)
count_stack n a zero = elim (test (ltb n a)) [ is e ↦ rw (within_low a 0 n (omega tests)) | isnt e ↦ rw (within_high a 0 n (omega tests)) ]
count_stack n a (suc c) = omega (arith, count_stack n (suc a) c, once_within a c n)

inside_within : (n N : ℕ) → within 1 N n ≡ (leb 1 n && leb n N)
inside_within n N = elim (test (leb n N)) [
  | is e ↦ simp (e, lt-ltb n (1 + N) (omega tests))
  | isnt e ↦ simp (e, le-ltb n (1 + N) (omega tests))
]

used-fresh : (T : ℕ) → used (replicate T []) ≡ []
used-fresh zero = refl
used-fresh (suc T) = used-fresh T

good_fresh : (m T : ℕ) → AllGood m (replicate T [])
good_fresh m zero = tt
good_fresh m (suc T) = (tt, good_fresh m T)

pub fresh_formed : (m T N : ℕ) → 1 ≤ T → T ≤ 32 → N ≤ 512 → WellFormed m (fresh T N)
fresh_formed m T N a b c = record {
  some_trees = rw length-replicate a;
  few_trees = rw length-replicate b;
  few_nodes = c;
  good = good_fresh m T;
  each_once = λ n. rw (used-fresh T) (omega (arith, count_stack n 1 N, ap once (inside_within n N)));
}

-- Σ over the numbers a, .., a + c - 1 of f
abbrev over : ℕ → ℕ → (ℕ → ℕ) → ℕ
over a zero f = 0
over a (suc c) f = f a + over (suc a) c f

over_add : (a c : ℕ) (f g : ℕ → ℕ) → over a c (λ n. f n + g n) ≡ over a c f + over a c g
over_add a zero f g = refl
over_add a (suc c) f g = omega (arith, over_add (suc a) c f g)

over_same : (a c : ℕ) (f g : ℕ → ℕ) → ((n : ℕ) → a ≤ n → n < a + c → f n ≡ g n) → over a c f ≡ over a c g
over_same a zero f g h = refl
over_same a (suc c) f g h = omega (arith, h a (omega arith) (omega arith), over_same (suc a) c f g (λ n u v. h n (omega arith) (omega arith)))

over_none : (a c : ℕ) → over a c (λ n. 0) ≡ 0
over_none a zero = refl
over_none a (suc c) = omega (arith, over_none (suc a) c)

over_ones : (a c : ℕ) → over a c (λ n. 1) ≡ c
over_ones a zero = refl
over_ones a (suc c) = omega (arith, over_ones (suc a) c)

over_few : (a c : ℕ) (f : ℕ → ℕ) → ((n : ℕ) → f n ≤ 1) → over a c f ≤ c
over_few a zero f h = omega arith
over_few a (suc c) f h = omega (arith, h a, over_few (suc a) c f h)

over_one : (a c x : ℕ) → over a c (λ n. once (eqb n x)) ≡ once (within a c x)
over_one a zero x = elim (test (ltb x a)) [ is e ↦ rw (within_low a 0 x (omega tests)) | isnt e ↦ rw (within_high a 0 x (omega tests)) ]
over_one a (suc c) x = let z : once (eqb a x) ≡ once (eqb x a) = swap in omega (arith, over_one (suc a) c x, once_within a c x)
  where
    swap : once (eqb a x) ≡ once (eqb x a)
    swap = elim (test (eqb a x)) [
      | is e ↦ simp (e, eq-eqb x a (sym (eqb-true a x e)))
      | isnt e ↦ simp (e, ne_eqb x a (λ q. eqb-false a x e (sym q)))
    ]

-- a list of numbers from 1 to N only
all_inside : (N : ℕ) (xs : List ℕ) → ((n : ℕ) → count n xs ≤ once (within 1 N n)) → over 1 N (λ n. count n xs) ≡ length xs
all_inside N [] h = over_none 1 N
all_inside N (x ∷ xs) h =
    let a = over_add 1 N (λ n. once (eqb n x)) (λ n. count n xs) in
    let b = over_one 1 N x in
    let c = all_inside N xs (λ n. omega (arith, h n)) in
    let d : 1 ≤ once (within 1 N x) = let z = simp (eq-eqb x x refl) at (h x) in omega arith in
    let e : once (within 1 N x) ≤ 1 = small (within 1 N x) in
    omega arith

-- different numbers from 1 to N are N at most
pub few_numbers : (N : ℕ) (xs : List ℕ) → ((n : ℕ) → count n xs ≤ once (leb 1 n && leb n N)) → length xs ≤ N
few_numbers N xs h =
    let a = all_inside N xs (λ n. rw inside_within (h n)) in
    let b = over_few 1 N (λ n. count n xs) (λ n. omega (arith, h n, small (leb 1 n && leb n N))) in
    omega arith

-- nodes in use and free nodes are N
pub nodes_all : (m : ℕ) (p : Pool) → WellFormed m p → length (used p.trees) + length p.free ≡ p.count
nodes_all m p h =
    let each : (n : ℕ) → count n (used p.trees ++ p.free) ≡ once (within 1 p.count n) =
    λ n. total-append (λ x. once (eqb n x)) (used p.trees) p.free ∙ h.each_once n ∙ ap once (sym (inside_within n p.count)) in
    let a = all_inside p.count (used p.trees ++ p.free) (λ n. omega (arith, each n)) in
    let b : over 1 p.count (λ n. count n (used p.trees ++ p.free)) ≡ over 1 p.count (λ n. 1) =
    over_same 1 p.count _ _ (λ n u v. each n ∙ ap once (within_yes 1 p.count n u v)) in
    omega (arith, over_ones 1 p.count, length-append (used p.trees) p.free)

-- the words are as many as they should be
pub length-pad : (n : ℕ) (xs : List ℕ) → length (pad n xs) ≡ n
length-pad zero xs = refl
length-pad (suc n) [] = ap suc (length-pad n [])
length-pad (suc n) (x ∷ xs) = ap suc (length-pad n xs)

pub get_or-pad : (n : ℕ) (xs : List ℕ) (i : ℕ) → i < n → get_or (pad n xs) i 0 ≡ get_or xs i 0
get_or-pad zero xs i h = absurd (omega arith)
get_or-pad (suc n) [] zero h = refl
get_or-pad (suc n) [] (suc i) h = get_or-pad n [] i (omega arith)
get_or-pad (suc n) (x ∷ xs) zero h = refl
get_or-pad (suc n) (x ∷ xs) (suc i) h = get_or-pad n xs i (omega arith)

pub set-pad : (n : ℕ) (xs : List ℕ) (i k : ℕ) → i < length xs → set (pad n xs) i k ≡ pad n (set xs i k)
set-pad zero xs i k h = refl
set-pad (suc n) [] i k h = absurd (omega arith)
set-pad (suc n) (x ∷ xs) zero k h = refl
set-pad (suc n) (x ∷ xs) (suc i) k h = ap (x ∷◌) (set-pad n xs i k (omega arith))

-- the front of a list, one word more
pub front-more : (n : ℕ) (xs : List ℕ) (i : ℕ) → i < n → set (pad n (take i xs)) i (get_or xs i 0) ≡ pad n (take (suc i) xs)
front-more zero xs i h = absurd (omega arith)
front-more (suc n) [] zero h = refl
front-more (suc n) [] (suc i) h = ap (0 ∷◌) (rw (take-nil i) at (front-more n [] i (omega arith)))
front-more (suc n) (x ∷ xs) zero h = refl
front-more (suc n) (x ∷ xs) (suc i) h = ap (x ∷◌) (front-more n xs i (omega arith))

pub leaf_length : (xs : List Item) → length (leaf_words xs) ≡ 16
leaf_length xs = simp (length-append, length-pad)

pub inner_length : (xs : List Item) → length (inner_words xs) ≡ 16
inner_length xs = simp (length-append, length-pad)

row_length : (words : List Item → List ℕ) (n : ℕ) (R : Row) (d : List ℕ) → ((xs : List Item) → length (words xs) ≡ 16) → length d ≡ 16 → length (in_row words n R d) ≡ 16
row_length words n [] d h e = e
row_length words n (m ∷ R) d h e = elim (test (eqb n m.num)) [ is f ↦ simp f (h m.items) | isnt f ↦ simp f (row_length words n R d h e) ]

pub rows_length : (n : ℕ) (Rs : List Row) (d : List ℕ) → length d ≡ 16 → length (in_rows n Rs d) ≡ 16
rows_length n [] d e = e
rows_length n (R ∷ Rs) d e = row_length inner_words n R (in_rows n Rs d) inner_length (rows_length n Rs d e)

tree_length : (n : ℕ) (t : Tree) (d : List ℕ) → length d ≡ 16 → length (in_tree n t d) ≡ 16
tree_length n [] d e = e
tree_length n (L ∷ Rs) d e = row_length leaf_words n L (in_rows n Rs d) leaf_length (rows_length n Rs d e)

pub trees-length : (n : ℕ) (ts : List Tree) (d : List ℕ) → length d ≡ 16 → length (in_trees n ts d) ≡ 16
trees-length n [] d e = e
trees-length n (t ∷ ts) d e = tree_length n t (in_trees n ts d) (trees-length n ts d e)

pub node-length : (ts : List Tree) (n : ℕ) → length (node_words ts n) ≡ 16
node-length ts n = trees-length n ts (pad 16 []) refl

pub nodes_length : (words : ℕ → List ℕ) (n c : ℕ) → ((x : ℕ) → length (words x) ≡ 16) → length (nodes_from words n c) ≡ 16 * c
nodes_length words n zero s = refl
nodes_length words n (suc c) s = omega (arith, length-append (words n) (nodes_from words (suc n) c), s n, nodes_length words (suc n) c s)

pub encode-length : (p : Pool) → length (encode p) ≡ length p.trees + 17 * p.count + 3
unfolding encode
encode-length p = simp (length-append, length-map, nodes_length (node_words p.trees) 1 p.count (node-length p.trees), length-pad) (omega arith)

-- a format is done only where T, N and the length are as they must be
pub format_in : (T N len : ℕ) → formatted T N len ≡ true → (1 ≤ T) × (T ≤ most_trees) × (N ≤ most_nodes) × (len ≡ T + 17 * N + 3)
unfolding formatted
format_in T N len h =
    let e = four (leb 1 T) (leb T most_trees) (leb N most_nodes) (eqb len (T + 17 * N + 3)) h in
    (leb-true _ _ e.0, leb-true _ _ e.1, leb-true _ _ e.2, eqb-true _ _ e.3)

-- and then the words are sound, whatever the minimum of a leaf
pub fresh_sound : (m T N len : ℕ) → formatted T N len ≡ true → Sound m (encode (fresh T N))
fresh_sound m T N len e =
    let i = format_in T N len e in
    record { pool = fresh T N; formed = fresh_formed m T N i.0 i.1 i.2; same = refl }

-- PROOFS. Cursors: a spot is a place in the list of pairs, and the moves go along it
use mathlib.Core.Path.{◌≡◌, refl, sym, ap, ◌∙◌}
use mathlib.Core.List.{List, [], ◌∷◌, ◌++◌, append_assoc, append-nil, reverse, reverse-cons}
use mathlib.Core.Bool.{true, true≢false}
use mathlib.Core.Option.{Option, none, some}
use Prim.Native.Nat.{ℕ, zero, suc, ◌+◌, ◌-◌, ◌≤◌, ◌<◌}
use native.Mathlib.Omega.{arith}
use lib.ListN.{length, take, drop, get_or, get_elem?}
use lib.Seq.{take_all}
use lib.Dec.{ltb, eqb, leb}
use borrow.Author.Tests.{lt-ltb, le-ltb, ltb-true, ltb-false, eqb-true, eq-eqb, ne_eqb, le-leb, leb-true}
use Rattle.forest.specs.Lists.{remove_at, sum, parent, offset}
use Rattle.forest.specs.Pairs.{Item, Above, Rising, has, place, lookup}
use Rattle.forest.specs.Rows.{Node, Row, Tree, size, sizes, nums, joined, items_at, Good}
use Rattle.forest.specs.Trees.{leaf_of, leaf_items, pairs, remove_tree}
use Rattle.forest.specs.Cursors.{Spot, off, on, leaves, size_at, Fits, pair_at, leaf_start, first, seek, settle, next, prev, position, spot_at, Path, path_up, path_of, index_under, spot_of, same_path, fits, runs}
use Rattle.forest.proofs.ListLaws.{is, isnt, test, tests, parent_start}
use Rattle.forest.proofs.PairLaws.{place_le, place_lt, place-delete}
use Rattle.forest.proofs.RowLaws.{sum-sizes, length-items, parent_there}
use Rattle.forest.proofs.TowerLaws.{Levels, tower_some, tower_levels}
use Rattle.forest.proofs.TreeLaws

-- the i-th of a joined list
module _ {A : Type 0} where
  nth_left : (xs ys : List A) (i : ℕ) → i < length xs → get_elem? (xs ++ ys) i ≡ get_elem? xs i
  nth_left [] ys i h = absurd (omega arith)
  nth_left (x ∷ xs) ys zero h = refl
  nth_left (x ∷ xs) ys (suc i) h = nth_left xs ys i (omega arith)

  nth_right : (xs ys : List A) (i : ℕ) → length xs ≤ i → get_elem? (xs ++ ys) i ≡ get_elem? ys (i - length xs)
  nth_right [] ys i h = let z : i - 0 ≡ i = omega arith in rw z
  nth_right (x ∷ xs) ys zero h = absurd (omega arith)
  nth_right (x ∷ xs) ys (suc i) h = let z : suc i - suc (length xs) ≡ i - length xs = omega arith in rw z (nth_right xs ys i (omega arith))

-- one leaf more on the left
abbrev shift : Spot → Spot
shift off = off
shift (on j e) = on (suc j) e

module _ (n : Node) (R : Row) where
  here : (i : ℕ) → i < size n → spot_at (n ∷ R) i ≡ on 0 i
  here i h = simp (lt-ltb i (size n + sum (sizes R)) (omega arith), lt-ltb i (size n) h)

  there : (i : ℕ) → size n ≤ i → spot_at (n ∷ R) i ≡ shift (spot_at R (i - size n))
  there i h = elim (test (ltb (i - size n) (sum (sizes R)))) [
    | is e ↦ simp (e, lt-ltb i (size n + sum (sizes R)) (omega tests), le-ltb i (size n) h)
    | isnt e ↦ simp (e, le-ltb i (size n + sum (sizes R)) (omega tests))
  ]

  start_shift : (j : ℕ) → leaf_start (n ∷ R) (suc j) ≡ shift (leaf_start R j)
  start_shift j = elim (test (ltb j (length R))) [
    | is e ↦ simp (e, lt-ltb (suc j) (suc (length R)) (omega tests))
    | isnt e ↦ simp (e, le-ltb (suc j) (suc (length R)) (omega tests))
  ]

  next_shift : (s : Spot) → next (n ∷ R) (shift s) ≡ shift (next R s)
  next_shift off = refl
  next_shift (on j e) = rw (start_shift (suc j)) (elim (test (ltb (suc e) (size_at R j))) [ is c ↦ simp c | isnt c ↦ simp c ])

  settle_shift : (s : Spot) → settle (n ∷ R) (shift s) ≡ shift (settle R s)
  settle_shift off = refl
  settle_shift (on j e) = rw (start_shift (suc j)) (elim (test (ltb e (size_at R j))) [ is c ↦ simp c | isnt c ↦ simp c ])

  next_last : (i : ℕ) → size n ≤ suc i → next (n ∷ R) (on 0 i) ≡ shift (first R)
  next_last i h = simp (le-ltb (suc i) (size n) h) (start_shift 0)

  settle_last : (i : ℕ) → size n ≤ i → settle (n ∷ R) (on 0 i) ≡ shift (first R)
  settle_last i h = simp (le-ltb i (size n) h) (start_shift 0)

  pair_shift : (s : Spot) → pair_at (n ∷ R) (shift s) ≡ pair_at R s
  pair_shift off = refl
  pair_shift (on j e) = refl

  prev_shift_off : 1 ≤ length R → prev (n ∷ R) off ≡ shift (prev R off)
  prev_shift_off h =
      let a : suc (length R) - 1 ≡ suc (length R - 1) = omega arith in
      simp (lt-ltb 0 (length R) h, lt-ltb 0 (suc (length R)) (omega arith), a)

  prev_shift_on : (s : Spot) → 1 ≤ length R → prev (n ∷ R) (shift (shift s)) ≡ shift (prev R (shift s))
  prev_shift_on off h = prev_shift_off h
  prev_shift_on (on j zero) h = refl
  prev_shift_on (on j (suc e)) h = refl

-- the i-th spot has the i-th pair
pub pair_at_lem : (L : Row) (i : ℕ) → pair_at L (spot_at L i) ≡ get_elem? (joined L) i
pair_at_lem [] i = simp (le-ltb i 0 (omega arith))
pair_at_lem (n ∷ R) i = elim (test (ltb i (size n))) [
  | is e ↦ rw (here n R i (ltb-true _ _ e)) (sym (nth_left n.items (joined R) i (ltb-true _ _ e)))
  | isnt e ↦ rw (there n R i (ltb-false _ _ e), pair_shift n R) (pair_at_lem R (i - size n) ∙ sym (nth_right n.items (joined R) i (ltb-false _ _ e)))
]

-- first is the spot of the first pair, next of the next, prev of the one before
pub first-at : (L : Row) → TreeLaws.NoneEmpty L → first L ≡ spot_at L 0
first-at [] s = refl
first-at (n ∷ R) s = simp (lt-ltb 0 (suc (length R)) (omega arith)) (sym (here n R 0 s.0))

pub next-at : (L : Row) (i : ℕ) → TreeLaws.NoneEmpty L → i < sum (sizes L) → next L (spot_at L i) ≡ spot_at L (suc i)
next-at [] i s h = absurd (omega arith)
next-at (n ∷ R) i s h = elim (test (ltb i (size n))) [
  | is e ↦ rw (here n R i (ltb-true _ _ e)) (elim (test (ltb (suc i) (size n))) [
    | is f ↦ rw (here n R (suc i) (ltb-true _ _ f)) (simp f)
    | isnt f ↦
        let z : suc i - size n ≡ 0 = omega tests in
        next_last n R i (ltb-false _ _ f) ∙ ap shift (first-at R s.1 ∙ ap (spot_at R) (sym z)) ∙ sym (there n R (suc i) (ltb-false _ _ f))
  ])
  | isnt e ↦
      let z : suc i - size n ≡ suc (i - size n) = omega tests in
      rw (there n R i (ltb-false _ _ e), next_shift n R (spot_at R (i - size n)), next-at R (i - size n) s.1 (omega tests), ← z) (sym (there n R (suc i) (omega tests)))
]

pub prev-at : (L : Row) (i : ℕ) → TreeLaws.NoneEmpty L → i < sum (sizes L) → prev L (spot_at L (suc i)) ≡ spot_at L i
prev-at [] i s h = absurd (omega arith)
prev-at (n ∷ []) i s h = elim (test (ltb (suc i) (size n))) [
  | is e ↦ rw (here n [] (suc i) (ltb-true _ _ e), here n [] i (omega tests))
  | isnt e ↦
      let z : size n - 1 ≡ i = omega tests in
      rw (there n [] (suc i) (ltb-false _ _ e), here n [] i (omega arith)) (simp (le-ltb (suc i - size n) 0 (omega tests), z))
]
prev-at (n ∷ m ∷ R) i s h = elim (test (ltb (suc i) (size n))) [
  | is e ↦ rw (here n (m ∷ R) (suc i) (ltb-true _ _ e), here n (m ∷ R) i (omega tests))
  | isnt e ↦ elim (test (ltb i (size n))) [
    | is f ↦
        let z : suc i - size n ≡ 0 = omega tests in
        let y : size n - 1 ≡ i = omega tests in
        rw (there n (m ∷ R) (suc i) (ltb-false _ _ e), z, here m R 0 s.1.0, here n (m ∷ R) i (ltb-true _ _ f), y)
    | isnt f ↦
        let z : suc i - size n ≡ suc (i - size n) = omega tests in
        let ih = prev-at (m ∷ R) (i - size n) s.1 (omega tests) in
        rw (there n (m ∷ R) (suc i) (ltb-false _ _ e), z, there n (m ∷ R) i (ltb-false _ _ f)) (down (i - size n) ih)
  ]
]
  where
    down : (d : ℕ) → prev (m ∷ R) (spot_at (m ∷ R) (suc d)) ≡ spot_at (m ∷ R) d → prev (n ∷ m ∷ R) (shift (spot_at (m ∷ R) (suc d))) ≡ shift (spot_at (m ∷ R) d)
    down d ih = elim (test (ltb (suc d) (size m))) [
      | is e ↦ rw (here m R (suc d) (ltb-true _ _ e), here m R d (omega tests))
      | isnt e ↦
          let t = there m R (suc d) (ltb-false _ _ e) in
          ap (λ (x : Spot). prev (n ∷ m ∷ R) (shift x)) t ∙ prev_shift_on n (m ∷ R) (spot_at R (suc d - size m)) (omega arith) ∙ ap shift (ap (prev (m ∷ R)) (sym t) ∙ ih)
    ]

-- settle goes to the pair at that place in the list
pub settle-at : (L : Row) (j e : ℕ) → TreeLaws.NoneEmpty L → j < length L → e ≤ size_at L j → settle L (on j e) ≡ spot_at L (position L (on j e))
settle-at [] j e s h k = absurd (omega arith)
settle-at (n ∷ R) zero e s h k =
    let z : 0 + e ≡ e = omega arith in
    rw z (elim (test (ltb e (size n))) [
      | is f ↦ rw (here n R e (ltb-true _ _ f)) (simp f)
      | isnt f ↦
          let y : e - size n ≡ 0 = omega tests in
          settle_last n R e (ltb-false _ _ f) ∙ ap shift (first-at R s.1 ∙ ap (spot_at R) (sym y)) ∙ sym (there n R e (ltb-false _ _ f))
    ])
settle-at (n ∷ R) (suc j) e s h k =
    let z : size n + sum (take j (sizes R)) + e - size n ≡ sum (take j (sizes R)) + e = omega arith in
    settle_shift n R (on j e) ∙ ap shift (settle-at R j e s.1 (omega arith) k ∙ ap (spot_at R) (sym z)) ∙ sym (there n R (size n + sum (take j (sizes R)) + e) (omega arith))

-- on a pair it stays
pub settle_pair : (L : Row) (j e : ℕ) → e < size_at L j → settle L (on j e) ≡ on j e
settle_pair L j e h = simp (lt-ltb e (size_at L j) h)

-- seek goes to the place of the key, settled
pub seek-at : (m k : ℕ) (L : Row) (Rs : List Row) → 1 ≤ m → Good m 7 (L ∷ Rs) → settle L (seek k L) ≡ spot_at L (place k (joined L))
seek-at m k L Rs lo g =
    let s = TreeLaws.lands m 7 k L Rs lo g in
    rw (lt-ltb 0 (length L) (tower_some L Rs g.2), s.places)
    (settle-at L (leaf_of k L) (place k (leaf_items k L)) (TreeLaws.none_empty m 7 L lo g.1) s.at (rw (← length-items L (leaf_of k L)) (place_le k (leaf_items k L))))

-- next after first gives the pairs in order
abbrev grab : Option Item → List Item → List Item
grab none rest = []
grab (some x) rest = x ∷ rest

-- the pairs that n looks with next between them give
abbrev pub walk : ℕ → Row → Spot → List Item
walk zero L s = []
walk (suc n) L s = grab (pair_at L s) (walk n L (next L s))

drop_nth : (xs : List Item) (i n : ℕ) → take (suc n) (drop i xs) ≡ grab (get_elem? xs i) (take n (drop (suc i) xs))
drop_nth [] zero n = refl
drop_nth [] (suc i) n = refl
drop_nth (x ∷ xs) zero n = refl
drop_nth (x ∷ xs) (suc i) n = drop_nth xs i n

pub nth_none : (xs : List Item) (i : ℕ) → length xs ≤ i → get_elem? xs i ≡ none
nth_none [] i h = refl
nth_none (x ∷ xs) zero h = absurd (omega arith)
nth_none (x ∷ xs) (suc i) h = nth_none xs i (omega arith)

pub walk_at : (L : Row) (n i : ℕ) → TreeLaws.NoneEmpty L → walk n L (spot_at L i) ≡ take n (drop i (joined L))
walk_at L zero i s = refl
walk_at L (suc n) i s = elim (test (ltb i (sum (sizes L)))) [
  | is e ↦ rw (pair_at_lem L i, next-at L i s (ltb-true _ _ e), walk_at L n (suc i) s) (sym (drop_nth (joined L) i n))
  | isnt e ↦
      let z : get_elem? (joined L) i ≡ none = nth_none (joined L) i (omega (tests, sum-sizes L)) in
      rw (pair_at_lem L i, drop_nth (joined L) i n, z)
]

pub walk_all : (m : ℕ) (t : Tree) → 1 ≤ m → Good m 7 t → walk (length (pairs t)) (leaves t) (first (leaves t)) ≡ pairs t
walk_all m [] lo g = refl
walk_all m (L ∷ Rs) lo g =
    let s = TreeLaws.none_empty m 7 L lo g.1 in
    rw (first-at L s, walk_at L (length (joined L)) 0 s) (take_all (length (joined L)) (joined L) (omega arith))

-- Remove at a cursor: the pair on which it stands is found by its key at that very spot
nth_above : (k : ℕ) (us : List Item) (i : ℕ) (x : Item) → Above k us → get_elem? us i ≡ some x → k < x.0
nth_above k [] i x a e = absurd (let z : ◌≡◌ {A = ℕ} 0 1 = cc in omega arith)
nth_above k (u ∷ us) zero x a e = let q : u ≡ x = cc in omega (arith, ap (λ (z : Item). z.0) q)
nth_above k (u ∷ us) (suc i) x a e = nth_above k us i x a.1 e

pub nth-has : (xs : List Item) (i : ℕ) (x : Item) → Rising xs → get_elem? xs i ≡ some x → (has x.0 xs ≡ true) × (place x.0 xs ≡ i) × (i < length xs)
nth-has [] i x r e = absurd (let y : ◌≡◌ {A = ℕ} 0 1 = cc in omega arith)
nth-has (y ∷ xs) zero x r e =
    let q : y ≡ x = cc in
    let k : x.0 ≡ y.0 = ap (λ (z : Item). z.0) (sym q) in
    (simp (eq-eqb x.0 y.0 k), simp (le-ltb y.0 x.0 (omega arith)), omega arith)
nth-has (y ∷ xs) (suc i) x r e =
    let ih = nth-has xs i x r.1 e in
    let lt : y.0 < x.0 = nth_above y.0 xs i x r.0 e in
    (simp (ne_eqb x.0 y.0 (omega arith)) ih.0, simp (lt-ltb y.0 x.0 lt) (ap suc ih.1), omega (arith, ih.2))

-- so it is looked up there
pub nth-lookup : (xs : List Item) (i : ℕ) (x : Item) → Rising xs → get_elem? xs i ≡ some x → lookup x.0 xs ≡ some x.1
nth-lookup [] i x r e = absurd (let z : ◌≡◌ {A = ℕ} 0 1 = cc in omega arith)
nth-lookup (y ∷ xs) zero x r e =
    let q : y ≡ x = cc in
    rw (eq-eqb x.0 y.0 (ap (λ (z : Item). z.0) (sym q))) (ap (λ (z : Item). some z.1) q)
nth-lookup (y ∷ xs) (suc i) x r e =
    let lt : y.0 < x.0 = nth_above y.0 xs i x r.0 e in
    rw (ne_eqb x.0 y.0 (omega arith)) (nth-lookup xs i x r.1 e)

pub nth_lt : (xs : List Item) (i : ℕ) (x : Item) → get_elem? xs i ≡ some x → i < length xs
nth_lt [] i x e = absurd (let y : ◌≡◌ {A = ℕ} 0 1 = cc in omega arith)
nth_lt (y ∷ xs) zero x e = omega arith
nth_lt (y ∷ xs) (suc i) x e = omega (arith, nth_lt xs i x e)

-- the pair at a spot is the one at its position
pub pair_position : (L : Row) (j e : ℕ) (x : Item) → TreeLaws.NoneEmpty L → j < length L → pair_at L (on j e) ≡ some x → get_elem? (joined L) (position L (on j e)) ≡ some x
pair_position L j e x s h p =
    let lt : e < size_at L j = rw (← length-items L j) (nth_lt (items_at L j) e x p) in
    sym (pair_at_lem L (position L (on j e))) ∙ ap (pair_at L) (sym (settle-at L j e s h (omega arith)) ∙ settle_pair L j e lt) ∙ p

pub seek_pair : (m : ℕ) (L : Row) (Rs : List Row) (j e : ℕ) (x : Item) → 1 ≤ m → Good m 7 (L ∷ Rs) → j < length L → pair_at L (on j e) ≡ some x →
    seek x.0 L ≡ on j e
seek_pair m L Rs j e x lo g h p =
    let s = TreeLaws.none_empty m 7 L lo g.1 in
    let l = TreeLaws.lands m 7 x.0 L Rs lo g in
    let lt : e < size_at L j = rw (← length-items L j) (nth_lt (items_at L j) e x p) in
    let n = nth-has (joined L) (position L (on j e)) x g.0 (pair_position L j e x s h p) in
    let in_leaf : has x.0 (leaf_items x.0 L) ≡ true = sym l.hases ∙ n.0 in
    let at : seek x.0 L ≡ on (leaf_of x.0 L) (place x.0 (leaf_items x.0 L)) = rw (lt-ltb 0 (length L) (tower_some L Rs g.2)) in
    at ∙
    sym (settle_pair L (leaf_of x.0 L) (place x.0 (leaf_items x.0 L)) (rw (← length-items L (leaf_of x.0 L)) (place_lt x.0 (leaf_items x.0 L) l.rises in_leaf))) ∙
    ap (settle L) (sym at) ∙ seek-at m x.0 L Rs lo g ∙ ap (spot_at L) n.1 ∙ sym (settle-at L j e s h (omega arith)) ∙ settle_pair L j e lt

-- the pairs afterwards are those without the one at the position, and the cursor stands on the next
pub remove_at-pairs : (m : ℕ) (L : Row) (Rs : List Row) (j e : ℕ) (x : Item) → 1 ≤ m → Good m 7 (L ∷ Rs) → j < length L → pair_at L (on j e) ≡ some x →
    pairs (remove_tree 7 x.0 (L ∷ Rs)) ≡ remove_at (position L (on j e)) (joined L)
remove_at-pairs m L Rs j e x lo g h p =
    let n = nth-has (joined L) (position L (on j e)) x g.0 (pair_position L j e x (TreeLaws.none_empty m 7 L lo g.1) h p) in
    TreeLaws.pairs_remove m 7 x.0 lo (L ∷ Rs) g ∙ sym (place-delete x.0 (joined L) g.0 n.0) ∙ ap (λ (i : ℕ). remove_at i (joined L)) n.1

pub nth-remove_at : (xs : List Item) (i : ℕ) → i < length xs → get_elem? (remove_at i xs) i ≡ get_elem? xs (suc i)
nth-remove_at [] i h = refl
nth-remove_at (x ∷ xs) zero h = refl
nth-remove_at (x ∷ xs) (suc i) h = nth-remove_at xs i (omega arith)

pub leaves-joined : (t : Tree) → joined (leaves t) ≡ pairs t
leaves-joined [] = refl
leaves-joined (L ∷ Rs) = refl

pub remove_at-next : (m : ℕ) (L : Row) (Rs : List Row) (j e : ℕ) (x : Item) → 1 ≤ m → Good m 7 (L ∷ Rs) → j < length L → pair_at L (on j e) ≡ some x →
    pair_at (leaves (remove_tree 7 x.0 (L ∷ Rs))) (spot_at (leaves (remove_tree 7 x.0 (L ∷ Rs))) (position L (on j e))) ≡ get_elem? (joined L) (suc (position L (on j e)))
remove_at-next m L Rs j e x lo g h p =
    let i = position L (on j e) in
    let n = nth-has (joined L) (position L (on j e)) x g.0 (pair_position L j e x (TreeLaws.none_empty m 7 L lo g.1) h p) in
    pair_at_lem (leaves (remove_tree 7 x.0 (L ∷ Rs))) (position L (on j e)) ∙
    ap (λ (u : List Item). get_elem? u (position L (on j e))) (leaves-joined (remove_tree 7 x.0 (L ∷ Rs)) ∙ remove_at-pairs m L Rs j e x lo g h p) ∙
    nth-remove_at (joined L) (position L (on j e)) n.2

-- The test of a path is right
-- the levels above, upward
abbrev ups : ℕ → List Row → Path
ups i [] = []
ups i (S ∷ Ss) = (get_or (nums S) (parent (sizes S) i) 0, offset (sizes S) i) ∷ ups (parent (sizes S) i) Ss

reverse_path : (i : ℕ) (Rs : List Row) (below : Path) → reverse (path_up i Rs below) ≡ reverse below ++ ups i Rs
reverse_path i [] below = sym (append-nil (reverse below))
reverse_path i (S ∷ Ss) below =
    reverse_path (parent (sizes S) i) Ss ((get_or (nums S) (parent (sizes S) i) 0, offset (sizes S) i) ∷ below) ∙
    rw (reverse-cons, append_assoc)

index_ups : (n i : ℕ) (Rs : List Row) → i < n → Levels n Rs → index_under Rs (ups i Rs) ≡ i
index_ups n i [] h w = omega arith
index_ups n i (S ∷ Ss) h w =
    let b : i < sum (sizes S) = omega arith in
    rw (index_ups (length S) (parent (sizes S) i) Ss (parent_there S i b) w.3) (parent_start (sizes S) i b)

pub spot_path : (m : ℕ) (t : Tree) (s : Spot) → Good m 7 t → Fits (leaves t) s → spot_of t (path_of t s) ≡ s
spot_path m [] off g f = refl
spot_path m [] (on j e) g f = absurd (omega arith)
spot_path m (L ∷ Rs) off g f = refl
spot_path m (L ∷ Rs) (on j e) g f =
    rw (reverse_path j Rs ((get_or (nums L) j 0, e) ∷ []), index_ups (length L) j Rs f.0 (tower_levels L Rs g.2))

path_same : (ps qs : Path) → same_path ps qs ≡ true → ps ≡ qs
path_same [] [] h = refl
path_same [] (q ∷ qs) h = absurd (true≢false (sym h))
path_same (p ∷ ps) [] h = absurd (true≢false (sym h))
path_same (p ∷ ps) (q ∷ qs) h = elim (test (eqb p.0 q.0)) [
  | is a ↦ elim (test (eqb p.1 q.1)) [
    | is b ↦
        let r = path_same ps qs (simp (a, b) at h) in
        let c : p ≡ q = λ i. (eqb-true p.0 q.0 a i, eqb-true p.1 q.1 b i) in
        cc
    | isnt b ↦ absurd (true≢false (sym (simp (a, b) at h)))
  ]
  | isnt a ↦ absurd (true≢false (sym (simp a at h)))
]

same_path_lem : (ps : Path) → same_path ps ps ≡ true
same_path_lem [] = refl
same_path_lem (p ∷ ps) = simp (eq-eqb p.0 p.0 refl, eq-eqb p.1 p.1 refl, same_path_lem ps)

fits_yes : (L : Row) (s : Spot) → Fits L s → fits L s ≡ true
fits_yes L off f = refl
fits_yes L (on j e) f = simp (lt-ltb j (length L) f.0, le-leb e (size_at L j) f.1)

yes_fits : (L : Row) (s : Spot) → fits L s ≡ true → Fits L s
yes_fits L off f = tt
yes_fits L (on j e) f = elim (test (ltb j (length L))) [
  | is a ↦ elim (test (leb e (size_at L j))) [
    | is b ↦ (ltb-true _ _ a, leb-true _ _ b)
    | isnt b ↦ absurd (true≢false (sym (simp (a, b) at f)))
  ]
  | isnt a ↦ absurd (true≢false (sym (simp a at f)))
]

pub runs_yes : (m : ℕ) (t : Tree) (s : Spot) → Good m 7 t → Fits (leaves t) s → runs t (path_of t s) ≡ true
runs_yes m t s g f = rw (spot_path m t s g f, fits_yes (leaves t) s f) (same_path_lem (path_of t s))

pub runs-fits : (t : Tree) (path : Path) → runs t path ≡ true → Fits (leaves t) (spot_of t path)
runs-fits t path h = elim (test (fits (leaves t) (spot_of t path))) [
  | is a ↦ yes_fits (leaves t) (spot_of t path) a
  | isnt a ↦ absurd (true≢false (sym (simp a at h)))
]

pub runs_path : (t : Tree) (path : Path) → runs t path ≡ true → path_of t (spot_of t path) ≡ path
runs_path t path h = path_same (path_of t (spot_of t path)) path (simp (fits_yes (leaves t) (spot_of t path) (runs-fits t path h)) at h)

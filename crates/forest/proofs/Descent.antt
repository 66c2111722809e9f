-- PROOFS. Going down: in each inner node the child is the count of its stored keys that are not above k, and that leads to the leaf of k; and a tree has at most six levels
use mathlib.Core.Path.{◌≡◌, refl, ap}
use mathlib.Core.List.{List, [], ◌∷◌, ◌++◌, append-nil}
use Prim.Native.Nat.{ℕ, zero, suc, ◌+◌, ◌-◌, ◌≤◌, ◌<◌}
use native.Mathlib.Omega.{arith}
use lib.ListN.{length, take, drop, get_or, length-append, length-map}
use lib.Dec.{leb}
use borrow.Author.Tests.{lt-ltb, le-ltb, le-leb, lt-leb}
use Rattle.forest.specs.Lists.{parent, offset, upto}
use Rattle.forest.specs.Pairs.{Item, keys, Above, Rising}
use Rattle.forest.specs.Rows.{Node, Row, size, front, sizes, fronts, joined, line, items_at, Tower, Good}
use Rattle.forest.specs.Trees.{leaf_of}
use Rattle.forest.proofs.ListLaws.{is, isnt, test, tests, map-append, upto-length}
use Rattle.forest.proofs.PairLaws.{Below, above_right, rising_right, rising_seam}
use Rattle.forest.proofs.TowerLaws.{tower_some}
use Rattle.forest.proofs.TreeLaws.{NoneEmpty, none_empty}

-- the keys that the words of an inner node store
abbrev pub stored : List Item → List ℕ
stored xs = drop 1 (keys xs)

-- the line of a row rises
above_line : (a : ℕ) (R : Row) → NoneEmpty R → Above a (joined R) → Above a (line R)
above_line a [] s u = tt
above_line a (n ∷ R) s u = (first n.items s.0 u, above_line a R s.1 (above_right a n.items (joined R) u))
  where
    first : (xs : List Item) → 1 ≤ length xs → Above a (xs ++ joined R) → a < front xs
    first [] h u = absurd (omega arith)
    first (x ∷ xs) h u = u.0

pub line_rising : (R : Row) → NoneEmpty R → Rising (joined R) → Rising (line R)
line_rising [] s r = tt
line_rising (n ∷ R) s r = (after n.items s.0 r, line_rising R s.1 (rising_right n.items (joined R) r))
  where
    after : (xs : List Item) → 1 ≤ length xs → Rising (xs ++ joined R) → Above (front xs) (line R)
    after [] h r = absurd (omega arith)
    after (x ∷ xs) h r = above_line x.0 R s.1 (above_right x.0 xs (joined R) r.0)

pub keys-line : (R : Row) → keys (line R) ≡ fronts R
keys-line [] = refl
keys-line (n ∷ R) = ap (front n.items ∷◌) (keys-line R)

upto_below : (k : ℕ) (xs : List Item) (fs : List ℕ) → Below xs (suc k) → upto k (keys xs ++ fs) ≡ length xs + upto k fs
upto_below k [] fs b = omega arith
upto_below k (x ∷ xs) fs b = simp (le-leb x.0 k (omega arith), upto_below k xs fs b.1) (omega arith)

upto-stop : (k f : ℕ) (xs : List Item) (fs : List ℕ) → k < f → upto k (keys xs ++ f ∷ fs) ≡ upto k (keys xs)
upto-stop k f [] fs h = simp (lt-leb f k h)
upto-stop k f (x ∷ xs) fs h = elim (test (leb x.0 k)) [ is e ↦ simp (e, upto-stop k f xs fs h) | isnt e ↦ simp e ]

below_suc : (a k : ℕ) (xs : List Item) → a ≤ k → Below xs a → Below xs (suc k)
below_suc a k [] h b = tt
below_suc a k (x ∷ xs) h b = (omega arith, below_suc a k xs h b.1)

-- the stored keys of two joined lists
upto_pass : (k : ℕ) (xs ys : List Item) → 1 ≤ length xs → 1 ≤ length ys → Rising (xs ++ ys) → front ys ≤ k →
    upto k (stored (xs ++ ys)) ≡ length xs + upto k (stored ys)
upto_pass k [] ys a b r h = absurd (omega arith)
upto_pass k (x ∷ xs) [] a b r h = absurd (omega arith)
upto_pass k (x ∷ xs) (y ∷ ys) a b r h =
    rw (map-append (λ (z : Item). z.0) xs (y ∷ ys), upto_below k xs (keys (y ∷ ys)) (below_suc y.0 k xs h (rising_seam xs y ys r.1)), le-leb y.0 k h) (omega arith)

upto_halt : (k : ℕ) (xs ys : List Item) → 1 ≤ length xs → 1 ≤ length ys → k < front ys → upto k (stored (xs ++ ys)) ≡ upto k (stored xs)
upto_halt k [] ys a b h = absurd (omega arith)
upto_halt k (x ∷ xs) [] a b h = absurd (omega arith)
upto_halt k (x ∷ xs) (y ∷ ys) a b h = rw (map-append (λ (z : Item). z.0) xs (y ∷ ys)) (upto-stop k y.0 xs (keys ys) h)

upto_inside : (k : ℕ) (xs : List Item) → 1 ≤ length xs → upto k (stored xs) < length xs
upto_inside k [] h = absurd (omega arith)
upto_inside k (x ∷ xs) h = omega (arith, upto-length k (keys xs), length-map xs (λ (z : Item). z.0))

pub front-append : (xs ys : List Item) → 1 ≤ length xs → front (xs ++ ys) ≡ front xs
front-append [] ys h = absurd (omega arith)
front-append (x ∷ xs) ys h = refl

pub front-take : (n : ℕ) (xs : List Item) → 1 ≤ n → front (take n xs) ≡ front xs
front-take zero xs h = absurd (omega arith)
front-take (suc n) [] h = refl
front-take (suc n) (x ∷ xs) h = refl

pub front-first : (xs : List Item) → 1 ≤ length xs → front xs ≡ (get_or xs 0 (0, 0)).0
front-first [] h = absurd (omega arith)
front-first (x ∷ xs) h = refl

-- the index that the joined items name for k: which node, and where in it
pub record LeadsDown (k : ℕ) (S : Row) : Type 0 where
  pub node_of : parent (sizes S) (upto k (stored (joined S))) ≡ leaf_of k S
  pub place_of : offset (sizes S) (upto k (stored (joined S))) ≡ upto k (stored (items_at S (leaf_of k S)))

goes : (k : ℕ) (n : Node) (S : Row) → NoneEmpty (n ∷ S) → Rising (joined (n ∷ S)) → LeadsDown k (n ∷ S)
goes k n [] s r =
    let i = lt-ltb (upto k (stored n.items)) (size n) (upto_inside k n.items s.0) in
    record { node_of = rw (append-nil, i); place_of = rw (append-nil, i) }
goes k n (m ∷ S) s r =
    let a : 1 ≤ length (m.items ++ joined S) = omega (arith, length-append m.items (joined S), s.1.0) in
    let f = front-append m.items (joined S) s.1.0 in
    elim (test (leb (front m.items) k)) [
      | is e ↦
          let u = upto_pass k n.items (joined (m ∷ S)) s.0 a r (omega tests) in
          let v : size n + upto k (stored (joined (m ∷ S))) - size n ≡ upto k (stored (joined (m ∷ S))) = omega arith in
          let b = le-ltb (size n + upto k (stored (joined (m ∷ S)))) (size n) (omega arith) in
          let ih = goes k m S s.1 (rising_right n.items (joined (m ∷ S)) r) in
          record { node_of = rw (u, b, v, e) (ap suc ih.node_of); place_of = rw (u, b, v, e) ih.place_of }
      | isnt e ↦
          let u = upto_halt k n.items (joined (m ∷ S)) s.0 a (omega tests) in
          let i = lt-ltb (upto k (stored n.items)) (size n) (upto_inside k n.items s.0) in
          record { node_of = rw (u, i, e); place_of = rw (u, i, e) }
    ]

pub goes_row : (k : ℕ) (S : Row) → NoneEmpty S → Rising (joined S) → 1 ≤ length S → LeadsDown k S
goes_row k [] s r h = absurd (omega arith)
goes_row k (n ∷ S) s r h = goes k n S s r

-- one level: the node of k in the row above is the parent of the node of k in the row below, at the place that its stored keys count
pub record Down (k : ℕ) (R S : Row) : Type 0 where
  pub node_of : parent (sizes S) (leaf_of k R) ≡ leaf_of k S
  pub place_of : offset (sizes S) (leaf_of k R) ≡ upto k (stored (items_at S (leaf_of k S)))

pub down : (k : ℕ) (R S : Row) → NoneEmpty R → NoneEmpty S → Rising (joined R) → joined S ≡ line R → 1 ≤ length S → Down k R S
down k R S s t r e h =
    let g = goes_row k S t (rw e (line_rising R s r)) h in
    let u : upto k (stored (joined S)) ≡ leaf_of k R = rw (e, keys-line R) in
    record { node_of = rw (← u) g.node_of; place_of = rw (← u) g.place_of }

-- all levels, up to the root, which is the node 0 of its row
abbrev pub Downs : ℕ → Row → List Row → Type 0
Downs k R [] = leaf_of k R ≡ 0
Downs k R (S ∷ Ss) = Down k R S × Downs k S Ss

pub downs : (k : ℕ) (R : Row) (Rs : List Row) → NoneEmpty R → Rising (joined R) → Tower R Rs → Downs k R Rs
downs k [] [] s r w = refl
downs k (n ∷ []) [] s r w = refl
downs k (n ∷ m ∷ R) [] s r w = absurd (omega arith)
downs k R (S ∷ Ss) s r w =
    let t = none_empty 4 8 S (omega arith) w.2 in
    (down k R S s t r w.1 (tower_some S Ss w.3), downs k S Ss t (rw w.1 (line_rising R s r)) w.3)

pub tree_downs : (m k : ℕ) (L : Row) (Rs : List Row) → 1 ≤ m → Good m 7 (L ∷ Rs) → Downs k L Rs
tree_downs m k L Rs lo g = downs k L Rs (none_empty m 7 L lo g.1) g.0 g.2

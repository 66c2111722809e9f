-- PROOFS. Which words change: a value replaced, and an entry put into a leaf with room, change the words of that leaf alone
use mathlib.Core.Path.{◌≡◌, refl, sym, ap, ◌∙◌}
use mathlib.Core.List.{List, [], ◌∷◌}
use mathlib.Core.Bool.{Bool, true, false, cond}
use mathlib.Core.Logic.{◌≢◌}
use Prim.Native.Nat.{ℕ, zero, suc, ◌≤◌, ◌<◌}
use native.Mathlib.Omega.{arith}
use lib.ListN.{length, take, drop, get_or}
use lib.Dec.{eqb, leb}
use borrow.Author.Tests.{lt-ltb, leb-true, leb-false, ne_eqb, eq-eqb}
use Rattle.forest.specs.Lists.{insert_at, upto}
use Rattle.forest.specs.Pairs.{Item, has, place}
use Rattle.forest.specs.Rows.{Node, Row, size, nums, fronts, line, front, items_at, set_row, put_row, full, rekey, refresh, Tower, Good}
use Rattle.forest.specs.Trees.{leaf_of, leaf_items, put_leaf, put_tree}
use Rattle.forest.specs.Pools.{inner_words, leaf_words, in_row, in_rows, in_tree, root_above, root}
use Rattle.forest.proofs.ListLaws.{is, isnt, test, tri, less, same, more}
use Rattle.forest.proofs.PairLaws.{place_le}
use Rattle.forest.proofs.RowLaws.{length-items, put_row-room, rekey-nums}
use Rattle.forest.proofs.TowerLaws.{tower_some}
use Rattle.forest.proofs.TreeLaws.{NoneEmpty, none_empty, none_at, lands}
use Rattle.forest.proofs.NodeForms.{put-room, put-line, refresh_same}

-- one node of a row changes, and keeps its number
module _ (words : List Item → List ℕ) (n : ℕ) where
  skip : (a : ℕ) (xs ys : List ℕ) → n ≢ a → cond (eqb n a) xs ys ≡ ys
  skip a xs ys h = simp (ne_eqb n a h)

  put_row_words : (c j p : ℕ) (x : Item) (new : ℕ) (R : Row) (d : List ℕ) → full c j R ≡ false → n ≢ get_or (nums R) j 0 → in_row words n (put_row c j p x new R) d ≡ in_row words n R d
  put_row_words c j p x new [] d f h = refl
  put_row_words c zero p x new (m ∷ R) d f h = rw (put-room c p x new m (leb-false _ _ f), ne_eqb n m.num h)
  put_row_words c (suc j) p x new (m ∷ R) d f h = ap (cond (eqb n m.num) (words m.items)) (put_row_words c j p x new R d f h)

  set_row_words : (j p : ℕ) (x : Item) (R : Row) (d : List ℕ) → n ≢ get_or (nums R) j 0 → in_row words n (set_row j p x R) d ≡ in_row words n R d
  set_row_words j p x [] d h = refl
  set_row_words zero p x (m ∷ R) d h = rw (ne_eqb n m.num h)
  set_row_words (suc j) p x (m ∷ R) d h = ap (cond (eqb n m.num) (words m.items)) (set_row_words j p x R d h)

-- the key of the first item of all is stored nowhere
rekey-first : (n : ℕ) (x y : Item) (xs : List Item) (S : Row) (d : List ℕ) → x.1 ≡ y.1 → NoneEmpty S → in_row inner_words n (rekey (y ∷ xs) S) d ≡ in_row inner_words n (rekey (x ∷ xs) S) d
rekey-first n x y xs [] d e s = refl
rekey-first n x y xs (m ∷ S) d e s = go m.items s.0
  where
    go : (us : List Item) → 1 ≤ length us →
        cond (eqb n m.num) (inner_words (take (length us) (y ∷ xs))) (in_row inner_words n (rekey (drop (length us) (y ∷ xs)) S) d) ≡
        cond (eqb n m.num) (inner_words (take (length us) (x ∷ xs))) (in_row inner_words n (rekey (drop (length us) (x ∷ xs)) S) d)
    go [] h = absurd (omega arith)
    go (u ∷ us) h = rw e

line_first : (x y : Item) (xs : List Item) (m : Node) (S : Row) → 1 ≤ size m →
    (line (rekey (x ∷ xs) (m ∷ S)) ≡ (x.0, m.num) ∷ line (rekey (drop (size m) (x ∷ xs)) S)) × (drop (size m) (x ∷ xs) ≡ drop (size m) (y ∷ xs))
line_first x y xs m S h = go m.items h
  where
    go : (us : List Item) → 1 ≤ length us →
        (◌≡◌ {A = List Item} ((front (take (length us) (x ∷ xs)), m.num) ∷ line (rekey (drop (length us) (x ∷ xs)) S)) ((x.0, m.num) ∷ line (rekey (drop (length us) (x ∷ xs)) S))) ×
        (drop (length us) (x ∷ xs) ≡ drop (length us) (y ∷ xs))
    go [] h = absurd (omega arith)
    go (u ∷ us) h = (refl, refl)

abbrev Solid : List Row → Type 0
Solid [] = Unit {0}
Solid (S ∷ Ss) = NoneEmpty S × (1 ≤ length S) × Solid Ss

tower_solid : (R : Row) (Rs : List Row) → Tower R Rs → Solid Rs
tower_solid R [] w = tt
tower_solid R (S ∷ Ss) w = (none_empty 4 8 S (omega arith) w.2, tower_some S Ss w.3, tower_solid S Ss w.3)

refresh-first : (n : ℕ) (x y : Item) (xs : List Item) (R R' : Row) (Rs : List Row) (d : List ℕ) → line R ≡ x ∷ xs → line R' ≡ y ∷ xs → x.1 ≡ y.1 → Solid Rs →
    in_rows n (refresh R' Rs) d ≡ in_rows n (refresh R Rs) d
refresh-first n x y xs R R' [] d a b e s = refl
refresh-first n x y xs R R' ([] ∷ Ss) d a b e s = absurd (omega (arith, s.1))
refresh-first n x y xs R R' ((m ∷ S) ∷ Ss) d a b e s =
    let p = line_first x y xs m S s.0.0 in
    let q = line_first y x xs m S s.0.0 in
    rw (a, b)
    (ap (in_row inner_words n (rekey (y ∷ xs) (m ∷ S)))
    (refresh-first n (x.0, m.num) (y.0, m.num) (line (rekey (drop (size m) (x ∷ xs)) S)) (rekey (x ∷ xs) (m ∷ S)) (rekey (y ∷ xs) (m ∷ S)) Ss d
    p.0 (q.0 ∙ ap (λ (us : List Item). (y.0, m.num) ∷ line (rekey us S)) q.1) refl s.2) ∙
    rekey-first n x y xs (m ∷ S) (in_rows n (refresh (rekey (x ∷ xs) (m ∷ S)) Ss) d) e s.0)

-- a put lands in front of a leaf only in the first leaf
pub upto-at : (k u : ℕ) (R : Row) → u < upto k (fronts R) → front (items_at R u) ≤ k
upto-at k u [] h = absurd (omega arith)
upto-at k zero (m ∷ R) h = elim (test (leb (front m.items) k)) [ is e ↦ leb-true _ _ e | isnt e ↦ absurd (let z = simp e at h in omega arith) ]
upto-at k (suc u) (m ∷ R) h = elim (test (leb (front m.items) k)) [
  | is e ↦ upto-at k u R (let z = simp e at h in omega arith)
  | isnt e ↦ absurd (let z = simp e at h in omega arith)
]

pub place_some : (k : ℕ) (xs : List Item) → 1 ≤ length xs → has k xs ≡ false → front xs ≤ k → 1 ≤ place k xs
place_some k [] h f e = absurd (omega arith)
place_some k (x ∷ xs) h f e = elim (tri x.0 k) [
  | less c ↦ simp (lt-ltb x.0 k c) (omega arith)
  | same c ↦ absurd (let z : ◌≡◌ {A = Bool} true false = sym (rw (eq-eqb k x.0 (sym c))) ∙ f in let y : ◌≡◌ {A = ℕ} 0 1 = cc in omega arith)
  | more c ↦ absurd (omega arith)
]

pub some_at : (R : Row) (j : ℕ) → NoneEmpty R → j < length R → 1 ≤ length (items_at R j)
some_at R j s h = rw (length-items R j) (none_at R j s h)

-- the first node of a row gets a new front
line-front : (c p : ℕ) (x : Item) (new : ℕ) (m : Node) (R : Row) → full c 0 (m ∷ R) ≡ false → line (put_row c 0 p x new (m ∷ R)) ≡ (front (insert_at p x m.items), m.num) ∷ line R
line-front c p x new m R f = rw (put-room c p x new m (leb-false _ _ f))

room_above : (n m c k v new : ℕ) (L : Row) (Rs : List Row) (d : List ℕ) → 1 ≤ m → Good m c (L ∷ Rs) → has k (leaf_items k L) ≡ false → full c (leaf_of k L) L ≡ false →
    in_rows n (refresh (put_row c (leaf_of k L) (place k (leaf_items k L)) (k, v) new L) Rs) d ≡ in_rows n Rs d
room_above n m c k v new [] Rs d lo g e f = absurd (omega (arith, tower_some [] Rs g.2))
room_above n m c k v new (l ∷ L) Rs d lo g e f = go (leaf_of k (l ∷ L)) refl
  where
    keeps : (j : ℕ) → full c j (l ∷ L) ≡ false → refresh (l ∷ L) Rs ≡ Rs
    keeps j f = refresh_same (l ∷ L) Rs g.2

    go : (j : ℕ) → leaf_of k (l ∷ L) ≡ j → in_rows n (refresh (put_row c (leaf_of k (l ∷ L)) (place k (leaf_items k (l ∷ L))) (k, v) new (l ∷ L)) Rs) d ≡ in_rows n Rs d
    go zero q =
        let f0 : full c 0 (l ∷ L) ≡ false = ap (λ (j : ℕ). full c j (l ∷ L)) (sym q) ∙ f in
        rw q (
        refresh-first n (front l.items, l.num) (front (insert_at (place k l.items) (k, v) l.items), l.num) (line L) (l ∷ L)
        (put_row c 0 (place k l.items) (k, v) new (l ∷ L)) Rs d refl (line-front c (place k l.items) (k, v) new l L f0) refl (tower_solid (l ∷ L) Rs g.2) ∙
        ap (λ (Ss : List Row). in_rows n Ss d) (keeps 0 f0))
    go (suc u) q =
        let s = lands m c k (l ∷ L) Rs lo g in
        let i : items_at (l ∷ L) (leaf_of k (l ∷ L)) ≡ items_at L u = ap (items_at (l ∷ L)) q in
        let a : front (items_at L u) ≤ k = upto-at k u L (omega (arith, q)) in
        let b : 1 ≤ length (leaf_items k (l ∷ L)) = some_at (l ∷ L) (leaf_of k (l ∷ L)) (none_empty m c (l ∷ L) lo g.1) s.at in
        let h : 1 ≤ place k (leaf_items k (l ∷ L)) = place_some k (leaf_items k (l ∷ L)) b e (omega (arith, ap front i)) in
        let same_line : line (put_row c (leaf_of k (l ∷ L)) (place k (leaf_items k (l ∷ L))) (k, v) new (l ∷ L)) ≡ line (l ∷ L) =
        put-line c (leaf_of k (l ∷ L)) (place k (leaf_items k (l ∷ L))) (k, v) new (l ∷ L) f h (rw (← length-items (l ∷ L) (leaf_of k (l ∷ L))) (place_le k (leaf_items k (l ∷ L)))) in
        ap (λ (Ss : List Row). in_rows n Ss d) (by-line (put_row c (leaf_of k (l ∷ L)) (place k (leaf_items k (l ∷ L))) (k, v) new (l ∷ L)) (l ∷ L) Rs same_line ∙ keeps (leaf_of k (l ∷ L)) f)
      where
        by-line : (R R' : Row) (Ss : List Row) → line R ≡ line R' → refresh R Ss ≡ refresh R' Ss
        by-line R R' [] e = refl
        by-line R R' (S ∷ Ss) e = ap (λ (xs : List Item). rekey xs S ∷ refresh (rekey xs S) Ss) e

-- the root is the same node
pub root-refresh : (R R' : Row) (Rs : List Row) → nums R' ≡ nums R → root_above R' (refresh R' Rs) ≡ root_above R Rs
root-refresh R R' [] e = ap (λ (xs : List ℕ). get_or xs 0 0) e
root-refresh R R' (S ∷ Ss) e = root-refresh S (rekey (line R') S) Ss (rekey-nums (line R') S)

module _ (m c k v : ℕ) (new : List ℕ) (L : Row) (Rs : List Row) (lo : 1 ≤ m) (g : Good m c (L ∷ Rs)) (e : has k (leaf_items k L) ≡ false) (f : full c (leaf_of k L) L ≡ false) where
  -- a put into a leaf with room: every other node keeps its words
  pub room_words : (n : ℕ) (d : List ℕ) → n ≢ get_or (nums L) (leaf_of k L) 0 → in_tree n (put_tree c k v new (L ∷ Rs)) d ≡ in_tree n (L ∷ Rs) d
  unfolding put_tree put_leaf
  room_words n d h =
      simp (e, f)
      (put_row_words leaf_words n c (leaf_of k L) (place k (leaf_items k L)) (k, v) (get_or new 0 0) L _ f h ∙
      ap (in_row leaf_words n L) (room_above n m c k v (get_or new 0 0) L Rs d lo g e f))

  pub room-root : root (put_tree c k v new (L ∷ Rs)) ≡ root (L ∷ Rs)
  unfolding put_tree put_leaf
  room-root = simp (e, f) (root-refresh L _ Rs (put_row-room c (leaf_of k L) (place k (leaf_items k L)) (k, v) (get_or new 0 0) L f))

-- a value replaced
module _ (m c k v : ℕ) (new : List ℕ) (L : Row) (Rs : List Row) (e : has k (leaf_items k L) ≡ true) where
  pub value_words : (n : ℕ) (d : List ℕ) → n ≢ get_or (nums L) (leaf_of k L) 0 → in_tree n (put_tree c k v new (L ∷ Rs)) d ≡ in_tree n (L ∷ Rs) d
  unfolding put_tree
  value_words n d h = simp e (set_row_words leaf_words n (leaf_of k L) (place k (leaf_items k L)) (k, v) L (in_rows n Rs d) h)

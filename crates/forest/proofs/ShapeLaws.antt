-- PROOFS. Numbers decide nothing: put, remove and get commute with erasing them
use mathlib.Core.Path.{◌≡◌, refl, sym, ap, ◌∙◌}
use mathlib.Core.List.{List, [], ◌∷◌, ◌++◌, map}
use Prim.Native.Nat.{ℕ, zero, suc, ◌+◌}
use native.Mathlib.Omega.{arith}
use lib.ListN.{length, drop, get_or, length-map, length-append}
use lib.Dec.{ltb, eqb, leb}
use Rattle.forest.specs.Lists.{parent, offset}
use Rattle.forest.specs.Pairs.{Item, has, place}
use Rattle.forest.specs.Rows.{Node, Row, Tree, node, size, front, nums, sizes, fronts, joined, line, items_at, put_node, alone, healthy, heal, without, put_row, set_row, drop_row, full, rekey, refresh}
use Rattle.forest.specs.Trees.{pairs, numbers, leaf_of, leaf_items, seat, grow_up, need_up, put_leaf, put_tree, need, drop_at, lost, drop_up, trim, stand, drop_leaf, drop_above, remove_tree, get_tree}
use Rattle.forest.specs.Pools.{blank, shape}
use Rattle.forest.proofs.ListLaws.{is, isnt, test, cons_eq, map-append, map-take, map-drop, map-insert_at, map-remove_at, map-set}

-- an item with its second part changed
abbrev by : (ℕ → ℕ) → Item → Item
by g x = (x.0, g x.1)

abbrev row : (ℕ → ℕ) → Row → Row
row g R = map (blank g) R

abbrev inner : Row → Row
inner R = row (λ v. 0) R

abbrev rows : List Row → List Row
rows Rs = map inner Rs

module _ (g : ℕ → ℕ) where
  row_append : (R S : Row) → row g (R ++ S) ≡ row g R ++ row g S
  row_append R S = map-append (blank g) R S

  row_sizes : (R : Row) → sizes (row g R) ≡ sizes R
  row_sizes [] = refl
  row_sizes (n ∷ R) = cons_eq (length-map n.items (by g)) (row_sizes R)

  row_length : (R : Row) → length (row g R) ≡ length R
  row_length R = length-map R (blank g)

  by_front : (xs : List Item) → front (map (by g) xs) ≡ front xs
  by_front [] = refl
  by_front (x ∷ xs) = refl

  row_fronts : (R : Row) → fronts (row g R) ≡ fronts R
  row_fronts [] = refl
  row_fronts (n ∷ R) = cons_eq (by_front n.items) (row_fronts R)

  row_items : (R : Row) (j : ℕ) → items_at (row g R) j ≡ map (by g) (items_at R j)
  row_items [] j = refl
  row_items (n ∷ R) zero = refl
  row_items (n ∷ R) (suc j) = row_items R j

  row_line : (R : Row) → line (row g R) ≡ map (by (λ v. 0)) (line R)
  row_line [] = refl
  row_line (n ∷ R) = cons_eq (ap (λ (k : ℕ). (k, 0)) (by_front n.items)) (row_line R)

  -- places go by keys
  by_place : (k : ℕ) (xs : List Item) → place k (map (by g) xs) ≡ place k xs
  by_place k [] = refl
  by_place k (x ∷ xs) = elim (test (ltb x.0 k)) [ is e ↦ simp (e, by_place k xs) | isnt e ↦ simp e ]

  by_has : (k : ℕ) (xs : List Item) → has k (map (by g) xs) ≡ has k xs
  by_has k [] = refl
  by_has k (x ∷ xs) = elim (test (eqb k x.0)) [ is e ↦ simp e | isnt e ↦ simp (e, by_has k xs) ]

  -- steps on nodes
  blank-put : (c p : ℕ) (x : Item) (new : ℕ) (n : Node) → put_node c p (by g x) 0 (blank g n) ≡ row g (put_node c p x new n)
  unfolding put_node
  blank-put c p x new n = rw (length-map n.items (by g)) (elim (test (ltb (size n) c)) [
    | is e ↦ simp (e, map-insert_at)
    | isnt e ↦ simp (e, map-insert_at, map-take, map-drop)
  ])

  row_put : (c j p : ℕ) (x : Item) (new : ℕ) (R : Row) → put_row c j p (by g x) 0 (row g R) ≡ row g (put_row c j p x new R)
  row_put c j p x new [] = refl
  row_put c zero p x new (n ∷ R) = rw (row_append, blank-put c p x new n)
  row_put c (suc j) p x new (n ∷ R) = ap (blank g n ∷◌) (row_put c j p x new R)

  row_set : (j p : ℕ) (x : Item) (R : Row) → set_row j p (by g x) (row g R) ≡ row g (set_row j p x R)
  row_set j p x [] = refl
  row_set zero p x (n ∷ R) = rw map-set
  row_set (suc j) p x (n ∷ R) = ap (blank g n ∷◌) (row_set j p x R)

  blank-without : (p : ℕ) (n : Node) → without p (blank g n) ≡ blank g (without p n)
  blank-without p n = rw map-remove_at

  blank-alone : (n : Node) → alone (blank g n) ≡ row g (alone n)
  unfolding alone
  blank-alone n = rw (length-map n.items (by g)) (elim (test (eqb (size n) 0)) [ is e ↦ simp e | isnt e ↦ simp e ])

  blank-heal : (c : ℕ) (n m : Node) → heal c (blank g n) (blank g m) ≡ row g (heal c n m)
  unfolding heal
  blank-heal c n m =
      rw (length-map n.items (by g), length-map m.items (by g)) (elim (test (healthy c n)) [
        | is e ↦ simp e
        | isnt e ↦ elim (test (leb (size n + size m) c)) [
          | is f ↦ simp (e, f, map-append)
          | isnt f ↦
              let z : length (map (by g) n.items ++ map (by g) m.items) ≡ length (n.items ++ m.items) =
              ap length (sym (map-append (by g) n.items m.items)) ∙ length-map (n.items ++ m.items) (by g) in
              simp (e, f, z, map-take, map-drop, map-append)
        ]
      ])

  row_drop : (c j p : ℕ) (R : Row) → drop_row c j p (row g R) ≡ row g (drop_row c j p R)
  row_drop c j p [] = refl
  row_drop c zero p (n ∷ []) = rw (blank-without p n, blank-alone)
  row_drop c zero p (n ∷ m ∷ R) = rw (row_append, blank-without p n, blank-heal c (without p n) m)
  row_drop c (suc j) p (n ∷ R) = ap (blank g n ∷◌) (row_drop c j p R)

-- the rows above
inner_rekey : (xs : List Item) (R : Row) → rekey (map (by (λ v. 0)) xs) (inner R) ≡ inner (rekey xs R)
inner_rekey xs [] = refl
inner_rekey xs (n ∷ R) =
    rw (length-map n.items (by (λ v. 0)))
    (cons_eq (ap (node 0) (sym (map-take (by (λ v. 0)) (size n) xs)))
    (rw (← map-drop (by (λ v. 0)) (size n) xs) (inner_rekey (drop (size n) xs) R)))

rows_refresh : (g : ℕ → ℕ) (R : Row) (Rs : List Row) → refresh (row g R) (rows Rs) ≡ rows (refresh R Rs)
rows_refresh g R [] = refl
rows_refresh g R (S ∷ Ss) = rw (row_line g R, inner_rekey (line R) S, rows_refresh (λ v. 0) (rekey (line R) S) Ss)

rows_grow : (i : ℕ) (new : List ℕ) (Rs : List Row) → grow_up i [] (rows Rs) ≡ rows (grow_up i new Rs)
rows_grow i new [] = refl
rows_grow i new (S ∷ Ss) =
    rw (row_sizes (λ v. 0) S, row_put (λ v. 0) 8 (parent (sizes S) i) (suc (offset (sizes S) i)) seat (get_or new 0 0) S)
    (elim (test (full 8 (parent (sizes S) i) S)) [
      | is e ↦ simp (e, rows_grow (parent (sizes S) i) (drop 1 new) Ss)
      | isnt e ↦ simp e
    ])

rows_need : (i : ℕ) (Rs : List Row) → need_up i (rows Rs) ≡ need_up i Rs
rows_need i [] = refl
rows_need i (S ∷ Ss) = rw (row_sizes (λ v. 0) S, rows_need (parent (sizes S) i) Ss)

inner_drop : (i : ℕ) (S : Row) → drop_at i (inner S) ≡ inner (drop_at i S)
inner_drop i S = rw (row_sizes (λ v. 0) S, row_drop (λ v. 0) 8 (parent (sizes S) i) (offset (sizes S) i) S)

rows_drop : (i : ℕ) (Rs : List Row) → drop_up i (rows Rs) ≡ rows (drop_up i Rs)
rows_drop i [] = refl
rows_drop i (S ∷ Ss) =
    rw (inner_drop i S, row_length (λ v. 0) (drop_at i S), row_length (λ v. 0) S, row_sizes (λ v. 0) S)
    (elim (test (lost (drop_at i S) S)) [ is e ↦ simp (e, rows_drop (parent (sizes S) i) Ss) | isnt e ↦ simp e ])

rows_trim : (g : ℕ → ℕ) (R : Row) (Rs : List Row) → trim (row g R) (rows Rs) ≡ rows (trim R Rs)
rows_trim g R [] = refl
rows_trim g R (S ∷ Ss) = rw (row_length g R) (elim (test (ltb (length R) 2)) [ is e ↦ simp e | isnt e ↦ simp (e, rows_trim (λ v. 0) S Ss) ])

-- the leaf row
abbrev leaf : Row → Row
leaf L = row (λ v. v) L

by_same : (xs : List Item) → map (by (λ v. v)) xs ≡ xs
by_same [] = refl
by_same (x ∷ xs) = ap (x ∷◌) (by_same xs)

module _ (c k : ℕ) (L : Row) where
  leaf_of_lem : leaf_of k (leaf L) ≡ leaf_of k L
  leaf_of_lem = rw (row_fronts (λ v. v) L)

  leaf_items_lem : leaf_items k (leaf L) ≡ leaf_items k L
  leaf_items_lem = rw leaf_of_lem (row_items (λ v. v) L (leaf_of k L) ∙ by_same (items_at L (leaf_of k L)))

  leaf_full : full c (leaf_of k L) (leaf L) ≡ full c (leaf_of k L) L
  leaf_full = rw (row_sizes (λ v. v) L)

  leaf_put : (v : ℕ) (new : List ℕ) → put_leaf c k v [] (leaf L) ≡ leaf (put_leaf c k v new L)
  unfolding put_leaf
  leaf_put v new = rw (leaf_items_lem, leaf_of_lem) (row_put (λ v. v) c (leaf_of k L) (place k (leaf_items k L)) (k, v) (get_or new 0 0) L)

  leaf_drop : drop_leaf c k (leaf L) ≡ leaf (drop_leaf c k L)
  unfolding drop_leaf
  leaf_drop = rw (leaf_items_lem, leaf_of_lem) (row_drop (λ v. v) c (leaf_of k L) (place k (leaf_items k L)) L)

  leaf_lost : lost (drop_leaf c k (leaf L)) (leaf L) ≡ lost (drop_leaf c k L) L
  leaf_lost = rw (leaf_drop, row_length (λ v. v) (drop_leaf c k L), row_length (λ v. v) L)

  leaf_above : (Rs : List Row) → drop_above c k (leaf L) (rows Rs) ≡ rows (drop_above c k L Rs)
  unfolding drop_above
  leaf_above Rs = rw (leaf_lost, leaf_of_lem, rows_drop (leaf_of k L) Rs) (elim (test (lost (drop_leaf c k L) L)) [ is e ↦ simp e | isnt e ↦ simp e ])

shape-stand : (L : Row) (Rs : List Row) → stand (leaf L) (rows Rs) ≡ shape (stand L Rs)
shape-stand [] Rs = refl
shape-stand (n ∷ L) Rs = ap (leaf (n ∷ L) ∷◌) (ap (refresh (leaf (n ∷ L))) (rows_trim (λ v. v) (n ∷ L) Rs) ∙ rows_refresh (λ v. v) (n ∷ L) (trim (n ∷ L) Rs))

-- the shape afterwards, the need and what is held go by the shape before
pub shape-put : (c k v : ℕ) (new : List ℕ) (t : Tree) → shape (put_tree c k v new t) ≡ put_tree c k v [] (shape t)
unfolding put_tree
shape-put c k v new [] = refl
shape-put c k v new (L ∷ Rs) =
    rw (leaf_items_lem c k L, leaf_of_lem c k L, leaf_full c k L, leaf_put c k L v new) (elim (test (has k (leaf_items k L))) [
      | is e ↦ simp e (ap (◌∷ rows Rs) (sym (row_set (λ v. v) (leaf_of k L) (place k (leaf_items k L)) (k, v) L)))
      | isnt e ↦ simp e (ap (leaf (put_leaf c k v new L) ∷◌) (elim (test (full c (leaf_of k L) L)) [
        | is f ↦ simp f (sym (ap (refresh (leaf (put_leaf c k v new L))) (rows_grow (leaf_of k L) (drop 1 new) Rs) ∙ rows_refresh (λ v. v) (put_leaf c k v new L) (grow_up (leaf_of k L) (drop 1 new) Rs)))
        | isnt f ↦ simp f (sym (rows_refresh (λ v. v) (put_leaf c k v new L) Rs))
      ]))
    ])

pub shape-need : (c k : ℕ) (t : Tree) → need c k (shape t) ≡ need c k t
unfolding need
shape-need c k [] = refl
shape-need c k (L ∷ Rs) = rw (leaf_items_lem c k L, leaf_of_lem c k L, leaf_full c k L, rows_need (leaf_of k L) Rs)

pub shape_get : (k : ℕ) (t : Tree) → get_tree k (shape t) ≡ get_tree k t
unfolding get_tree
shape_get k [] = refl
shape_get k (L ∷ Rs) = rw (leaf_items_lem 7 k L)

pub shape_remove : (c k : ℕ) (t : Tree) → shape (remove_tree c k t) ≡ remove_tree c k (shape t)
unfolding remove_tree
shape_remove c k [] = refl
shape_remove c k (L ∷ Rs) = rw (leaf_items_lem c k L, leaf_drop c k L, leaf_above c k L Rs) (elim (test (has k (leaf_items k L))) [
  | is e ↦ simp e (sym (shape-stand (drop_leaf c k L) (drop_above c k L Rs)))
  | isnt e ↦ simp e
])

-- as many nodes as before
pub shape_nodes : (t : Tree) → length (numbers (shape t)) ≡ length (numbers t)
shape_nodes [] = refl
shape_nodes (L ∷ Rs) = step (λ v. v) L (rows Rs) Rs (go Rs)
  where
    step : (g : ℕ → ℕ) (S : Row) (Qs Ss : List Row) → length (numbers Qs) ≡ length (numbers Ss) → length (numbers (row g S ∷ Qs)) ≡ length (numbers (S ∷ Ss))
    step g S Qs Ss e = omega (arith, length-append (nums (row g S)) (numbers Qs), length-append (nums S) (numbers Ss), length-map (row g S) (λ n. n.num), length-map S (λ n. n.num), row_length g S)

    go : (Rs : List Row) → length (numbers (rows Rs)) ≡ length (numbers Rs)
    go [] = refl
    go (S ∷ Ss) = step (λ v. 0) S (rows Ss) Ss (go Ss)

-- What a shape settles: the levels, the pairs, the entries of each leaf, and the keys of each node

pub shape-levels : (t : Tree) → length (shape t) ≡ length t
shape-levels [] = refl
shape-levels (L ∷ Rs) = ap suc (length-map Rs inner)

-- of each node the keys, the first one too, which no word stores
abbrev pub row_keys : Row → List (List ℕ)
row_keys R = map (λ n. map (λ (x : Item). x.0) n.items) R

-- of each leaf the entries
abbrev pub leaf_entries : Tree → List (List Item)
leaf_entries [] = []
leaf_entries (L ∷ Rs) = map (λ n. n.items) L

by_keys : (g : ℕ → ℕ) (xs : List Item) → map (λ (x : Item). x.0) (map (by g) xs) ≡ map (λ (x : Item). x.0) xs
by_keys g [] = refl
by_keys g (x ∷ xs) = ap (x.0 ∷◌) (by_keys g xs)

row_keys_lem : (g : ℕ → ℕ) (R : Row) → row_keys (row g R) ≡ row_keys R
row_keys_lem g [] = refl
row_keys_lem g (n ∷ R) = cons_eq (by_keys g n.items) (row_keys_lem g R)

rows_keys : (Rs : List Row) → map row_keys (rows Rs) ≡ map row_keys Rs
rows_keys [] = refl
rows_keys (S ∷ Ss) = cons_eq (row_keys_lem (λ v. 0) S) (rows_keys Ss)

pub shape-keys : (t : Tree) → map row_keys (shape t) ≡ map row_keys t
shape-keys [] = refl
shape-keys (L ∷ Rs) = cons_eq (row_keys_lem (λ v. v) L) (rows_keys Rs)

pub shape_entries : (t : Tree) → leaf_entries (shape t) ≡ leaf_entries t
shape_entries [] = refl
shape_entries (L ∷ Rs) = go L
  where
    go : (L : Row) → map (λ n. n.items) (leaf L) ≡ map (λ n. n.items) L
    go [] = refl
    go (n ∷ L) = cons_eq (by_same n.items) (go L)

pub shape-pairs : (t : Tree) → pairs (shape t) ≡ pairs t
shape-pairs [] = refl
shape-pairs (L ∷ Rs) = go L
  where
    go : (L : Row) → joined (leaf L) ≡ joined L
    go [] = refl
    go (n ∷ L) = rw (by_same n.items, go L)

pub record OneContent (x y : Tree) : Type 0 where
  pub levels : length x ≡ length y
  pub same_pairs : pairs x ≡ pairs y
  pub entries : leaf_entries x ≡ leaf_entries y
  pub keys : map row_keys x ≡ map row_keys y

pub shape_settles : (x y : Tree) → shape x ≡ shape y → OneContent x y
shape_settles x y e = record {
  levels = sym (shape-levels x) ∙ ap length e ∙ shape-levels y;
  same_pairs = sym (shape-pairs x) ∙ ap pairs e ∙ shape-pairs y;
  entries = sym (shape_entries x) ∙ ap leaf_entries e ∙ shape_entries y;
  keys = sym (shape-keys x) ∙ ap (map row_keys) e ∙ shape-keys y;
}

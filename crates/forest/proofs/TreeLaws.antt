-- PROOFS. One tree: its pairs, that it stays well formed, and its numbers
use mathlib.Core.Path.{◌≡◌, refl, sym, ap, ◌∙◌}
use mathlib.Core.List.{List, [], ◌∷◌, ◌++◌, append-nil}
use mathlib.Core.Bool.{true, false, cond}
use mathlib.Core.Option.{Option, none, some}
use Prim.Native.Nat.{ℕ, zero, suc, ◌+◌, ◌*◌, ◌≤◌, ◌<◌}
use native.Mathlib.Omega.{arith}
use lib.ListN.{length, take, drop, get_or, set, length-map, length-drop}
use lib.Dec.{leb}
use borrow.Author.Tests.{ltb-true, ltb-false, leb-true, leb-false}
use Rattle.forest.specs.Lists.{sum, total}
use Rattle.forest.specs.Pairs.{Item, Above, Rising, insert, delete, lookup, has, place}
use Rattle.forest.specs.Rows.{Node, Row, Tree, node, size, front, nums, sizes, joined, line, items_at, Fill, Good, put_row, set_row, drop_row, full}
use Rattle.forest.specs.Trees.{pairs, numbers, leaf_of, leaf_items, grow_up, need_up, put_leaf, put_tree, need, lost, freed_up, trim, trimmed, stand, drop_leaf, drop_above, remove_tree, freed, get_tree}
use Rattle.forest.proofs.ListLaws.{is, isnt, test, tests, total-append, total-insert_at, total-remove_at, total_head, total-length, drop_one}
use Rattle.forest.proofs.PairLaws.{Below, above_trans, below_le, rising_left, rising_right, rising_seam, has_left, has_right, lookup_left, lookup_right, place_left, place_right, place_le, place_lt, place-insert, place_set, place-delete, place_key, delete_none, set_same, lookup-has, rising_insert, rising_delete}
use Rattle.forest.proofs.RowLaws.{length-items, put_row-joined, put_row-room, put_row-full, put_row_fill, set_row-joined, set_row-sizes, set_row-nums, set_row-line, drop_row_joined, drop_row_kept, drop_row_lost, drop_row_length, drop_row_fill}
use Rattle.forest.proofs.TowerLaws.{Levels, Stack, tower_some, tower_levels, tower_line, refresh_tower, put_row-length-room, put_row-length-full, grow_levels, levels_stack, drop-levels, trim_levels, refresh-numbers, weight, grow_weight, drop_weight, trim_weight}

-- Where a key is: what holds in its leaf holds in the whole row
abbrev pub NoneEmpty : Row → Type 0
NoneEmpty [] = Unit {0}
NoneEmpty (n ∷ R) = (1 ≤ size n) × NoneEmpty R

pub none_empty : (m c : ℕ) (R : Row) → 1 ≤ m → Fill m c (sizes R) → NoneEmpty R
none_empty m c [] h f = tt
none_empty m c (n ∷ []) h f = (f.0, tt)
none_empty m c (n ∷ l ∷ R) h f = (omega arith, none_empty m c (l ∷ R) h f.2)

pub none_at : (R : Row) (j : ℕ) → NoneEmpty R → j < length R → 1 ≤ get_or (sizes R) j 0
none_at [] j s h = absurd (omega arith)
none_at (n ∷ R) zero s h = s.0
none_at (n ∷ R) (suc j) s h = none_at R j s.1 (omega arith)

below_front : (k : ℕ) (xs ys zs : List Item) → 1 ≤ length ys → Rising (xs ++ (ys ++ zs)) → front ys ≤ k → Below xs k
below_front k xs [] zs h r e = absurd (omega arith)
below_front k xs (y ∷ ys) zs h r e = below_le xs y.0 k e (rising_seam xs y (ys ++ zs) r)

above_front : (k : ℕ) (ys zs : List Item) → 1 ≤ length ys → Rising (ys ++ zs) → k < front ys → Above k (ys ++ zs)
above_front k [] zs h r e = absurd (omega arith)
above_front k (y ∷ ys) zs h r e = (e, above_trans k y.0 (ys ++ zs) e r.0)

pub record Lands (k : ℕ) (L : Row) : Type 0 where
  pub at : leaf_of k L < length L
  pub places : place k (joined L) ≡ sum (take (leaf_of k L) (sizes L)) + place k (leaf_items k L)
  pub hases : has k (joined L) ≡ has k (leaf_items k L)
  pub lookups : lookup k (joined L) ≡ lookup k (leaf_items k L)
  pub rises : Rising (leaf_items k L)

lands_cons : (k : ℕ) (n : Node) (R : Row) → NoneEmpty R → Rising (joined (n ∷ R)) → Lands k (n ∷ R)
lands_cons k n [] h r = record {
  at = omega arith;
  places = simp append-nil (omega arith);
  hases = simp append-nil;
  lookups = simp append-nil;
  rises = rising_left n.items [] r;
}
lands_cons k n (m ∷ R) h r = elim (test (leb (front m.items) k)) [
  | is e ↦
      let b = below_front k n.items m.items (joined R) h.0 r (leb-true _ _ e) in
      let s = lands_cons k m R h.1 (rising_right n.items (joined (m ∷ R)) r) in
      record {
        at = simp e (omega (arith, s.at));
        places = simp e (omega (arith, s.places, place_right k n.items (joined (m ∷ R)) b));
        hases = simp e (has_right k n.items (joined (m ∷ R)) b ∙ s.hases);
        lookups = simp e (lookup_right k n.items (joined (m ∷ R)) b ∙ s.lookups);
        rises = simp e s.rises;
      }
  | isnt e ↦
      let a = above_front k m.items (joined R) h.0 (rising_right n.items (joined (m ∷ R)) r) (leb-false _ _ e) in
      record {
        at = simp e (omega arith);
        places = simp e (omega (arith, place_left k n.items (joined (m ∷ R)) a));
        hases = simp e (has_left k n.items (joined (m ∷ R)) a);
        lookups = simp e (lookup_left k n.items (joined (m ∷ R)) a);
        rises = simp e (rising_left n.items (joined (m ∷ R)) r);
      }
]

pub lands : (m c k : ℕ) (L : Row) (Rs : List Row) → 1 ≤ m → Good m c (L ∷ Rs) → Lands k L
lands m c k [] Rs h g = absurd (omega (arith, tower_some [] Rs g.2))
lands m c k (n ∷ R) Rs h g = lands_cons k n R (none_empty m c (n ∷ R) h g.1).1 g.0

-- the leaf row, by where the key lands
module _ (c k : ℕ) (L : Row) (s : Lands k L) where
  put-joined : (v new : ℕ) → Rising (joined L) → has k (leaf_items k L) ≡ false →
      joined (put_row c (leaf_of k L) (place k (leaf_items k L)) (k, v) new L) ≡ insert k v (joined L)
  put-joined v new r e =
      rw (
        put_row-joined c (leaf_of k L) (place k (leaf_items k L)) (k, v) new L s.at (rw (← length-items L (leaf_of k L)) (place_le k (leaf_items k L))),
        ← s.places,
        place-insert k v (joined L) r (s.hases ∙ e),
      )

  place_in : has k (leaf_items k L) ≡ true → place k (leaf_items k L) < get_or (sizes L) (leaf_of k L) 0
  place_in e = rw (← length-items L (leaf_of k L)) (place_lt k (leaf_items k L) s.rises e)

  set-joined : (v : ℕ) → Rising (joined L) → has k (leaf_items k L) ≡ true →
      joined (set_row (leaf_of k L) (place k (leaf_items k L)) (k, v) L) ≡ insert k v (joined L)
  set-joined v r e =
      rw (
        set_row-joined (leaf_of k L) (place k (leaf_items k L)) (k, v) L s.at (place_in e),
        ← s.places,
        place_set k v (joined L) r (s.hases ∙ e),
      )

  drop-joined : Rising (joined L) → has k (leaf_items k L) ≡ true → joined (drop_leaf c k L) ≡ delete k (joined L)
  unfolding drop_leaf
  drop-joined r e =
      rw (
        drop_row_joined c (leaf_of k L) (place k (leaf_items k L)) L s.at (place_in e),
        ← s.places,
        place-delete k (joined L) r (s.hases ∙ e),
      )

  set_line : (v : ℕ) → has k (leaf_items k L) ≡ true → line (set_row (leaf_of k L) (place k (leaf_items k L)) (k, v) L) ≡ line L
  set_line v e = set_row-line (leaf_of k L) (place k (leaf_items k L)) (k, v) L (sym (place_key k (leaf_items k L) (k, v) s.rises e))

  put-length : (v new : ℕ) → length (put_row c (leaf_of k L) (place k (leaf_items k L)) (k, v) new L) ≡ cond (full c (leaf_of k L) L) (suc (length L)) (length L)
  put-length v new = elim (test (full c (leaf_of k L) L)) [
    | is e ↦ simp e (put_row-length-full c (leaf_of k L) (place k (leaf_items k L)) (k, v) new L s.at e)
    | isnt e ↦ simp e (put_row-length-room c (leaf_of k L) (place k (leaf_items k L)) (k, v) new L e)
  ]

pub stand-pairs : (L : Row) (Rs : List Row) → pairs (stand L Rs) ≡ joined L
stand-pairs [] Rs = refl
stand-pairs (n ∷ L) Rs = refl

module _ (m c k : ℕ) (lo : 1 ≤ m) where
  -- the pairs
  pub pairs-put : (v : ℕ) (new : List ℕ) (t : Tree) → Good m c t → pairs (put_tree c k v new t) ≡ insert k v (pairs t)
  unfolding put_tree put_leaf
  pairs-put v new [] g = refl
  pairs-put v new (L ∷ Rs) g =
      let s = lands m c k L Rs lo g in
      elim (test (has k (leaf_items k L))) [
        | is e ↦ simp e (set-joined c k L s v g.0 e)
        | isnt e ↦ simp e (put-joined c k L s v (get_or new 0 0) g.0 e)
      ]

  pub pairs_remove : (t : Tree) → Good m c t → pairs (remove_tree c k t) ≡ delete k (pairs t)
  unfolding remove_tree
  pairs_remove [] g = refl
  pairs_remove (L ∷ Rs) g =
      let s = lands m c k L Rs lo g in
      elim (test (has k (leaf_items k L))) [
        | is e ↦ simp (e, stand-pairs) (drop-joined c k L s g.0 e)
        | isnt e ↦ simp e (sym (delete_none k (joined L) (s.hases ∙ e)))
      ]

  pub pairs_get : (t : Tree) → Good m c t → get_tree k t ≡ lookup k (pairs t)
  unfolding get_tree
  pairs_get [] g = refl
  pairs_get (L ∷ Rs) g = sym (lands m c k L Rs lo g).lookups

  -- the tree stays well formed
  module _ (two : 2 ≤ c) (hi : 2 * m ≤ suc c) where
    pub good_put : (v : ℕ) (new : List ℕ) (t : Tree) → Good m c t → Good m c (put_tree c k v new t)
    unfolding put_tree put_leaf
    good_put v new [] g = ((tt, tt), (omega arith, omega arith, tt), refl)
    good_put v new (L ∷ Rs) g =
        let s = lands m c k L Rs lo g in
        let ls = tower_levels L Rs g.2 in
        elim (test (has k (leaf_items k L))) [
          | is e ↦ simp e (
            rw (set-joined c k L s v g.0 e) (rising_insert k v (joined L) g.0),
            rw (set_row-sizes (leaf_of k L) (place k (leaf_items k L)) (k, v) L) g.1,
            tower_line L (set_row (leaf_of k L) (place k (leaf_items k L)) (k, v) L) Rs (set_line c k L s v e) g.2,
          )
          | isnt e ↦ simp e (
            rw (put-joined c k L s v (get_or new 0 0) g.0 e) (rising_insert k v (joined L) g.0),
            put_row_fill c m (leaf_of k L) (place k (leaf_items k L)) (k, v) (get_or new 0 0) L lo (omega arith) (omega arith) g.1,
            refresh_tower (put_row c (leaf_of k L) (place k (leaf_items k L)) (k, v) (get_or new 0 0) L)
                (cond (full c (leaf_of k L) L) (grow_up (leaf_of k L) (drop 1 new) Rs) Rs)
                (rw (put-length c k L s v (get_or new 0 0))
                (elim (test (full c (leaf_of k L) L)) [
                  | is f ↦ simp f (grow_levels (length L) Rs (leaf_of k L) (drop 1 new) s.at ls)
                  | isnt f ↦ simp f ls
                ])),
          )
        ]

    stand-good : (L : Row) (Rs : List Row) → Rising (joined L) → Fill m c (sizes L) → (1 ≤ length L → Stack (length L) Rs) → Good m c (stand L Rs)
    stand-good [] Rs r f w = tt
    stand-good (n ∷ L) Rs r f w = (r, f, refresh_tower (n ∷ L) (trim (n ∷ L) Rs) (trim_levels (n ∷ L) Rs (w (omega arith))))

    pub drop-length : (L : Row) → (length (drop_leaf c k L) ≤ length L) × (length L ≤ suc (length (drop_leaf c k L)))
    unfolding drop_leaf
    drop-length L = drop_row_length c (leaf_of k L) (place k (leaf_items k L)) L

    drop-fill : (L : Row) → Lands k L → has k (leaf_items k L) ≡ true → Fill m c (sizes L) → Fill m c (sizes (drop_leaf c k L))
    unfolding drop_leaf
    drop-fill L s e f = drop_row_fill c m lo (omega arith) (leaf_of k L) (place k (leaf_items k L)) L (place_in c k L s e) f

    drop-stack : (L : Row) (Rs : List Row) → Lands k L → Levels (length L) Rs → 1 ≤ length (drop_leaf c k L) → Stack (length (drop_leaf c k L)) (drop_above c k L Rs)
    unfolding drop_above
    drop-stack L Rs s w h =
        let z = drop-length L in
        elim (test (lost (drop_leaf c k L) L)) [
          | is e ↦
              let q : length L ≡ suc (length (drop_leaf c k L)) = omega tests in
              simp e (drop-levels (length (drop_leaf c k L)) Rs (leaf_of k L) h (rw q at s.at) (rw q at w))
          | isnt e ↦
              let q : length (drop_leaf c k L) ≡ length L = omega tests in
              simp e (rw q (levels_stack (length L) Rs w))
        ]

    pub good_remove : (t : Tree) → Good m c t → Good m c (remove_tree c k t)
    unfolding remove_tree
    good_remove [] g = tt
    good_remove (L ∷ Rs) g =
        let s = lands m c k L Rs lo g in
        elim (test (has k (leaf_items k L))) [
          | is e ↦ simp e (stand-good (drop_leaf c k L) (drop_above c k L Rs)
              (rw (drop-joined c k L s g.0 e) (rising_delete k (joined L) g.0))
              (drop-fill L s e g.1)
              (drop-stack L Rs s (tower_levels L Rs g.2)))
          | isnt e ↦ simp e g
        ]

  -- the numbers: what a put takes, and what a remove frees
  module _ (w : ℕ → ℕ) where
    pub weight_put : (v : ℕ) (new : List ℕ) (t : Tree) → Good m c t → need c k t ≤ length new →
        weight w (put_tree c k v new t) + total w (drop (need c k t) new) ≡ weight w t + total w new
    unfolding put_tree put_leaf need
    weight_put v new [] g h = omega (arith, total_head w new h)
    weight_put v new (L ∷ Rs) g h =
        let s = lands m c k L Rs lo g in
        let ls = tower_levels L Rs g.2 in
        elim (test (has k (leaf_items k L))) [
          | is e ↦ simp (e, set_row-nums)
          | isnt e ↦ elim (test (full c (leaf_of k L) L)) [
            | is f ↦
                let u : suc (need_up (leaf_of k L) Rs) ≤ length new = simp (e, f) at h in
                simp (e, f, put_row-full c (leaf_of k L) (place k (leaf_items k L)) (k, v) (get_or new 0 0) L s.at f, refresh-numbers, total-append)
                (omega (
                  arith,
                  total-insert_at w (suc (leaf_of k L)) (get_or new 0 0) (nums L),
                  total_head w new (omega arith),
                  ap (total w) (drop_one (need_up (leaf_of k L) Rs) new),
                  grow_weight w (length L) Rs (leaf_of k L) (drop 1 new) s.at ls (rw length-drop (omega arith)),
                ))
            | isnt f ↦ simp (e, f, put_row-room c (leaf_of k L) (place k (leaf_items k L)) (k, v) (get_or new 0 0) L f, refresh-numbers)
          ]
        ]

    stand-weight : (L : Row) (Rs : List Row) → (length L ≡ 0 → Rs ≡ []) → weight w (stand L Rs) + total w (trimmed L Rs) ≡ total w (nums L) + weight w Rs
    stand-weight [] Rs z = rw (z refl)
    stand-weight (n ∷ L) Rs z = simp refresh-numbers (omega (arith, total-append w (nums (n ∷ L)) (numbers (trim (n ∷ L) Rs)), trim_weight w (n ∷ L) Rs))

    -- where the last leaf goes there was no row above
    drop-none : (L : Row) (Rs : List Row) → Lands k L → Levels (length L) Rs → length (drop_leaf c k L) ≡ 0 → drop_above c k L Rs ≡ []
    unfolding drop_above drop_leaf
    drop-none L [] s l h = elim (test (lost (drop_row c (leaf_of k L) (place k (leaf_items k L)) L) L)) [ is e ↦ simp e | isnt e ↦ simp e ]
    drop-none L (S ∷ Ss) s l h = absurd (omega (arith, drop_row_length c (leaf_of k L) (place k (leaf_items k L)) L))

    drop-lost : (L : Row) (Rs : List Row) → Lands k L → Levels (length L) Rs → lost (drop_leaf c k L) L ≡ true →
        total w (nums (drop_leaf c k L)) + weight w (drop_above c k L Rs) + (w (get_or (nums L) (leaf_of k L) 0) + total w (freed_up (leaf_of k L) Rs)) ≡ total w (nums L) + weight w Rs
    unfolding drop_above drop_leaf
    drop-lost L Rs s l e =
        simp (e, drop_row_lost c (leaf_of k L) (place k (leaf_items k L)) L (ltb-true _ _ e))
        (omega (
          arith,
          total-remove_at w (leaf_of k L) (nums L) (rw (length-map L (λ n. n.num)) s.at),
          drop_weight w (length L) Rs (leaf_of k L) s.at l,
        ))

    drop-kept : (L : Row) (Rs : List Row) → lost (drop_leaf c k L) L ≡ false →
        total w (nums (drop_leaf c k L)) + weight w (drop_above c k L Rs) ≡ total w (nums L) + weight w Rs
    unfolding drop_above drop_leaf
    drop-kept L Rs e = simp (e, drop_row_kept c (leaf_of k L) (place k (leaf_items k L)) L (ltb-false _ _ e))

    pub weight_remove : (t : Tree) → Good m c t → weight w (remove_tree c k t) + total w (freed c k t) ≡ weight w t
    unfolding remove_tree freed
    weight_remove [] g = refl
    weight_remove (L ∷ Rs) g =
        let s = lands m c k L Rs lo g in
        let ls = tower_levels L Rs g.2 in
        elim (test (has k (leaf_items k L))) [
          | is e ↦
              let z = stand-weight (drop_leaf c k L) (drop_above c k L Rs) (drop-none L Rs s ls) in
              elim (test (lost (drop_leaf c k L) L)) [
                | is f ↦ simp (e, f, total-append) (omega (arith, drop-lost L Rs s ls f))
                | isnt f ↦ simp (e, f, total-append) (omega (arith, drop-kept L Rs f))
              ]
          | isnt e ↦ simp e (omega arith)
        ]

  -- the nodes: as many more as the put needs, as many fewer as the remove frees
  pub nodes_put : (v : ℕ) (new : List ℕ) (t : Tree) → Good m c t → need c k t ≤ length new → length (numbers (put_tree c k v new t)) ≡ length (numbers t) + need c k t
  nodes_put v new t g h = omega (
    arith,
    weight_put (λ x. 1) v new t g h,
    total-length (numbers (put_tree c k v new t)),
    total-length (numbers t),
    total-length new,
    total-length (drop (need c k t) new),
    length-drop (need c k t) new,
  )

  pub nodes_remove : (t : Tree) → Good m c t → length (numbers (remove_tree c k t)) + length (freed c k t) ≡ length (numbers t)
  nodes_remove t g = omega (
    arith,
    weight_remove (λ x. 1) t g,
    total-length (numbers (remove_tree c k t)),
    total-length (numbers t),
    total-length (freed c k t),
  )

  -- a value that is held, put again
  pub put_same : (v : ℕ) (new : List ℕ) (t : Tree) → Good m c t → get_tree k t ≡ some v → put_tree c k v new t ≡ t
  unfolding put_tree get_tree
  put_same v new [] g h = absurd (let y : ◌≡◌ {A = ℕ} 0 1 = cc in omega arith)
  put_same v new (L ∷ Rs) g h =
      let s = lands m c k L Rs lo g in
      elim (test (has k (leaf_items k L))) [
        | is e ↦ simp e (ap (◌∷ Rs) (same (leaf_of k L) (place k (leaf_items k L)) L (set_same k v (leaf_items k L) s.rises h)))
        | isnt e ↦ absurd (let z : ◌≡◌ {A = Option ℕ} none (some v) = sym (lookup-has k (leaf_items k L) e) ∙ h in let y : ◌≡◌ {A = ℕ} 0 1 = cc in omega arith)
      ]
    where
      same : (j p : ℕ) (R : Row) → set (items_at R j) p (k, v) ≡ items_at R j → set_row j p (k, v) R ≡ R
      same j p [] e = refl
      same zero p (n ∷ R) e = ap (λ (xs : List Item). node n.num xs ∷ R) e
      same (suc j) p (n ∷ R) e = ap (n ∷◌) (same j p R e)

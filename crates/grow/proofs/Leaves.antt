-- PROOFS. A put on one tree, in the store: it holds the rows of the definition, and changes no number but those of the tree and those taken
use mathlib.Core.Path.{◌≡◌, refl, ap, ◌∙◌}
use mathlib.Core.List.{List, [], ◌∷◌}
use mathlib.Core.Bool.{true, false, cond}
use Prim.Native.Nat.{ℕ, zero, suc, ◌+◌, ◌≤◌, ◌<◌}
use native.Mathlib.Omega.{arith}
use lib.ListN.{length, take, drop, get_or, set, length-drop}
use lib.Dec.{eqb}
use borrow.Author.Tests.{eq-eqb}
use Rattle.forest.specs.Lists.{insert_at, once, count}
use Rattle.forest.specs.Pairs.{Item, has, place}
use Rattle.forest.specs.Rows.{Row, Tree, node, front, nums, line, items_at, keeps, put_row, set_row, full, refresh, Good}
use Rattle.forest.specs.Trees.{numbers, leaf_of, leaf_items, grow_up, need_up, put_leaf, put_tree, need}
use Rattle.forest.specs.Pools.{leaf_words, root_above, root}
use Rattle.forest.proofs.ListLaws.{is, isnt, test, total-insert_at, total_head}
use Rattle.forest.proofs.RowLaws.{put_row-room, put_row-full, keeps-fits, set_row-nums}
use Rattle.forest.proofs.TreeLaws.{NoneEmpty, none_empty, lands}
use Rattle.forest.proofs.TowerLaws
use Rattle.pool.specs.Stores.{Store, put}
use Rattle.pool.proofs.Spell.{put_same, put_other}
use Rattle.grow.specs.Grows.{num_at, Holds, HoldsUp, left_part, right_part, cut_store, leaf_store, leaf_root}
use Rattle.grow.proofs.Lead
use Rattle.grow.proofs.Change
use Rattle.grow.proofs.Mem
use Rattle.grow.proofs.Up
pub use Rattle.pool.proofs.HeldTrees.{HoldsTree}
use Rattle.forest.proofs.FrameLaws.{upto-at, place_some, some_at, root-refresh}
use Rattle.forest.proofs.NodeForms.{front-put}

-- the store and the root once x has come to place p of the j-th leaf, which has room or is cut
abbrev pub entry_store : ℕ → ℕ → Item → List ℕ → Row → List Row → Store → Store
entry_store j p x new L Rs st = cond (full 7 j L) (leaf_store j p x new L Rs st) (put st (num_at L j) (leaf_words (insert_at p x (items_at L j))))

abbrev pub entry_root : ℕ → List ℕ → Row → List Row → ℕ
entry_root j new L Rs = cond (full 7 j L) (leaf_root j new L Rs) (root_above L Rs)

-- and after a put
abbrev pub put_store : ℕ → ℕ → List ℕ → Tree → Store → Store
put_store k v new [] st = put st (get_or new 0 0) (leaf_words ((k, v) ∷ []))
put_store k v new (L ∷ Rs) st =
    cond (has k (leaf_items k L))
    (put st (num_at L (leaf_of k L)) (leaf_words (set (leaf_items k L) (place k (leaf_items k L)) (k, v))))
    (entry_store (leaf_of k L) (place k (leaf_items k L)) (k, v) new L Rs st)

abbrev pub put_root : ℕ → List ℕ → Tree → ℕ
put_root k new [] = get_or new 0 0
put_root k new (L ∷ Rs) = cond (has k (leaf_items k L)) (root_above L Rs) (entry_root (leaf_of k L) new L Rs)

behind : (k : ℕ) (L : Row) → NoneEmpty L → leaf_of k L < length L → has k (leaf_items k L) ≡ false → 1 ≤ leaf_of k L → 1 ≤ place k (leaf_items k L)
behind k [] s h e b = absurd (omega arith)
behind k (l ∷ L) s h e b = go (leaf_of k (l ∷ L)) refl b
  where
    go : (j : ℕ) → leaf_of k (l ∷ L) ≡ j → 1 ≤ j → 1 ≤ place k (leaf_items k (l ∷ L))
    go zero q b = absurd (omega arith)
    go (suc u) q b =
        let i : leaf_items k (l ∷ L) ≡ items_at L u = ap (items_at (l ∷ L)) q in
        let a : front (items_at L u) ≤ k = upto-at k u L (omega (arith, q)) in
        place_some k (leaf_items k (l ∷ L)) (some_at (l ∷ L) (leaf_of k (l ∷ L)) s h) e (omega (arith, ap front i))

-- the line of a row one node of which changes: the front of the first node may be another
record Led (xs ys : List Item) : Type 0 where
  first : ℕ
  same : xs ≡ Lead.lead first ys

led : (j : ℕ) (g : List Item → List Item) (L : Row) → j < length L → (1 ≤ j → front (g (items_at L j)) ≡ front (items_at L j)) → Led (line (Change.upd j g L)) (line L)
led j g [] h e = absurd (omega arith)
led zero g (n ∷ L) h e = record { first = front (g n.items); same = refl }
led (suc j) g (n ∷ L) h e = record { first = front n.items; same = Change.line_same (suc j) g (n ∷ L) (e (omega arith)) }

set-upd : (j p : ℕ) (x : Item) (L : Row) → set_row j p x L ≡ Change.upd j (λ ys. set ys p x) L
set-upd j p x [] = refl
set-upd zero p x (n ∷ L) = refl
set-upd (suc j) p x (n ∷ L) = ap (n ∷◌) (set-upd j p x L)

take_head : (y n : ℕ) (xs : List ℕ) → 1 ≤ length xs → count y (take (suc n) xs) ≡ once (eqb y (get_or xs 0 0)) + count y (take n (drop 1 xs))
take_head y n [] h = absurd (omega arith)
take_head y n (x ∷ xs) h = refl

-- an absent key, at place p of the j-th leaf
module _ (m : ℕ) (lo : 1 ≤ m) (k v : ℕ) (new : List ℕ) (L : Row) (Rs : List Row) (g : Good m 7 (L ∷ Rs)) (absent : has k (leaf_items k L) ≡ false)
    (enough : cond (full 7 (leaf_of k L) L) (suc (need_up (leaf_of k L) Rs)) 0 ≤ length new) where
  abbrev j : ℕ
  j = leaf_of k L

  abbrev p : ℕ
  p = place k (leaf_items k L)

  abbrev x : Item
  x = (k, v)

  some : NoneEmpty L
  some = none_empty m 7 L lo g.1

  at : j < length L
  at = (lands m 7 k L Rs lo g).at

  full_at : 1 ≤ length (items_at L j)
  full_at = some_at L j some at

  led_room : Led (line (Change.upd j (insert_at p x) L)) (line L)
  led_room = led j (insert_at p x) L at (λ b. front-put p x (items_at L j) (behind k L some at absent b) full_at)

  led_cut : Led (line (Change.upd j (left_part 7 p x) L)) (line L)
  led_cut = led j (left_part 7 p x) L at (λ b.
      let f = keeps-fits 7 4 p (omega arith) (omega arith) in
      Change.front-take (keeps 7 p) (insert_at p x (items_at L j)) (omega (arith, f.0)) ∙ front-put p x (items_at L j) (behind k L some at absent b) full_at)

  room-line : full 7 j L ≡ false → line (put_row 7 j p x (get_or new 0 0) L) ≡ Lead.lead led_room.first (line L)
  room-line q = ap line (Change.put_with_room 7 j p x (get_or new 0 0) L q) ∙ led_room.same

  cut_line : full 7 j L ≡ true → line (put_row 7 j p x (get_or new 0 0) L) ≡ insert_at (suc j) (front (right_part 7 p x (items_at L j)), get_or new 0 0) (Lead.lead led_cut.first (line L))
  cut_line q =
      ap line (Change.put_cuts 7 j p x (get_or new 0 0) L at q) ∙
      Change.line-insert (suc j) (node (get_or new 0 0) (right_part 7 p x (items_at L j))) (Change.upd j (left_part 7 p x) L) ∙
      ap (insert_at (suc j) (front (right_part 7 p x (items_at L j)), get_or new 0 0)) led_cut.same

  abbrev cut_at : Store → Store
  cut_at st = cut_store leaf_words (num_at L j) (left_part 7 p x (items_at L j)) (get_or new 0 0) (right_part 7 p x (items_at L j)) st

  cut_leaf_lem : (st : Store) → full 7 j L ≡ true → ((y : ℕ) → count y (nums L) + once (eqb y (get_or new 0 0)) ≤ 1) → Holds leaf_words st L →
      Holds leaf_words (cut_at st) (put_row 7 j p x (get_or new 0 0) L)
  cut_leaf_lem st q each s =
      let z = simp (eq-eqb (get_or new 0 0) (get_or new 0 0) refl) at (each (get_or new 0 0)) in
      rw (Change.put_cuts 7 j p x (get_or new 0 0) L at q)
      (Up.cut_holds leaf_words st L j (get_or new 0 0) (left_part 7 p x) (right_part 7 p x (items_at L j)) at (λ y. omega (arith, each y)) (omega arith) s)

  cut_above : (st : Store) → ((y : ℕ) → count y (nums L) + count y (numbers Rs) + once (eqb y (get_or new 0 0)) ≤ 1) → HoldsUp st Rs → HoldsUp (cut_at st) Rs
  cut_above st each s =
      Mem.up_keeps st (cut_at st) Rs (λ y h. Up.cut_keeps leaf_words st (num_at L j) (left_part 7 p x (items_at L j)) (get_or new 0 0) (right_part 7 p x (items_at L j)) y
      (λ z. let u = rw z at h in omega (arith, Mem.num_at-counts L j at, each (num_at L j)))
      (λ z. let u = simp (eq-eqb y (get_or new 0 0) z) at (each y) in omega arith)) s

  cut_counts : full 7 j L ≡ true → (y : ℕ) → count y (nums (put_row 7 j p x (get_or new 0 0) L)) ≡ once (eqb y (get_or new 0 0)) + count y (nums L)
  cut_counts q y = rw (put_row-full 7 j p x (get_or new 0 0) L at q) (total-insert_at (λ z. once (eqb y z)) (suc j) (get_or new 0 0) (nums L))

  -- the rows
  absent_holds : (st : Store) → ((y : ℕ) → count y (numbers (L ∷ Rs)) + count y new ≤ 1) → HoldsTree st (L ∷ Rs) →
      HoldsTree (entry_store j p x new L Rs st) (put_row 7 j p x (get_or new 0 0) L ∷ refresh (put_row 7 j p x (get_or new 0 0) L) (cond (full 7 j L) (grow_up j (drop 1 new) Rs) Rs))
  absent_holds st o s = elim (test (full 7 j L)) [
    | is q ↦
        let h : suc (need_up j Rs) ≤ length new = simp q at enough in
        let head : (y : ℕ) → once (eqb y (get_or new 0 0)) + count y (drop 1 new) ≡ count y new = λ y. total_head (λ z. once (eqb y z)) new (omega arith) in
        let each : (y : ℕ) → count y (nums L) + count y (numbers Rs) + once (eqb y (get_or new 0 0)) + count y (drop 1 new) ≤ 1 = λ y. omega (arith, Mem.parts y L Rs, o y, head y) in
        simp q (
          Mem.holds_keeps leaf_words (cut_at st) _ (put_row 7 j p x (get_or new 0 0) L)
              (λ y c. Up.up_keeps (root_above L Rs) j _ (drop 1 new) (length L) Rs (cut_at st) at (TowerLaws.tower_levels L Rs g.2) (rw length-drop (omega arith)) y
              (omega (arith, Up.count-take y (need_up j Rs) (drop 1 new), each y, cut_counts q y)))
              (cut_leaf_lem st q (λ y. omega (arith, each y)) s.0),
          Up.up_holds led_cut.first L (put_row 7 j p x (get_or new 0 0) L) Rs (root_above L Rs) j _ (drop 1 new) (cut_at st) g.2 at (cut_line q) refl (rw length-drop (omega arith))
              (λ y. omega (arith, each y)) (cut_above st (λ y. omega (arith, each y)) s.1),
        )
    | isnt q ↦ simp q (
      rw (Change.put_with_room 7 j p x (get_or new 0 0) L q) (Mem.holds_upd leaf_words st L j (insert_at p x) _ at (λ y. omega (arith, Mem.parts y L Rs, o y)) refl s.0),
      Up.up_lead led_room.first L (put_row 7 j p x (get_or new 0 0) L) Rs _ g.2 (room-line q)
          (Mem.up_keeps st _ Rs (λ y c. put_other st (num_at L j) (leaf_words (insert_at p x (items_at L j))) y
          (λ z. let u = rw z at c in omega (arith, Mem.num_at-counts L j at, Mem.parts (num_at L j) L Rs, o (num_at L j)))) s.1),
    )
  ]

  absent_keeps : (st : Store) (y : ℕ) → count y (numbers (L ∷ Rs)) + count y (take (cond (full 7 j L) (suc (need_up j Rs)) 0) new) ≡ 0 → entry_store j p x new L Rs st y ≡ st y
  absent_keeps st y c =
      let other : y ≡ num_at L j → ⊥ = Mem.apart (nums L) y (num_at L j) (omega (arith, Mem.parts y L Rs)) (Mem.num_at-counts L j at) in
      elim (test (full 7 j L)) [
        | is q ↦
            let h : suc (need_up j Rs) ≤ length new = simp q at enough in
            let d = simp q at c in
            let t = take_head y (need_up j Rs) new (omega arith) in
            simp q
            (Up.up_keeps (root_above L Rs) j _ (drop 1 new) (length L) Rs (cut_at st) at (TowerLaws.tower_levels L Rs g.2) (rw length-drop (omega arith)) y (omega (arith, Mem.parts y L Rs)) ∙
            Up.cut_keeps leaf_words st (num_at L j) (left_part 7 p x (items_at L j)) (get_or new 0 0) (right_part 7 p x (items_at L j)) y other
            (λ z. let u = simp (eq-eqb y (get_or new 0 0) z) at t in omega arith))
        | isnt q ↦ simp q (put_other st (num_at L j) (leaf_words (insert_at p x (items_at L j))) y other)
      ]

  absent_root : root_above (put_row 7 j p x (get_or new 0 0) L) (refresh (put_row 7 j p x (get_or new 0 0) L) (cond (full 7 j L) (grow_up j (drop 1 new) Rs) Rs)) ≡ entry_root j new L Rs
  absent_root = elim (test (full 7 j L)) [
    | is q ↦ simp q (Up.up_root_lem led_cut.first L (put_row 7 j p x (get_or new 0 0) L) Rs (root_above L Rs) j _ (drop 1 new) g.2 at (cut_line q) refl)
    | isnt q ↦ simp q (root-refresh L (put_row 7 j p x (get_or new 0 0) L) Rs (put_row-room 7 j p x (get_or new 0 0) L q))
  ]

-- a present key: its value is replaced
module _ (m : ℕ) (lo : 1 ≤ m) (k v : ℕ) (L : Row) (Rs : List Row) (g : Good m 7 (L ∷ Rs)) where
  present_at : leaf_of k L < length L
  present_at = (lands m 7 k L Rs lo g).at

  present_holds : (st : Store) → ((y : ℕ) → count y (numbers (L ∷ Rs)) ≤ 1) → HoldsTree st (L ∷ Rs) →
      HoldsTree (put st (num_at L (leaf_of k L)) (leaf_words (set (leaf_items k L) (place k (leaf_items k L)) (k, v)))) (set_row (leaf_of k L) (place k (leaf_items k L)) (k, v) L ∷ Rs)
  present_holds st o s = (
    rw (set-upd (leaf_of k L) (place k (leaf_items k L)) (k, v) L)
        (Mem.holds_upd leaf_words st L (leaf_of k L) (λ ys. set ys (place k (leaf_items k L)) (k, v)) _ present_at (λ y. omega (arith, Mem.parts y L Rs, o y)) refl s.0),
    Mem.up_keeps st _ Rs (λ y c. put_other st (num_at L (leaf_of k L)) _ y
        (λ z. let u = rw z at c in
        omega (arith, Mem.num_at-counts L (leaf_of k L) present_at, Mem.parts (num_at L (leaf_of k L)) L Rs, o (num_at L (leaf_of k L))))) s.1,
  )

-- A PUT ON A TREE
module _ (m : ℕ) (lo : 1 ≤ m) (k v : ℕ) (new : List ℕ) where
  pub put_holds : (t : Tree) (st : Store) → Good m 7 t → need 7 k t ≤ length new → ((y : ℕ) → count y (numbers t) + count y new ≤ 1) → HoldsTree st t →
      HoldsTree (put_store k v new t st) (put_tree 7 k v new t)
  unfolding put_tree put_leaf need
  put_holds [] st g h o s = ((put_same st (get_or new 0 0) (leaf_words ((k, v) ∷ [])), tt), tt)
  put_holds (L ∷ Rs) st g h o s = elim (test (has k (leaf_items k L))) [
    | is e ↦ simp e (present_holds m lo k v L Rs g st (λ y. omega (arith, o y)) s)
    | isnt e ↦ simp e (absent_holds m lo k v new L Rs g e (simp e at h) st o s)
  ]

  pub put_keeps : (t : Tree) (st : Store) → Good m 7 t → need 7 k t ≤ length new → (y : ℕ) → count y (numbers t) + count y (take (need 7 k t) new) ≡ 0 → put_store k v new t st y ≡ st y
  unfolding need
  put_keeps [] st g h y c =
      let t = take_head y 0 new h in
      put_other st (get_or new 0 0) (leaf_words ((k, v) ∷ [])) y (λ z. let u = simp (eq-eqb y (get_or new 0 0) z) at t in omega arith)
  put_keeps (L ∷ Rs) st g h y c = elim (test (has k (leaf_items k L))) [
    | is e ↦ simp e (put_other st (num_at L (leaf_of k L)) (leaf_words (set (leaf_items k L) (place k (leaf_items k L)) (k, v))) y
        (Mem.apart (nums L) y (num_at L (leaf_of k L)) (omega (arith, Mem.parts y L Rs)) (Mem.num_at-counts L (leaf_of k L) (present_at m lo k v L Rs g))))
    | isnt e ↦ simp e (absent_keeps m lo k v new L Rs g e (simp e at h) st y (simp e at c))
  ]

  pub put-root : (t : Tree) → Good m 7 t → need 7 k t ≤ length new → root (put_tree 7 k v new t) ≡ put_root k new t
  unfolding put_tree put_leaf need
  put-root [] g h = refl
  put-root (L ∷ Rs) g h = elim (test (has k (leaf_items k L))) [
    | is e ↦ simp e (root-nums (set_row (leaf_of k L) (place k (leaf_items k L)) (k, v) L) L Rs (set_row-nums (leaf_of k L) (place k (leaf_items k L)) (k, v) L))
    | isnt e ↦ simp e (absent_root m lo k v new L Rs g e (simp e at h))
  ]
    where
      root-nums : (R S : Row) (Rs : List Row) → nums R ≡ nums S → root_above R Rs ≡ root_above S Rs
      root-nums R S [] e = ap (λ (xs : List ℕ). get_or xs 0 0) e
      root-nums R S (T ∷ Ts) e = refl

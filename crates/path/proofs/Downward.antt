-- PROOFS. Going down by a way comes to the spot that the way means
use mathlib.Core.Path.{◌≡◌, sym, ap, ◌∙◌}
use mathlib.Core.List.{List, [], ◌∷◌}
use Prim.Native.Nat.{ℕ, suc, ◌+◌, ◌-◌, ◌≤◌, ◌<◌}
use native.Mathlib.Omega.{arith}
use lib.ListN.{length, take, get_or, length-map}
use borrow.Author.Tests.{lt-ltb, le-leb, lt-leb}
use Rattle.forest.specs.Sizes.{leaf_least, leaf_cap}
use Rattle.forest.specs.Lists.{sum, parent, offset}
use Rattle.forest.specs.Rows.{Row, size, front, fronts, sizes, nums, items_at, Tower}
use Rattle.forest.specs.Trees.{leaf_of, leaf_items}
use Rattle.forest.specs.Pools.{leaf_words, inner_words, root_above}
use Rattle.forest.specs.Cursors.{off, first, seek, prev, Path, path_up, path_of}
use Rattle.forest.proofs.ListLaws.{parent_start, upto-length}
use Rattle.forest.proofs.RowLaws.{length-items}
use Rattle.forest.proofs.TowerLaws.{tower_some}
use Rattle.forest.proofs.TreeLaws.{NoneEmpty, none_empty, lands}
use Rattle.forest.proofs.Descent.{Downs, tree_downs}
use Rattle.path.specs.Ways.{block, turn_of, land_of, descend}
use Rattle.path.specs.declared.Way.{Way}
use Rattle.path.specs.declared.Way.TheVariants.{Key, First, Last}
use Rattle.path.proofs.NodeWords.{turn_key, turn_last, turn_first, land_key, land_last, land_first, Grouped, grouped_at}
use Rattle.path.proofs.Laid.{RowIn, RowsIn, Laid, size_bounds, ParentRow, parent_row, children, child_at, parent_in, offset_in, leaf_first, inner_first}

module _ (ws : List ℕ) (t : ℕ) where
  -- one step
  pub leaf_step : (way : Way) (f : ℕ) (L : Row) → RowIn leaf_words ws t L → (j : ℕ) → j < length L →
      descend way (suc f) ws t (get_or (nums L) j 0) ≡ (get_or (nums L) j 0, land_of way (leaf_words (items_at L j))) ∷ []
  unfolding descend
  leaf_step way f L r j h =
      let w = leaf_first ws t L r j h in
      rw (le-leb 32 (get_or (block ws t (get_or (nums L) j 0)) 0 0) (omega arith), r.are j h)

  pub inner_step : (way : Way) (f : ℕ) (S : Row) → RowIn inner_words ws t S → (q : ℕ) → q < length S → length (items_at S q) ≤ 8 →
      descend way (suc f) ws t (get_or (nums S) q 0) ≡
      (get_or (nums S) q 0, turn_of way (inner_words (items_at S q))) ∷ descend way f ws t (get_or (inner_words (items_at S q)) (8 + turn_of way (inner_words (items_at S q))) 0)
  unfolding descend
  inner_step way f S r q h k =
      let w = inner_first ws t S r q h in
      rw (lt-leb 32 (get_or (block ws t (get_or (nums S) q 0)) 0 0) (omega arith), r.are q h)

  -- a way that turns to child o of node q goes on at that child
  pub step_to : (way : Way) (f : ℕ) (R S : Row) → ParentRow R S → RowIn inner_words ws t S → (q o i : ℕ) → q < length S → o < get_or (sizes S) q 0 →
      i ≡ sum (take q (sizes S)) + o → turn_of way (inner_words (items_at S q)) ≡ o →
      descend way (suc f) ws t (get_or (nums S) q 0) ≡ (get_or (nums S) q 0, o) ∷ descend way f ws t (get_or (nums R) i 0)
  step_to way f R S s r q o i h k e u =
      let b = size_bounds 4 8 S q (omega arith) s.filled h in
      inner_step way f S r q h b.1 ∙ rw (u, child_at R S s q o h k, ← e)

  -- the way turns to node i of the row below, all the way from the root
  abbrev pub Picks : Way → List Row → ℕ → Type 0
  Picks way [] i = Unit {0}
  Picks way (S ∷ Ss) i = (turn_of way (inner_words (items_at S (parent (sizes S) i))) ≡ offset (sizes S) i) × Picks way Ss (parent (sizes S) i)

  -- up from row R to the root: the path that the way takes
  pub climb : (way : Way) (R : Row) (Rs : List Row) (i f : ℕ) (below : Path) → Tower R Rs → RowsIn ws t Rs → i < length R → Picks way Rs i →
      descend way f ws t (get_or (nums R) i 0) ≡ below → descend way (length Rs + f) ws t (root_above R Rs) ≡ path_up i Rs below
  climb way R [] i f below w r h k e =
      let z : 0 + f ≡ f = omega arith in
      let y : i ≡ 0 = omega arith in
      rw z (ap (λ (x : ℕ). descend way f ws t (get_or (nums R) x 0)) (sym y) ∙ e)
  climb way R (S ∷ Ss) i f below w r h k e =
      let s = parent_row R S Ss w in
      let z : suc (length Ss) + f ≡ length Ss + suc f = omega arith in
      let p = parent_start (sizes S) i (omega (arith, children R S s)) in
      rw z (climb way S Ss (parent (sizes S) i) (suc f) ((get_or (nums S) (parent (sizes S) i) 0, offset (sizes S) i) ∷ below) w.3 r.1 (parent_in R S s i h) k.1
      (step_to way f R S s r.0 (parent (sizes S) i) (offset (sizes S) i) i (parent_in R S s i h) (offset_in R S s i h) (sym p) k.0 ∙
      ap ((get_or (nums S) (parent (sizes S) i) 0, offset (sizes S) i) ∷◌) e))

  -- by a key
  picks_key : (k : ℕ) (R : Row) (Rs : List Row) → Tower R Rs → Downs k R Rs → Picks (Key k) Rs (leaf_of k R)
  picks_key k R [] w d = tt
  picks_key k R (S ∷ Ss) w d =
      let g : leaf_of k S < length S = rw (← d.0.node_of) (parent_in R S (parent_row R S Ss w) (leaf_of k R) (leaf-lt k R (S ∷ Ss) w)) in
      let b = size_bounds 4 8 S (leaf_of k S) (omega arith) w.2 g in
      rw d.0.node_of (turn_key k (items_at S (leaf_of k S)) b.0 b.1 ∙ sym d.0.place_of, picks_key k S Ss w.3 d.1)
    where
      leaf-lt : (k : ℕ) (R : Row) (Rs : List Row) → Tower R Rs → leaf_of k R < length R
      leaf-lt k [] Rs w = absurd (omega (arith, tower_some [] Rs w))
      leaf-lt k (n ∷ R) Rs w = omega (arith, upto-length k (fronts R), length-map R (λ m. front m.items))

  pub seek_path : (k f : ℕ) (L : Row) (Rs : List Row) → Laid ws t L Rs →
      descend (Key k) (length Rs + suc f) ws t (root_above L Rs) ≡ path_of (L ∷ Rs) (seek k L)
  seek_path k f L Rs l =
      let g = lands leaf_least leaf_cap k L Rs (omega arith) l.good in
      let b = size_bounds leaf_least leaf_cap L (leaf_of k L) (omega arith) l.good.1 g.at in
      rw (lt-ltb 0 (length L) (tower_some L Rs l.good.2))
      (climb (Key k) L Rs (leaf_of k L) (suc f) _ l.good.2 l.inner g.at (picks_key k L Rs l.good.2 (tree_downs leaf_least k L Rs (omega arith) l.good))
      (leaf_step (Key k) f L l.leaf (leaf_of k L) g.at ∙ ap (λ (x : ℕ). (get_or (nums L) (leaf_of k L) 0, x) ∷ []) (land_key k (leaf_items k L) b.1)))

  -- by first children
  picks_first : (R : Row) (Rs : List Row) → Tower R Rs → Picks First Rs 0
  picks_first R [] w = tt
  picks_first R (S ∷ Ss) w =
      let z = start S (none_empty 4 8 S (omega arith) w.2) (tower_some S Ss w.3) in
      rw z.group (turn_first (inner_words (items_at S 0)) ∙ sym z.place, picks_first S Ss w.3)
    where
      start : (S : Row) → NoneEmpty S → 1 ≤ length S → Grouped (sizes S) 0 0 0
      start [] s h = absurd (omega arith)
      start (n ∷ S) s h = record { group = simp (lt-ltb 0 (size n) s.0); place = simp (lt-ltb 0 (size n) s.0) }

  pub first_path : (f : ℕ) (L : Row) (Rs : List Row) → Laid ws t L Rs →
      descend First (length Rs + suc f) ws t (root_above L Rs) ≡ path_of (L ∷ Rs) (first L)
  first_path f L Rs l =
      let h = tower_some L Rs l.good.2 in
      rw (lt-ltb 0 (length L) h)
      (climb First L Rs 0 (suc f) _ l.good.2 l.inner h (picks_first L Rs l.good.2)
      (leaf_step First f L l.leaf 0 h ∙ ap (λ (x : ℕ). (get_or (nums L) 0 0, x) ∷ []) (land_first (leaf_words (items_at L 0)))))

  -- by last children
  pub last_group : (R S : Row) → ParentRow R S → 1 ≤ length S → Grouped (sizes S) (length S - 1) (get_or (sizes S) (length S - 1) 0 - 1) (length R - 1)
  last_group R S s h =
      let b = size_bounds 4 8 S (length S - 1) (omega arith) s.filled (omega arith) in
      let l = length-items S (length S - 1) in
      let e = all_but (sizes S) (rw (length-map S size) h) in
      let m = length-map S size in
      grouped_at (sizes S) (length S - 1) (get_or (sizes S) (length S - 1) 0 - 1) (length R - 1) (omega arith) (omega arith)
      (omega (arith, children R S s, rw (length-map S size) at e))
    where
      all_but : (gs : List ℕ) → 1 ≤ length gs → sum gs ≡ sum (take (length gs - 1) gs) + get_or gs (length gs - 1) 0
      all_but [] h = absurd (omega arith)
      all_but (g ∷ []) h = omega arith
      all_but (g ∷ k ∷ gs) h =
          let ih = all_but (k ∷ gs) (omega arith) in
          let z : suc (suc (length gs)) - 1 ≡ suc (length gs) = omega arith in
          let y : suc (length gs) - 1 ≡ length gs = omega arith in
          rw z (let x = rw y at ih in omega arith)

  picks_last : (R : Row) (Rs : List Row) → Tower R Rs → Picks Last Rs (length R - 1)
  picks_last R [] w = tt
  picks_last R (S ∷ Ss) w =
      let h = tower_some S Ss w.3 in
      let z = last_group R S (parent_row R S Ss w) h in
      rw z.group (turn_last (items_at S (length S - 1)) ∙ ap (◌- 1) (length-items S (length S - 1)) ∙ sym z.place, picks_last S Ss w.3)

  pub last_path : (f : ℕ) (L : Row) (Rs : List Row) → Laid ws t L Rs →
      descend Last (length Rs + suc f) ws t (root_above L Rs) ≡ path_of (L ∷ Rs) (prev L off)
  last_path f L Rs l =
      let h = tower_some L Rs l.good.2 in
      let k : length L - 1 < length L = omega arith in
      rw (lt-ltb 0 (length L) h)
      (climb Last L Rs (length L - 1) (suc f) _ l.good.2 l.inner k (picks_last L Rs l.good.2)
      (leaf_step Last f L l.leaf (length L - 1) k ∙
      ap (λ (x : ℕ). (get_or (nums L) (length L - 1) 0, x) ∷ []) (land_last (items_at L (length L - 1)) ∙ ap (◌- 1) (length-items L (length L - 1)))))

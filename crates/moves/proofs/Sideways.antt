-- PROOFS. To the next node of a level and to the one before: where the path branches off, one step there, and down
use mathlib.Core.Path.{◌≡◌, refl, ap, ◌∙◌}
use mathlib.Core.List.{List, [], ◌∷◌, ◌++◌}
use Prim.Native.Nat.{ℕ, zero, suc, ◌+◌, ◌-◌, ◌≤◌, ◌<◌}
use native.Mathlib.Omega.{arith}
use lib.ListN.{length, take, get_or, length-map}
use lib.Dec.{ltb, eqb}
use borrow.Author.Tests.{lt-ltb, le-ltb, ltb-true, ltb-false, eqb-true, eq-eqb, ne_eqb}
use Rattle.forest.specs.Lists.{sum, parent, offset}
use Rattle.forest.specs.Rows.{Row, size, sizes, nums, items_at, Tower}
use Rattle.forest.specs.Pools.{inner_words}
use Rattle.forest.specs.Cursors.{Path, path_up}
use Rattle.forest.proofs.ListLaws.{is, isnt, test, tests, parent_start}
use Rattle.forest.proofs.RowLaws.{length-items}
use Rattle.forest.proofs.TowerLaws.{tower_some}
use Rattle.path.specs.Ways.{block, descend}
use Rattle.path.specs.Levels.{right_branch, left_branch}
use Rattle.std.specs.Prelude.{Some, None}
use Rattle.path.specs.declared.Way.TheVariants.{First, Last}
use Rattle.path.proofs.NodeWords.{turn_last, turn_first, Grouped, grouped_at, sum_all, group_end}
use Rattle.path.proofs.Laid.{RowIn, RowsIn, size_bounds, ParentRow, parent_row, children, child_at, parent_in, offset_in, inner_first}
use Rattle.path.proofs.Downward.{step_to}
use Rattle.path.proofs.Seats.{up_at, up_take}
use Rattle.forest.proofs.CursorCalls.{take-suc}

-- the next position and the one before, in groups that are not empty
module _ (R S : Row) (s : ParentRow R S) where
  some_at : (q : ℕ) → q < length S → 1 ≤ get_or (sizes S) q 0
  some_at q h = rw (← length-items S q) (size_bounds 4 8 S q (omega arith) s.filled h).0

  starts : (i : ℕ) → i < length R → sum (take (parent (sizes S) i) (sizes S)) + offset (sizes S) i ≡ i
  starts i h = parent_start (sizes S) i (omega (arith, children R S s))

  length-S : length (sizes S) ≡ length S
  length-S = length-map S size

  next_inside : (i : ℕ) → i < length R → suc (offset (sizes S) i) < get_or (sizes S) (parent (sizes S) i) 0 → Grouped (sizes S) (parent (sizes S) i) (suc (offset (sizes S) i)) (suc i)
  next_inside i h k =
      grouped_at (sizes S) (parent (sizes S) i) (suc (offset (sizes S) i)) (suc i) (rw length-S (parent_in R S s i h)) k (omega (arith, starts i h))

  -- past the last of a group
  next_start : (i : ℕ) → i < length R → get_or (sizes S) (parent (sizes S) i) 0 ≤ suc (offset (sizes S) i) → suc i ≡ sum (take (suc (parent (sizes S) i)) (sizes S)) + 0
  next_start i h k = omega (arith, starts i h, offset_in R S s i h, take-suc (parent (sizes S) i) (sizes S))

  next_group : (i : ℕ) → suc i < length R → get_or (sizes S) (parent (sizes S) i) 0 ≤ suc (offset (sizes S) i) → suc (parent (sizes S) i) < length S
  next_group i h k = elim (test (ltb (suc (parent (sizes S) i)) (length S))) [
    | is e ↦ ltb-true _ _ e
    | isnt e ↦
        let z = sum_all (suc (parent (sizes S) i)) (sizes S) (rw length-S (ltb-false _ _ e)) in
        absurd (omega (arith, next_start i (omega arith) k, children R S s))
  ]

  last_group : (i : ℕ) → suc i ≡ length R → (get_or (sizes S) (parent (sizes S) i) 0 ≤ suc (offset (sizes S) i)) × (suc (parent (sizes S) i) ≡ length S)
  last_group i h =
      let a : get_or (sizes S) (parent (sizes S) i) 0 ≤ suc (offset (sizes S) i) = omega (arith, starts i (omega arith), group_end (sizes S) (parent (sizes S) i), children R S s) in (
        a,
        elim (test (ltb (suc (parent (sizes S) i)) (length S))) [
          | is e ↦
              let b = some_at (suc (parent (sizes S) i)) (ltb-true _ _ e) in
              absurd (omega (arith, next_start i (omega arith) a, group_end (sizes S) (suc (parent (sizes S) i)), children R S s))
          | isnt e ↦ omega (tests, parent_in R S s i (omega arith))
        ],
      )

  back_inside : (k i : ℕ) → k ≡ suc i → k < length R → 1 ≤ offset (sizes S) k → Grouped (sizes S) (parent (sizes S) k) (offset (sizes S) k - 1) i
  back_inside k i e h o =
      grouped_at (sizes S) (parent (sizes S) k) (offset (sizes S) k - 1) i (rw length-S (parent_in R S s k h)) (omega (arith, offset_in R S s k h)) (omega (arith, starts k h))

  -- at the first of a group
  back_some : (k i : ℕ) → k ≡ suc i → k < length R → offset (sizes S) k ≡ 0 → parent (sizes S) k ≡ suc (parent (sizes S) k - 1)
  back_some k i e h o = go (parent (sizes S) k) (starts k h)
    where
      go : (q : ℕ) → sum (take q (sizes S)) + offset (sizes S) k ≡ k → q ≡ suc (q - 1)
      go zero z = absurd (omega arith)
      go (suc q) z = omega arith

  back_end : (k i : ℕ) → k ≡ suc i → k < length R → offset (sizes S) k ≡ 0 →
      i ≡ sum (take (parent (sizes S) k - 1) (sizes S)) + (get_or (sizes S) (parent (sizes S) k - 1) 0 - 1)
  back_end k i e h o =
      let a = some_at (parent (sizes S) k - 1) (omega (arith, parent_in R S s k h)) in
      let b : sum (take (parent (sizes S) k) (sizes S)) ≡ sum (take (parent (sizes S) k - 1) (sizes S)) + get_or (sizes S) (parent (sizes S) k - 1) 0 =
      ap (λ (x : ℕ). sum (take x (sizes S))) (back_some k i e h o) ∙ take-suc (parent (sizes S) k - 1) (sizes S) in
      omega (arith, starts k h)

  back_group : (k i : ℕ) → k ≡ suc i → k < length R → offset (sizes S) k ≡ 0 → Grouped (sizes S) (parent (sizes S) k - 1) (get_or (sizes S) (parent (sizes S) k - 1) 0 - 1) i
  back_group k i e h o =
      let p = parent_in R S s k h in
      let a = some_at (parent (sizes S) k - 1) (omega arith) in
      grouped_at (sizes S) (parent (sizes S) k - 1) (get_or (sizes S) (parent (sizes S) k - 1) 0 - 1) i (omega (arith, length-S)) (omega arith) (back_end k i e h o)

  first_group : 1 ≤ length S → Grouped (sizes S) 0 0 0
  first_group h = grouped_at (sizes S) 0 0 0 (omega (arith, length-S)) (some_at 0 h) refl

-- the levels ns, ps of a path
module _ (ws : List ℕ) (t : ℕ) (ns ps : List ℕ) where
  pub record Agrees (path : Path) : Type 0 where
    pub node : (l : ℕ) → l < 16 → get_or ns l 0 ≡ (get_or path l (0, 0)).0
    pub place : (l : ℕ) → l < 16 → get_or ps l 0 ≡ (get_or path l (0, 0)).1

  -- the path that goes one to the right at level l, and down by first children
  abbrev pub step_right : Path → ℕ → Path
  step_right path l =
      take l path ++ (get_or ns l 0, get_or ps l 0 + 1) ∷ descend First (15 - l) ws t (get_or (block ws t (get_or ns l 0)) (8 + (get_or ps l 0 + 1)) 0)

  abbrev pub step_left : Path → ℕ → Path
  step_left path l =
      take l path ++ (get_or ns l 0, get_or ps l 0 - 1) ∷ descend Last (15 - l) ws t (get_or (block ws t (get_or ns l 0)) (8 + (get_or ps l 0 - 1)) 0)

  pub record Right (level : ℕ) (path other : Path) : Type 0 where
    pub at : ℕ
    pub branch : right_branch ws t ns ps level ≡ Some at
    pub above : at < level
    pub same : step_right path at ≡ other

  pub record Left (level : ℕ) (path other : Path) : Type 0 where
    pub at : ℕ
    pub branch : left_branch ps level ≡ Some at
    pub above : at < level
    pub same : step_left path at ≡ other

  -- the level of S, above that of R
  module _ (R S : Row) (Ss : List Row) (w : Tower R (S ∷ Ss)) (r : RowIn inner_words ws t S) (i : ℕ) (h : i < length R) (below : Path) (few : length Ss < 16)
      (a : Agrees (path_up i (S ∷ Ss) below)) where
    abbrev st : ParentRow R S
    st = parent_row R S Ss w

    own-node : get_or ns (length Ss) 0 ≡ get_or (nums S) (parent (sizes S) i) 0
    own-node = a.node (length Ss) few ∙ ap (λ (q : ℕ × ℕ). q.0) (up_at (parent (sizes S) i) Ss (get_or (nums S) (parent (sizes S) i) 0, offset (sizes S) i) below)

    own-place : get_or ps (length Ss) 0 ≡ offset (sizes S) i
    own-place = a.place (length Ss) few ∙ ap (λ (q : ℕ × ℕ). q.1) (up_at (parent (sizes S) i) Ss (get_or (nums S) (parent (sizes S) i) 0, offset (sizes S) i) below)

    own_first : get_or (block ws t (get_or ns (length Ss) 0)) 0 0 ≡ 15 + get_or (sizes S) (parent (sizes S) i) 0
    own_first =
        let k = parent_in R S st i h in
        let b = size_bounds 4 8 S (parent (sizes S) i) (omega arith) st.filled k in
        rw own-node (omega (arith, inner_first ws t S r (parent (sizes S) i) k, length-items S (parent (sizes S) i)))

    own-child : (o k : ℕ) → o < get_or (sizes S) (parent (sizes S) i) 0 → k ≡ sum (take (parent (sizes S) i) (sizes S)) + o →
        get_or (block ws t (get_or ns (length Ss) 0)) (8 + o) 0 ≡ get_or (nums R) k 0
    own-child o k b e =
        let q = parent_in R S st i h in
        rw (own-node, r.are (parent (sizes S) i) q, e) (child_at R S st (parent (sizes S) i) o q b)

    branch-here : suc (offset (sizes S) i) < get_or (sizes S) (parent (sizes S) i) 0 → right_branch ws t ns ps (suc (length Ss)) ≡ Some (length Ss)
    unfolding right_branch
    branch-here k = simp (lt-ltb (get_or ps (length Ss) 0 + 16) (get_or (block ws t (get_or ns (length Ss) 0)) 0 0) (omega (arith, own_first, own-place)))

    branch-above : get_or (sizes S) (parent (sizes S) i) 0 ≤ suc (offset (sizes S) i) → right_branch ws t ns ps (suc (length Ss)) ≡ right_branch ws t ns ps (length Ss)
    unfolding right_branch
    branch-above k = simp (le-ltb (get_or ps (length Ss) 0 + 16) (get_or (block ws t (get_or ns (length Ss) 0)) 0 0) (omega (arith, own_first, own-place)))

    left_here : 1 ≤ offset (sizes S) i → left_branch ps (suc (length Ss)) ≡ Some (length Ss)
    unfolding left_branch
    left_here k = simp (ne_eqb (get_or ps (length Ss) 0) 0 (λ (z : get_or ps (length Ss) 0 ≡ 0). omega (arith, own-place)))

    left-above : offset (sizes S) i ≡ 0 → left_branch ps (suc (length Ss)) ≡ left_branch ps (length Ss)
    unfolding left_branch
    left-above k = simp (eq-eqb (get_or ps (length Ss) 0) 0 (omega (arith, own-place)))

    -- a step at this level
    right-step : (f : ℕ) → suc (length Ss) + f ≡ 16 → suc (offset (sizes S) i) < get_or (sizes S) (parent (sizes S) i) 0 →
        step_right (path_up i (S ∷ Ss) below) (length Ss) ≡ path_up (suc i) (S ∷ Ss) (descend First f ws t (get_or (nums R) (suc i) 0))
    right-step f z k =
        let g = next_inside R S st i h k in
        let p : get_or ps (length Ss) 0 + 1 ≡ suc (offset (sizes S) i) = omega (arith, own-place) in
        let y : 15 - length Ss ≡ f = omega arith in
        let e = own-child (suc (offset (sizes S) i)) (suc i) k (omega (arith, starts R S st i h)) in
        rw (g.group, g.place, p, y, e, own-node)
        (up_take (parent (sizes S) i) Ss ((get_or (nums S) (parent (sizes S) i) 0, offset (sizes S) i) ∷ below)
        ((get_or (nums S) (parent (sizes S) i) 0, suc (offset (sizes S) i)) ∷ descend First f ws t (get_or (nums R) (suc i) 0)))

    left_step : (f k : ℕ) → suc (length Ss) + f ≡ 16 → i ≡ suc k → 1 ≤ offset (sizes S) i →
        step_left (path_up i (S ∷ Ss) below) (length Ss) ≡ path_up k (S ∷ Ss) (descend Last f ws t (get_or (nums R) k 0))
    left_step f k z e o =
        let g = back_inside R S st i k e h o in
        let p : get_or ps (length Ss) 0 - 1 ≡ offset (sizes S) i - 1 = omega (arith, own-place) in
        let y : 15 - length Ss ≡ f = omega arith in
        let c = own-child (offset (sizes S) i - 1) k (omega (arith, offset_in R S st i h)) (omega (arith, starts R S st i h)) in
        rw (g.group, g.place, p, y, c, own-node)
        (up_take (parent (sizes S) i) Ss ((get_or (nums S) (parent (sizes S) i) 0, offset (sizes S) i) ∷ below)
        ((get_or (nums S) (parent (sizes S) i) 0, offset (sizes S) i - 1) ∷ descend Last f ws t (get_or (nums R) k 0)))

  -- to the next node of a row
  pub right_some : (R : Row) (Rs : List Row) (i f : ℕ) (below : Path) → Tower R Rs → RowsIn ws t Rs → length Rs + f ≡ 16 → length Rs < 16 → Agrees (path_up i Rs below) → suc i < length R →
      Right (length Rs) (path_up i Rs below) (path_up (suc i) Rs (descend First f ws t (get_or (nums R) (suc i) 0)))
  right_some R [] i f below w r z few a h = absurd (omega arith)
  right_some R (S ∷ Ss) i f below w r z few a h =
      let s = parent_row R S Ss w in
      elim (test (ltb (suc (offset (sizes S) i)) (get_or (sizes S) (parent (sizes S) i) 0))) [
        | is c ↦
            record {
              at = length Ss;
              branch = branch-here R S Ss w r.0 i (omega arith) below (omega arith) a (ltb-true _ _ c);
              above = omega arith;
              same = right-step R S Ss w r.0 i (omega arith) below (omega arith) a f z (ltb-true _ _ c);
            }
        | isnt c ↦
            let b = branch-above R S Ss w r.0 i (omega arith) below (omega arith) a (ltb-false _ _ c) in
            let q = next_group R S s i h (ltb-false _ _ c) in
            let e = next_start R S s i (omega arith) (ltb-false _ _ c) in
            let g = grouped_at (sizes S) (suc (parent (sizes S) i)) 0 (suc i) (omega (arith, length-S R S s)) (some_at R S s (suc (parent (sizes S) i)) q) e in
            let d = step_to ws t First f R S s r.0 (suc (parent (sizes S) i)) 0 (suc i) q (some_at R S s (suc (parent (sizes S) i)) q) e (turn_first (inner_words (items_at S (suc (parent (sizes S) i))))) in
            let ih = right_some S Ss (parent (sizes S) i) (suc f) ((get_or (nums S) (parent (sizes S) i) 0, offset (sizes S) i) ∷ below) w.3 r.1 (omega arith) (omega arith) a q in
            record {
              at = ih.at;
              branch = b ∙ ih.branch;
              above = omega (arith, ih.above);
              same = rw (g.group, g.place) (ih.same ∙ ap (path_up (suc (parent (sizes S) i)) Ss) d);
            }
      ]

  pub right_none : (R : Row) (Rs : List Row) (i : ℕ) (below : Path) → Tower R Rs → RowsIn ws t Rs → length Rs < 16 → Agrees (path_up i Rs below) → suc i ≡ length R →
      right_branch ws t ns ps (length Rs) ≡ None
  unfolding right_branch
  right_none R [] i below w r few a h = refl
  right_none R (S ∷ Ss) i below w r few a h =
      let l = last_group R S (parent_row R S Ss w) i h in
      branch-above R S Ss w r.0 i (omega arith) below (omega arith) a l.0 ∙
      right_none S Ss (parent (sizes S) i) ((get_or (nums S) (parent (sizes S) i) 0, offset (sizes S) i) ∷ below) w.3 r.1 (omega arith) a l.1

  -- to the node before
  pub left_some : (R : Row) (Rs : List Row) (i k f : ℕ) (below : Path) → Tower R Rs → RowsIn ws t Rs → length Rs + f ≡ 16 → length Rs < 16 → Agrees (path_up i Rs below) → i ≡ suc k → i < length R →
      Left (length Rs) (path_up i Rs below) (path_up k Rs (descend Last f ws t (get_or (nums R) k 0)))
  left_some R [] i k f below w r z few a e h = absurd (omega arith)
  left_some R (S ∷ Ss) i k f below w r z few a e h =
      let s = parent_row R S Ss w in
      elim (test (eqb (offset (sizes S) i) 0)) [
        | isnt c ↦
            let o : 1 ≤ offset (sizes S) i = omega tests in
            record {
              at = length Ss;
              branch = left_here R S Ss w r.0 i h below (omega arith) a o;
              above = omega arith;
              same = left_step R S Ss w r.0 i h below (omega arith) a f k z e o;
            }
        | is c ↦
            let o : offset (sizes S) i ≡ 0 = eqb-true _ _ c in
            let b = left-above R S Ss w r.0 i h below (omega arith) a o in
            let p = parent_in R S s i h in
            let q : parent (sizes S) i - 1 < length S = omega arith in
            let g = back_group R S s i k e h o in
            let u = some_at R S s (parent (sizes S) i - 1) q in
            let d = step_to ws t Last f R S s r.0 (parent (sizes S) i - 1) (get_or (sizes S) (parent (sizes S) i - 1) 0 - 1) k q (omega arith) (back_end R S s i k e h o)
            (turn_last (items_at S (parent (sizes S) i - 1)) ∙ ap (◌- 1) (length-items S (parent (sizes S) i - 1))) in
            let ih = left_some S Ss (parent (sizes S) i) (parent (sizes S) i - 1) (suc f) ((get_or (nums S) (parent (sizes S) i) 0, offset (sizes S) i) ∷ below) w.3 r.1 (omega arith) (omega arith) a
            (back_some R S s i k e h o) p in
            record {
              at = ih.at;
              branch = b ∙ ih.branch;
              above = omega (arith, ih.above);
              same = rw (g.group, g.place) (ih.same ∙ ap (path_up (parent (sizes S) i - 1) Ss) d);
            }
      ]

  pub left_none : (R : Row) (Rs : List Row) (i : ℕ) (below : Path) → Tower R Rs → RowsIn ws t Rs → length Rs < 16 → Agrees (path_up i Rs below) → i ≡ 0 → left_branch ps (length Rs) ≡ None
  unfolding left_branch
  left_none R [] i below w r few a h = refl
  left_none R (S ∷ Ss) i below w r few a h =
      let g = first_group R S (parent_row R S Ss w) (tower_some S Ss w.3) in
      left-above R S Ss w r.0 i (omega (arith, tower_some R (S ∷ Ss) w)) below (omega arith) a (rw h g.place) ∙
      left_none S Ss (parent (sizes S) i) ((get_or (nums S) (parent (sizes S) i) 0, offset (sizes S) i) ∷ below) w.3 r.1 (omega arith) a (rw h g.group)

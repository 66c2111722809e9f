-- PROOFS. From a cursor that stands in a leaf to the leaf after it and to the one before
use mathlib.Core.Path.{◌≡◌, refl, sym, ap, ◌∙◌}
use mathlib.Core.List.{List, [], ◌∷◌, ◌++◌, append_assoc}
use Prim.Native.Nat.{ℕ, zero, suc, ◌+◌, ◌-◌, ◌≤◌, ◌<◌}
use native.Mathlib.Omega.{arith}
use lib.ListN.{length, take, get_or, length-append}
use lib.Seq.{length-take-le}
use lib.Dec.{ltb}
use Rattle.std.specs.Prelude.{Option, Some, None}
use Rattle.std.proofs.lemmas.Option.{none-some, same_Some}
use borrow.Author.Tests.{lt-ltb, le-ltb, ltb-true, ltb-false}
use Rattle.forest.specs.Rows.{Tree, nums, items_at}
use Rattle.forest.specs.Pools.{Pool, tree_of, leaf_words}
use Rattle.forest.specs.Cursors.{Spot, off, on, leaves, size_at, leaf_start, leaf_end, Path, path_of, cursor_at}
use Rattle.forest.specs.declared.Cursor.{Cursor}
use Rattle.forest.proofs.ListLaws.{is, isnt, test, tests}
use Rattle.forest.proofs.RowLaws.{length-items}
use Rattle.path.specs.Ways.{base, block, descend, Deep}
use Rattle.path.specs.Levels.{pushed, extended, cut_at, right_branch, left_branch, Safe}
use Rattle.path.specs.Cores.{Ready, At, Standing}
use Rattle.path.specs.declared.Way.{Way}
use Rattle.path.specs.declared.Way.TheVariants.{First, Last}
use Rattle.path.proofs.NodeWords.{land_first, land_last}
use Rattle.path.proofs.Laid.{deep_lies}
use Rattle.path.proofs.Downward.{leaf_step}
use Rattle.path.proofs.CursorWords.{push_at, cut_at_lem, extend_at}
use Rattle.path.proofs.Steps.{first_word, link_word_at, child_deep, length-descend}
use Rattle.path.proofs.Seats.{Seat, seat, path_s, seat-size, seat-node, seat-place, inner_seat, own_pool, own_spot, own_seat, row_is}
use Rattle.path.proofs.Branches.{right_more, left_more}
use Rattle.moves.specs.Moves.{Level, branched, Steps, next_leaf, prev_leaf}
use Rattle.moves.proofs.Sideways.{Agrees, step_right, step_left, Right, Left, right_some, right_none, left_some, left_none}
use Rattle.forest.proofs.StandLaws.{length-path_up}

module _ (ws : List ℕ) (t : ℕ) (c : Cursor) (y : Ready ws t c.tree) (d : Standing ws c) (h : 1 ≤ c.size) where
  abbrev u : Seat ws t (own_pool ws t c y d h) c (own_spot ws t c y d h)
  u = own_seat ws t c y d h

  pub size_few : c.size ≤ 6
  size_few = omega (arith, seat-size ws t c (own_pool ws t c y d h) (own_spot ws t c y d h) u, u.laid.few)

  pub level : (l : ℕ) → l < c.size - 1 → Level ws t c l
  level l k =
      let p = own_pool ws t c y d h in
      let s = own_spot ws t c y d h in
      let i = inner_seat ws t c (own_pool ws t c y d h) (own_spot ws t c y d h) u l k in
      let n = seat-node ws t c (own_pool ws t c y d h) (own_spot ws t c y d h) u l (omega (arith, size_few)) in
      let q = seat-place ws t c (own_pool ws t c y d h) (own_spot ws t c y d h) u l (omega (arith, size_few)) in
      let e : (f : ℕ) → Deep f ws t (get_or c.nodes l 0) = λ f. rw n (i.deep f) in
      let o = deep_lies ws t 1 (get_or c.nodes l 0) (omega arith) (e 1) in
      let b : get_or (block ws t (get_or c.nodes l 0)) 0 0 < 32 = rw n i.inside in
      let a : get_or c.places l 0 + 16 ≤ get_or (block ws t (get_or c.nodes l 0)) 0 0 = rw (n, q) i.place in
      let z = o.inner b in
      let x = first_word ws (base t (get_or c.nodes l 0)) in
      record {
        above = omega (arith, size_few);
        some = o.some;
        few = o.few;
        long = o.long;
        least = omega arith;
        most = omega arith;
        place = omega arith;
        trees = u.laid.trees;
        deep = e;
      }

  -- the level where the path branches off
  pub right_level : (l : ℕ) (b : Option ℕ) → b ≡ right_branch ws t c.nodes c.places (c.size - 1) → b ≡ Some l →
      Level ws t c l × (get_or c.places l 0 + 1 + 16 ≤ get_or ws (base t (get_or c.nodes l 0)) 0) × (get_or c.places l 0 < 7)
  right_level l b e q =
      let m = right_more ws t c.nodes c.places (c.size - 1) l (sym e ∙ q) in
      let v = level l m.0 in
      (v, omega (arith, m.1), omega (arith, m.1, v.most))

  pub left_level : (l : ℕ) (b : Option ℕ) → b ≡ left_branch c.places (c.size - 1) → b ≡ Some l →
      Level ws t c l × (1 ≤ get_or c.places l 0) × (get_or c.places l 0 - 1 + 16 ≤ get_or ws (base t (get_or c.nodes l 0)) 0) × (get_or c.places l 0 < 8)
  left_level l b e q =
      let m = left_more c.places (c.size - 1) l (sym e ∙ q) in
      let v = level l m.0 in
      (v, m.1, omega (arith, v.place), omega (arith, v.place, v.most))

  pub safe : Safe ws t c (c.size - 1)
  safe = record {
    deep = omega (arith, size_few);
    trees = u.laid.trees;
    node = λ l k. let v = level l k in (v.some, v.few, v.long);
    place = λ l k. let v = level l k in omega arith;
  }

-- the child at place o of a level
pub level_child : (ws : List ℕ) (t : ℕ) (c : Cursor) (l o : ℕ) → Level ws t c l → o + 16 ≤ get_or ws (base t (get_or c.nodes l 0)) 0 →
    Deep (15 - l) ws t (get_or ws (base t (get_or c.nodes l 0) + 8 + o) 0)
level_child ws t c l o v m =
    let z : 16 - l - 1 ≡ 15 - l = omega arith in
    rw (← z) (child_deep (16 - l) ws t (get_or c.nodes l 0) o (λ (e : 16 - l ≡ 0). omega (arith, v.above)) (v.deep (16 - l)) (omega (arith, v.most)) (omega arith))

pub standing-size : (ws : List ℕ) (t : ℕ) (c : Cursor) → Ready ws t c.tree → Standing ws c → c.size ≤ 6
standing-size ws t c y d = elim (test (ltb 0 c.size)) [ is e ↦ size_few ws t c y d (ltb-true _ _ e) | isnt e ↦ omega tests ]

-- the code cuts, puts a level on and goes down
pub branch_is : (way : Way) (ws : List ℕ) (t : ℕ) (c d e r : Cursor) (l p : ℕ) → d ≡ cut_at c l → e ≡ pushed d (get_or c.nodes l 0) p →
    r ≡ extended e (descend way (15 - l) ws t (get_or ws (base t (get_or c.nodes l 0) + 8 + p) 0)) → r ≡ branched way ws t c l p
unfolding branched
branch_is way ws t c d e r l p x y z = rw (z, y, x)

-- the path of that cursor
branch_at : (way : Way) (ws : List ℕ) (t : ℕ) (c : Cursor) (l p : ℕ) (path : Path) → c ≡ cursor_at c.tree path → l < length path → length path ≤ 16 →
    branched way ws t c l p ≡ cursor_at c.tree (take l path ++ (get_or c.nodes l 0, p) ∷ descend way (15 - l) ws t (get_or ws (base t (get_or c.nodes l 0) + 8 + p) 0))
unfolding branched
branch_at way ws t c l p path s a b =
    let n = get_or c.nodes l 0 in
    let more = descend way (15 - l) ws t (get_or ws (base t n + 8 + p) 0) in
    let k = length-take-le l path (omega arith) in
    ap (λ (g : Cursor). extended (pushed (cut_at g l) n p) more) s ∙
    ap (λ (g : Cursor). extended (pushed g n p) more) (cut_at_lem c.tree path l (omega arith) b) ∙
    ap (λ (g : Cursor). extended g more) (push_at c.tree (take l path) n p (omega arith)) ∙
    extend_at c.tree (take l path ++ (n, p) ∷ []) more (simp length-append (omega (arith, length-descend way (15 - l) ws t (get_or ws (base t n + 8 + p) 0)))) ∙
    ap (cursor_at c.tree) (append_assoc (take l path) ((n, p) ∷ []) more)

module _ (ws : List ℕ) (t : ℕ) (c : Cursor) (y : Ready ws t c.tree) (h : 1 ≤ c.size) where
  module _ (p : Pool) (s : Spot) (u : Seat ws t p c s) where
    abbrev f : ℕ
    f = 15 - length u.Rs

    pub above_leaf : c.size - 1 ≡ length u.Rs
    above_leaf = omega (arith, seat-size ws t c p s u)

    agrees : Agrees ws t c.nodes c.places (path_s ws t c p s u)
    agrees = record { node = λ l k. seat-node ws t c p s u l k; place = λ l k. seat-place ws t c p s u l k }

    long_path : length (path_s ws t c p s u) ≡ length u.Rs + 1
    long_path = length-path_up u.j u.Rs ((get_or (nums u.L) u.j 0, u.e) ∷ [])

    tree-row : (v : Spot) → path_of (tree_of p c.tree) v ≡ path_of (u.L ∷ u.Rs) v
    tree-row v = ap (λ (x : Tree). path_of x v) u.tree_is

    next-right : suc u.j < length u.L → Right ws t c.nodes c.places (c.size - 1) (path_s ws t c p s u) (path_of (u.L ∷ u.Rs) (on (suc u.j) 0))
    next-right k =
        let a = u.laid.few in
        let g = right_some ws t c.nodes c.places u.L u.Rs u.j (suc (15 - length u.Rs)) ((get_or (nums u.L) u.j 0, u.e) ∷ []) u.laid.good.2 u.laid.inner (omega arith) (omega arith) agrees k in
        let e : descend First (suc (15 - length u.Rs)) ws t (get_or (nums u.L) (suc u.j) 0) ≡ (get_or (nums u.L) (suc u.j) 0, 0) ∷ [] =
        leaf_step ws t First (15 - length u.Rs) u.L u.laid.leaf (suc u.j) k ∙
        ap (λ (x : ℕ). (get_or (nums u.L) (suc u.j) 0, x) ∷ []) (land_first (leaf_words (items_at u.L (suc u.j)))) in
        rw above_leaf (rw e at g)

    pub prev_left : (i : ℕ) → u.j ≡ suc i → Left ws t c.nodes c.places (c.size - 1) (path_s ws t c p s u) (path_of (u.L ∷ u.Rs) (leaf_end u.L i))
    prev_left i q =
        let a = u.laid.few in
        let b = u.inside in
        let g = left_some ws t c.nodes c.places u.L u.Rs u.j i (suc (15 - length u.Rs)) ((get_or (nums u.L) u.j 0, u.e) ∷ []) u.laid.good.2 u.laid.inner (omega arith) (omega arith) agrees q b in
        let e : descend Last (suc (15 - length u.Rs)) ws t (get_or (nums u.L) i 0) ≡ (get_or (nums u.L) i 0, size_at u.L i - 1) ∷ [] =
        leaf_step ws t Last (15 - length u.Rs) u.L u.laid.leaf i (omega arith) ∙
        ap (λ (x : ℕ). (get_or (nums u.L) i 0, x) ∷ []) (land_last (items_at u.L i) ∙ ap (◌- 1) (length-items u.L i)) in
        rw above_leaf (rw e at g)

    no-right : length u.L ≤ suc u.j → right_branch ws t c.nodes c.places (c.size - 1) ≡ None
    no-right k =
        let a = u.laid.few in
        let b = u.inside in
        rw above_leaf (right_none ws t c.nodes c.places u.L u.Rs u.j ((get_or (nums u.L) u.j 0, u.e) ∷ []) u.laid.good.2 u.laid.inner (omega arith) agrees (omega arith))

    pub no_left : u.j ≡ 0 → left_branch c.places (c.size - 1) ≡ None
    no_left k =
        let a = u.laid.few in
        rw above_leaf (left_none ws t c.nodes c.places u.L u.Rs u.j ((get_or (nums u.L) u.j 0, u.e) ∷ []) u.laid.good.2 u.laid.inner (omega arith) agrees k)

    -- where a spot comes to
    next-spot : next_leaf (leaves (tree_of p c.tree)) s ≡ leaf_start u.L (suc u.j)
    next-spot = rw (row_is ws t c p s u, u.spot_is)

    off-path : length u.L ≤ suc u.j → path_of (tree_of p c.tree) (next_leaf (leaves (tree_of p c.tree)) s) ≡ []
    off-path k =
        let e : next_leaf (leaves (tree_of p c.tree)) s ≡ off = next-spot ∙ simp (le-ltb (suc u.j) (length u.L) k) in
        ap (path_of (tree_of p c.tree)) e

    on-path : suc u.j < length u.L → path_of (tree_of p c.tree) (next_leaf (leaves (tree_of p c.tree)) s) ≡ path_of (u.L ∷ u.Rs) (on (suc u.j) 0)
    on-path k =
        let e : next_leaf (leaves (tree_of p c.tree)) s ≡ on (suc u.j) 0 = next-spot ∙ simp (lt-ltb (suc u.j) (length u.L) k) in
        ap (path_of (tree_of p c.tree)) e ∙ tree-row (on (suc u.j) 0)

    first_spot : u.j ≡ 0 → prev_leaf (leaves (tree_of p c.tree)) s ≡ s
    first_spot k = rw (u.spot_is, k)

    back-path : (i : ℕ) → u.j ≡ suc i → path_of (tree_of p c.tree) (prev_leaf (leaves (tree_of p c.tree)) s) ≡ path_of (u.L ∷ u.Rs) (leaf_end u.L i)
    back-path i k =
        let e : prev_leaf (leaves (tree_of p c.tree)) s ≡ leaf_end u.L i = rw (row_is ws t c p s u, u.spot_is, k) in
        ap (path_of (tree_of p c.tree)) e ∙ tree-row (leaf_end u.L i)

  -- no level has more to the right
  pub next_none : (r : Cursor) (b : Option ℕ) → b ≡ right_branch ws t c.nodes c.places (c.size - 1) → b ≡ None → r ≡ cursor_at c.tree [] → Steps next_leaf ws c r
  next_none r b q z e = record {
    to = λ p s o a.
        let u = seat ws t c y h p s o a in
        elim (test (ltb (suc u.j) (length u.L))) [
          | isnt k ↦ e ∙ ap (cursor_at c.tree) (sym (off-path p s u (ltb-false _ _ k)))
          | is k ↦ absurd (none-some _ (sym z ∙ q ∙ (next-right p s u (ltb-true _ _ k)).branch))
        ];
  }

  -- a step to the right at level l
  pub next_some : (l : ℕ) (r : Cursor) (b : Option ℕ) → b ≡ right_branch ws t c.nodes c.places (c.size - 1) → b ≡ Some l → get_or c.places l 0 < 7 →
      r ≡ branched First ws t c l (get_or c.places l 0 + 1) → Steps next_leaf ws c r
  next_some l r b e z w q = record {
    to = λ p s o a.
        let u = seat ws t c y h p s o a in
        elim (test (ltb (suc u.j) (length u.L))) [
          | isnt k ↦ absurd (none-some l (sym (no-right p s u (ltb-false _ _ k)) ∙ sym e ∙ z))
          | is k ↦
              let g = next-right p s u (ltb-true _ _ k) in
              let x = same_Some l g.at (sym z ∙ e ∙ g.branch) in
              let v : l < c.size - 1 = rw x g.above in
              let m : step_right ws t c.nodes c.places (path_s ws t c p s u) l ≡ path_of (u.L ∷ u.Rs) (on (suc u.j) 0) = rw x g.same in
              let i = link_word_at ws (base t (get_or c.nodes l 0)) (get_or c.places l 0 + 1) (omega arith) in
              q ∙ (rw (← i) at (branch_at First ws t c l (get_or c.places l 0 + 1) (path_s ws t c p s u) u.same (omega (arith, above_leaf p s u, long_path p s u)) (omega (arith, u.laid.few, long_path p s u)))) ∙ ap (cursor_at c.tree) (m ∙ sym (on-path p s u (ltb-true _ _ k)))
        ];
  }

  -- no level has something to the left: the first leaf
  pub prev_none : (b : Option ℕ) → b ≡ left_branch c.places (c.size - 1) → b ≡ None → Steps prev_leaf ws c c
  prev_none b e z = record { to = λ p s o a. go p s a (seat ws t c y h p s o a) (seat ws t c y h p s o a).j refl }
    where
      go : (p : Pool) (s : Spot) → At p c s → (u : Seat ws t p c s) (i : ℕ) → u.j ≡ i → c ≡ cursor_at c.tree (path_of (tree_of p c.tree) (prev_leaf (leaves (tree_of p c.tree)) s))
      go p s a u zero k = sym (ap (λ (v : Spot). cursor_at c.tree (path_of (tree_of p c.tree) v)) (first_spot p s u k) ∙ a.same)
      go p s a u (suc i) k = absurd (none-some _ (sym z ∙ e ∙ (prev_left p s u i k).branch))

  -- a step to the left at level l
  pub prev_some : (l : ℕ) (r : Cursor) (b : Option ℕ) → b ≡ left_branch c.places (c.size - 1) → b ≡ Some l → get_or c.places l 0 < 8 →
      r ≡ branched Last ws t c l (get_or c.places l 0 - 1) → Steps prev_leaf ws c r
  prev_some l r b e z w q = record { to = λ p s o a. go p s (seat ws t c y h p s o a) (seat ws t c y h p s o a).j refl }
    where
      go : (p : Pool) (s : Spot) (u : Seat ws t p c s) (i : ℕ) → u.j ≡ i → r ≡ cursor_at c.tree (path_of (tree_of p c.tree) (prev_leaf (leaves (tree_of p c.tree)) s))
      go p s u zero k = absurd (none-some l (sym (no_left p s u k) ∙ sym e ∙ z))
      go p s u (suc i) k =
          let g = prev_left p s u i k in
          let x = same_Some l g.at (sym z ∙ e ∙ g.branch) in
          let v : l < c.size - 1 = rw x g.above in
          let m : step_left ws t c.nodes c.places (path_s ws t c p s u) l ≡ path_of (u.L ∷ u.Rs) (leaf_end u.L i) = rw x g.same in
          let j = link_word_at ws (base t (get_or c.nodes l 0)) (get_or c.places l 0 - 1) (omega arith) in
          q ∙ (rw (← j) at (branch_at Last ws t c l (get_or c.places l 0 - 1) (path_s ws t c p s u) u.same (omega (arith, above_leaf p s u, long_path p s u)) (omega (arith, u.laid.few, long_path p s u)))) ∙ ap (cursor_at c.tree) (m ∙ sym (back-path p s u i k))

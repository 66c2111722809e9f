-- PROOFS. Whether a cursor stands, by the words: the levels run from the root to a leaf exactly where they are the path of a spot
use mathlib.Core.Path.{◌≡◌, refl, sym, ap, ◌∙◌}
use mathlib.Core.List.{List, [], ◌∷◌}
use mathlib.Core.Bool.{Bool, true, false, cond, ◌&&◌, true≢false}
use Prim.Native.Nat.{ℕ, zero, suc, ◌+◌, ◌-◌, ◌≤◌, ◌<◌}
use native.Mathlib.Omega.{arith}
use lib.ListN.{length, take, drop, get_or, length-map}
use lib.Seq.{get_or-drop, drop-drop, drop-cons}
use lib.Dec.{leb, eqb}
use borrow.Author.Tests.{le-leb, lt-leb, leb-true, eqb-true, eq-eqb, ne_eqb}
use Rattle.forest.specs.Sizes.{leaf_least, most_levels}
use Rattle.forest.specs.Lists.{sum, parent, offset}
use Rattle.forest.specs.Rows.{Row, Tree, size, sizes, nums, Tower}
use Rattle.forest.specs.Pools.{Pool, tree_of, leaf_words, inner_words, root, root_above}
use Rattle.forest.specs.Cursors.{Spot, off, on, size_at, Fits, Path, path_up, path_of, spot_of, runs, levels_of, path_in, all_zero, clean, stands}
use Rattle.forest.specs.declared.Cursor.{Cursor}
use Rattle.forest.proofs.ListLaws.{is, isnt, test, tests, both}
use Rattle.forest.proofs.RowLaws.{length-items}
use Rattle.forest.proofs.CursorLaws.{runs_yes, runs-fits, runs_path}
use Rattle.path.specs.Ways.{base, block, Deep, Lies}
use Rattle.path.specs.declared.Tree as code
use Rattle.path.specs.Cores.{Ready, Of}
use Rattle.path.proofs.Trees.{tree_ready}
use Rattle.path.proofs.NodeWords.{grouped}
use Rattle.path.proofs.Laid.{Laid, RowIn, RowsIn, size_bounds, ParentRow, parent_row, child_at, child_of, parent_in, offset_in, inside, leaf_first, inner_first}
use Rattle.path.proofs.Steps.{first_word, link_word_at, inner_bounds, lies_of, child_deep}
use Rattle.path.proofs.Roots.{root_is, lies_there, some_root}
use Rattle.walk.specs.Walks.{zeros}
use Rattle.stand.specs.Runs.{ended, runs_from, levels_from, stands_at, Tells}

both_ways : (a b : Bool) → (a ≡ true → b ≡ true) → (b ≡ true → a ≡ true) → a ≡ b
both_ways true b f g = sym (f refl)
both_ways false true f g = g refl
both_ways false false f g = refl

-- What a path that runs looks like

pub record AtLeaf (ws : List ℕ) (t n : ℕ) (path : Path) : Type 0 where
  pub e : ℕ
  pub same : (n, e) ∷ [] ≡ path
  pub most : e + 32 ≤ get_or (block ws t n) 0 0

pub record AtInner (ws : List ℕ) (t n : ℕ) (path : Path) : Type 0 where
  pub o : ℕ
  pub rest : Path
  pub same : (n, o) ∷ rest ≡ path
  pub most : o + 16 ≤ get_or (block ws t n) 0 0
  pub on : runs_from ws t (get_or (block ws t n) (8 + o) 0) rest ≡ true

module _ (ws : List ℕ) (t : ℕ) where
  at_leaf : (n : ℕ) (path : Path) → 32 ≤ get_or (block ws t n) 0 0 → runs_from ws t n path ≡ true → AtLeaf ws t n path
  at_leaf n [] h r = absurd (true≢false (sym r))
  at_leaf n (q ∷ qs) h r =
      let a = both (eqb q.0 n) (cond (leb 32 (get_or (block ws t n) 0 0)) (ended qs && leb (q.1 + 32) (get_or (block ws t n) 0 0)) (leb (q.1 + 16) (get_or (block ws t n) 0 0) && runs_from ws t (get_or (block ws t n) (8 + q.1) 0) qs)) r in
      let b : (ended qs && leb (q.1 + 32) (get_or (block ws t n) 0 0)) ≡ true = simp (le-leb 32 (get_or (block ws t n) 0 0) h) at a.1 in
      let d = both (ended qs) (leb (q.1 + 32) (get_or (block ws t n) 0 0)) b in
      record { e = q.1; same = go qs a.0 d.0; most = leb-true _ _ d.1 }
    where
      go : (us : Path) → eqb q.0 n ≡ true → ended us ≡ true → (n, q.1) ∷ [] ≡ q ∷ us
      go [] y x = let k : n ≡ q.0 = sym (eqb-true q.0 n y) in λ i. (k i, q.1) ∷ []
      go (u ∷ us) y x = absurd (true≢false (sym x))

  at_inner : (n : ℕ) (path : Path) → get_or (block ws t n) 0 0 < 32 → runs_from ws t n path ≡ true → AtInner ws t n path
  at_inner n [] h r = absurd (true≢false (sym r))
  at_inner n (q ∷ qs) h r =
      let a = both (eqb q.0 n) (cond (leb 32 (get_or (block ws t n) 0 0)) (ended qs && leb (q.1 + 32) (get_or (block ws t n) 0 0)) (leb (q.1 + 16) (get_or (block ws t n) 0 0) && runs_from ws t (get_or (block ws t n) (8 + q.1) 0) qs)) r in
      let b : (leb (q.1 + 16) (get_or (block ws t n) 0 0) && runs_from ws t (get_or (block ws t n) (8 + q.1) 0) qs) ≡ true = simp (lt-leb 32 (get_or (block ws t n) 0 0) h) at a.1 in
      let d = both (leb (q.1 + 16) (get_or (block ws t n) 0 0)) (runs_from ws t (get_or (block ws t n) (8 + q.1) 0) qs) b in
      let k : n ≡ q.0 = sym (eqb-true q.0 n a.0) in
      record { o = q.1; rest = qs; same = λ i. (k i, q.1) ∷ qs; most = leb-true _ _ d.0; on = d.1 }

  -- from there to the spot
  pub record Found (L : Row) (Rs : List Row) (path : Path) : Type 0 where
    pub j : ℕ
    pub e : ℕ
    pub inside : j < length L
    pub most : e ≤ size_at L j
    pub same : path_up j Rs ((get_or (nums L) j 0, e) ∷ []) ≡ path

  found_as : (L : Row) (Rs : List Row) (path other : Path) → Found L Rs path → path ≡ other → Found L Rs other
  found_as L Rs path other d e = rw (← e) d

  abbrev Reaches : Row → List Row → Row → List Row → Type 0
  Reaches L As R Rs = (i : ℕ) → i < length R → (path : Path) → runs_from ws t (get_or (nums R) i 0) path ≡ true → Found L As (path_up i Rs path)

  leaf_reaches : (L : Row) (As : List Row) → RowIn leaf_words ws t L → Reaches L As L As
  leaf_reaches L As r j h path x =
      let w = leaf_first ws t L r j h in
      let a = at_leaf (get_or (nums L) j 0) path (omega arith) x in
      record { j = j; e = a.e; inside = h; most = omega (arith, a.most, length-items L j); same = ap (path_up j As) a.same }

  inner_reaches : (L : Row) (As : List Row) (R S : Row) (Ss : List Row) → ParentRow R S → RowIn inner_words ws t S → Reaches L As R (S ∷ Ss) → Reaches L As S Ss
  inner_reaches L As R S Ss s r f q h path x =
      let w = inner_first ws t S r q h in
      let b = size_bounds 4 8 S q (omega arith) s.filled h in
      let a = at_inner (get_or (nums S) q 0) path (omega arith) x in
      let k : a.o < get_or (sizes S) q 0 = omega (arith, a.most, length-items S q) in
      let i = sum (take q (sizes S)) + a.o in
      let g = grouped (sizes S) q a.o (rw (length-map S size) h) k in
      let e : get_or (block ws t (get_or (nums S) q 0)) (8 + a.o) 0 ≡ get_or (nums R) (sum (take q (sizes S)) + a.o) 0 = ap (λ (u : List ℕ). get_or u (8 + a.o) 0) (r.are q h) ∙ child_at R S s q a.o h k in
      let d = f (sum (take q (sizes S)) + a.o) (inside R S s q a.o h k) a.rest (ap (λ (x : ℕ). runs_from ws t x a.rest) (sym e) ∙ a.on) in
      let z : path_up (sum (take q (sizes S)) + a.o) (S ∷ Ss) a.rest ≡ path_up q Ss path = rw (g.group, g.place) (ap (path_up q Ss) a.same) in
      found_as L As (path_up (sum (take q (sizes S)) + a.o) (S ∷ Ss) a.rest) (path_up q Ss path) d z

  top_reaches : (L : Row) (As : List Row) (R : Row) (Rs : List Row) → Tower R Rs → RowsIn ws t Rs → Reaches L As R Rs → (path : Path) →
      runs_from ws t (root_above R Rs) path ≡ true → Found L As path
  top_reaches L As R [] w r f path x = f 0 (omega arith) path x
  top_reaches L As R (S ∷ Ss) w r f path x = top_reaches L As S Ss w.3 r.1 (inner_reaches L As R S Ss (parent_row R S Ss w) r.0 f) path x

  -- and back
  climbs : (R : Row) (Rs : List Row) (i : ℕ) (below : Path) → Tower R Rs → RowsIn ws t Rs → i < length R → runs_from ws t (get_or (nums R) i 0) below ≡ true →
      runs_from ws t (root_above R Rs) (path_up i Rs below) ≡ true
  climbs R [] i below w r h x = let z : 0 ≡ i = omega arith in ap (λ (k : ℕ). runs_from ws t (get_or (nums R) k 0) below) z ∙ x
  climbs R (S ∷ Ss) i below w r h x =
      let s = parent_row R S Ss w in
      let q = parent (sizes S) i in
      let k = parent_in R S s i h in
      let o = offset_in R S s i h in
      let e : get_or (block ws t (get_or (nums S) (parent (sizes S) i) 0)) (8 + offset (sizes S) i) 0 ≡ get_or (nums R) i 0 = rw (r.0.are (parent (sizes S) i) k) (child_of R S s i h) in
      let v = inner_first ws t S r.0 (parent (sizes S) i) k in
      let b = size_bounds 4 8 S (parent (sizes S) i) (omega arith) s.filled k in
      let l = length-items S (parent (sizes S) i) in
      climbs S Ss (parent (sizes S) i) ((get_or (nums S) (parent (sizes S) i) 0, offset (sizes S) i) ∷ below) w.3 r.1 k
      (simp (
        eq-eqb (get_or (nums S) (parent (sizes S) i) 0) (get_or (nums S) (parent (sizes S) i) 0) refl,
        lt-leb 32 (get_or (block ws t (get_or (nums S) (parent (sizes S) i) 0)) 0 0) (omega arith),
        le-leb (offset (sizes S) i + 16) (get_or (block ws t (get_or (nums S) (parent (sizes S) i) 0)) 0 0) (omega arith),
        e,
      ) x)

  leaf_runs : (L : Row) → RowIn leaf_words ws t L → (j e : ℕ) → j < length L → e ≤ size_at L j → runs_from ws t (get_or (nums L) j 0) ((get_or (nums L) j 0, e) ∷ []) ≡ true
  leaf_runs L r j e h k =
      let w = leaf_first ws t L r j h in
      let l = length-items L j in
      simp (
        eq-eqb (get_or (nums L) j 0) (get_or (nums L) j 0) refl,
        le-leb 32 (get_or (block ws t (get_or (nums L) j 0)) 0 0) (omega arith),
        le-leb (e + 32) (get_or (block ws t (get_or (nums L) j 0)) 0 0) (omega arith),
      )

  -- a path that is not empty runs by the words exactly where it runs in the tree
  pub runs_words : (L : Row) (Rs : List Row) → Laid ws t L Rs → (path : Path) → 1 ≤ length path → runs_from ws t (root_above L Rs) path ≡ runs (L ∷ Rs) path
  runs_words L Rs l path h = both_ways (runs_from ws t (root_above L Rs) path) (runs (L ∷ Rs) path) forth back
    where
      forth : runs_from ws t (root_above L Rs) path ≡ true → runs (L ∷ Rs) path ≡ true
      forth x =
          let d = top_reaches L Rs L Rs l.good.2 l.inner (leaf_reaches L Rs l.leaf) path x in
          rw (← d.same) (runs_yes leaf_least (L ∷ Rs) (on d.j d.e) l.good (d.inside, d.most))

      from : (s : Spot) → Fits L s → path_of (L ∷ Rs) s ≡ path → runs_from ws t (root_above L Rs) path ≡ true
      from off f e = absurd (let z : 0 ≡ length path = ap length e in omega arith)
      from (on j e) f q = rw (← q) (climbs L Rs j ((get_or (nums L) j 0, e) ∷ []) l.good.2 l.inner f.0 (leaf_runs L l.leaf j e f.0 f.1))

      back : runs (L ∷ Rs) path ≡ true → runs_from ws t (root_above L Rs) path ≡ true
      back x = from (spot_of (L ∷ Rs) path) (runs-fits (L ∷ Rs) path x) (runs_path (L ∷ Rs) path x)

-- The test of a cursor

runs_none : (x : Tree) → runs x [] ≡ true
runs_none [] = refl
runs_none (L ∷ Rs) = refl

pub stands_words : (ws : List ℕ) (t : ℕ) (c : Cursor) → Ready ws t c.tree → (p : Pool) → Of ws p → stands_at ws t (get_or ws (1 + c.tree) 0) c ≡ stands (tree_of p c.tree) c
unfolding stands_at
stands_words ws t c y p o = ap (λ (b : Bool). clean c && b) (go (tree_of p c.tree) refl c.size refl)
  where
    go : (x : Tree) → tree_of p c.tree ≡ x → (s : ℕ) → c.size ≡ s →
        cond (eqb c.size 0) true (cond (eqb (get_or ws (1 + c.tree) 0) 0) false (runs_from ws t (get_or ws (1 + c.tree) 0) (levels_from c 0))) ≡ runs (tree_of p c.tree) (path_in c)
    go x q zero e = rw e (sym (runs_none (tree_of p c.tree)))
    go [] q (suc s) e =
        let z : get_or ws (1 + c.tree) 0 ≡ 0 = root_is ws t c.tree y p o ∙ ap root q in
        rw (z, q, e, ne_eqb (suc s) 0 (omega arith))
    go (L ∷ Rs) q (suc s) e =
        let z : get_or ws (1 + c.tree) 0 ≡ root_above L Rs = root_is ws t c.tree y p o ∙ ap root q in
        let n = some_root ws t c.tree y p o L Rs q in
        let k : suc s - 0 ≡ suc s = omega arith in
        rw (z, q, ne_eqb (root_above L Rs) 0 (omega arith), e, ne_eqb (suc s) 0 (omega arith), k)
        (runs_words ws t L Rs (lies_there ws t c.tree y p o L Rs q) (levels_of (suc s) c.nodes c.places) (omega arith))

-- a tree is ready, and so is that of a cursor of its number
pub tree_stands : (x : code.Tree) (c : Cursor) → c.tree ≡ x.number → Ready x.words.now x.trees c.tree
tree_stands x c e = rw e (tree_ready x)

pub tells_by : (ws : List ℕ) (t : ℕ) (c : Cursor) (r : Bool) → Ready ws t c.tree → r ≡ stands_at ws t (get_or ws (1 + c.tree) 0) c → Tells ws c r
tells_by ws t c r y e = record { tells = λ p o. e ∙ stands_words ws t c y p o }

-- Each return of the code

pub zeros_drop : (xs : List ℕ) (a r : ℕ) → a + r ≡ length xs → zeros xs a r ≡ all_zero (drop a xs)
zeros_drop xs a zero h = sym (ap all_zero (drop_all xs a (omega arith)))
  where
    drop_all : (ys : List ℕ) (b : ℕ) → length ys ≤ b → drop b ys ≡ []
    drop_all [] zero k = refl
    drop_all [] (suc b) k = refl
    drop_all (y ∷ ys) zero k = absurd (omega arith)
    drop_all (y ∷ ys) (suc b) k = drop_all ys b (omega arith)
zeros_drop xs a (suc r) h = rw (drop-cons xs a 0 (omega arith)) (ap (λ (b : Bool). eqb (get_or xs a 0) 0 && b) (zeros_drop xs (suc a) r (omega arith)))

module _ (c : Cursor) (h : clean c ≡ true) where
  pub clean_size : c.size ≤ most_levels
  unfolding clean
  clean_size = leb-true _ _ (both (leb c.size most_levels) (all_zero (drop c.size c.nodes) && all_zero (drop c.size c.places)) h).0

module _ (ws : List ℕ) (t n : ℕ) (c : Cursor) (h : clean c ≡ true) (e : c.size ≡ 0 → ⊥) where
  pub stands_empty : n ≡ 0 → false ≡ stands_at ws t n c
  unfolding stands_at
  stands_empty k = simp (h, ne_eqb c.size 0 e, eq-eqb n 0 k)

  pub stands_runs : (r : Bool) → (n ≡ 0 → ⊥) → r ≡ runs_from ws t n (levels_from c 0) → r ≡ stands_at ws t n c
  unfolding stands_at
  stands_runs r k q = simp (h, ne_eqb c.size 0 e, ne_eqb n 0 k) q

-- the levels from l on, the first of them apart
levels-cons : (c : Cursor) (l : ℕ) → l < c.size → levels_from c l ≡ (get_or c.nodes l 0, get_or c.places l 0) ∷ levels_from c (l + 1)
levels-cons c l h =
    let z : c.size - l ≡ suc (c.size - (l + 1)) = omega arith in
    let y : l + 0 ≡ l = omega arith in
    simp (z, get_or-drop, drop-drop, y)

module _ (ws : List ℕ) (t n : ℕ) (c : Cursor) (l : ℕ) where
  module _ (h : l < c.size) where
    -- the node of level l lies in the words, and so does its child at the next
    pub node_lies : Deep (c.size - l) ws t n → Lies ws t n
    node_lies d = lies_of (c.size - l) ws t n (λ (z : c.size - l ≡ 0). omega arith) d

    pub inner_word : Deep (c.size - l) ws t n → get_or ws (base t n) 0 < 32 → (16 ≤ get_or ws (base t n) 0) × (get_or ws (base t n) 0 ≤ 23)
    inner_word d w = inner_bounds ws t n (node_lies d) w

    pub child_below : Deep (c.size - l) ws t n → get_or ws (base t n) 0 < 32 → get_or c.places l 0 ≤ get_or ws (base t n) 0 - 16 → Deep (c.size - (l + 1)) ws t (get_or ws (base t n + 8 + get_or c.places l 0) 0)
    child_below d w k =
        let e : c.size - l - 1 ≡ c.size - (l + 1) = omega arith in
        rw (← e) (child_deep (c.size - l) ws t n (get_or c.places l 0) (λ (z : c.size - l ≡ 0). omega arith) d w k)

    module _ (e : get_or c.nodes l 0 ≡ n) where
      pub runs_long : 32 ≤ get_or ws (base t n) 0 → l + 1 < c.size → false ≡ runs_from ws t n (levels_from c l)
      runs_long w k =
          let b = le-leb 32 (get_or (block ws t n) 0 0) (rw first_word w) in
          rw (levels-cons c l h, eq-eqb (get_or c.nodes l 0) n e, b, levels-cons c (l + 1) k)

      pub runs_leaf : 32 ≤ get_or ws (base t n) 0 → c.size ≤ l + 1 → leb (get_or c.places l 0) (get_or ws (base t n) 0 - 32) ≡ runs_from ws t n (levels_from c l)
      runs_leaf w k =
          let b = le-leb 32 (get_or (block ws t n) 0 0) (rw first_word w) in
          let z : c.size - (l + 1) ≡ 0 = omega arith in
          rw (levels-cons c l h, eq-eqb (get_or c.nodes l 0) n e, b, z, first_word ws (base t n)) (moved (get_or c.places l 0) (get_or ws (base t n) 0) w)
        where
          moved : (p w : ℕ) → 32 ≤ w → leb p (w - 32) ≡ leb (p + 32) w
          moved p w h = elim (test (leb (p + 32) w)) [ is a ↦ rw a (le-leb p (w - 32) (omega tests)) | isnt a ↦ rw a (lt-leb p (w - 32) (omega tests)) ]

      pub runs_past : get_or ws (base t n) 0 < 32 → 16 ≤ get_or ws (base t n) 0 → get_or ws (base t n) 0 - 16 < get_or c.places l 0 → false ≡ runs_from ws t n (levels_from c l)
      runs_past w v k =
          let b = lt-leb 32 (get_or (block ws t n) 0 0) (rw first_word w) in
          let d = lt-leb (get_or c.places l 0 + 16) (get_or (block ws t n) 0 0) (rw first_word (omega arith)) in
          rw (levels-cons c l h, eq-eqb (get_or c.nodes l 0) n e, b, d)

      pub runs_on : (r : Bool) → get_or ws (base t n) 0 < 32 → 16 ≤ get_or ws (base t n) 0 → get_or ws (base t n) 0 ≤ 23 → get_or c.places l 0 ≤ get_or ws (base t n) 0 - 16 →
          r ≡ runs_from ws t (get_or ws (base t n + 8 + get_or c.places l 0) 0) (levels_from c (l + 1)) → r ≡ runs_from ws t n (levels_from c l)
      runs_on r w v u k q =
          let b = lt-leb 32 (get_or (block ws t n) 0 0) (rw first_word w) in
          let d = le-leb (get_or c.places l 0 + 16) (get_or (block ws t n) 0 0) (rw first_word (omega arith)) in
          rw (levels-cons c l h, eq-eqb (get_or c.nodes l 0) n e, b, d, link_word_at ws (base t n) (get_or c.places l 0) (omega arith)) q

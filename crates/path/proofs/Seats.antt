-- PROOFS. A cursor that stands in a leaf: its path, and what each of its levels holds
use mathlib.Core.Path.{◌≡◌, refl, sym, ap, ◌∙◌}
use mathlib.Core.List.{List, [], ◌∷◌, ◌++◌}
use mathlib.Core.Option.{none}
use Prim.Native.Nat.{ℕ, ◌+◌, ◌-◌, ◌≤◌, ◌<◌}
use native.Mathlib.Omega.{arith}
use lib.ListN.{length, take, get_or}
use lib.Dec.{ltb}
use lib.Seq.{get_or_at, take_at}
use Rattle.forest.specs.Sizes.{leaf_least, leaf_cap}
use Rattle.forest.specs.Lists.{parent, offset}
use Rattle.forest.specs.Rows.{Row, Tree, sizes, nums, items_at, Tower}
use Rattle.forest.specs.Pools.{Pool, tree_of, leaf_words, inner_words}
use Rattle.forest.specs.Cursors.{Spot, off, on, leaves, size_at, Fits, pair_at, Path, path_up, cursor_at}
use Rattle.forest.specs.declared.Cursor.{Cursor}
use Rattle.forest.proofs.ListLaws.{is, isnt, test, tests, tri, less, same, more}
use Rattle.forest.proofs.RowLaws.{length-items}
use Rattle.forest.specs.Slices.{KeysRise}
use Rattle.path.specs.Ways.{base, block, block_at, keys_of, Deep}
use Rattle.path.specs.Cores.{Ready, Of, At, Standing, LeafIn, look_in, look_of}
use Rattle.path.proofs.NodeWords.{pair_words}
use Rattle.path.proofs.Laid.{Laid, RowIn, RowsIn, Rises, leaves_rise, rises_up, AllDeep, leaf_deep, inner_deep, size_bounds, ParentRow, parent_row, parent_in, offset_in, leaf_first, inner_first}
use Rattle.path.proofs.CursorWords.{node_at_lem, place_at}
use Rattle.path.proofs.Steps.{first_word, key_word_at, link_word_at, lies_of}
use Rattle.path.proofs.Roots.{lies_there, the_pool}
use Rattle.forest.proofs.StandLaws.{length-path_up}
use Rattle.forest.proofs.CursorLaws.{nth_none}

-- Paths upward

pub up_append : (i : ℕ) (Rs : List Row) (below : Path) → path_up i Rs below ≡ path_up i Rs [] ++ below
up_append i [] below = refl
up_append i (S ∷ Ss) below =
    let x : ℕ × ℕ = (get_or (nums S) (parent (sizes S) i) 0, offset (sizes S) i) in
    up_append (parent (sizes S) i) Ss (x ∷ below) ∙ sym (ap (◌++ below) (up_append (parent (sizes S) i) Ss (x ∷ [])) ∙ assoc (path_up (parent (sizes S) i) Ss []) x)
  where
    assoc : (us : Path) (x : ℕ × ℕ) → (us ++ (x ∷ [])) ++ below ≡ us ++ x ∷ below
    assoc [] x = refl
    assoc (u ∷ us) x = ap (u ∷◌) (assoc us x)

pub up_none : (i : ℕ) (Rs : List Row) → length (path_up i Rs []) ≡ length Rs
up_none i Rs = omega (arith, length-path_up i Rs [])

-- the level of the row below
pub up_at : (i : ℕ) (Rs : List Row) (q : ℕ × ℕ) (below : Path) → get_or (path_up i Rs (q ∷ below)) (length Rs) (0, 0) ≡ q
up_at i Rs q below = ap (λ (u : Path). get_or u (length Rs) (0, 0)) (up_append i Rs (q ∷ below)) ∙ get_or_at (path_up i Rs []) q below (0, 0) (length Rs) (up_none i Rs)

-- the levels above it stay where it changes
pub up_take : (i : ℕ) (Rs : List Row) (below other : Path) → take (length Rs) (path_up i Rs below) ++ other ≡ path_up i Rs other
up_take i Rs below other =
    ap (λ (u : Path). take (length Rs) u ++ other) (up_append i Rs below) ∙ ap (◌++ other) (take_at (path_up i Rs []) below (length Rs) (up_none i Rs)) ∙ sym (up_append i Rs other)

-- an inner level of a path: every way down from its node stays in the words, and its place is that of a child
pub record Inner (ws : List ℕ) (t : ℕ) (q : ℕ × ℕ) : Type 0 where
  pub deep : (f : ℕ) → Deep f ws t q.0
  pub inside : get_or (block ws t q.0) 0 0 < 32
  pub place : q.1 + 16 ≤ get_or (block ws t q.0) 0 0

module _ (ws : List ℕ) (t : ℕ) where
  inner_level : (R S : Row) → ParentRow R S → RowIn inner_words ws t S → Rises S → AllDeep ws t R → (i : ℕ) → i < length R → Inner ws t (get_or (nums S) (parent (sizes S) i) 0, offset (sizes S) i)
  inner_level R S s r v d i h =
      let q = parent (sizes S) i in
      let k = parent_in R S s i h in
      let w = inner_first ws t S r (parent (sizes S) i) k in
      let b = size_bounds 4 8 S (parent (sizes S) i) (omega arith) s.filled k in
      let o = offset_in R S s i h in
      let l = length-items S (parent (sizes S) i) in
      record { deep = λ f. inner_deep ws t R S s r v d f (parent (sizes S) i) k; inside = omega arith; place = omega arith }

  pub up_inner : (R : Row) (Rs : List Row) (i : ℕ) (below : Path) → Tower R Rs → RowsIn ws t Rs → Rises R → AllDeep ws t R → i < length R → (l : ℕ) → l < length Rs →
      Inner ws t (get_or (path_up i Rs below) l (0, 0))
  up_inner R [] i below w r v d h l k = absurd (omega arith)
  up_inner R (S ∷ Ss) i below w r v d h l k =
      let s = parent_row R S Ss w in
      let u = rises_up R S s v in
      let x : ℕ × ℕ = (get_or (nums S) (parent (sizes S) i) 0, offset (sizes S) i) in
      elim (tri l (length Ss)) [
        | less m ↦ up_inner S Ss (parent (sizes S) i) ((get_or (nums S) (parent (sizes S) i) 0, offset (sizes S) i) ∷ below) w.3 r.1 u (inner_deep ws t R S s r.0 u d) (parent_in R S s i h) l m
        | same e ↦
            rw (e, up_at (parent (sizes S) i) Ss (get_or (nums S) (parent (sizes S) i) 0, offset (sizes S) i) below) (inner_level R S s r.0 u d i h)
        | more m ↦ absurd (omega arith)
      ]

-- The seat of a cursor

-- in pool p it is entry e of the j-th leaf
pub record Seat (ws : List ℕ) (t : ℕ) (p : Pool) (c : Cursor) (s : Spot) : Type 0 where
  pub L : Row
  pub Rs : List Row
  pub j : ℕ
  pub e : ℕ
  pub tree_is : tree_of p c.tree ≡ L ∷ Rs
  pub spot_is : s ≡ on j e
  pub laid : Laid ws t L Rs
  pub inside : j < length L
  pub most : e ≤ size_at L j
  pub same : c ≡ cursor_at c.tree (path_up j Rs ((get_or (nums L) j 0, e) ∷ []))

pub seat : (ws : List ℕ) (t : ℕ) (c : Cursor) → Ready ws t c.tree → 1 ≤ c.size → (p : Pool) (s : Spot) → Of ws p → At p c s → Seat ws t p c s
seat ws t c y h p off o a = absurd (let z : 0 ≡ c.size = ap (λ (d : Cursor). d.size) a.same in omega arith)
seat ws t c y h p (on j e) o a = go (tree_of p c.tree) refl
  where
    go : (x : Tree) → tree_of p c.tree ≡ x → Seat ws t p c (on j e)
    go [] q =
        let f : j < 0 = (rw q at a.fits).0 in
        absurd (omega arith)
    go (L ∷ Rs) q =
        let f : Fits L (on j e) = rw q at a.fits in
        let g : cursor_at c.tree (path_up j Rs ((get_or (nums L) j 0, e) ∷ [])) ≡ c = rw q at a.same in
        record {
          L = L;
          Rs = Rs;
          j = j;
          e = e;
          tree_is = q;
          spot_is = refl;
          laid = lies_there ws t c.tree y p o L Rs q;
          inside = f.0;
          most = f.1;
          same = sym g;
        }

module _ (ws : List ℕ) (t : ℕ) (c : Cursor) (p : Pool) (s : Spot) (u : Seat ws t p c s) where
  abbrev pub path_s : Path
  path_s = path_up u.j u.Rs ((get_or (nums u.L) u.j 0, u.e) ∷ [])

  pub seat-size : c.size ≡ length u.Rs + 1
  seat-size = ap (λ (d : Cursor). d.size) u.same ∙ length-path_up u.j u.Rs ((get_or (nums u.L) u.j 0, u.e) ∷ [])

  pub seat-node : (l : ℕ) → l < 16 → get_or c.nodes l 0 ≡ (get_or path_s l (0, 0)).0
  seat-node l h = ap (λ (d : Cursor). get_or d.nodes l 0) u.same ∙ node_at_lem c.tree path_s l h

  pub seat-place : (l : ℕ) → l < 16 → get_or c.places l 0 ≡ (get_or path_s l (0, 0)).1
  seat-place l h = ap (λ (d : Cursor). get_or d.places l 0) u.same ∙ place_at c.tree path_s l h

  -- the leaf level
  pub leaf_node : get_or c.nodes (c.size - 1) 0 ≡ get_or (nums u.L) u.j 0
  leaf_node =
      let z : c.size - 1 ≡ length u.Rs = omega (arith, seat-size) in
      rw z (seat-node (length u.Rs) (omega (arith, u.laid.few)) ∙ ap (λ (q : ℕ × ℕ). q.0) (up_at u.j u.Rs (get_or (nums u.L) u.j 0, u.e) []))

  pub leaf_place : get_or c.places (c.size - 1) 0 ≡ u.e
  leaf_place =
      let z : c.size - 1 ≡ length u.Rs = omega (arith, seat-size) in
      rw z (seat-place (length u.Rs) (omega (arith, u.laid.few)) ∙ ap (λ (q : ℕ × ℕ). q.1) (up_at u.j u.Rs (get_or (nums u.L) u.j 0, u.e) []))

  -- an inner level
  pub inner_seat : (l : ℕ) → l < c.size - 1 → Inner ws t (get_or path_s l (0, 0))
  inner_seat l h =
      up_inner ws t u.L u.Rs u.j ((get_or (nums u.L) u.j 0, u.e) ∷ []) u.laid.good.2 u.laid.inner (leaves_rise u.L u.Rs u.laid.good) (leaf_deep ws t u.L u.laid.leaf u.laid.good.1 (leaves_rise u.L u.Rs u.laid.good)) u.inside
      l (omega (arith, seat-size))

  pub leaf_block : block ws t (get_or (nums u.L) u.j 0) ≡ leaf_words (items_at u.L u.j)
  leaf_block = u.laid.leaf.are u.j u.inside

  pub leaf_bound : (1 ≤ length (items_at u.L u.j)) × (length (items_at u.L u.j) ≤ 7)
  leaf_bound = size_bounds leaf_least leaf_cap u.L u.j (omega arith) u.laid.good.1 u.inside

  pub leaf_entries_lem : get_or ws (base t (get_or (nums u.L) u.j 0)) 0 ≡ 32 + length (items_at u.L u.j)
  leaf_entries_lem = sym (first_word ws (base t (get_or (nums u.L) u.j 0))) ∙ leaf_first ws t u.L u.laid.leaf u.j u.inside

  pub few_places : u.e ≤ length (items_at u.L u.j)
  few_places = rw length-items u.most

  pub row_is : leaves (tree_of p c.tree) ≡ u.L
  row_is = ap leaves u.tree_is

  -- what a look sees
  pub looked : (n e : ℕ) → get_or c.nodes (c.size - 1) 0 ≡ n → get_or c.places (c.size - 1) 0 ≡ e → look_in ws t n e ≡ look_of (pair_at (leaves (tree_of p c.tree)) s)
  unfolding look_in
  looked n e x y =
      let m : n ≡ get_or (nums u.L) u.j 0 = sym x ∙ leaf_node in
      let q : e ≡ u.e = sym y ∙ leaf_place in
      let b = base t n in
      let w : get_or ws (base t n) 0 ≡ 32 + length (items_at u.L u.j) = rw m leaf_entries_lem in
      let v : block_at ws (base t n) ≡ leaf_words (items_at u.L u.j) = rw m leaf_block in
      elim (test (ltb (e + 32) (get_or ws (base t n) 0))) [
        | is h ↦
            let k : e < length (items_at u.L u.j) = omega tests in
            let g = pair_words (items_at u.L u.j) e leaf_bound.1 (omega arith) in
            let a : get_or (leaf_words (items_at u.L u.j)) (1 + e) 0 ≡ get_or ws (base t n + 1 + e) 0 = rw (← v) (key_word_at ws (base t n) e (omega (arith, leaf_bound.1))) in
            let d : get_or (leaf_words (items_at u.L u.j)) (8 + e) 0 ≡ get_or ws (base t n + 8 + e) 0 = rw (← v) (link_word_at ws (base t n) e (omega (arith, leaf_bound.1))) in
            rw (h, row_is, u.spot_is, ← q, g, a, d)
        | isnt h ↦ rw (h, row_is, u.spot_is, ← q, nth_none (items_at u.L u.j) e (omega tests))
      ]

-- The leaf level, as code that reads it needs it
pub record Leafy (ws : List ℕ) (t : ℕ) (c : Cursor) : Type 0 where
  pub deep : c.size ≤ 6
  pub some : 1 ≤ get_or c.nodes (c.size - 1) 0
  pub few : get_or c.nodes (c.size - 1) 0 ≤ 512
  pub long : base t (get_or c.nodes (c.size - 1) 0) + 16 ≤ length ws
  pub least : 33 ≤ get_or ws (base t (get_or c.nodes (c.size - 1) 0)) 0
  pub most : get_or ws (base t (get_or c.nodes (c.size - 1) 0)) 0 ≤ 39
  pub place : get_or c.places (c.size - 1) 0 + 32 ≤ get_or ws (base t (get_or c.nodes (c.size - 1) 0)) 0
  pub trees : t ≤ 32
  pub rise : KeysRise (keys_of 32 (block ws t (get_or c.nodes (c.size - 1) 0)))

pub leaf_in : (ws : List ℕ) (t : ℕ) (c : Cursor) → Leafy ws t c → LeafIn ws t (get_or c.nodes (c.size - 1) 0)
leaf_in ws t c l = record { some = l.some; few = l.few; long = l.long; least = l.least; most = l.most; trees = l.trees }

module _ (ws : List ℕ) (t : ℕ) (c : Cursor) (y : Ready ws t c.tree) (d : Standing ws c) (h : 1 ≤ c.size) where
  abbrev pub own_pool : Pool
  own_pool = y.sound.pool

  abbrev pub own_spot : Spot
  own_spot = (d.stand y.sound.pool (the_pool ws t c.tree y)).spot

  pub own_at : At own_pool c own_spot
  own_at = record { fits = (d.stand y.sound.pool (the_pool ws t c.tree y)).fits; same = (d.stand y.sound.pool (the_pool ws t c.tree y)).same }

  pub own_seat : Seat ws t own_pool c own_spot
  own_seat = seat ws t c y h own_pool own_spot (the_pool ws t c.tree y) own_at

  pub leafy : Leafy ws t c
  leafy =
      let u = own_seat in
      let n = leaf_node ws t c own_pool own_spot own_seat in
      let r = own_seat.laid.leaf.range own_seat.j own_seat.inside in
      let w : get_or ws (base t (get_or c.nodes (c.size - 1) 0)) 0 ≡ 32 + length (items_at own_seat.L own_seat.j) = rw n (leaf_entries_lem ws t c own_pool own_spot own_seat) in
      let b = leaf_bound ws t c own_pool own_spot own_seat in
      let f = leaf_first ws t own_seat.L own_seat.laid.leaf own_seat.j own_seat.inside in
      let d = leaf_deep ws t own_seat.L own_seat.laid.leaf own_seat.laid.good.1 (leaves_rise own_seat.L own_seat.Rs own_seat.laid.good) 1 own_seat.j own_seat.inside in
      record {
        deep = omega (arith, seat-size ws t c own_pool own_spot own_seat, own_seat.laid.few);
        some = rw n r.0;
        few = rw n r.1;
        long = rw n r.2;
        least = omega arith;
        most = omega arith;
        place = omega (arith, leaf_place ws t c own_pool own_spot own_seat, few_places ws t c own_pool own_spot own_seat);
        trees = own_seat.laid.trees;
        rise = rw n ((lies_of 1 ws t (get_or (nums own_seat.L) own_seat.j 0) (λ e. omega arith) d).leaf_rises (omega arith));
      }

-- size 0 is off the end, and there is no pair
pub off_is : (c : Cursor) (p : Pool) (s : Spot) → c.size ≡ 0 → At p c s → s ≡ off
off_is c p off h a = refl
off_is c p (on j e) h a = go (tree_of p c.tree) refl
  where
    go : (x : Tree) → tree_of p c.tree ≡ x → on j e ≡ off
    go [] q = let f : j < 0 = (rw q at a.fits).0 in absurd (omega arith)
    go (L ∷ Rs) q =
        let g : cursor_at c.tree (path_up j Rs ((get_or (nums L) j 0, e) ∷ [])) ≡ c = rw q at a.same in
        let z : length (path_up j Rs ((get_or (nums L) j 0, e) ∷ [])) ≡ c.size = ap (λ (d : Cursor). d.size) g in
        absurd (omega (arith, length-path_up j Rs ((get_or (nums L) j 0, e) ∷ [])))

pub off_spot : (c : Cursor) (p : Pool) (s : Spot) → c.size ≡ 0 → At p c s → pair_at (leaves (tree_of p c.tree)) s ≡ none
off_spot c p s h a = ap (pair_at (leaves (tree_of p c.tree))) (off_is c p s h a)

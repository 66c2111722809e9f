-- PROOFS. What the cursor calls mean on the sorted list of pairs: which pair is told, and where the cursor comes to
use mathlib.Core.Path.{◌≡◌, refl, sym, ap, ◌∙◌}
use mathlib.Core.List.{List, [], ◌∷◌, ◌++◌, map}
use mathlib.Core.Bool.{true, false}
use mathlib.Core.Logic.{◌≢◌}
use mathlib.Core.Option.{Option, none, some}
use Prim.Native.Nat.{ℕ, zero, suc, ◌-◌, ◌≤◌, ◌<◌}
use native.Mathlib.Omega.{arith}
use lib.ListN.{length, get_elem?}
use lib.Dec.{ltb, leb}
use borrow.Author.Tests.{lt-ltb, le-ltb, ltb-true, ltb-false, le-leb, lt-leb, leb-true, leb-false}
use Rattle.forest.specs.Lists.{sum}
use Rattle.forest.specs.Pairs.{Item, lookup, place}
use Rattle.forest.specs.Rows.{Row, Tree, sizes, items_at, Good}
use Rattle.forest.specs.Trees.{pairs}
use Rattle.forest.specs.declared.Refusal.{Refusal}
use Rattle.forest.specs.declared.Refusal.TheVariants.{NoTree, NoPlace}
use Rattle.forest.specs.declared.Cursor.{Cursor}
use Rattle.forest.specs.Answers.{held, told, Reply, nothing}
use Rattle.forest.specs.Pools.{Pool, WellFormed, tree_of}
use Rattle.forest.specs.Cursors.{Spot, off, on, leaves, size_at, Fits, pair_at, seek, settle, next, prev, prev_pair, position, spot_at, path_of, cursor_at, Stands, spot_of, path_in, stands, Move, to_first, to_key, to_next, to_prev, to_settled, tells, reads, left_pool, left_spot, Moved, blocked, move_from, move}
use Rattle.forest.proofs.ListLaws.{is, isnt, test, tests, cons_eq, parent_start}
use Rattle.forest.proofs.Reasons.{number}
use Rattle.forest.proofs.RowLaws.{length-items}
use Rattle.forest.proofs.TowerLaws.{tower_some}
use Rattle.forest.proofs.TreeLaws.{NoneEmpty, none_empty, none_at, lands, pairs_get}
use Rattle.forest.proofs.PoolLaws.{good_at}
use Rattle.forest.proofs.CursorLaws.{pair_at_lem, first-at, next-at, prev-at, settle-at, spot_path, leaves-joined, nth_lt}
use Rattle.forest.proofs.StandLaws.{path_in_lem, length_path, stands-fits, stands_yes}
use Rattle.forest.proofs.Six.{six_levels}
use Rattle.forest.proofs.CursorCalls.{next_on, next_past, prev_on, take-suc, move-done, move-reads, moved-stands, blocked-stands, left_formed, left_fits}

-- Spots: every move goes to the spot of a pair by its place in the list

-- the i-th pair has i pairs before it; so has the end
pub rank-at : (L : Row) (i : ℕ) → i ≤ sum (sizes L) → position L (spot_at L i) ≡ i
rank-at L i h = elim (test (ltb i (sum (sizes L)))) [ is e ↦ simp e (parent_start (sizes L) i (ltb-true _ _ e)) | isnt e ↦ simp e (omega tests) ]

spot_end : (L : Row) (i : ℕ) → sum (sizes L) ≤ i → spot_at L i ≡ off
spot_end L i h = simp (le-ltb i (sum (sizes L)) h)

-- a spot on a pair, and one on none
pair_inside : (L : Row) (j e : ℕ) (x : Item) → pair_at L (on j e) ≡ some x → e < size_at L j
pair_inside L j e x q = rw (← length-items L j) (nth_lt (items_at L j) e x q)

none_inside : (xs : List Item) (i : ℕ) → get_elem? xs i ≡ none → length xs ≤ i
none_inside [] i q = omega arith
none_inside (x ∷ xs) zero q = absurd (let y : ◌≡◌ {A = ℕ} 0 1 = cc in omega arith)
none_inside (x ∷ xs) (suc i) q = omega (arith, none_inside xs i q)

none_past : (L : Row) (j e : ℕ) → e ≤ size_at L j → pair_at L (on j e) ≡ none → e ≡ size_at L j
none_past L j e h q = omega (arith, none_inside (items_at L j) e q, length-items L j)

pub settle_any : (L : Row) (s : Spot) → NoneEmpty L → Fits L s → settle L s ≡ spot_at L (position L s)
settle_any L off n f = sym (spot_end L (sum (sizes L)) (omega arith))
settle_any L (on j e) n f = settle-at L j e n f.0 f.1

pub next_from_pair : (L : Row) (s : Spot) (x : Item) → NoneEmpty L → Fits L s → pair_at L s ≡ some x → next L s ≡ spot_at L (suc (position L s))
next_from_pair L off x n f q = absurd (let y : ◌≡◌ {A = ℕ} 0 1 = cc in omega arith)
next_from_pair L (on j e) x n f q = next_on L j e n f.0 (pair_inside L j e x q)

pub next_from_none : (L : Row) (s : Spot) → NoneEmpty L → Fits L s → pair_at L s ≡ none → next L s ≡ spot_at L (position L s)
next_from_none L off n f q = sym (spot_end L (sum (sizes L)) (omega arith))
next_from_none L (on j e) n f q = next_past L j e n f.0 (none_past L j e f.1 q)

pub prev_any : (L : Row) (s : Spot) → NoneEmpty L → Fits L s → 1 ≤ position L s → prev L s ≡ spot_at L (position L s - 1)
prev_any L off n f h =
    let z : suc (sum (sizes L) - 1) ≡ sum (sizes L) = omega arith in
    ap (prev L) (sym (spot_end L (suc (sum (sizes L) - 1)) (omega arith))) ∙ prev-at L (sum (sizes L) - 1) n (omega arith)
prev_any L (on j e) n f h = prev_on L j e n f.0 f.1 h

pub prev_pair_lem : (L : Row) (s : Spot) → 1 ≤ position L s → prev_pair L s ≡ pair_at L (prev L s)
prev_pair_lem L off h = refl
prev_pair_lem L (on zero zero) h = absurd (omega arith)
prev_pair_lem L (on (suc j) zero) h = refl
prev_pair_lem L (on zero (suc e)) h = refl
prev_pair_lem L (on (suc j) (suc e)) h = refl

pub prev-at-first : (L : Row) (s : Spot) → NoneEmpty L → Fits L s → position L s ≡ 0 → (prev L s ≡ s) × (prev_pair L s ≡ none)
prev-at-first [] off n f h = (refl, refl)
prev-at-first (l ∷ L) off n f h = absurd (omega (arith, n.0))
prev-at-first L (on zero zero) n f h = (refl, refl)
prev-at-first L (on (suc j) zero) n f h = absurd (omega (arith, take-suc j (sizes L), none_at L j n (omega (arith, f.0))))
prev-at-first L (on j (suc e)) n f h = absurd (omega arith)

-- seek goes where the key stands in the list, or would
pub seek-rank : (m k : ℕ) (t : Tree) → 1 ≤ m → Good m 7 t → position (leaves t) (seek k (leaves t)) ≡ place k (pairs t)
seek-rank m k [] lo g = refl
seek-rank m k (L ∷ Rs) lo g = simp (lt-ltb 0 (length L) (tower_some L Rs g.2)) (sym (lands m 7 k L Rs lo g).places)

leaves_some : (m : ℕ) (t : Tree) → 1 ≤ m → Good m 7 t → NoneEmpty (leaves t)
leaves_some m [] lo g = tt
leaves_some m (L ∷ Rs) lo g = none_empty m 7 L lo g.1

-- Calls

-- the leaf row of the tree that a cursor names, and its pairs
abbrev pub row : Pool → Cursor → Row
row p c = leaves (tree_of p c.tree)

abbrev pub list : Pool → Cursor → List Item
list p c = pairs (tree_of p c.tree)

-- the spot where it stands, and how many pairs are before it
abbrev pub spot_in : Pool → Cursor → Spot
spot_in p c = spot_of (tree_of p c.tree) (path_in c)

abbrev pub rank : Pool → Cursor → ℕ
rank p c = position (row p c) (spot_in p c)

-- a move answers a, and its cursor comes to the spot s
pub record MovesTo (r : Moved) (a : Reply) (s : Spot) : Type 0 where
  pub answers : r.answer ≡ a
  pub spot : spot_in r.pool r.cursor ≡ s

module _ (m : ℕ) (lo : 1 ≤ m) (hi : m ≤ 4) (p : Pool) (h : WellFormed m p) (c : Cursor) where
  good : Good m 7 (tree_of p c.tree)
  good = good_at m p.trees c.tree h.good

  some_leaves : NoneEmpty (row p c)
  some_leaves = leaves_some m (tree_of p c.tree) lo good

  pub fits_in : (v : Move) → blocked v c p ≡ none → reads v ≡ true → Fits (row p c) (spot_in p c)
  fits_in v e r = stands-fits (tree_of p c.tree) c (blocked-stands v c p e r)

  -- of any move
  pub goes : (v : Move) → blocked v c p ≡ none →
      MovesTo (move v c p) (tells v (tree_of p c.tree) (spot_in p c))
      (left_spot v (row p c) (leaves (tree_of (left_pool v c.tree (spot_in p c) p) c.tree)) (spot_in p c))
  unfolding move_from
  goes v e =
      let t = c.tree in
      let q = left_pool v c.tree (spot_in p c) p in
      let w : WellFormed m q = left_formed m lo hi v c.tree (spot_in p c) p h in
      let s = left_spot v (row p c) (leaves (tree_of q c.tree)) (spot_in p c) in
      let f : Fits (leaves (tree_of q c.tree)) s = left_fits m lo hi v c.tree (spot_in p c) p h (fits_in v e) in
      let i : path_in (cursor_at c.tree (path_of (tree_of q c.tree) s)) ≡ path_of (tree_of q c.tree) s =
      path_in_lem c.tree (path_of (tree_of q c.tree) s) (omega (arith, length_path (tree_of q c.tree) s, six_levels m q c.tree w)) in
      rw (move-done v c p e) (record {
        answers = refl;
        spot = ap (spot_of (tree_of q c.tree)) i ∙ spot_path m (tree_of q c.tree) s (good_at m q.trees c.tree w.good) f;
      })

  pair_of : (i : ℕ) → pair_at (row p c) (spot_at (row p c) i) ≡ get_elem? (list p c) i
  pair_of i = pair_at_lem (row p c) i ∙ ap (λ (us : List Item). get_elem? us i) (leaves-joined (tree_of p c.tree))

  -- first: the least pair
  pub first_goes : blocked to_first c p ≡ none → MovesTo (move to_first c p) (told (get_elem? (list p c) 0)) (spot_at (row p c) 0)
  first_goes e =
      let g = goes to_first e in
      let z = first-at (row p c) some_leaves in
      record { answers = g.answers ∙ ap told (ap (pair_at (row p c)) z ∙ pair_of 0); spot = g.spot ∙ z }

  -- seek: the value held, and the place of the key
  pub seek-goes : (k : ℕ) → blocked (to_key k) c p ≡ none → MovesTo (move (to_key k) c p) (held (lookup k (list p c))) (seek k (row p c))
  seek-goes k e =
      let g = goes (to_key k) e in
      record { answers = g.answers ∙ ap held (pairs_get m 7 k lo (tree_of p c.tree) good); spot = g.spot }

  -- settle: the pair whose place the cursor has
  pub settle_goes : blocked to_settled c p ≡ none → MovesTo (move to_settled c p) nothing (spot_at (row p c) (rank p c))
  settle_goes e =
      let g = goes to_settled e in
      record { answers = g.answers; spot = g.spot ∙ settle_any (row p c) (spot_in p c) some_leaves (fits_in to_settled e refl) }

  -- next: from a pair the one after it; from no pair the one whose place the cursor has
  pub next-goes : (y : Item) → blocked to_next c p ≡ none → pair_at (row p c) (spot_in p c) ≡ some y →
      MovesTo (move to_next c p) (told (get_elem? (list p c) (suc (rank p c)))) (spot_at (row p c) (suc (rank p c)))
  next-goes y e q =
      let g = goes to_next e in
      let z = next_from_pair (row p c) (spot_in p c) y some_leaves (fits_in to_next e refl) q in
      record { answers = g.answers ∙ ap told (ap (pair_at (row p c)) z ∙ pair_of (suc (rank p c))); spot = g.spot ∙ z }

  pub next_past_goes : blocked to_next c p ≡ none → pair_at (row p c) (spot_in p c) ≡ none →
      MovesTo (move to_next c p) (told (get_elem? (list p c) (rank p c))) (spot_at (row p c) (rank p c))
  next_past_goes e q =
      let g = goes to_next e in
      let z = next_from_none (row p c) (spot_in p c) some_leaves (fits_in to_next e refl) q in
      record { answers = g.answers ∙ ap told (ap (pair_at (row p c)) z ∙ pair_of (rank p c)); spot = g.spot ∙ z }

  -- prev: the pair before the place; at the first none, unmoved
  pub prev-goes : blocked to_prev c p ≡ none → 1 ≤ rank p c →
      MovesTo (move to_prev c p) (told (get_elem? (list p c) (rank p c - 1))) (spot_at (row p c) (rank p c - 1))
  prev-goes e k =
      let g = goes to_prev e in
      let z = prev_any (row p c) (spot_in p c) some_leaves (fits_in to_prev e refl) k in
      record {
        answers = g.answers ∙ ap told (prev_pair_lem (row p c) (spot_in p c) k ∙ ap (pair_at (row p c)) z ∙ pair_of (rank p c - 1));
        spot = g.spot ∙ z;
      }

  pub prev-first-goes : blocked to_prev c p ≡ none → rank p c ≡ 0 → MovesTo (move to_prev c p) nothing (spot_in p c)
  prev-first-goes e k =
      let g = goes to_prev e in
      let z = prev-at-first (row p c) (spot_in p c) some_leaves (fits_in to_prev e refl) k in
      record { answers = g.answers ∙ ap told z.1; spot = g.spot ∙ z.0 }

-- The table of refusals

pub record Barred (v : Move) (c : Cursor) (p : Pool) (o : Option Refusal) : Type 0 where
  pub there : o ≢ some NoTree → c.tree < length p.trees
  pub two_tree : o ≡ some NoTree → length p.trees ≤ c.tree
  pub three_reads : o ≡ some NoPlace → reads v ≡ true
  pub three_stands : o ≡ some NoPlace → stands (tree_of p c.tree) c ≡ false

pub barred : (v : Move) (c : Cursor) (p : Pool) → Barred v c p (blocked v c p)
unfolding blocked
barred v c p = elim (test (leb (length p.trees) c.tree)) [
  | is e ↦ simp e (record {
    there = λ n. absurd (n refl);
    two_tree = λ z. leb-true _ _ e;
    three_reads = λ z. absurd (omega (arith, ap number z));
    three_stands = λ z. absurd (omega (arith, ap number z));
  })
  | isnt e ↦ elim (test (reads v)) [
    | is r ↦ elim (test (stands (tree_of p c.tree) c)) [
      | is s ↦ simp (e, r, s) (record {
        there = λ n. leb-false _ _ e;
        two_tree = λ z. absurd (omega (arith, ap number z));
        three_reads = λ z. absurd (omega (arith, ap number z));
        three_stands = λ z. absurd (omega (arith, ap number z));
      })
      | isnt s ↦ simp (e, r, s) (record { there = λ n. leb-false _ _ e; two_tree = λ z. absurd (omega (arith, ap number z)); three_reads = λ z. r; three_stands = λ z. s })
    ]
    | isnt r ↦ simp (e, r) (record {
      there = λ n. leb-false _ _ e;
      two_tree = λ z. absurd (omega (arith, ap number z));
      three_reads = λ z. absurd (omega (arith, ap number z));
      three_stands = λ z. absurd (omega (arith, ap number z));
    })
  ]
]

-- 2 exactly when the tree number is T or above
pub move_two : (v : Move) (c : Cursor) (p : Pool) → (blocked v c p ≡ some NoTree → length p.trees ≤ c.tree) × (length p.trees ≤ c.tree → blocked v c p ≡ some NoTree)
unfolding blocked
move_two v c p = ((barred v c p).two_tree, λ h. simp (le-leb (length p.trees) c.tree h))

-- else 3 exactly when the call reads its cursor and that does not stand
pub move_three : (v : Move) (c : Cursor) (p : Pool) → c.tree < length p.trees →
    (blocked v c p ≡ some NoPlace → (reads v ≡ true) × (stands (tree_of p c.tree) c ≡ false)) × ((reads v ≡ true) × (stands (tree_of p c.tree) c ≡ false) → blocked v c p ≡ some NoPlace)
unfolding blocked
move_three v c p h =
    (λ z. ((barred v c p).three_reads z, (barred v c p).three_stands z), λ q. simp (lt-leb (length p.trees) c.tree h, q.0, q.1))

-- else none
pub move_free : (v : Move) (c : Cursor) (p : Pool) → c.tree < length p.trees → (reads v ≡ true → stands (tree_of p c.tree) c ≡ true) → blocked v c p ≡ none
unfolding blocked
move_free v c p h s = elim (test (reads v)) [
  | is r ↦ simp (lt-leb (length p.trees) c.tree h, r, s r)
  | isnt r ↦ simp (lt-leb (length p.trees) c.tree h, r)
]

-- A cursor that a move hands back stands, so the next move is not refused
pub again : (m : ℕ) → 1 ≤ m → m ≤ 4 → (v w : Move) (c : Cursor) (p : Pool) → WellFormed m p → blocked v c p ≡ none → (move v c p).pool ≡ p →
    ((move v c p).cursor.tree ≡ c.tree) × (blocked w (move v c p).cursor p ≡ none)
unfolding move_from
again m lo hi v w c p h e q =
    let d = (move v c p).cursor in
    let t : d.tree ≡ c.tree = ap (λ r. r.cursor.tree) (move-done v c p e) in
    let i : c.tree < length p.trees = (barred v c p).there (λ z. omega (arith, ap number (sym e ∙ z))) in
    let s : Stands (tree_of p c.tree) d = rw q at (moved-stands m lo hi v c p h e) in
    let k : stands (tree_of p c.tree) d ≡ true =
    stands_yes m (tree_of p c.tree) d (good_at m p.trees c.tree h.good) (omega (arith, six_levels m p c.tree h)) s in
    (t, move_free w d p (omega arith) (λ r. rw t k))

-- The traversal: first, then next again and again, tells the pairs in order, each once, and then none

-- the answers to n calls of next, from a cursor
abbrev pub nexts : ℕ → Cursor → Pool → List Reply
nexts zero c p = []
nexts (suc n) c p = (move to_next c p).answer ∷ nexts n (move to_next c p).cursor p

-- what is told of n places of a list, from the i-th on
abbrev tell_from : ℕ → ℕ → List Item → List Reply
tell_from zero i us = []
tell_from (suc n) i us = told (get_elem? us i) ∷ tell_from n (suc i) us

tell_tail : (n i : ℕ) (u : Item) (us : List Item) → tell_from n (suc i) (u ∷ us) ≡ tell_from n i us
tell_tail zero i u us = refl
tell_tail (suc n) i u us = ap (told (get_elem? us i) ∷◌) (tell_tail n (suc i) u us)

tell_all : (us : List Item) → tell_from (suc (length us)) 0 us ≡ map (λ (y : Item). told (some y)) us ++ (nothing ∷ [])
tell_all [] = refl
tell_all (u ∷ us) = ap (told (some u) ∷◌) (tell_tail (suc (length us)) 0 u us ∙ tell_all us)

module _ (m : ℕ) (lo : 1 ≤ m) (hi : m ≤ 4) (p : Pool) (h : WellFormed m p) where
  next_place : (L : Row) (i : ℕ) → NoneEmpty L → next L (spot_at L i) ≡ spot_at L (suc i)
  next_place L i n = elim (test (ltb i (sum (sizes L)))) [
    | is k ↦ next-at L i n (ltb-true _ _ k)
    | isnt k ↦ rw (spot_end L i (ltb-false _ _ k), spot_end L (suc i) (omega tests))
  ]

  next-tells : (i : ℕ) (c : Cursor) → blocked to_next c p ≡ none → spot_in p c ≡ spot_at (row p c) i →
      MovesTo (move to_next c p) (told (get_elem? (list p c) (suc i))) (spot_at (row p c) (suc i))
  next-tells i c e q =
      let g = goes m lo hi p h c to_next e in
      let z = ap (next (row p c)) q ∙ next_place (row p c) i (some_leaves m lo hi p h c) in
      record { answers = g.answers ∙ ap told (ap (pair_at (row p c)) z ∙ pair_of m lo hi p h c (suc i)); spot = g.spot ∙ z }

  nexts_at : (n i : ℕ) (c : Cursor) → blocked to_next c p ≡ none → spot_in p c ≡ spot_at (row p c) i → nexts n c p ≡ tell_from n (suc i) (list p c)
  nexts_at zero i c e q = refl
  nexts_at (suc n) i c e q =
      let d = (move to_next c p).cursor in
      let same : (move to_next c p).pool ≡ p = move-reads m lo hi to_next c p (λ z. let y : ◌≡◌ {A = ℕ} 0 1 = cc in omega arith) in
      let a = again m lo hi to_next to_next c p h e same in
      let g = next-tells i c e q in
      let there : spot_in p d ≡ spot_at (row p c) (suc i) = ap (λ (w : Pool). spot_in w d) (sym same) ∙ g.spot in
      let there' : spot_in p d ≡ spot_at (row p d) (suc i) = there ∙ ap (λ (t : ℕ). spot_at (leaves (tree_of p t)) (suc i)) (sym a.0) in
      cons_eq g.answers (nexts_at n (suc i) d a.1 there' ∙ ap (λ (t : ℕ). tell_from n (suc (suc i)) (pairs (tree_of p t))) a.0)

  pub traversal : (c : Cursor) → blocked to_first c p ≡ none →
      (move to_first c p).answer ∷ nexts (length (list p c)) (move to_first c p).cursor p ≡ map (λ (y : Item). told (some y)) (list p c) ++ (nothing ∷ [])
  traversal c e =
      let d = (move to_first c p).cursor in
      let same : (move to_first c p).pool ≡ p = move-reads m lo hi to_first c p (λ z. let y : ◌≡◌ {A = ℕ} 0 1 = cc in omega arith) in
      let a = again m lo hi to_first to_next c p h e same in
      let g = first_goes m lo hi p h c e in
      let there : spot_in p d ≡ spot_at (row p c) 0 = ap (λ (w : Pool). spot_in w d) (sym same) ∙ g.spot in
      let there' : spot_in p d ≡ spot_at (row p d) 0 = there ∙ ap (λ (t : ℕ). spot_at (leaves (tree_of p t)) 0) (sym a.0) in
      cons_eq g.answers (nexts_at (length (list p c)) 0 d a.1 there' ∙ ap (λ (t : ℕ). tell_from (length (list p c)) 1 (pairs (tree_of p t))) a.0) ∙ tell_all (list p c)

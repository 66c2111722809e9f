-- PROOFS. Moves from any spot, as places in the list of pairs; and the cursor calls on pools
use mathlib.Core.Path.{◌≡◌, refl, sym, ap, ◌∙◌}
use mathlib.Core.List.{List, [], ◌∷◌}
use mathlib.Core.Bool.{true}
use mathlib.Core.Logic.{◌≢◌}
use mathlib.Core.Option.{Option, none, some}
use Prim.Native.Nat.{ℕ, zero, suc, ◌+◌, ◌-◌, ◌≤◌, ◌<◌}
use native.Mathlib.Omega.{arith}
use lib.ListN.{length, take, get_or}
use lib.Dec.{ltb, leb}
use borrow.Author.Tests.{lt-ltb, le-ltb, ltb-true}
use Rattle.std.specs.Prelude.{Err}
use Rattle.forest.specs.Lists.{sum}
use Rattle.forest.specs.Pairs.{Item}
use Rattle.forest.specs.Rows.{Row, Tree, sizes, Good}
use Rattle.forest.specs.Trees.{leaf_of, leaf_items}
use Rattle.forest.specs.declared.Cursor.{Cursor}
use Rattle.forest.specs.declared.Refusal.{Refusal}
use Rattle.forest.specs.Pools.{Pool, WellFormed, remove, tree_of}
use Rattle.forest.specs.Cursors.{Spot, off, on, leaves, size_at, Fits, pair_at, leaf_start, seek, settle, next, prev, position, spot_at, Stands, spot_of, path_in, stands, Move, to_first, to_key, to_next, to_prev, to_settled, to_remove, reads, removed, left_pool, removed_spot, left_spot, blocked, move_from, move}
use Rattle.forest.proofs.ListLaws.{is, isnt, test, tests, offset_lt}
use Rattle.forest.proofs.Reasons.{passes, stops, verdict, number}
use Rattle.forest.proofs.PairLaws.{place_le}
use Rattle.forest.proofs.RowLaws.{length-items, parent_there}
use Rattle.forest.proofs.TowerLaws.{tower_some}
use Rattle.forest.proofs.TreeLaws.{NoneEmpty, none_at, lands}
use Rattle.forest.proofs.PoolLaws.{good_at, call_formed}
use Rattle.forest.proofs.CursorLaws.{next-at, settle-at, settle_pair}
use Rattle.forest.proofs.StandLaws.{stands-fits}

-- a spot on a pair is the spot of its position
pub spot_position : (L : Row) (j e : ℕ) → NoneEmpty L → j < length L → e < size_at L j → spot_at L (position L (on j e)) ≡ on j e
spot_position L j e s h k = sym (settle-at L j e s h (omega arith)) ∙ settle_pair L j e k

position_lt : (L : Row) (j e : ℕ) → j < length L → e < size_at L j → position L (on j e) < sum (sizes L)
position_lt [] j e h k = absurd (omega arith)
position_lt (n ∷ R) zero e h k = omega arith
position_lt (n ∷ R) (suc j) e h k = omega (arith, position_lt R j e (omega arith) k)

-- next from a pair, and from one past a leaf's last
pub next_on : (L : Row) (j e : ℕ) → NoneEmpty L → j < length L → e < size_at L j → next L (on j e) ≡ spot_at L (suc (position L (on j e)))
next_on L j e s h k = ap (next L) (sym (spot_position L j e s h k)) ∙ next-at L (position L (on j e)) s (position_lt L j e h k)

pub next_past : (L : Row) (j e : ℕ) → NoneEmpty L → j < length L → e ≡ size_at L j → next L (on j e) ≡ spot_at L (position L (on j e))
next_past L j e s h k = both ∙ settle-at L j e s h (omega arith)
  where
    both : next L (on j e) ≡ settle L (on j e)
    both = simp (le-ltb (suc e) (size_at L j) (omega arith), le-ltb e (size_at L j) (omega arith))

-- prev from a spot behind the first pair
pub take-suc : (j : ℕ) (xs : List ℕ) → sum (take (suc j) xs) ≡ sum (take j xs) + get_or xs j 0
take-suc zero [] = refl
take-suc (suc j) [] = refl
take-suc zero (x ∷ xs) = omega arith
take-suc (suc j) (x ∷ xs) = omega (arith, take-suc j xs)

pub prev_on : (L : Row) (j e : ℕ) → NoneEmpty L → j < length L → e ≤ size_at L j → 1 ≤ position L (on j e) →
    prev L (on j e) ≡ spot_at L (position L (on j e) - 1)
prev_on L zero zero s h k p = absurd (omega arith)
prev_on L (suc j) zero s h k p =
    let a = none_at L j s (omega arith) in
    let z : sum (take (suc j) (sizes L)) + 0 - 1 ≡ sum (take j (sizes L)) + (size_at L j - 1) = omega (arith, take-suc j (sizes L)) in
    sym (ap (spot_at L) z ∙ spot_position L j (size_at L j - 1) s (omega arith) (omega arith))
prev_on L j (suc e) s h k p =
    let z : sum (take j (sizes L)) + suc e - 1 ≡ sum (take j (sizes L)) + e = omega arith in
    sym (ap (spot_at L) z ∙ spot_position L j e s h (omega arith))

-- where a move comes to is a spot that a cursor can stand at
pub fits_start : (L : Row) (j : ℕ) → Fits L (leaf_start L j)
fits_start L j = elim (test (ltb j (length L))) [ is e ↦ simp e (ltb-true _ _ e, omega arith) | isnt e ↦ simp e tt ]

pub fits-seek : (m k : ℕ) (t : Tree) → 1 ≤ m → Good m 7 t → Fits (leaves t) (seek k (leaves t))
fits-seek m k [] lo g = tt
fits-seek m k (L ∷ Rs) lo g =
    let s = lands m 7 k L Rs lo g in
    simp (lt-ltb 0 (length L) (tower_some L Rs g.2)) (s.at, rw (← length-items L (leaf_of k L)) (place_le k (leaf_items k L)))

pub fits-settle : (L : Row) (s : Spot) → Fits L s → Fits L (settle L s)
fits-settle L off f = tt
fits-settle L (on j e) f = elim (test (ltb e (size_at L j))) [ is c ↦ simp c f | isnt c ↦ simp c (fits_start L (suc j)) ]

pub fits_next : (L : Row) (s : Spot) → Fits L s → Fits L (next L s)
fits_next L off f = tt
fits_next L (on j e) f = elim (test (ltb (suc e) (size_at L j))) [ is c ↦ simp c (f.0, omega tests) | isnt c ↦ simp c (fits_start L (suc j)) ]

pub fits-prev : (L : Row) (s : Spot) → Fits L s → Fits L (prev L s)
fits-prev L off f = elim (test (ltb 0 (length L))) [ is c ↦ simp c (omega tests, omega arith) | isnt c ↦ simp c tt ]
fits-prev L (on zero zero) f = f
fits-prev L (on (suc j) zero) f = (omega arith, omega arith)
fits-prev L (on j (suc e)) f = (f.0, omega arith)

fits-at : (L : Row) (i : ℕ) → Fits L (spot_at L i)
fits-at L i = elim (test (ltb i (sum (sizes L)))) [
  | is e ↦ simp e (parent_there L i (ltb-true _ _ e), omega (arith, offset_lt (sizes L) i (ltb-true _ _ e)))
  | isnt e ↦ simp e tt
]

-- a move that is refused changes nothing
pub move-refused : (v : Move) (c : Cursor) (p : Pool) (x : Refusal) → blocked v c p ≡ some x → move v c p ≡ record { answer = Err x; cursor = c; pool = p }
unfolding move
move-refused v c p x e = simp e

pub move-done : (v : Move) (c : Cursor) (p : Pool) → blocked v c p ≡ none → move v c p ≡ move_from v c.tree (spot_of (tree_of p c.tree) (path_in c)) p
unfolding move
move-done v c p e = simp e

-- a move that reads its cursor and is not refused: the cursor stands
pub blocked-stands : (v : Move) (c : Cursor) (p : Pool) → blocked v c p ≡ none → reads v ≡ true → stands (tree_of p c.tree) c ≡ true
unfolding blocked
blocked-stands v c p e r = elim (test (leb (length p.trees) c.tree)) [
  | is a ↦ absurd (let z = ap number (simp a at e) in omega arith)
  | isnt a ↦ elim (test (stands (tree_of p c.tree) c)) [
    | is b ↦ b
    | isnt b ↦ absurd (let z = ap number (simp (a, r, b) at e) in omega arith)
  ]
]

module _ (m : ℕ) (lo : 1 ≤ m) (hi : m ≤ 4) where
  removed_formed : (t : ℕ) (o : Option Item) (p : Pool) → WellFormed m p → WellFormed m (removed t o p)
  removed_formed t none p h = h
  removed_formed t (some x) p h = call_formed m lo hi (remove t x.0) p h

  pub left_formed : (v : Move) (t : ℕ) (s : Spot) (p : Pool) → WellFormed m p → WellFormed m (left_pool v t s p)
  left_formed to_first t s p h = h
  left_formed (to_key k) t s p h = h
  left_formed to_next t s p h = h
  left_formed to_prev t s p h = h
  left_formed to_settled t s p h = h
  left_formed to_remove t s p h = removed_formed t (pair_at (leaves (tree_of p t)) s) p h

  -- a move keeps the pool well formed
  pub move_formed : (v : Move) (c : Cursor) (p : Pool) → WellFormed m p → WellFormed m (move v c p).pool
  unfolding move_from
  move_formed v c p h = elim (verdict (blocked v c p)) [
    | passes e ↦ rw (move-done v c p e) (left_formed v c.tree (spot_of (tree_of p c.tree) (path_in c)) p h)
    | stops x e ↦ rw (move-refused v c p x e) h
  ]

  -- the pool after any move but a remove is the same
  pub move-reads : (v : Move) (c : Cursor) (p : Pool) → v ≢ to_remove → (move v c p).pool ≡ p
  unfolding move_from
  move-reads v c p n = elim (verdict (blocked v c p)) [
    | passes e ↦ rw (move-done v c p e) (same v c.tree (spot_of (tree_of p c.tree) (path_in c)) n)
    | stops x e ↦ rw (move-refused v c p x e)
  ]
    where
      same : (v : Move) (t : ℕ) (s : Spot) → v ≢ to_remove → left_pool v t s p ≡ p
      same to_first t s n = refl
      same (to_key k) t s n = refl
      same to_next t s n = refl
      same to_prev t s n = refl
      same to_settled t s n = refl
      same to_remove t s n = absurd (n refl)

  -- and its cursor stands
  pub left_fits : (v : Move) (t : ℕ) (s : Spot) (p : Pool) → WellFormed m p → (reads v ≡ true → Fits (leaves (tree_of p t)) s) →
      Fits (leaves (tree_of (left_pool v t s p) t)) (left_spot v (leaves (tree_of p t)) (leaves (tree_of (left_pool v t s p) t)) s)
  left_fits to_first t s p h f = fits_start (leaves (tree_of p t)) 0
  left_fits (to_key k) t s p h f = fits-seek m k (tree_of p t) lo (good_at m p.trees t h.good)
  left_fits to_next t s p h f = fits_next (leaves (tree_of p t)) s (f refl)
  left_fits to_prev t s p h f = fits-prev (leaves (tree_of p t)) s (f refl)
  left_fits to_settled t s p h f = fits-settle (leaves (tree_of p t)) s (f refl)
  left_fits to_remove t s p h f = go (pair_at (leaves (tree_of p t)) s)
    where
      go : (o : Option Item) → Fits (leaves (tree_of (removed t o p) t)) (removed_spot o (leaves (tree_of p t)) (leaves (tree_of (removed t o p) t)) s)
      go none = f refl
      go (some x) = fits-at (leaves (tree_of (removed t (some x) p) t)) (position (leaves (tree_of p t)) s)

  pub moved-stands : (v : Move) (c : Cursor) (p : Pool) → WellFormed m p → blocked v c p ≡ none →
      Stands (tree_of (move v c p).pool c.tree) (move v c p).cursor
  unfolding move_from
  moved-stands v c p h e =
      let t = c.tree in
      let s = spot_of (tree_of p c.tree) (path_in c) in
      let f : reads v ≡ true → Fits (leaves (tree_of p c.tree)) (spot_of (tree_of p c.tree) (path_in c)) =
      λ r. stands-fits (tree_of p c.tree) c (blocked-stands v c p e r) in
      rw (move-done v c p e) (record {
        spot = left_spot v (leaves (tree_of p t)) (leaves (tree_of (left_pool v t s p) t)) s;
        fits = left_fits v t s p h f;
        same = refl;
      })

-- PROOFS. What Places needs of a pool: the spot of a pair is found again from its place in the list, a cursor from its spot; a move keeps the number of trees
use mathlib.Core.Path.{◌≡◌, refl, sym, ap, ◌∙◌}
use mathlib.Core.List.{List, [], ◌∷◌, map}
use mathlib.Core.Bool.{true}
use mathlib.Core.Option.{Option, none, some}
use Prim.Native.Nat.{ℕ, zero, suc, ◌≤◌}
use native.Mathlib.Omega.{arith}
use lib.ListN.{length, get_elem?}
use borrow.Author.Tests.{lt-ltb, le-ltb, eq-eqb, ne_eqb}
use Rattle.forest.specs.Sizes.{leaf_cap, most_levels}
use Rattle.forest.specs.Lists.{sum}
use Rattle.forest.specs.Pairs.{Item, Rising, lookup, place}
use Rattle.forest.specs.Rows.{Row, Tree, Good, sizes, items_at}
use Rattle.forest.specs.Trees.{pairs, leaf_items, get_tree}
use Rattle.forest.specs.declared.Cursor.{Cursor}
use Rattle.forest.specs.Answers.{told, valued, kept}
use Rattle.forest.specs.Pools.{Pool, remove, tree_of}
use Rattle.forest.specs.Cursors.{Spot, off, on, leaves, size_at, Fits, pair_at, first, seek, next, prev_pair, position, spot_at, Path, path_of, cursor_at, spot_of, path_in, stands, Move, to_first, to_key, to_next, to_prev, to_settled, to_remove, tells, removed, left_pool, blocked, move_from, move}
use Rattle.forest.proofs.ListLaws.{tri, less, same, more}
use Rattle.forest.proofs.Reasons.{passes, stops, verdict}
use Rattle.forest.proofs.PairLaws.{above_trans, lookup_above}
use Rattle.forest.proofs.RowLaws.{length-items, sum-sizes}
use Rattle.forest.proofs.TowerLaws.{tower_some}
use Rattle.forest.proofs.TreeLaws.{none_empty, lands}
use Rattle.forest.proofs.PoolLaws.{same_trees}
use Rattle.forest.proofs.CallLaws.{held_kept}
use Rattle.forest.proofs.CountLaws.{length-pad}
use Rattle.forest.proofs.CursorLaws.{pair_at_lem, leaves-joined, nth_lt}
use Rattle.forest.proofs.CursorCalls.{spot_position, move-done, move-refused}
use Rattle.forest.proofs.MoveLaws.{row, spot_in, rank-at}
use Rattle.forest.proofs.RemoveLaws.{stays}
use Rattle.history.specs.Holdings.{Whole}

-- a spot on a pair is the spot of its position
pub spot_back : (m : ℕ) (t : Tree) (s : Spot) (y : Item) → 1 ≤ m → Good m leaf_cap t → Fits (leaves t) s → pair_at (leaves t) s ≡ some y → spot_at (leaves t) (position (leaves t) s) ≡ s
spot_back m t off y lo g f e = absurd (let z : ◌≡◌ {A = ℕ} 0 1 = cc in omega arith)
spot_back m [] (on j i) y lo g f e = absurd (omega (arith, f.0))
spot_back m (L ∷ Rs) (on j i) y lo g f e = spot_position L j i (none_empty m leaf_cap L lo g.1) f.0 (rw (← length-items L j) (nth_lt (items_at L j) i y e))

-- the i-th pair of the list
pub place_pair : (t : Tree) (i : ℕ) → pair_at (leaves t) (spot_at (leaves t) i) ≡ get_elem? (pairs t) i
place_pair t i = pair_at_lem (leaves t) i ∙ ap (λ (us : List Item). get_elem? us i) (leaves-joined t)

-- no spot has more pairs before it than there are
inside : (L : Row) (j e : ℕ) → e ≤ size_at L j → position L (on j e) ≤ sum (sizes L)
inside [] zero e f = omega arith
inside [] (suc j) e f = omega arith
inside (n ∷ L) zero e f = omega arith
inside (n ∷ L) (suc j) e f = omega (arith, inside L j e f)

pub position_le : (t : Tree) (s : Spot) → Fits (leaves t) s → position (leaves t) s ≤ length (pairs t)
position_le t s f = let e = sum-sizes (leaves t) ∙ ap length (leaves-joined t) in go s f e
  where
    go : (s : Spot) → Fits (leaves t) s → sum (sizes (leaves t)) ≡ length (pairs t) → position (leaves t) s ≤ length (pairs t)
    go off f e = omega arith
    go (on j i) f e = omega (arith, inside (leaves t) j i f.1)

pub place-rank : (t : Tree) (i : ℕ) → i ≤ length (pairs t) → position (leaves t) (spot_at (leaves t) i) ≡ i
place-rank t i h = rank-at (leaves t) i (omega (arith, sum-sizes (leaves t) ∙ ap length (leaves-joined t)))

-- with no pair left it is off the end
pub place_off : (t : Tree) (i : ℕ) → length (pairs t) ≤ i → spot_at (leaves t) i ≡ off
place_off t i h = let e = sum-sizes (leaves t) ∙ ap length (leaves-joined t) in simp (le-ltb i (sum (sizes (leaves t))) (omega arith))

-- a key that is held stands at its place
lookup-place : (k v : ℕ) (xs : List Item) → Rising xs → lookup k xs ≡ some v → get_elem? xs (place k xs) ≡ some (k, v)
lookup-place k v [] r h = absurd (let y : ◌≡◌ {A = ℕ} 0 1 = cc in omega arith)
lookup-place k v (x ∷ xs) r h = elim (tri k x.0) [
  | less c ↦ absurd (let z : ◌≡◌ {A = Option ℕ} none (some v) = sym (lookup_above k (x ∷ xs) (c, above_trans k x.0 xs c r.0)) ∙ h in let y : ◌≡◌ {A = ℕ} 0 1 = cc in omega arith)
  | same c ↦
      let z : some x.1 ≡ some v = simp (eq-eqb k x.0 c) at h in
      let y : x.1 ≡ v = cc in
      simp (le-ltb x.0 k (omega arith)) (λ i. some (sym c i, y i))
  | more c ↦ simp (lt-ltb x.0 k c) (lookup-place k v xs r.1 (simp (ne_eqb k x.0 (omega arith)) at h))
]

-- and seek comes to it
pub seek_found : (m k v : ℕ) (t : Tree) → 1 ≤ m → Good m leaf_cap t → lookup k (pairs t) ≡ some v → pair_at (leaves t) (seek k (leaves t)) ≡ some (k, v)
seek_found m k v [] lo g h = absurd (let z : ◌≡◌ {A = ℕ} 0 1 = cc in omega arith)
seek_found m k v (L ∷ Rs) lo g h =
    let l = lands m leaf_cap k L Rs lo g in
    rw (lt-ltb 0 (length L) (tower_some L Rs g.2)) (lookup-place k v (leaf_items k L) l.rises (sym l.lookups ∙ h))

-- a move leaves as many trees as there were
pub move-trees : (v : Move) (c : Cursor) (p : Pool) → length (move v c p).pool.trees ≡ length p.trees
unfolding move_from
move-trees v c p = elim (verdict (blocked v c p)) [
  | passes e ↦ rw (move-done v c p e) (left v (spot_in p c))
  | stops x e ↦ rw (move-refused v c p x e)
]
  where
    gone : (o : Option Item) → length (removed c.tree o p).trees ≡ length p.trees
    gone none = refl
    gone (some y) = same_trees (remove c.tree y.0) p

    left : (v : Move) (z : Spot) → length (left_pool v c.tree z p).trees ≡ length p.trees
    left to_first z = refl
    left (to_key k) z = refl
    left to_next z = refl
    left to_prev z = refl
    left to_settled z = refl
    left to_remove z = gone (pair_at (row p c) z)

-- a cursor of a path is whole
pub whole_at : (t : ℕ) (path : Path) → Whole (cursor_at t path)
whole_at t path = record { nodes = length-pad most_levels (map (λ (q : ℕ × ℕ). q.0) path); places = length-pad most_levels (map (λ (q : ℕ × ℕ). q.1) path) }

-- two whole cursors that stand at the same spot of a tree are the same
pub one_cursor : (t : Tree) (c d : Cursor) → Whole c → Whole d → d.tree ≡ c.tree → stands t c ≡ true → stands t d ≡ true → spot_of t (path_in d) ≡ spot_of t (path_in c) → d ≡ c
one_cursor t c d a b e s z q = sym (stays t d b.nodes b.places z) ∙ (λ i. cursor_at (e i) (path_of t (q i))) ∙ stays t c a.nodes a.places s

-- off the end is size 0, and no other size
pub off_size : (t : Tree) (c : Cursor) → Whole c → stands t c ≡ true → spot_of t (path_in c) ≡ off → c.size ≡ 0
off_size t c w s e = sym (ap (λ (u : Cursor). u.size) (rw e at (stays t c w.nodes w.places s)))

pub size_off : (t : Tree) (c : Cursor) → c.size ≡ 0 → spot_of t (path_in c) ≡ off
size_off [] c e = refl
size_off (L ∷ Rs) c e = rw e

-- what a move that is done answers is no refusal
told-kept : (o : Option Item) → kept (told o) ≡ true
told-kept none = refl
told-kept (some y) = refl

valued-kept : (o : Option Item) → kept (valued o) ≡ true
valued-kept none = refl
valued-kept (some y) = refl

tells-kept : (v : Move) (t : Tree) (x : Spot) → kept (tells v t x) ≡ true
tells-kept to_first t x = told-kept (pair_at (leaves t) (first (leaves t)))
tells-kept (to_key y) t x = held_kept (get_tree y t)
tells-kept to_next t x = told-kept (pair_at (leaves t) (next (leaves t) x))
tells-kept to_prev t x = told-kept (prev_pair (leaves t) x)
tells-kept to_settled t x = refl
tells-kept to_remove t x = valued-kept (pair_at (leaves t) x)

pub done-kept : (v : Move) (c : Cursor) (p : Pool) → blocked v c p ≡ none → kept (move v c p).answer ≡ true
unfolding move_from
done-kept v c p e = rw (move-done v c p e) (tells-kept v (tree_of p c.tree) (spot_in p c))

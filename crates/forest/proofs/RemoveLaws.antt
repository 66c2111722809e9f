-- PROOFS. Remove at a cursor is remove by the key of the pair there; it leaves the cursor on the next pair; on no pair it changes nothing
use mathlib.Core.Path.{◌≡◌, refl, sym, ap, ◌∙◌}
use mathlib.Core.List.{List, [], ◌∷◌}
use mathlib.Core.Bool.{true, true≢false}
use mathlib.Core.Logic.{◌≢◌}
use mathlib.Core.Option.{Option, none, some}
use Prim.Native.Nat.{ℕ, zero, suc, ◌≤◌, ◌<◌}
use native.Mathlib.Omega.{arith}
use lib.ListN.{length, get_or, get_elem?}
use borrow.Author.Tests.{lt-ltb}
use Rattle.forest.specs.Sizes.{most_levels}
use Rattle.forest.specs.Lists.{remove_at, count}
use Rattle.forest.specs.Pairs.{Item, Rising, has, place}
use Rattle.forest.specs.Rows.{Tree, Good}
use Rattle.forest.specs.Trees.{leaf_items, pairs, numbers}
use Rattle.forest.specs.declared.Cursor.{Cursor}
use Rattle.forest.specs.Answers.{held, valued, nothing, value}
use Rattle.forest.specs.Pools.{Pool, WellFormed, remove, call, refused, tree_of, node_words}
use Rattle.forest.specs.Cursors.{Spot, off, on, leaves, Fits, pair_at, seek, position, spot_at, path_of, cursor_at, spot_of, path_in, stands, Move, to_first, to_key, to_next, to_prev, to_settled, to_remove, removed, left_pool, left_spot, Moved, blocked, move_from, move}
use Rattle.forest.proofs.Reasons.{passes, stops, verdict, number}
use Rattle.forest.proofs.PairLaws.{place_lt, place_key, place-delete}
use Rattle.forest.proofs.TowerLaws.{tower_some}
use Rattle.forest.proofs.TreeLaws.{none_empty, lands}
use Rattle.forest.proofs.PoolLaws.{good_at, call_free, call_answer, call-pairs, other_trees}
use Rattle.forest.proofs.CallLaws.{other_nodes}
use Rattle.forest.proofs.CursorLaws.{pair_at_lem, pair_position, nth-has, nth-lookup, nth-remove_at, leaves-joined, runs_path}
use Rattle.forest.proofs.StandLaws.{cursor_back, stands_parts}
use Rattle.forest.proofs.CursorCalls.{move-done, move-refused, move-reads, blocked-stands}
use Rattle.forest.proofs.MoveLaws.{row, list, spot_in, rank, goes, fits_in, seek-goes, barred, move_free, again}

nth-get_or : (xs : List Item) (i : ℕ) (d : Item) → i < length xs → get_elem? xs i ≡ some (get_or xs i d)
nth-get_or [] i d h = absurd (omega arith)
nth-get_or (x ∷ xs) zero d h = refl
nth-get_or (x ∷ xs) (suc i) d h = nth-get_or xs i d (omega arith)

-- the pair at a spot is the one of its rank in the list
pair_rank : (m : ℕ) (t : Tree) (s : Spot) (y : Item) → 1 ≤ m → Good m 7 t → Fits (leaves t) s → pair_at (leaves t) s ≡ some y →
    (get_elem? (pairs t) (position (leaves t) s) ≡ some y) × Rising (pairs t)
pair_rank m t off y lo g f e = absurd (let z : ◌≡◌ {A = ℕ} 0 1 = cc in omega arith)
pair_rank m [] (on j e') y lo g f e = absurd (omega (arith, f.0))
pair_rank m (L ∷ Rs) (on j e') y lo g f e = (pair_position L j e' y (none_empty m 7 L lo g.1) f.0 e, g.0)

-- what a remove at a cursor on the pair y does
pub record Removes (p : Pool) (c : Cursor) (y : Item) (r : Moved) : Type 0 where
  -- as the remove by key
  pub same_pool : r.pool ≡ (call (remove c.tree y.0) p).pool
  pub same_answer : r.answer ≡ (call (remove c.tree y.0) p).answer
  -- the value held, and the list without that pair
  pub value : r.answer ≡ value y.1
  pub left : pairs (tree_of r.pool c.tree) ≡ remove_at (rank p c) (list p c)
  -- the cursor has the place of the pair that went: on the next pair, or off the end
  pub comes : spot_in r.pool r.cursor ≡ spot_at (leaves (tree_of r.pool c.tree)) (rank p c)
  pub on_next : pair_at (leaves (tree_of r.pool c.tree)) (spot_at (leaves (tree_of r.pool c.tree)) (rank p c)) ≡ get_elem? (list p c) (suc (rank p c))

-- a cursor that stands is the one of its spot, bit for bit
pub stays : (t : Tree) (c : Cursor) → length c.nodes ≡ most_levels → length c.places ≡ most_levels → stands t c ≡ true → cursor_at c.tree (path_of t (spot_of t (path_in c))) ≡ c
stays t c a b s =
    let q = stands_parts t c s in
    ap (cursor_at c.tree) (runs_path t (path_in c) q.1) ∙ cursor_back c a b q.0

module _ (m : ℕ) (lo : 1 ≤ m) (hi : m ≤ 4) (p : Pool) (h : WellFormed m p) (c : Cursor) where
  pub remove_goes : (y : Item) → blocked to_remove c p ≡ none → pair_at (row p c) (spot_in p c) ≡ some y → Removes p c y (move to_remove c p)
  unfolding move_from
  remove_goes y e q =
      let t = c.tree in
      let k = remove c.tree y.0 in
      let g = good_at m p.trees c.tree h.good in
      let s = spot_in p c in
      let n = pair_rank m (tree_of p c.tree) (spot_in p c) y lo g (fits_in m lo hi p h c to_remove e refl) q in
      let at = nth-has (list p c) (rank p c) y n.1 n.0 in
      let free : refused (remove c.tree y.0) p ≡ none =
      call_free (remove c.tree y.0) p (record { there = (barred to_remove c p).there (λ z. omega (arith, ap number (sym e ∙ z))); enough = omega arith }) in
      let sp : (move to_remove c p).pool ≡ (call (remove c.tree y.0) p).pool = rw (move-done to_remove c p e, q) in
      let go = goes m lo hi p h c to_remove e in
      let v : (move to_remove c p).answer ≡ value y.1 = go.answers ∙ ap valued q in
      let w : (call (remove c.tree y.0) p).answer ≡ value y.1 =
      call_answer m lo (remove c.tree y.0) p h free ∙ ap held (nth-lookup (list p c) (rank p c) y n.1 n.0) in
      let l : pairs (tree_of (move to_remove c p).pool c.tree) ≡ remove_at (rank p c) (list p c) =
      ap (λ (z : Pool). pairs (tree_of z c.tree)) sp ∙ call-pairs m lo (remove c.tree y.0) p h free ∙
      sym (place-delete y.0 (list p c) n.1 at.0) ∙ ap (λ (i : ℕ). remove_at i (list p c)) at.1 in
      record {
        same_pool = sp;
        same_answer = v ∙ sym w;
        value = v;
        left = l;
        comes = go.spot ∙ spots q ∙ ap (λ (z : Pool). spot_at (leaves (tree_of z c.tree)) (rank p c)) (sym sp);
        on_next =
            pair_at_lem (leaves (tree_of (move to_remove c p).pool c.tree)) (rank p c) ∙
            ap (λ (us : List Item). get_elem? us (rank p c)) (leaves-joined (tree_of (move to_remove c p).pool c.tree) ∙ l) ∙
            nth-remove_at (list p c) (rank p c) at.2;
      }
    where
      spots : pair_at (row p c) (spot_in p c) ≡ some y →
          left_spot to_remove (row p c) (leaves (tree_of (left_pool to_remove c.tree (spot_in p c) p) c.tree)) (spot_in p c) ≡
          spot_at (leaves (tree_of (call (remove c.tree y.0) p).pool c.tree)) (rank p c)
      spots q = rw q

  -- on no pair: not found, and neither pool nor cursor changes
  pub remove_none : length c.nodes ≡ most_levels → length c.places ≡ most_levels → blocked to_remove c p ≡ none → pair_at (row p c) (spot_in p c) ≡ none →
      move to_remove c p ≡ record { answer = nothing; cursor = c; pool = p }
  unfolding move_from
  remove_none a b e q = rw (move-done to_remove c p e, q, stays (tree_of p c.tree) c a b (blocked-stands to_remove c p e refl))

-- seek of a key that is held stands on its pair
seek_on : (m k : ℕ) (t : Tree) → 1 ≤ m → Good m 7 t → has k (pairs t) ≡ true →
    pair_at (leaves t) (seek k (leaves t)) ≡ some (k, (get_or (leaf_items k (leaves t)) (place k (leaf_items k (leaves t))) (0, 0)).1)
seek_on m k [] lo g f = absurd (let z : ◌≡◌ {A = ℕ} 0 1 = cc in omega arith)
seek_on m k (L ∷ Rs) lo g f =
    let l = lands m 7 k L Rs lo g in
    let i : has k (leaf_items k L) ≡ true = sym l.hases ∙ f in
    let key : (get_or (leaf_items k L) (place k (leaf_items k L)) (0, 0)).0 ≡ k = place_key k (leaf_items k L) (0, 0) l.rises i in
    rw (lt-ltb 0 (length L) (tower_some L Rs g.2))
    (nth-get_or (leaf_items k L) (place k (leaf_items k L)) (0, 0) (place_lt k (leaf_items k L) l.rises i) ∙
    ap (λ (u : ℕ). some (u, (get_or (leaf_items k L) (place k (leaf_items k L)) (0, 0)).1)) key)

module _ (m : ℕ) (lo : 1 ≤ m) (hi : m ≤ 4) (p : Pool) (h : WellFormed m p) where
  -- remove by key is seek, then remove at the cursor, where the key is held; where it is not, seek may stand on another pair, and remove by key changes nothing
  pub seek_removes : (c : Cursor) (k : ℕ) → c.tree < length p.trees → has k (list p c) ≡ true →
      ((move to_remove (move (to_key k) c p).cursor p).pool ≡ (call (remove c.tree k) p).pool) ×
      ((move to_remove (move (to_key k) c p).cursor p).answer ≡ (call (remove c.tree k) p).answer)
  seek_removes c k t f =
      let e : blocked (to_key k) c p ≡ none = move_free (to_key k) c p t (λ r. absurd (true≢false (sym r))) in
      let d = (move (to_key k) c p).cursor in
      let same : (move (to_key k) c p).pool ≡ p = move-reads m lo hi (to_key k) c p (λ z. let y : ◌≡◌ {A = ℕ} 0 1 = cc in omega arith) in
      let a = again m lo hi (to_key k) to_remove c p h e same in
      let there : spot_in p d ≡ seek k (row p c) = ap (λ (w : Pool). spot_in w d) (sym same) ∙ (seek-goes m lo hi p h c k e).spot in
      let v = (get_or (leaf_items k (row p c)) (place k (leaf_items k (row p c))) (0, 0)).1 in
      let q : pair_at (row p d) (spot_in p d) ≡ some (k, v) =
      ap (pair_at (row p d)) there ∙ ap (λ (u : ℕ). pair_at (leaves (tree_of p u)) (seek k (row p c))) a.0 ∙
      seek_on m k (tree_of p c.tree) lo (good_at m p.trees c.tree h.good) f in
      let r = remove_goes m lo hi p h d (k, v) a.1 q in
      (r.same_pool ∙ ap (λ (u : ℕ). (call (remove u k) p).pool) a.0, r.same_answer ∙ ap (λ (u : ℕ). (call (remove u k) p).answer) a.0)

-- other trees stay as they are, whatever the move
pub move_other_trees : (v : Move) (c : Cursor) (p : Pool) (s : ℕ) → s ≢ c.tree → tree_of (move v c p).pool s ≡ tree_of p s
unfolding move_from
move_other_trees v c p s d = elim (verdict (blocked v c p)) [
  | passes e ↦ rw (move-done v c p e) (left v (spot_in p c))
  | stops x e ↦ rw (move-refused v c p x e)
]
  where
    gone : (o : Option Item) → tree_of (removed c.tree o p) s ≡ tree_of p s
    gone none = refl
    gone (some y) = other_trees (remove c.tree y.0) p s d

    left : (v : Move) (z : Spot) → tree_of (left_pool v c.tree z p) s ≡ tree_of p s
    left to_first z = refl
    left (to_key k) z = refl
    left to_next z = refl
    left to_prev z = refl
    left to_settled z = refl
    left to_remove z = gone (pair_at (row p c) z)

-- and so do the words of their nodes
pub move_other_nodes : (m : ℕ) → 1 ≤ m → m ≤ 4 → (v : Move) (c : Cursor) (p : Pool) (s n : ℕ) → WellFormed m p → s ≢ c.tree → 1 ≤ count n (numbers (tree_of p s)) →
    node_words (move v c p).pool.trees n ≡ node_words p.trees n
unfolding move_from
move_other_nodes m lo hi v c p s n h d k = elim (verdict (blocked v c p)) [
  | passes e ↦ rw (move-done v c p e) (left v (spot_in p c))
  | stops x e ↦ rw (move-refused v c p x e)
]
  where
    gone : (o : Option Item) → node_words (removed c.tree o p).trees n ≡ node_words p.trees n
    gone none = refl
    gone (some y) = other_nodes m lo hi (remove c.tree y.0) p s n h d k

    left : (v : Move) (z : Spot) → node_words (left_pool v c.tree z p).trees n ≡ node_words p.trees n
    left to_first z = refl
    left (to_key k) z = refl
    left to_next z = refl
    left to_prev z = refl
    left to_settled z = refl
    left to_remove z = gone (pair_at (row p c) z)

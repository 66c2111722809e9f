-- PROOFS. Moves of a cursor that stands: within its leaf, off the end, to another leaf; and that it stands afterwards
use mathlib.Core.Path.{◌≡◌, refl, sym, ap, ◌∙◌}
use mathlib.Core.List.{List, [], ◌∷◌, ◌++◌, map}
use Prim.Native.Nat.{ℕ, zero, suc, ◌+◌, ◌-◌, ◌≤◌, ◌<◌}
use native.Mathlib.Omega.{arith}
use lib.ListN.{length, get_or, set, length-append}
use borrow.Author.Tests.{lt-ltb, le-ltb}
use Rattle.forest.specs.Sizes.{most_levels}
use Rattle.forest.specs.Lists.{pad}
use Rattle.forest.specs.Rows.{Row, Tree, nums}
use Rattle.forest.specs.Pools.{Pool, tree_of}
use Rattle.forest.specs.Cursors.{Spot, off, on, leaves, size_at, Fits, settle, next, prev, Path, path_up, path_of, cursor_at}
use Rattle.forest.specs.declared.Cursor.{Cursor}
use Rattle.forest.proofs.RowLaws.{length-items}
use Rattle.path.specs.Ways.{base}
use Rattle.path.specs.Cores.{Ready, Of, At, Standing, Goes}
use Rattle.path.proofs.Seats.{off_is, up_append, up_none, Seat, seat, seat-size, leaf_node, leaf_place, leaf_entries_lem, row_is}
use Rattle.path.proofs.Made.{made_at, made_stands}
use Rattle.path.proofs.Roots.{the_pool}
use Rattle.moves.specs.Moves.{entered, Steps, next_leaf, prev_leaf}

-- Where moves come to, a cursor can stand

-- a cursor that a move has made
module _ (f : Row → Spot → Spot) (keeps : (L : Row) (s : Spot) → Fits L s → Fits L (f L s)) (ws : List ℕ) (c d : Cursor) (x : Steps f ws c d) where
  pub moved_tree : (p : Pool) (s : Spot) → Of ws p → At p c s → d.tree ≡ c.tree
  moved_tree p s o a = ap (λ (z : Cursor). z.tree) (x.to p s o a)

  pub moved_at : (p : Pool) (s : Spot) → Of ws p → At p c s → At p d (f (leaves (tree_of p c.tree)) s)
  moved_at p s o a = made_at p c.tree d (f (leaves (tree_of p c.tree)) s) (keeps (leaves (tree_of p c.tree)) s a.fits) (x.to p s o a)

  pub moved-standing : Standing ws c → Standing ws d
  moved-standing y = record {
    stand = λ p o.
        let s = y.stand p o in
        made_stands p c.tree d (f (leaves (tree_of p c.tree)) s.spot) (keeps (leaves (tree_of p c.tree)) s.spot s.fits) (x.to p s.spot o (record { fits = s.fits; same = s.same }));
  }

  pub moved_ready : (t : ℕ) → Ready ws t c.tree → Standing ws c → Ready ws t d.tree
  moved_ready t y z =
      let o = the_pool ws t c.tree y in
      let s = z.stand y.sound.pool o in
      let e = moved_tree y.sound.pool s.spot o (record { fits = s.fits; same = s.same }) in
      record { sound = y.sound; trees = y.trees; there = rw e y.there }

-- Another place in the leaf

module _ (f : ℕ × ℕ → ℕ) where
  over_pad : (m : ℕ) (us : Path) (x y : ℕ × ℕ) → length us < m → set (pad m (map f (us ++ x ∷ []))) (length us) (f y) ≡ pad m (map f (us ++ y ∷ []))
  over_pad zero us x y h = absurd (omega arith)
  over_pad (suc m) [] x y h = refl
  over_pad (suc m) (u ∷ us) x y h = ap (f u ∷◌) (over_pad m us x y (omega arith))

enter_at : (t : ℕ) (us : Path) (n e p : ℕ) → length us < 16 → entered (cursor_at t (us ++ (n, e) ∷ [])) (length us) p ≡ cursor_at t (us ++ (n, p) ∷ [])
unfolding entered
enter_at t us n e p h =
    let a : length (us ++ (n, e) ∷ []) ≡ length (us ++ (n, p) ∷ []) = length-append us ((n, e) ∷ []) ∙ sym (length-append us ((n, p) ∷ [])) in
    let b : pad most_levels (map (λ (q : ℕ × ℕ). q.0) (us ++ (n, e) ∷ [])) ≡ pad most_levels (map (λ (q : ℕ × ℕ). q.0) (us ++ (n, p) ∷ [])) = ap (pad most_levels) (same us) in
    let d = over_pad (λ q. q.1) most_levels us (n, e) (n, p) h in
    λ i. record { tree = t; size = a i; nodes = b i; places = d i }
  where
    same : (vs : Path) → map (λ (q : ℕ × ℕ). q.0) (vs ++ (n, e) ∷ []) ≡ map (λ (q : ℕ × ℕ). q.0) (vs ++ (n, p) ∷ [])
    same [] = refl
    same (v ∷ vs) = ap (v.0 ∷◌) (same vs)

module _ (ws : List ℕ) (t : ℕ) (c : Cursor) where
  -- the leaf's words and place, from a seat
  module _ (p : Pool) (s : Spot) (u : Seat ws t p c s) where
    pub seat_entries : get_or ws (base t (get_or c.nodes (c.size - 1) 0)) 0 ≡ 32 + size_at u.L u.j
    seat_entries = rw (leaf_node ws t c p s u) (leaf_entries_lem ws t c p s u) ∙ ap (32 +◌) (length-items u.L u.j)

    seat-spot : (f : Row → Spot → Spot) → f (leaves (tree_of p c.tree)) s ≡ f u.L (on u.j u.e)
    seat-spot f = rw (row_is ws t c p s u, u.spot_is)

    entered-path : (k : ℕ) → entered c (c.size - 1) k ≡ cursor_at c.tree (path_up u.j u.Rs ((get_or (nums u.L) u.j 0, k) ∷ []))
    entered-path k =
        let z : c.size - 1 ≡ length (path_up u.j u.Rs []) = omega (arith, seat-size ws t c p s u, up_none u.j u.Rs) in
        let h : length (path_up u.j u.Rs []) < 16 = omega (arith, up_none u.j u.Rs, u.laid.few) in
        ap (λ (l : ℕ). entered c l k) z ∙
        ap (λ (x : Cursor). entered x (length (path_up u.j u.Rs [])) k) (u.same ∙ ap (cursor_at c.tree) (up_append u.j u.Rs ((get_or (nums u.L) u.j 0, u.e) ∷ []))) ∙
        enter_at c.tree (path_up u.j u.Rs []) (get_or (nums u.L) u.j 0) u.e k h ∙
        ap (cursor_at c.tree) (sym (up_append u.j u.Rs ((get_or (nums u.L) u.j 0, k) ∷ [])))

  module _ (y : Ready ws t c.tree) (h : 1 ≤ c.size) (f : Row → Spot → Spot) where
    -- to place k of the leaf
    pub step_entry : (k : ℕ) (r : Cursor) → r ≡ entered c (c.size - 1) k →
        ((L : Row) (j e : ℕ) → get_or ws (base t (get_or c.nodes (c.size - 1) 0)) 0 ≡ 32 + size_at L j → get_or c.places (c.size - 1) 0 ≡ e → f L (on j e) ≡ on j k) → Steps f ws c r
    step_entry k r q g = record {
      to = λ p s o a.
          let u = seat ws t c y h p s o a in
          let e : f (leaves (tree_of p c.tree)) s ≡ on u.j k = seat-spot p s u f ∙ (g u.L u.j u.e (seat_entries p s u) (leaf_place ws t c p s u)) in
          q ∙ entered-path p s u k ∙ ap (cursor_at c.tree) (sym (ap (path_of (tree_of p c.tree)) e ∙ ap (λ (x : Tree). path_of x (on u.j k)) u.tree_is));
    }

    -- nowhere
    pub step_none : ((L : Row) (j e : ℕ) → get_or ws (base t (get_or c.nodes (c.size - 1) 0)) 0 ≡ 32 + size_at L j → get_or c.places (c.size - 1) 0 ≡ e → f L (on j e) ≡ on j e) → Steps f ws c c
    step_none g = record {
      to = λ p s o a.
          let u = seat ws t c y h p s o a in
          let e : f (leaves (tree_of p c.tree)) s ≡ s = seat-spot p s u f ∙ g u.L u.j u.e (seat_entries p s u) (leaf_place ws t c p s u) ∙ sym u.spot_is in
          sym (ap (λ (v : Spot). cursor_at c.tree (path_of (tree_of p c.tree) v)) e ∙ a.same);
    }

    -- where another move goes
    pub step_as : (g : Row → Spot → Spot) (r : Cursor) → Steps g ws c r →
        ((L : Row) (j e : ℕ) → get_or ws (base t (get_or c.nodes (c.size - 1) 0)) 0 ≡ 32 + size_at L j → get_or c.places (c.size - 1) 0 ≡ e → f L (on j e) ≡ g L (on j e)) → Steps f ws c r
    step_as g r x q = record {
      to = λ p s o a.
          let u = seat ws t c y h p s o a in
          let e : f (leaves (tree_of p c.tree)) s ≡ g (leaves (tree_of p c.tree)) s = seat-spot p s u f ∙ q u.L u.j u.e (seat_entries p s u) (leaf_place ws t c p s u) ∙ sym (seat-spot p s u g) in
          x.to p s o a ∙ ap (λ (v : Spot). cursor_at c.tree (path_of (tree_of p c.tree) v)) (sym e);
    }

-- Off the end

pub step_off : (f : Row → Spot → Spot) (ws : List ℕ) (c : Cursor) → c.size ≡ 0 → ((L : Row) → f L off ≡ off) → Steps f ws c c
step_off f ws c h g = record {
  to = λ p s o a.
      let e = off_is c p s h a in
      let z : f (leaves (tree_of p c.tree)) s ≡ s = rw e (g (leaves (tree_of p c.tree))) in
      sym (ap (λ (v : Spot). cursor_at c.tree (path_of (tree_of p c.tree) v)) z ∙ a.same);
}

-- the cursor of size 0
pub off_cursor : (ws : List ℕ) (t : ℕ) (c : Cursor) → Ready ws t c.tree → Standing ws c → c.size ≡ 0 → c ≡ cursor_at c.tree []
off_cursor ws t c y d h =
    let s = d.stand y.sound.pool (the_pool ws t c.tree y) in
    let e = off_is c y.sound.pool s.spot h (record { fits = s.fits; same = s.same }) in
    sym s.same ∙ ap (λ (v : Spot). cursor_at c.tree (path_of (tree_of y.sound.pool c.tree) v)) e

-- from there back to the last pair
pub back_last : (ws : List ℕ) (c r : Cursor) → c.size ≡ 0 → Goes (λ L. prev L off) ws c.tree r → Steps prev ws c r
back_last ws c r h g = record { to = λ p s o a. g.to p o ∙ ap (λ (v : Spot). cursor_at c.tree (path_of (tree_of p c.tree) (prev (leaves (tree_of p c.tree)) v))) (sym (off_is c p s h a)) }

-- What each move does in a leaf of so many entries

module _ (L : Row) (j e n : ℕ) (q : n ≡ size_at L j) where
  pub next_within : e + 1 < n → next L (on j e) ≡ on j (e + 1)
  next_within h = let z : e + 1 ≡ suc e = omega arith in rw z (simp (lt-ltb (suc e) (size_at L j) (omega arith)))

  pub next_beyond : n ≤ e + 1 → next L (on j e) ≡ next_leaf L (on j e)
  next_beyond h = simp (le-ltb (suc e) (size_at L j) (omega arith))

  pub settle_within : e < n → settle L (on j e) ≡ on j e
  settle_within h = simp (lt-ltb e (size_at L j) (omega arith))

  pub settle_beyond : n ≤ e → settle L (on j e) ≡ next_leaf L (on j e)
  settle_beyond h = simp (le-ltb e (size_at L j) (omega arith))

pub prev_within : (L : Row) (j e : ℕ) → (e ≡ 0 → ⊥) → prev L (on j e) ≡ on j (e - 1)
prev_within L j zero h = absurd (h refl)
prev_within L j (suc e) h = let z : suc e - 1 ≡ e = omega arith in rw z

pub prev_beyond : (L : Row) (j e : ℕ) → e ≡ 0 → prev L (on j e) ≡ prev_leaf L (on j e)
prev_beyond L zero e h = rw h
prev_beyond L (suc j) e h = rw h

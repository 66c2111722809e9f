-- PROOFS. Removing key k at its cursor gives remove_tree and freed
use mathlib.Core.Path.{◌≡◌, refl, ap}
use mathlib.Core.List.{List, [], ◌∷◌, ◌++◌}
use mathlib.Core.Bool.{true, cond}
use Prim.Native.Nat.{ℕ, zero, suc, ◌+◌, ◌-◌, ◌≤◌, ◌<◌}
use native.Mathlib.Omega.{arith}
use lib.ListN.{length, take, get_or}
use borrow.Author.Tests.{lt-ltb, le-ltb}
use Rattle.forest.specs.Lists.{sum, parent, offset}
use Rattle.forest.specs.Pairs.{has, place}
use Rattle.forest.specs.Rows.{Row, sizes, refresh, drop_row}
use Rattle.forest.specs.Trees.{leaf_of, leaf_items, drop_leaf, drop_above, remove_tree, freed, stand, trim, trimmed, lost, drop_up, freed_up}
use Rattle.crit.proofs.HealRows
use Rattle.crit.proofs.HealNext

-- the position of entry p of the j-th group
pub at_place : (gs : List ℕ) (j p : ℕ) → p < get_or gs j 0 → (parent gs (sum (take j gs) + p) ≡ j) × (offset gs (sum (take j gs) + p) ≡ p) × (sum (take j gs) + p < sum gs)
at_place [] j p h = absurd (omega arith)
at_place (g ∷ gs) zero p h =
    let z : 0 + p ≡ p = omega arith in
    rw z (simp (lt-ltb p g h) (refl, refl, omega arith))
at_place (g ∷ gs) (suc j) p h =
    let q = at_place gs j p h in
    let z : g + sum (take j gs) + p - g ≡ sum (take j gs) + p = omega arith in
    simp (le-ltb (g + sum (take j gs) + p) g (omega arith), z) (ap suc q.0, q.1, omega arith)

-- the definition at that position
pub tree_is : (c k : ℕ) (L : Row) (Rs : List Row) (i : ℕ) → has k (leaf_items k L) ≡ true → parent (sizes L) i ≡ leaf_of k L → offset (sizes L) i ≡ place k (leaf_items k L) →
    1 ≤ length (drop_row c (parent (sizes L) i) (offset (sizes L) i) L) →
    remove_tree c k (L ∷ Rs) ≡
    drop_row c (parent (sizes L) i) (offset (sizes L) i) L ∷
    refresh (drop_row c (parent (sizes L) i) (offset (sizes L) i) L)
    (trim (drop_row c (parent (sizes L) i) (offset (sizes L) i) L) (cond (lost (drop_row c (parent (sizes L) i) (offset (sizes L) i) L) L) (drop_up (parent (sizes L) i) Rs) Rs))
unfolding remove_tree drop_leaf drop_above
tree_is c k L Rs i e a b some = rw (a, b) (simp e (stands (drop_row c (leaf_of k L) (place k (leaf_items k L)) L) (cond (lost (drop_row c (leaf_of k L) (place k (leaf_items k L)) L) L) (drop_up (leaf_of k L) Rs) Rs) (rw (a, b) at some)))
  where
    stands : (M : Row) (Ss : List Row) → 1 ≤ length M → stand M Ss ≡ M ∷ refresh M (trim M Ss)
    stands [] Ss h = absurd (omega arith)
    stands (n ∷ M) Ss h = refl

pub freed_is : (c k : ℕ) (L : Row) (Rs : List Row) (i : ℕ) → has k (leaf_items k L) ≡ true → parent (sizes L) i ≡ leaf_of k L → offset (sizes L) i ≡ place k (leaf_items k L) →
    freed c k (L ∷ Rs) ≡
    cond (lost (drop_row c (parent (sizes L) i) (offset (sizes L) i) L) L) (HealRows.num_at L (parent (sizes L) i) ∷ freed_up (parent (sizes L) i) Rs) [] ++
    trimmed (drop_row c (parent (sizes L) i) (offset (sizes L) i) L) (cond (lost (drop_row c (parent (sizes L) i) (offset (sizes L) i) L) L) (drop_up (parent (sizes L) i) Rs) Rs)
unfolding freed drop_leaf drop_above
freed_is c k L Rs i e a b = rw (a, b, HealNext.num_at-nums L (leaf_of k L)) (simp e)

-- PROOFS. A tree in fewer than 1,365 nodes has at most six levels; so every tree of a well formed pool has
use mathlib.Core.Path.{◌≡◌}
use mathlib.Core.List.{List, [], ◌∷◌}
use Prim.Native.Nat.{ℕ, ◌+◌, ◌*◌, ◌≤◌, ◌<◌}
use native.Mathlib.Omega.{arith}
use lib.ListN.{length, length-append, length-map}
use Rattle.forest.specs.Lists.{sum}
use Rattle.forest.specs.Rows.{Row, Tree, sizes, nums, Fill, Good}
use Rattle.forest.specs.Trees.{numbers}
use Rattle.forest.specs.Pools.{Pool, WellFormed, tree_of}
use Rattle.forest.proofs.TowerLaws.{Levels, tower_levels}
use Rattle.forest.proofs.PoolLaws.{good_at, used-at}
use Rattle.forest.proofs.CountLaws.{nodes_all}

-- every node but the last has four children
children : (S : Row) → Fill 4 8 (sizes S) → 4 * length S ≤ sum (sizes S) + 3
children [] f = omega arith
children (n ∷ []) f = omega arith
children (n ∷ m ∷ S) f = omega (arith, children (m ∷ S) f.2)

nodes : (R : Row) (Rs : List Row) → length (numbers (R ∷ Rs)) ≡ length R + length (numbers Rs)
nodes R Rs = omega (arith, length-append (nums R) (numbers Rs), length-map R (λ n. n.num))

-- under a root of two children stand 2, 5, 17, 65, 257 and 1,025 nodes at least
six : (n : ℕ) (Rs : List Row) → Levels n Rs → n + length (numbers Rs) < 1365 → length Rs ≤ 5
six n [] w h = omega arith
six n (A ∷ []) w h = omega arith
six n (A ∷ B ∷ []) w h = omega arith
six n (A ∷ B ∷ C ∷ []) w h = omega arith
six n (A ∷ B ∷ C ∷ D ∷ []) w h = omega arith
six n (A ∷ B ∷ C ∷ D ∷ E ∷ []) w h = omega arith
six n (A ∷ B ∷ C ∷ D ∷ E ∷ F ∷ Rs) w h =
    let a = children A w.2 in
    let b = children B w.3.2 in
    let c = children C w.3.3.2 in
    let d = children D w.3.3.3.2 in
    let e = children E w.3.3.3.3.2 in
    absurd (omega (
      arith,
      w.1,
      w.3.1,
      w.3.3.1,
      w.3.3.3.1,
      w.3.3.3.3.1,
      w.3.3.3.3.3.0,
      w.3.3.3.3.3.1,
      nodes A (B ∷ C ∷ D ∷ E ∷ F ∷ Rs),
      nodes B (C ∷ D ∷ E ∷ F ∷ Rs),
      nodes C (D ∷ E ∷ F ∷ Rs),
      nodes D (E ∷ F ∷ Rs),
      nodes E (F ∷ Rs),
    ))

-- for any number of nodes below 1,365
pub tree_levels : (m : ℕ) (x : Tree) → Good m 7 x → length (numbers x) < 1365 → length x ≤ 6
tree_levels m [] g h = omega arith
tree_levels m (L ∷ Rs) g h = omega (arith, six (length L) Rs (tower_levels L Rs g.2) (omega (arith, nodes L Rs)))

pub six_levels : (m : ℕ) (p : Pool) (t : ℕ) → WellFormed m p → length (tree_of p t) ≤ 6
six_levels m p t h = tree_levels m (tree_of p t) (good_at m p.trees t h.good) (omega (arith, used-at p.trees t, nodes_all m p h, h.few_nodes))

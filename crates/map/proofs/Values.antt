-- PROOFS. The value of a key from a look at its place
use mathlib.Core.Path.{◌≡◌, refl, sym}
use mathlib.Core.List.{List, [], ◌∷◌}
use Prim.Native.Nat.{ℕ}
use native.Mathlib.Omega.{arith}
use lib.ListN.{length, get_elem?}
use borrow.Author.Tests.{lt-ltb, le-ltb, eq-eqb, ne_eqb}
use Rattle.std.specs.Prelude.{Ok}
use Rattle.forest.specs.Sizes.{leaf_least}
use Rattle.forest.specs.Pairs.{Item, Rising, lookup, place}
use Rattle.forest.specs.Rows.{Tree, Good}
use Rattle.forest.specs.Trees.{get_tree, leaf_items}
use Rattle.forest.specs.Cursors.{leaves, pair_at, seek}
use Rattle.forest.specs.Answers.{held}
use Rattle.forest.proofs.ListLaws.{tri, less, same, more}
use Rattle.forest.proofs.PairLaws.{above_trans, lookup_above}
use Rattle.forest.proofs.TowerLaws.{tower_some}
use Rattle.forest.proofs.TreeLaws.{lands}
use Rattle.path.specs.Cores.{look_of}
use Rattle.map.specs.Gates.{held_at}

held_place : (k : ℕ) (xs : List Item) → Rising xs → Ok (held_at (look_of (get_elem? xs (place k xs))) k) ≡ held (lookup k xs)
held_place k [] r = refl
held_place k (x ∷ xs) r = elim (tri x.0 k) [
  | less h ↦ simp (lt-ltb x.0 k h, ne_eqb k x.0 (omega arith)) (held_place k xs r.1)
  | same h ↦ simp (le-ltb x.0 k (omega arith), eq-eqb k x.0 (sym h), eq-eqb x.0 k h)
  | more h ↦ simp (le-ltb x.0 k (omega arith), ne_eqb k x.0 (omega arith), ne_eqb x.0 k (omega arith), lookup_above k xs (above_trans k x.0 xs h r.0))
]

pub held_tree : (k : ℕ) (t : Tree) → Good leaf_least 7 t → Ok (held_at (look_of (pair_at (leaves t) (seek k (leaves t)))) k) ≡ held (get_tree k t)
unfolding get_tree
held_tree k [] g = refl
held_tree k (L ∷ Rs) g =
    rw (lt-ltb 0 (length L) (tower_some L Rs g.2)) (held_place k (leaf_items k L) (lands leaf_least 7 k L Rs (omega arith) g).rises)

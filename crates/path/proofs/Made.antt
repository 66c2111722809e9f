-- PROOFS. Where going down comes to, a cursor can stand
use mathlib.Core.Path.{◌≡◌, sym, ap, ◌∙◌}
use mathlib.Core.List.{List}
use Prim.Native.Nat.{ℕ}
use native.Mathlib.Omega.{arith}
use Rattle.forest.specs.Sizes.{leaf_least}
use Rattle.forest.specs.Rows.{Row, Tree, Good}
use Rattle.forest.specs.Pools.{Pool, tree_of}
use Rattle.forest.specs.Cursors.{Spot, leaves, Fits, seek, path_of, cursor_at, Stands}
use Rattle.forest.specs.declared.Cursor.{Cursor}
use Rattle.forest.proofs.PoolLaws.{good_at}
use Rattle.forest.proofs.CursorCalls
use Rattle.path.specs.Cores.{Ready, Of, At, Standing, Goes}
use Rattle.path.proofs.Roots.{the_pool}

pub fits-seek : (k : ℕ) (t : Tree) → Good leaf_least 7 t → Fits (leaves t) (seek k (leaves t))
fits-seek k t g = CursorCalls.fits-seek leaf_least k t (omega arith) g

-- a cursor made at a spot
module _ (p : Pool) (tree : ℕ) (d : Cursor) (s : Spot) (f : Fits (leaves (tree_of p tree)) s) (e : d ≡ cursor_at tree (path_of (tree_of p tree) s)) where
  pub made_tree : d.tree ≡ tree
  made_tree = ap (λ (x : Cursor). x.tree) e

  pub made_at : At p d s
  made_at = record { fits = rw made_tree f; same = ap (λ (x : ℕ). cursor_at x (path_of (tree_of p x) s)) made_tree ∙ sym e }

  pub made_stands : Stands (tree_of p d.tree) d
  made_stands = record { spot = s; fits = made_at.fits; same = made_at.same }

-- a cursor that find or first has made
module _ (f : Row → Spot) (keeps : (x : Tree) → Good leaf_least 7 x → Fits (leaves x) (f (leaves x))) (ws : List ℕ) (t tree : ℕ) (d : Cursor) (y : Ready ws t tree) (x : Goes f ws tree d) where
  gone_fits : (p : Pool) → Of ws p → Fits (leaves (tree_of p tree)) (f (leaves (tree_of p tree)))
  gone_fits p o = keeps (tree_of p tree) (good_at leaf_least p.trees tree o.formed.good)

  pub gone_tree : d.tree ≡ tree
  gone_tree = made_tree y.sound.pool tree d (f (leaves (tree_of y.sound.pool tree))) (gone_fits y.sound.pool (the_pool ws t tree y)) (x.to y.sound.pool (the_pool ws t tree y))

  pub gone_at : (p : Pool) → Of ws p → At p d (f (leaves (tree_of p tree)))
  gone_at p o = made_at p tree d (f (leaves (tree_of p tree))) (gone_fits p o) (x.to p o)

  pub gone_standing : Standing ws d
  gone_standing = record { stand = λ p o. made_stands p tree d (f (leaves (tree_of p tree))) (gone_fits p o) (x.to p o) }

  pub gone_ready : Ready ws t d.tree
  gone_ready = rw gone_tree y

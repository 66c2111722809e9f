-- PROOFS. What the ghost fields of a cursor say: its tree is ready, and it stands; and a cursor that stands in a ready tree keeps them
use mathlib.Core.Path.{◌≡◌, sym, ap, ◌∙◌}
use mathlib.Core.List.{List}
use mathlib.Core.Bool.{true}
use Prim.Native.Nat.{ℕ, ◌+◌, ◌<◌}
use native.Mathlib.Omega.{arith}
use lib.ListN.{length, get_or}
use Rattle.forest.specs.Sizes.{leaf_least, most_levels}
use Rattle.forest.specs.Rows.{Row}
use Rattle.forest.specs.Pools.{tree_of}
use Rattle.forest.specs.Cursors.{Spot}
use Rattle.forest.specs.declared.Cursor.{Cursor}
use Rattle.forest.proofs.PoolLaws.{good_at}
use Rattle.forest.proofs.Six.{six_levels}
use Rattle.forest.proofs.StandLaws.{stands_yes, yes_stands}
use Rattle.sound.specs.Checks.{checked}
use Rattle.sound.proofs.CheckYes.{check_yes}
use Rattle.path.specs.Cores.{Ready, Of, Standing}
use Rattle.stand.specs.Runs.{stands_at}
use Rattle.stand.proofs.Running.{stands_words}
use Rattle.moves.specs.Moves.{Steps}
use Rattle.moves.specs.declared.MapCursor.{MapCursor}

-- the ghost fields of cursor d in the words of x
pub record KeptFields (x : MapCursor) (d : Cursor) : Type 0 where
  pub sound : checked x.words.now leaf_least ≡ true
  pub counted : x.trees ≡ get_or x.words.now 0 0
  pub there : d.tree < x.trees
  pub stands : stands_at x.words.now x.trees (get_or x.words.now (1 + d.tree) 0) d ≡ true

pub cursor_ready : (x : MapCursor) → Ready x.words.now x.trees x.cursor.tree
cursor_ready x = record { sound = check_yes x.words.now leaf_least x.sound; trees = x.counted; there = x.there }

pub cursor_stands : (x : MapCursor) → length x.cursor.nodes ≡ most_levels → length x.cursor.places ≡ most_levels → Standing x.words.now x.cursor
cursor_stands x ln lp = record { stand = λ p o. yes_stands (tree_of p x.cursor.tree) x.cursor ln lp (sym (stands_words x.words.now x.trees x.cursor (cursor_ready x) p o) ∙ x.stands) }

-- the pool that ready words are of
pool_of : (ws : List ℕ) (t tree : ℕ) (y : Ready ws t tree) → Of ws y.sound.pool
pool_of ws t tree y = record { formed = y.sound.formed; same = y.sound.same }

pub standing_words : (ws : List ℕ) (t : ℕ) (c : Cursor) → Ready ws t c.tree → Standing ws c → stands_at ws t (get_or ws (1 + c.tree) 0) c ≡ true
standing_words ws t c y z =
    let p = y.sound.pool in
    let o = pool_of ws t c.tree y in
    stands_words ws t c y p o ∙ stands_yes leaf_least (tree_of p c.tree) c (good_at leaf_least p.trees c.tree o.formed.good) (omega (arith, six_levels leaf_least p c.tree o.formed)) (z.stand p o)

module _ (x : MapCursor) (d : Cursor) (e : d.tree ≡ x.cursor.tree) (z : Standing x.words.now d) where
  ready_there : Ready x.words.now x.trees d.tree
  ready_there = rw e (cursor_ready x)

  -- the ghost fields of another place of the tree
  pub kept_fields : KeptFields x d
  kept_fields = record { sound = x.sound; counted = x.counted; there = rw e x.there; stands = standing_words x.words.now x.trees d ready_there z }

-- a move stays in its tree
pub steps_tree : (f : Row → Spot → Spot) (x : MapCursor) → Ready x.words.now x.trees x.cursor.tree → Standing x.words.now x.cursor → (d : Cursor) → Steps f x.words.now x.cursor d → d.tree ≡ x.cursor.tree
steps_tree f x y z d s =
    let o = pool_of x.words.now x.trees x.cursor.tree y in
    let a = z.stand y.sound.pool o in
    ap (λ (u : Cursor). u.tree) (s.to y.sound.pool a.spot o (record { fits = a.fits; same = a.same }))

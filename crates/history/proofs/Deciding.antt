-- PROOFS. Words are sound or not: the check, which is exact, decides
use mathlib.Core.Path.{refl, sym}
use mathlib.Core.List.{List}
use mathlib.Core.Bool.{true, false, true≢false}
use Prim.Native.Nat.{ℕ}
use Rattle.forest.specs.Sizes.{leaf_least}
use Rattle.forest.specs.Pools.{Sound}
use Rattle.forest.proofs.ListLaws.{is, isnt, test}
use Rattle.sound.specs.Checks.{checked}
use Rattle.sound.proofs.CheckSteps.{exact}

pub data Decided (ws : List ℕ) : Type 0 where
  sound : Sound leaf_least ws → Decided ws
  unsound : (Sound leaf_least ws → ⊥) → Decided ws

pub decide : (ws : List ℕ) → Decided ws
decide ws = elim (test (checked ws leaf_least)) [
  | is e ↦ sound ((exact ws true (sym e)).yes refl)
  | isnt e ↦ unsound (λ q. true≢false (sym ((exact ws false (sym e)).every q)))
]

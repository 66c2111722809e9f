-- PROOFS. A tree whose words the check says yes to is ready, and a ready one's words are such
use mathlib.Core.Path.{◌≡◌}
use mathlib.Core.List.{List}
use mathlib.Core.Bool.{true}
use Prim.Native.Nat.{ℕ}
use Rattle.forest.specs.Sizes.{leaf_least}
use Rattle.sound.specs.Checks.{checked}
use Rattle.sound.proofs.CheckYes.{check_yes}
use Rattle.sound.proofs.CheckDoes.{check_does}
use Rattle.path.specs.declared.Tree.{Tree}
use Rattle.path.specs.Cores.{Ready}

pub tree_ready : (x : Tree) → Ready x.words.now x.trees x.number
tree_ready x = record { sound = check_yes x.words.now leaf_least x.sound; trees = x.counted; there = x.there }

pub ready_checked : (ws : List ℕ) (t tree : ℕ) → Ready ws t tree → checked ws leaf_least ≡ true
ready_checked ws t tree r = check_does ws leaf_least r.sound

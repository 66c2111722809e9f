-- PROOFS. Freeing a node: the words afterwards, and why the stack has room
use mathlib.Core.Path.{◌≡◌, refl, sym, ap, ◌∙◌}
use mathlib.Core.List.{List, ◌∷◌}
use Prim.Native.Nat.{ℕ, ◌≤◌, ◌<◌}
use native.Mathlib.Omega.{arith}
use lib.ListN.{length}
use Rattle.forest.specs.Lists.{count}
use Rattle.forest.specs.declared.Cursor.{Cursor}
use Rattle.forest.proofs.CountLaws.{in_range, few_numbers}
use Rattle.pool.specs.Stores.{spell, freed_words, no_words, free_count, Freeable}
use Rattle.pool.proofs.Bridges.{spell-frees}
use Rattle.pool.proofs.Stacks.{spell_freeable, spell-freed}
use Rattle.crit.specs.Asks.{Mem, moved, Spelt}
use Rattle.heal.specs.Steps.{free_node}
use Rattle.heal.specs.Wounds.{Within}
use Rattle.crit.proofs.SpeltLaws.{put_sixteen, spelt_as}

-- a node goes to the stack, which has room for it
module _ {ws : List ℕ} {t : ℕ} {c : Cursor} {m : Mem} (sp : Spelt ws t c m) (n : ℕ) (lo : 1 ≤ n) (hi : n ≤ m.count) (room : length m.s.free < m.count) where
  pub spelt_freeable : Freeable ws t n
  spelt_freeable = rw (sp.words, sp.trees) (spell_freeable m.roots m.count m.s.st m.s.free sp.sixteen room n lo hi sp.few)

  pub spelt_freed : Spelt (freed_words ws t n) t c (moved m (free_node m.s n))
  spelt_freed =
      spelt_as sp (free_node m.s n)
      (ap (λ (v : List ℕ). freed_words v t n) sp.words ∙ ap (λ (x : ℕ). freed_words (spell m.roots m.count m.s.st m.s.free) x n) sp.trees ∙
      spell-freed m.roots m.count m.s.st m.s.free sp.sixteen room n lo hi)
      (put_sixteen m.s.st n no_words sp.sixteen refl) refl refl refl

pub same_free : {ws : List ℕ} {t : ℕ} {c d : Cursor} {m m' : Mem} → Spelt ws t c m → Spelt ws t d m' → length m.s.free ≡ length m'.s.free
same_free {ws} {t} {m} {m'} a b =
    sym (spell-frees m.roots m.count m.s.st m.s.free a.sixteen) ∙ ap (λ (v : List ℕ). free_count v (length m.roots)) (sym a.words ∙ b.words) ∙
    ap (free_count (spell m'.roots m'.count m'.s.st m'.s.free)) (sym a.trees ∙ b.trees) ∙ spell-frees m'.roots m'.count m'.s.st m'.s.free b.sixteen

-- while a number is in use, the stack has room for one more
pub room : (N n : ℕ) (xs free : List ℕ) → Within N (n ∷ xs) free → length free < N
room N n xs free w = let a = few_numbers N (n ∷ free) (λ x. omega (arith, w x)) in omega arith

pub within_named : (N : ℕ) (xs free : List ℕ) → Within N xs free → (x : ℕ) → 1 ≤ count x xs → (1 ≤ x) × (x ≤ N)
within_named N xs free w x h = in_range x N (omega (arith, w x))

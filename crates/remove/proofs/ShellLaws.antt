-- PROOFS. What remove asks on its way, and what it leaves
use mathlib.Core.Path.{◌≡◌, refl, sym, ◌∙◌, subst}
use mathlib.Core.Bool.{Bool, true, false}
use mathlib.Core.List.{List}
use Prim.Native.Nat.{ℕ, ◌+◌, ◌-◌, ◌≤◌, ◌<◌}
use native.Mathlib.Omega.{arith}
use lib.ListN.{length, get_or, set}
use borrow.Author.Tests.{eqb-true, eqb-false}
use Rattle.forest.specs.Lists.{sum}
use Rattle.forest.specs.Rows.{sizes}
use Rattle.forest.specs.Trees.{pairs}
use Rattle.forest.specs.Pools.{Pool, WellFormed, encode, tree_of}
use Rattle.forest.specs.declared.Cursor.{Cursor}
use Rattle.crit.specs.Asks.{moved, Spelt, Leaves}
use Rattle.heal.specs.Steps.{taken}
use Rattle.heal.specs.Cycle.{AskPair}
use Rattle.remove.specs.Ends.{AskShrink, Shrinks, shifted, AskRemove, AskLast, Lone, Removes}
use Rattle.remove.specs.declared.Top.{Top}
use Rattle.remove.proofs.StartLaws.{Begun, begun, levels, size_is, m0, s0, spelt0, stood, pairs_are, spot}
use Rattle.remove.proofs.RemoveLaws.{root_in, shrink_asks, gone_length, sp2, end_words, end_cursor}

pub lone_as : {ws : List ℕ} {c : Cursor} {r : Bool} (q : Bool) → Lone ws c r → r ≡ q → Lone ws c q
lone_as q l e = record { run = λ p f s. sym e ∙ l.run p f s }

module _ {ws : List ℕ} {t : ℕ} {c : Cursor} (a : AskRemove ws t c) where
  abbrev at : (p : Pool) (f : WellFormed 3 p) → encode p ≡ ws → Begun p c
  at p f e = begun p c (a.stands p f e)

  abbrev p0 : Pool
  p0 = a.sound.pool

  abbrev f0 : WellFormed 3 p0
  f0 = a.sound.formed

  abbrev b0 : Begun p0 c
  b0 = at p0 f0 a.sound.same

  pub some_size : 1 ≤ c.size
  some_size = omega (arith, size_is p0 c f0 b0)

  pub ask_last : Lone ws c true → AskLast ws t c
  ask_last l = record { asks = a; one = λ p f e. eqb-true _ 1 (sym (l.run p f e)) }

  module _ (l : Lone ws c false) where
    many : (p : Pool) (f : WellFormed 3 p) (e : encode p ≡ ws) → 2 ≤ sum (sizes (at p f e).L)
    many p f e =
        let n = eqb-false (length (pairs (tree_of p c.tree))) 1 (sym (l.run p f e)) in
        let q = pairs_are p c f (at p f e) in
        let z : (sum (sizes (at p f e).L) ≡ 1 → ⊥) = (λ k. n (q ∙ k)) in
        omega (arith, (spot p c f (at p f e)).2)

    level-is : (p : Pool) (f : WellFormed 3 p) (e : encode p ≡ ws) → length (at p f e).Rs ≡ c.size - 1
    level-is p f e = omega (arith, size_is p c f (at p f e))

    pub stands_there : AskPair ws t c (c.size - 1)
    stands_there = subst (AskPair ws t c) (level-is p0 f0 a.sound.same) (stood p0 c f0 b0 a.sound.same (a.trees p0 f0 a.sound.same) (eqb-false _ 1 (sym (l.run p0 f0 a.sound.same))))

    module _ {vs : List ℕ} {d : Cursor} (g : Leaves (taken (c.size - 1)) ws vs t c d) where
      after : (p : Pool) (f : WellFormed 3 p) (e : encode p ≡ ws) → Spelt vs t d (moved (m0 p c f (at p f e)) (taken (length (at p f e).Rs) (s0 p c f (at p f e))))
      after p f e =
          subst (λ (q : ℕ). Spelt vs t d (moved (m0 p c f (at p f e)) (taken q (s0 p c f (at p f e))))) (sym (level-is p f e)) (g.run (m0 p c f (at p f e)) (spelt0 p c f (at p f e) e (a.trees p f e)))

      pub root_there : c.tree + 1 < length vs
      root_there = root_in p0 c f0 b0 (after p0 f0 a.sound.same)

      module _ {n : ℕ} (en : n ≡ get_or vs (c.tree + 1) 0) where
        pub asks_shrink : AskShrink vs t n (c.size - 1)
        asks_shrink = subst (AskShrink vs t n) (level-is p0 f0 a.sound.same) (shrink_asks p0 c f0 b0 (many p0 f0 a.sound.same) (after p0 f0 a.sound.same) en)

        module _ {xs : List ℕ} {top : Top} (sh : Shrinks vs xs t n (c.size - 1) top) where
          shrinks-at : (p : Pool) (f : WellFormed 3 p) (e : encode p ≡ ws) → Shrinks vs xs t n (length (at p f e).Rs) top
          shrinks-at p f e = subst (λ (q : ℕ). Shrinks vs xs t n q top) (sym (level-is p f e)) sh

          ys : List ℕ
          ys = set xs (c.tree + 1) top.root

          pub root_still : c.tree + 1 < length xs
          root_still = root_in p0 c f0 b0 (sp2 p0 c f0 b0 (many p0 f0 a.sound.same) (after p0 f0 a.sound.same) en (shrinks-at p0 f0 a.sound.same) refl refl)

          pub shift_asks : (d.size ≤ 16) × (top.gone ≤ 16)
          shift_asks =
              let g = gone_length p0 c f0 b0 (many p0 f0 a.sound.same) (after p0 f0 a.sound.same) en (shrinks-at p0 f0 a.sound.same) refl refl in
              let l6 = levels p0 c f0 b0 in
              let z = (after p0 f0 a.sound.same).size in
              (either (taken (length b0.Rs) (s0 p0 c f0 b0)).live z, omega arith)
            where
              either : (q : Bool) → d.size ≡ mathlib.Core.Bool.cond q c.size 0 → d.size ≤ 16
              either true z = omega (arith, size_is p0 c f0 b0, levels p0 c f0 b0)
              either false z = omega arith

          pub removes : {us : List ℕ} {r : Cursor} → us ≡ set xs (c.tree + 1) top.root → r ≡ shifted d top.gone → Removes ws us c r
          removes eu er = record {
            words = λ p f e. end_words p c f (at p f e) (many p f e) (after p f e) en (shrinks-at p f e) eu er;
            cursor = λ p f e. end_cursor p c f (at p f e) (many p f e) (after p f e) en (shrinks-at p f e) eu er;
          }

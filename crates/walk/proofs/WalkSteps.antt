-- Laws that the proof of the walk cites: what it is at a node, and the loop over the children from the k-th on
use Rattle.std.proofs.Common.{Option, Some, None, option_and_then}
use Rattle.forest.specs.Sizes.{leaf_least}
use mathlib.Core.Path.{◌≡◌, sym, ◌∙◌}
use mathlib.Core.List.{List}
use mathlib.Core.Bool.{Bool, true, false, cond, not}
use Prim.Native.Nat.{ℕ, zero, suc, ◌+◌, ◌-◌, ◌≤◌, ◌<◌}
use native.Mathlib.Omega.{arith}
use lib.ListN.{get_or}
use lib.Dec.{eqb}
use borrow.Author.Tests.{eqb-true, eqb-false, eq-eqb, ne_eqb}
use Rattle.forest.proofs.ListLaws.{is, isnt, test}
use Rattle.walk.specs.declared.Walked.{Walked}
use Rattle.walk.specs.Marks.{has, mark}
use Rattle.walk.specs.Walks.{lastly, lower, items, place_of, meets, leaf_walk, links, inner_fits, at_end, rest, others, inner_walk, walk}
use Rattle.walk.proofs.WalkLaws.{lower_some}
use Rattle.walk.proofs.Laws.{Met, met, links_none, Fitting, links_some}

lastly-items : (ws : List ℕ) (e : Bool) (a b k c : ℕ) → k ≤ c → lastly e (items ws a b (c - k)) ≡ at_end e k c
lastly-items ws e a b k c h = elim (test (eqb k c)) [
  | is f ↦ let d : c - k ≡ 0 = omega (arith, eqb-true k c f) in rw (f, d)
  | isnt f ↦ let g = eqb-false k c f in let d : c - k ≡ suc (c - k - 1) = omega arith in rw (f, d)
]

-- what is left of the walk over the inner node at b, of c children, from its k-th on; x is what the walks before hand back
unfoldable pub left_of : List ℕ → ℕ → ℕ → ℕ → Bool → ℕ → ℕ → ℕ → Walked → Option Walked
left_of ws T N h e b c k x = rest (walk ws T N leaf_least (h - 1)) e (items ws (b + k) (b + 8 + k) (c - k)) x

pub walk_no : (ws : List ℕ) (T N h : ℕ) (e : Bool) (n : ℕ) (ms : List ℕ) (q : ℕ) → meets N ms n ≡ false → walk ws T N leaf_least h e n ms q ≡ None
walk_no ws T N zero e n ms q f = rw f
walk_no ws T N (suc h) e n ms q f = rw f

module _ (ws : List ℕ) (T N h : ℕ) (e : Bool) (n : ℕ) (ms : List ℕ) (q : ℕ) where
  -- b is where its words start, seen the marks with its own
  module _ (b : ℕ) (seen : List ℕ) (p : Some b ≡ place_of T N n) (f : true ≡ not (has ms n)) (m : seen ≡ mark ms n) where
    may : Met T N n ms b
    may = met T N n ms b p f

    pub walk_leaf : h ≡ 0 → walk ws T N leaf_least h e n ms q ≡ leaf_walk ws leaf_least b e seen q
    walk_leaf z = rw (z, may.may, may.there, ← m)

    module _ (z : h ≡ 0 → ⊥) where
      level : h ≡ suc (h - 1)
      level = omega arith

      pub walk_unfit : None ≡ links ws b b 15 (lower e 4) 8 → walk ws T N leaf_least h e n ms q ≡ None
      unfolding inner_walk inner_fits
      walk_unfit f = rw (level, may.may, may.there, links_none ws b b 15 (lower e 4) 8 f)

      -- it has c children; v is the edge of the first
      module _ (c : ℕ) (l : Some c ≡ links ws b b 15 (lower e 4) 8) (v : Bool) (g : v ≡ at_end e 1 c) where
        fit : Fitting ws b b 15 (lower e 4) 8 c
        fit = links_some ws b b 15 (lower e 4) 8 c l

        edge : lastly e (others ws b) ≡ v
        edge =
            let s : get_or ws b 0 - 16 ≡ c - 1 = omega (arith, fit.same) in
            rw s (lastly-items ws e (b + 1) (b + 9) 1 c (omega (arith, fit.some, lower_some e 4 (omega arith))) ∙ sym g)

        pub walk_first : None ≡ walk ws T N leaf_least (h - 1) v (get_or ws (b + 8) 0) seen q → walk ws T N leaf_least h e n ms q ≡ None
        unfolding inner_walk inner_fits
        walk_first w = rw (level, may.may, may.there, fit.fits, ← m, edge, ← w)

        pub walk_rest : (x : Walked) → Some x ≡ walk ws T N leaf_least (h - 1) v (get_or ws (b + 8) 0) seen q → walk ws T N leaf_least h e n ms q ≡ left_of ws T N h e b c 1 x
        unfolding inner_walk inner_fits left_of
        walk_rest x w =
            let s : get_or ws b 0 - 16 ≡ c - 1 = omega (arith, fit.same) in
            let d : suc (h - 1) - 1 ≡ h - 1 = omega arith in
            let o : b + 8 + 1 ≡ b + 9 = omega arith in
            rw (level, may.may, may.there, fit.fits, ← m, edge, ← w, s, d, o)

-- the loop over the children: v is the edge of the next one
module _ (ws : List ℕ) (T N h : ℕ) (e : Bool) (b c k : ℕ) (x : Walked) where
  pub left_end : c ≤ k → left_of ws T N h e b c k x ≡ Some x
  unfolding left_of
  left_end l = let d : c - k ≡ 0 = omega arith in rw d

  module _ (l : k < c) (v : Bool) (g : v ≡ at_end e (k + 1) c) where
    child : left_of ws T N h e b c k x ≡
        option_and_then (λ y. cond (eqb y.low (get_or ws (b + k) 0)) (left_of ws T N h e b c (k + 1) (record { marks = y.marks; low = x.low; next = y.next })) None)
        (walk ws T N leaf_least (h - 1) v (get_or ws (b + 8 + k) 0) x.marks x.next)
    unfolding left_of
    child =
        let d : c - k ≡ suc (c - (k + 1)) = omega arith in
        let s : b + (k + 1) ≡ suc (b + k) = omega arith in
        let t : b + 8 + (k + 1) ≡ suc (b + 8 + k) = omega arith in
        rw (d, s, t, lastly-items ws e (suc (b + k)) (suc (b + 8 + k)) (k + 1) c (omega arith) ∙ sym g)

    pub left_no : None ≡ walk ws T N leaf_least (h - 1) v (get_or ws (b + 8 + k) 0) x.marks x.next → left_of ws T N h e b c k x ≡ None
    left_no w = child ∙ rw (← w)

    module _ (y : Walked) (w : Some y ≡ walk ws T N leaf_least (h - 1) v (get_or ws (b + 8 + k) 0) x.marks x.next) where
      pub left_low : (y.low ≡ get_or ws (b + k) 0 → ⊥) → left_of ws T N h e b c k x ≡ None
      left_low j = child ∙ rw (← w, ne_eqb y.low (get_or ws (b + k) 0) j)

      pub left_on : y.low ≡ get_or ws (b + k) 0 → left_of ws T N h e b c k x ≡ left_of ws T N h e b c (k + 1) (record { marks = y.marks; low = x.low; next = y.next })
      left_on j = child ∙ rw (← w, eq-eqb y.low (get_or ws (b + k) 0) j)

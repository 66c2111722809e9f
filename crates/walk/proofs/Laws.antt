-- Laws that the proofs of the code cite: words of a slice, a loop from its i-th turn on, marks, nodes
use Rattle.std.proofs.Common.{drop-cons}
use Rattle.std.specs.List.{list_all}
use Rattle.std.proofs.lemmas.List.{get_or-take, get_or-drop}
use Rattle.forest.specs.Sizes.{leaf_least}
use mathlib.Core.Path.{◌≡◌, refl, sym, ap, ◌∙◌}
use mathlib.Core.List.{List}
use mathlib.Core.Bool.{Bool, true, false, true≢false, ◌&&◌, not}
use Prim.Native.Nat.{ℕ, zero, suc, ◌+◌, ◌-◌, ◌*◌, ◌/◌, ◌%◌, ◌^◌, ◌≤◌, ◌<◌}
use native.Mathlib.Omega.{arith}
use lib.ListN.{length, get_or, set, take, drop}
use lib.Bits.{bit_or}
use lib.Pow.{shl_exact}
use lib.Dec.{leb, eqb}
use borrow.Author.Tests.{le-leb, lt-leb, leb-true}
use Rattle.std.proofs.Common.{Some, None}
use Rattle.walk.specs.Marks.{bit, has, mark}
use Rattle.walk.specs.Walks.{lower, place, place_of, meets, items, zeros, climbs, ends, node_fits, links, leaf_fits, leaf_items, leaf_walk}
use Rattle.forest.proofs.ListLaws.{is, isnt, test, both}
use Rattle.walk.proofs.WalkLaws.{lower_some}
use Rattle.std.proofs.lemmas.Grind.{common_steps}
use Rattle.std.proofs.lemmas.Option.{cond_some}

-- what a test of each word of a slice says
pub zeros-all : (ws : List ℕ) (a r : ℕ) → a + r ≤ length ws → list_all (λ w. eqb w 0) (take r (drop a ws)) ≡ zeros ws a r
zeros-all ws a zero h = refl
zeros-all ws a (suc r) h = let l : a < length ws = omega arith in rw (drop-cons ws a 0 l) (ap (eqb (get_or ws a 0) 0 &&◌) (zeros-all ws (suc a) r (omega arith)))

slice_length : (ws : List ℕ) (a r : ℕ) → a + r ≤ length ws → length (take (a + r - a) (drop a ws)) ≡ r
slice_length ws a r h = grind (arith, common_steps)

-- at the i-th turn over a slice of r words
pub record Turn (ws : List ℕ) (a r i : ℕ) : Type 0 where
  pub more : i < r
  pub word : get_or (take (a + r - a) (drop a ws)) i 0 ≡ get_or ws (a + i) 0

pub slice_turn : (ws : List ℕ) (a r i : ℕ) → a + r ≤ length ws → i < length (take (a + r - a) (drop a ws)) → Turn ws a r i
slice_turn ws a r i h t =
    let l : i < r = omega (arith, slice_length ws a r h) in
    let e : a + r - a ≡ r = omega arith in
    record { more = l; word = rw (e, get_or-take r (drop a ws) i 0 l, get_or-drop a ws i 0) }

module _ (ws : List ℕ) (a r i : ℕ) where
  pub climbs_on : (q k : ℕ) → i < r → k ≡ get_or ws (a + i) 0 → q ≤ k →
      climbs q (items ws (a + i) (a + 7 + i) (r - i)) ≡ climbs (k + 1) (items ws (a + (i + 1)) (a + 7 + (i + 1)) (r - (i + 1)))
  climbs_on q k h d e =
      let s : r - i ≡ suc (r - (i + 1)) = omega arith in
      let n : a + (i + 1) ≡ suc (a + i) = omega arith in
      let b : a + 7 + (i + 1) ≡ suc (a + 7 + i) = omega arith in
      let p : k + 1 ≡ suc k = omega arith in
      rw (s, n, b, p, ← d, le-leb q k e)

  pub climbs_off : (q k : ℕ) → i < r → k ≡ get_or ws (a + i) 0 → k < q → climbs q (items ws (a + i) (a + 7 + i) (r - i)) ≡ false
  climbs_off q k h d e = let s : r - i ≡ suc (r - (i + 1)) = omega arith in rw (s, ← d, lt-leb q k e)

-- Marks
pub has_read : (ms : List ℕ) (n : ℕ) → 1 ≤ n → eqb (bit (get_or ms ((n - 1) / 64) 0) ((n - 1) % 64)) 1 ≡ has ms n
unfolding has
has_read ms zero h = absurd (omega arith)
has_read ms (suc i) h = let d : suc i - 1 ≡ i = omega arith in rw d

shifted : (w j : ℕ) → j < 64 → bit_or w ((1 * 2 ^ j) % (2 ^ 64)) ≡ bit_or w (2 ^ j)
shifted w j h = let z : 1 * 2 ^ j ≡ 2 ^ j = omega arith in ap (bit_or w) (shl_exact {a = 1} 1 j 64 (omega arith) (omega arith) ∙ z)

pub mark_write : (ms : List ℕ) (n : ℕ) → 1 ≤ n →
    set ms ((n - 1) / 64) (bit_or (get_or ms ((n - 1) / 64) 0) ((1 * 2 ^ ((n - 1) % 64)) % (2 ^ 64))) ≡ mark ms n
unfolding mark
mark_write ms zero h = absurd (omega arith)
mark_write ms (suc i) h = let d : suc i - 1 ≡ i = omega arith in rw (d, shifted (get_or ms (i / 64) 0) (i % 64) (omega arith))

-- A node that may be met
outside : (x y z : Bool) → x && y ≡ false → x && (y && z) ≡ false
outside true true z f = absurd (true≢false f)
outside true false z f = refl
outside false y z f = refl

marked : (x y : Bool) → x && (y && false) ≡ false
marked true true = refl
marked true false = refl
marked false y = refl

pub met_before : (N n : ℕ) (ms : List ℕ) → false ≡ not (has ms n) → meets N ms n ≡ false
unfolding meets
met_before N n ms f = rw (← f) (marked (leb 1 n) (leb n N))

module _ (T N n : ℕ) (ms : List ℕ) where
  pub not_there : None ≡ place_of T N n → meets N ms n ≡ false
  unfolding meets
  not_there p = elim (test (leb 1 n && leb n N)) [
    | is f ↦ let g : Some (place T n) ≡ None = sym (rw f) ∙ sym p in cc
    | isnt f ↦ outside (leb 1 n) (leb n N) (not (has ms n)) f
  ]

  pub record Met (b : ℕ) : Type 0 where
    pub may : meets N ms n ≡ true
    pub there : place T n ≡ b

  pub met : (b : ℕ) → Some b ≡ place_of T N n → true ≡ not (has ms n) → Met b
  unfolding meets
  met b p f =
      let r = cond_some (leb 1 n && leb n N) (place T n) b (sym p) in
      let s = both (leb 1 n) (leb n N) r.0 in
      record { may = rw (s.0, s.1, ← f); there = r.1 }

-- Nodes: how many links
module _ (ws : List ℕ) (b a t l c : ℕ) where
  pub links_none : None ≡ links ws b a t l c → node_fits ws b a t l c ≡ false
  links_none n = elim (test (node_fits ws b a t l c)) [
    | isnt f ↦ f
    | is f ↦ let g : Some (get_or ws b 0 - t) ≡ None = sym (rw f) ∙ sym n in cc
  ]

  pub record Fitting (s : ℕ) : Type 0 where
    pub fits : node_fits ws b a t l c ≡ true
    pub same : get_or ws b 0 ≡ t + s
    pub some : l ≤ s

  pub links_some : (s : ℕ) → Some s ≡ links ws b a t l c → Fitting s
  links_some s n =
      let p = cond_some (node_fits ws b a t l c) (get_or ws b 0 - t) s (sym n) in
      let f = both (leb (t + l) (get_or ws b 0)) _ p.0 in
      let g = leb-true (t + l) (get_or ws b 0) f.0 in
      record { fits = p.0; same = omega (arith, p.1); some = omega (arith, p.1) }

-- The walk of a leaf
ends-items : (ws : List ℕ) (a c r q : ℕ) → ends q (items ws a c (suc r)) ≡ suc (get_or ws (a + r) 0)
ends-items ws a c zero q = let z : a + 0 ≡ a = omega arith in rw z
ends-items ws a c (suc r) q = let z : a + suc r ≡ suc a + r = omega arith in rw z (ends-items ws (suc a) (suc c) r (suc (get_or ws a 0)))

module _ (ws : List ℕ) (b : ℕ) (e : Bool) (ms : List ℕ) (q : ℕ) where
  pub leaf_none : None ≡ links ws b (b + 1) 32 (lower e leaf_least) 7 → leaf_walk ws leaf_least b e ms q ≡ None
  unfolding leaf_walk leaf_fits
  leaf_none n = rw (links_none ws b (b + 1) 32 (lower e leaf_least) 7 n)

  module _ (s : ℕ) (n : Some s ≡ links ws b (b + 1) 32 (lower e leaf_least) 7) where
    fit : Fitting ws b (b + 1) 32 (lower e leaf_least) 7 s
    fit = links_some ws b (b + 1) 32 (lower e leaf_least) 7 s n

    these : leaf_items ws b ≡ items ws (b + 1) (b + 1 + 7) s
    these =
        let d : get_or ws b 0 - 32 ≡ s = omega (arith, fit.same) in
        let t : b + 1 + 7 ≡ b + 8 = omega arith in
        rw (d, t)

    pub leaf_low : climbs q (items ws (b + 1) (b + 1 + 7) s) ≡ false → leaf_walk ws leaf_least b e ms q ≡ None
    unfolding leaf_walk leaf_fits
    leaf_low f = rw (fit.fits, these, f)

    pub leaf_met : climbs q (items ws (b + 1) (b + 1 + 7) s) ≡ true →
        leaf_walk ws leaf_least b e ms q ≡ Some (record { marks = ms; next = get_or ws (b + s) 0 + 1; low = get_or ws (b + 1) 0 })
    unfolding leaf_walk leaf_fits
    leaf_met f =
        let d : s ≡ suc (s - 1) = omega (arith, fit.some, lower_some e leaf_least (omega arith)) in
        let t : b + s ≡ b + 1 + (s - 1) = omega arith in
        let k : get_or ws (b + 1 + (s - 1)) 0 + 1 ≡ suc (get_or ws (b + 1 + (s - 1)) 0) = omega arith in
        let g : leaf_items ws b ≡ items ws (b + 1) (b + 1 + 7) (suc (s - 1)) = these ∙ ap (items ws (b + 1) (b + 1 + 7)) d in
        rw (fit.fits, g, t, k, rw d at f, ends-items ws (b + 1) (b + 1 + 7) (s - 1) q)

-- Laws that the proofs of the check cite
use Rattle.std.proofs.Common.{Some, None}
use Rattle.std.proofs.lemmas.Option.{cond_some}
use Rattle.std.specs.List.{list_all, range_with_len}
use Rattle.forest.specs.Sizes.{leaf_least}
use mathlib.Core.Path.{◌≡◌, refl, sym, ap, ◌∙◌}
use mathlib.Core.List.{List}
use mathlib.Core.Bool.{Bool, true, false, ◌&&◌, not}
use Prim.Native.Nat.{ℕ, zero, suc, ◌+◌, ◌-◌, ◌*◌, ◌≤◌, ◌<◌}
use native.Mathlib.Omega.{arith}
use lib.ListN.{length, get_or, replicate, get_or-eq_default}
use lib.Dec.{leb}
use borrow.Author.Tests.{eq-eqb, ne_eqb, le-leb, lt-leb, leb-true}
use Rattle.forest.proofs.ListLaws.{is, isnt, test}
use Rattle.walk.specs.declared.Walked.{Walked}
use Rattle.walk.specs.Marks.{has, mark}
use Rattle.walk.specs.Walks.{zeros, place, place_of, meets, walk}
use Rattle.walk.proofs.Laws.{not_there, Met, met}
use Rattle.sound.specs.Checks.{levels, wide, tree_walk, trees, free_walk, all_marked, framed, stacked, filled, checked}
use Rattle.sound.specs.Exact.{Exact}
use Rattle.sound.proofs.CheckYes.{check_yes}
use Rattle.sound.proofs.CheckDoes.{check_does}

-- the way down: b is where the words of node n start
module _ (ws : List ℕ) (T N : ℕ) where
  pub levels_none : (f n : ℕ) → None ≡ place_of T N n → levels ws T N f n ≡ 0
  levels_none zero n e = refl
  levels_none (suc f) n e = elim (test (leb 1 n && leb n N)) [
    | is g ↦ let h : Some (place T n) ≡ None = sym (rw g) ∙ sym e in cc
    | isnt g ↦ rw g
  ]

  module _ (n b : ℕ) (p : Some b ≡ place_of T N n) where
    there : (leb 1 n && leb n N ≡ true) × (place T n ≡ b)
    there = cond_some (leb 1 n && leb n N) (place T n) b (sym p)

    pub levels_leaf : (f : ℕ) → 32 ≤ get_or ws b 0 → levels ws T N f n ≡ 0
    levels_leaf zero e = refl
    levels_leaf (suc f) e = rw (there.0, there.1, le-leb 32 (get_or ws b 0) e)

    pub levels_on : (h : ℕ) → h < 5 → get_or ws b 0 < 32 → levels ws T N (5 - h) n ≡ suc (levels ws T N (5 - (h + 1)) (get_or ws (b + 8) 0))
    levels_on h l w =
        let d : 5 - h ≡ suc (5 - (h + 1)) = omega arith in
        rw (d, there.0, there.1, lt-leb 32 (get_or ws b 0) w)

-- a tree
module _ (ws : List ℕ) (T N n : ℕ) (ms : List ℕ) where
  pub tree_none : n ≡ 0 → tree_walk ws T N leaf_least n ms ≡ Some ms
  unfolding tree_walk
  tree_none e = rw (eq-eqb n 0 e)

  module _ (a : n ≡ 0 → ⊥) where
    pub tree_out : None ≡ place_of T N n → tree_walk ws T N leaf_least n ms ≡ None
    unfolding tree_walk
    tree_out p = rw (ne_eqb n 0 a, levels_none ws T N 5 n p, not_there T N n ms p)

    -- h levels of inner nodes; b is where the root's words start
    module _ (h b : ℕ) (p : Some b ≡ place_of T N n) (e : h ≡ levels ws T N 5 n) where
      pub tree_narrow : wide h (get_or ws b 0) ≡ false → tree_walk ws T N leaf_least n ms ≡ None
      unfolding tree_walk
      tree_narrow w = rw (ne_eqb n 0 a, ← e, (there ws T N n b p).1, w)

      module _ (w : wide h (get_or ws b 0) ≡ true) where
        pub tree_no : None ≡ walk ws T N leaf_least h true n ms 0 → tree_walk ws T N leaf_least n ms ≡ None
        unfolding tree_walk
        tree_no d = rw (ne_eqb n 0 a, ← e, (there ws T N n b p).1, w, ← d)

        pub tree_yes : (x : Walked) → Some x ≡ walk ws T N leaf_least h true n ms 0 → tree_walk ws T N leaf_least n ms ≡ Some x.marks
        unfolding tree_walk
        tree_yes x d = rw (ne_eqb n 0 a, ← e, (there ws T N n b p).1, w, ← d)

-- the loops, from the i-th turn on: n is the word that is read
module _ (ws : List ℕ) (T N r i : ℕ) (ms : List ℕ) where
  one_more : i < r → r - i ≡ suc (r - (i + 1))
  one_more h = omega arith

  module _ (h : i < r) (n : ℕ) where
    pub trees_no : n ≡ get_or ws (1 + i) 0 → None ≡ tree_walk ws T N leaf_least n ms → trees ws T N leaf_least (r - i) (1 + i) ms ≡ None
    trees_no g e = rw (one_more h, ← g, ← e)

    pub trees_on : n ≡ get_or ws (1 + i) 0 → (x : List ℕ) → Some x ≡ tree_walk ws T N leaf_least n ms →
        trees ws T N leaf_least (r - i) (1 + i) ms ≡ trees ws T N leaf_least (r - (i + 1)) (1 + (i + 1)) x
    trees_on g x e = let a : 1 + (i + 1) ≡ suc (1 + i) = omega arith in rw (one_more h, ← g, ← e, a)

    module _ (s : ℕ) (g : n ≡ get_or ws (s + i) 0) where
      pub frees_no : meets N ms n ≡ false → free_walk ws T N (r - i) (s + i) ms ≡ None
      frees_no m = rw (one_more h, ← g, m)

      module _ (b : ℕ) (p : Some b ≡ place_of T N n) (f : true ≡ not (has ms n)) where
        may : Met T N n ms b
        may = met T N n ms b p f

        pub frees-full : zeros ws b 16 ≡ false → free_walk ws T N (r - i) (s + i) ms ≡ None
        frees-full z = rw (one_more h, ← g, may.may, may.there, z)

        pub frees_on : zeros ws b 16 ≡ true → (x : List ℕ) → x ≡ mark ms n → free_walk ws T N (r - i) (s + i) ms ≡ free_walk ws T N (r - (i + 1)) (s + (i + 1)) x
        frees_on z x m = let a : s + (i + 1) ≡ suc (s + i) = omega arith in rw (one_more h, ← g, may.may, may.there, z, ← m, a)

-- the numbers 1 to n, one by one
and_swap : (x y z : Bool) → x && (y && z) ≡ y && (x && z)
and_swap true true z = refl
and_swap true false z = refl
and_swap false true z = refl
and_swap false false z = refl

all_more : (p : ℕ → Bool) (a n : ℕ) → list_all p (range_with_len a (suc n)) ≡ p (a + n) && list_all p (range_with_len a n)
all_more p a zero = let e : a + 0 ≡ a = omega arith in rw e
all_more p a (suc n) =
    let e : a + suc n ≡ a + 1 + n = omega arith in
    rw e (ap (p a &&◌) (all_more p (a + 1) n) ∙ and_swap (p a) (p (a + 1 + n)) (list_all p (range_with_len (a + 1) n)))

pub all-marked : (ms : List ℕ) (n : ℕ) → list_all (has ms) (range_with_len 1 n) ≡ all_marked ms n
all-marked ms zero = refl
all-marked ms (suc n) =
    let e : 1 + n ≡ suc n = omega arith in
    all_more (has ms) 1 n ∙ rw (e, all-marked ms n)

-- one number that is not marked settles it, and one that is leaves it to those below
module _ (ms : List ℕ) where
  pub all_no : (k : ℕ) → 0 < k → has ms k ≡ false → all_marked ms k ≡ false
  all_no zero h e = absurd (omega arith)
  all_no (suc k) h e = rw e

  pub all_on : (k : ℕ) → 0 < k → has ms k ≡ true → all_marked ms k ≡ all_marked ms (k - 1)
  all_on zero h e = absurd (omega arith)
  all_on (suc k) h e = let d : suc k - 1 ≡ k = omega arith in rw (e, d)

-- the stack and the whole
module _ (ws : List ℕ) (T N F : ℕ) (ms : List ℕ) where
  pub stack_no : None ≡ free_walk ws T N F (T + 3 + 16 * N) ms → stacked ws T N F ms ≡ false
  unfolding stacked
  stack_no e = rw (← e)

  pub stack_yes : (x : List ℕ) → Some x ≡ free_walk ws T N F (T + 3 + 16 * N) ms → stacked ws T N F ms ≡ zeros ws (T + 3 + 16 * N + F) (N - F) && all_marked x N
  unfolding stacked
  stack_yes x e = rw (← e)

module _ (ws : List ℕ) (T N : ℕ) where
  pub pool_no : None ≡ trees ws T N leaf_least T 1 (replicate 8 0) → filled ws leaf_least T N ≡ false
  unfolding filled
  pool_no e = rw (← e)

  pub pool_yes : (F : ℕ) (x : List ℕ) → Some x ≡ trees ws T N leaf_least T 1 (replicate 8 0) → get_or ws (T + 2 + 16 * N) 0 ≡ F → filled ws leaf_least T N ≡ stacked ws T N F x
  unfolding filled
  pool_yes F x e f = rw (← e, f)

-- the frame
module _ (ws : List ℕ) where
  abbrev T : ℕ
  T = get_or ws 0 0

  abbrev N : ℕ
  N = get_or ws (T + 1) 0

  abbrev F : ℕ
  F = get_or ws (T + 2 + 16 * N) 0

  pub checked_no : framed ws T N ≡ false → false ≡ checked ws leaf_least
  unfolding checked
  checked_no f = rw f

  pub checked_yes : (r : Bool) → framed ws T N ≡ true → r ≡ filled ws leaf_least T N → r ≡ checked ws leaf_least
  unfolding checked
  checked_yes r f d = d ∙ rw f

  pub frame_trees : (1 ≤ T → T ≤ 32 → ⊥) → framed ws T N ≡ false
  unfolding framed
  frame_trees f = elim (test (leb 1 T)) [
    | isnt a ↦ rw a
    | is a ↦ elim (test (leb T 32)) [
      | isnt b ↦ rw (a, b)
      | is b ↦ absurd (f (leb-true 1 T a) (leb-true T 32 b))
    ]
  ]

  pub frame_none : length ws ≡ 0 → framed ws T N ≡ false
  frame_none e = let z : T ≡ 0 = get_or-eq_default ws 0 (omega arith) in frame_trees (λ a b. omega arith)

  module _ (a : 1 ≤ T) (b : T ≤ 32) where
    pub frame_long : (length ws ≡ T + 17 * N + 3 → ⊥) → framed ws T N ≡ false
    unfolding framed
    frame_long h = elim (test (leb N 512)) [
      | is g ↦ rw (le-leb 1 T a, le-leb T 32 b, g, ne_eqb (length ws) (T + 17 * N + 3) h)
      | isnt g ↦ rw (le-leb 1 T a, le-leb T 32 b, g)
    ]

    pub frame_nodes : 512 < N → framed ws T N ≡ false
    unfolding framed
    frame_nodes h = rw (le-leb 1 T a, le-leb T 32 b, lt-leb N 512 h)

    pub frame_free : N ≤ 512 → length ws ≡ T + 17 * N + 3 → N < F → framed ws T N ≡ false
    unfolding framed
    frame_free n l h = rw (le-leb 1 T a, le-leb T 32 b, le-leb N 512 n, eq-eqb (length ws) (T + 17 * N + 3) l, lt-leb F N h)

    pub frame_ok : N ≤ 512 → length ws ≡ T + 17 * N + 3 → F ≤ N → framed ws T N ≡ true
    unfolding framed
    frame_ok n l h = rw (le-leb 1 T a, le-leb T 32 b, le-leb N 512 n, eq-eqb (length ws) (T + 17 * N + 3) l, le-leb F N h)

pub exact : (ws : List ℕ) (r : Bool) → r ≡ checked ws leaf_least → Exact leaf_least ws r
exact ws r e = record { yes = λ p. check_yes ws leaf_least (sym e ∙ p); every = λ s. e ∙ check_does ws leaf_least s }

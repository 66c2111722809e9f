-- PROOFS. A store, number to words, holds rows: what a change of some numbers leaves
use mathlib.Core.Path.{◌≡◌, refl, ap, ◌∙◌}
use mathlib.Core.List.{List, [], ◌∷◌, ◌++◌}
use Prim.Native.Nat.{ℕ, zero, suc, ◌+◌, ◌≤◌, ◌<◌}
use native.Mathlib.Omega.{arith}
use lib.ListN.{length}
use lib.Dec.{eqb}
use borrow.Author.Tests.{eq-eqb}
use Rattle.forest.specs.Lists.{count}
use Rattle.forest.specs.Pairs.{Item}
use Rattle.forest.specs.Rows.{Row, nums, front, line, items_at}
use Rattle.forest.specs.Trees.{numbers}
use Rattle.forest.specs.Pools.{inner_words}
use Rattle.forest.proofs.ListLaws.{is, isnt, test}
use Rattle.forest.proofs.WordLaws.{count_at, count-append}
use Rattle.pool.specs.Stores.{Store, put, Sixteen, num_at, upd, Holds, HoldsUp}
use Rattle.pool.proofs.Spell.{put_same, put_other}

pub put_sixteen : (st : Store) (n : ℕ) (w : List ℕ) → Sixteen st → length w ≡ 16 → Sixteen (put st n w)
put_sixteen st n w s h x = elim (test (eqb x n)) [ is e ↦ simp e h | isnt e ↦ simp e (s x) ]

pub upd-nums : (j : ℕ) (f : List Item → List Item) (R : Row) → nums (upd j f R) ≡ nums R
upd-nums j f [] = refl
upd-nums zero f (n ∷ R) = refl
upd-nums (suc j) f (n ∷ R) = rw (upd-nums j f R)

pub num_at-counts : (R : Row) (j : ℕ) → j < length R → 1 ≤ count (num_at R j) (nums R)
num_at-counts R j h = count_at R j h

pub line_same : (j : ℕ) (f : List Item → List Item) (R : Row) → front (f (items_at R j)) ≡ front (items_at R j) → line (upd j f R) ≡ line R
line_same j f [] e = refl
line_same zero f (n ∷ R) e = ap (λ (a : ℕ). (a, n.num) ∷ line R) e
line_same (suc j) f (n ∷ R) e = ap ((front n.items, n.num) ∷◌) (line_same j f R e)

module _ (enc : List Item → List ℕ) where
  pub holds_at : (st : Store) (R : Row) (j : ℕ) → j < length R → Holds enc st R → st (num_at R j) ≡ enc (items_at R j)
  holds_at st [] j h s = absurd (omega arith)
  holds_at st (n ∷ R) zero h s = s.0
  holds_at st (n ∷ R) (suc j) h s = holds_at st R j (omega arith) s.1

  -- a store that agrees on the numbers of the row
  pub holds_keeps : (st st' : Store) (R : Row) → ((x : ℕ) → 1 ≤ count x (nums R) → st' x ≡ st x) → Holds enc st R → Holds enc st' R
  holds_keeps st st' [] k s = tt
  holds_keeps st st' (n ∷ R) k s =
      (k n.num (simp (eq-eqb n.num n.num refl) (omega arith)) ∙ s.0, holds_keeps st st' R (λ x h. k x (omega arith)) s.1)

  pub frame : (st : Store) (n : ℕ) (w : List ℕ) (R : Row) → count n (nums R) ≡ 0 → Holds enc st R → Holds enc (put st n w) R
  frame st n w R c s = holds_keeps st (put st n w) R (λ x h. put_other st n w x (λ q. let z = rw q at h in omega arith)) s

  -- one node changes
  pub holds_upd : (st : Store) (R : Row) (j : ℕ) (f : List Item → List Item) (w : List ℕ) → j < length R → ((x : ℕ) → count x (nums R) ≤ 1) → w ≡ enc (f (items_at R j)) → Holds enc st R →
      Holds enc (put st (num_at R j) w) (upd j f R)
  holds_upd st [] j f w h o e s = tt
  holds_upd st (n ∷ R) zero f w h o e s =
      let z = simp (eq-eqb n.num n.num refl) at (o n.num) in
      (put_same st n.num w ∙ e, frame st n.num w R (omega arith) s.1)
  holds_upd st (n ∷ R) (suc j) f w h o e s =
      let c = num_at-counts R j (omega arith) in (
        put_other st (num_at R j) w n.num (λ q. let z = simp (eq-eqb n.num n.num refl) at (o n.num) in let y = rw (← q) at c in omega arith) ∙ s.0,
        holds_upd st R j f w (omega arith) (λ x. omega (arith, o x)) e s.1,
      )

-- a number counted in a row and in those above it
pub parts : (x : ℕ) (R : Row) (Rs : List Row) → count x (nums R ++ numbers Rs) ≡ count x (nums R) + count x (numbers Rs)
parts x R Rs = count-append x (nums R) (numbers Rs)

pub up_keeps : (st st' : Store) (Ss : List Row) → ((x : ℕ) → 1 ≤ count x (numbers Ss) → st' x ≡ st x) → HoldsUp st Ss → HoldsUp st' Ss
up_keeps st st' [] k s = tt
up_keeps st st' (S ∷ Ss) k s = (
  holds_keeps inner_words st st' S (λ x h. k x (omega (arith, parts x S Ss))) s.0,
  up_keeps st st' Ss (λ x h. k x (omega (arith, parts x S Ss))) s.1,
)

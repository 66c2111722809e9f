-- DEFINITIONS and PROOFS. A store, number to words, holds rows: frame and update
use mathlib.Core.Path.{◌≡◌, refl, sym, ◌∙◌}
use mathlib.Core.List.{List, [], ◌∷◌, ◌++◌}
use Prim.Native.Nat.{ℕ, zero, suc, ◌+◌, ◌≤◌, ◌<◌}
use native.Mathlib.Omega.{arith}
use lib.ListN.{length, length-map}
use lib.Dec.{eqb}
use borrow.Author.Tests.{eq-eqb}
use Rattle.forest.specs.Lists.{remove_at, once, count}
use Rattle.forest.specs.Pairs.{Item}
use Rattle.forest.specs.Rows.{Node, Row, nums, items_at}
use Rattle.forest.specs.Trees.{numbers}
use Rattle.forest.proofs.ListLaws.{total-remove_at}
use Rattle.crit.proofs.HealRows.{upd, num_at, nums-remove_at}
pub use Rattle.pool.specs.Stores.{Store, put}
pub use Rattle.pool.proofs.Spell.{put_same, put_other}
pub use Rattle.pool.proofs.Held.{num_at-counts, holds_at, holds_keeps, frame, holds_upd, up_keeps}
pub use Rattle.crit.specs.Paths.{Holds, HoldsUp}
use Rattle.forest.proofs.WordLaws.{count-append}

-- st' is st but for some numbers
abbrev pub Keeps : Store → Store → List ℕ → Type 0
Keeps st st' xs = (x : ℕ) → count x xs ≡ 0 → st' x ≡ st x

abbrev pub Once : List ℕ → Type 0
Once xs = (x : ℕ) → count x xs ≤ 1

abbrev pub Apart : List ℕ → List ℕ → Type 0
Apart xs ys = (x : ℕ) → count x xs + count x ys ≤ 1

pub once-append : (xs ys : List ℕ) → Once (xs ++ ys) → Apart xs ys
once-append xs ys o x = rw (count-append x xs ys) at (o x)

-- one of the numbers goes
pub gone_count : (R : Row) (j x : ℕ) → j < length R → once (eqb x (num_at R j)) + count x (nums (remove_at j R)) ≡ count x (nums R)
gone_count R j x h =
    rw (nums-remove_at j R) (total-remove_at (λ z. once (eqb x z)) j (nums R) (rw (length-map R (λ (n : Node). n.num)) h))

module _ (enc : List Item → List ℕ) where
  pub holds_apart : (st st' : Store) (xs : List ℕ) (R : Row) → Keeps st st' xs → Apart xs (nums R) → Holds enc st R → Holds enc st' R
  holds_apart st st' xs R k a s = holds_keeps enc st st' R (λ x h. k x (omega (arith, a x))) s

  -- a change that the words don't show
  pub holds_same : (st : Store) (R : Row) (j : ℕ) (f : List Item → List Item) → enc (f (items_at R j)) ≡ enc (items_at R j) → Holds enc st R → Holds enc st (upd j f R)
  holds_same st [] j f e s = tt
  holds_same st (n ∷ R) zero f e s = (s.0 ∙ sym e, s.1)
  holds_same st (n ∷ R) (suc j) f e s = (s.0, holds_same st R j f e s.1)

  -- a node goes
  pub holds_remove : (st : Store) (R : Row) (j : ℕ) → Holds enc st R → Holds enc st (remove_at j R)
  holds_remove st [] j s = tt
  holds_remove st (n ∷ R) zero s = s.1
  holds_remove st (n ∷ R) (suc j) s = (s.0, holds_remove st R j s.1)

  -- the number that goes is nowhere else
  pub gone : (R : Row) (j : ℕ) → j < length R → Once (nums R) → count (num_at R j) (nums (remove_at j R)) ≡ 0
  gone R j h o =
      rw (nums-remove_at j R)
      (let a = total-remove_at (λ z. once (eqb (num_at R j) z)) j (nums R) (rw (length-map R (λ (n : Node). n.num)) h) in
      let c = simp (eq-eqb (num_at R j) (num_at R j) refl) at a in omega (arith, o (num_at R j)))

pub up_apart : (st st' : Store) (xs : List ℕ) (Ss : List Row) → Keeps st st' xs → Apart xs (numbers Ss) → HoldsUp st Ss → HoldsUp st' Ss
up_apart st st' xs Ss k a s = up_keeps st st' Ss (λ x h. k x (omega (arith, a x))) s

pub put_keeps : (st : Store) (n : ℕ) (w : List ℕ) (xs : List ℕ) → 1 ≤ count n xs → Keeps st (put st n w) xs
put_keeps st n w xs h x c = put_other st n w x (λ q. let z = rw q at c in omega arith)

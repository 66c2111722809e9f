-- PROOFS. A store, number to words, holds rows: what a change of some numbers leaves
use mathlib.Core.Path.{◌≡◌, refl, sym, ◌∙◌}
use mathlib.Core.List.{List, [], ◌∷◌}
use Prim.Native.Nat.{ℕ, zero, suc, ◌≤◌}
use native.Mathlib.Omega.{arith}
use lib.ListN.{length, get_or}
use borrow.Author.Tests.{eq-eqb}
use Rattle.forest.specs.Lists.{insert_at, count}
use Rattle.forest.specs.Pairs.{Item}
use Rattle.forest.specs.Rows.{Node, Row}
use Rattle.forest.specs.Pools.{inner_words}
use Rattle.pool.specs.Stores.{Store, Holds}
pub use Rattle.pool.proofs.Held.{num_at-counts, holds_at, holds_keeps, frame, holds_upd, parts, up_keeps}
use Rattle.grow.proofs.Lead.{lead_row, lead_words}

-- a number that stands in xs is none that doesn't
pub apart : (xs : List ℕ) (x n : ℕ) → count x xs ≡ 0 → 1 ≤ count n xs → x ≡ n → ⊥
apart xs x n c h q = let z = rw q at c in omega arith

pub head_counts : (xs : List ℕ) → 1 ≤ length xs → 1 ≤ count (get_or xs 0 0) xs
head_counts [] h = absurd (omega arith)
head_counts (x ∷ xs) h = simp (eq-eqb x x refl) (omega arith)

module _ (enc : List Item → List ℕ) where
  -- a node comes
  pub holds_insert : (st : Store) (R : Row) (i : ℕ) (n : Node) → st n.num ≡ enc n.items → Holds enc st R → Holds enc st (insert_at i n R)
  holds_insert st R zero n e s = (e, s)
  holds_insert st [] (suc i) n e s = (e, tt)
  holds_insert st (m ∷ R) (suc i) n e s = (s.0, holds_insert st R i n e s.1)

-- the first key is stored nowhere
pub holds_lead : (f : ℕ) (st : Store) (R : Row) → Holds inner_words st R → Holds inner_words st (lead_row f R)
holds_lead f st [] s = tt
holds_lead f st (n ∷ R) s = (s.0 ∙ sym (lead_words f n.items), s.1)

-- DEFINITIONS. Rows in the middle of healing: stacked up to the first key of a row, which no word stores; held by a store; with a path through them
use Rattle.std.specs.Prelude.{◌≡◌, List, [], ◌∷◌, map, ℕ, suc, length, drop}
use Rattle.forest.specs.Sizes.{inner_least, inner_cap}
use Rattle.forest.specs.Lists.{parent, offset}
use Rattle.forest.specs.Pairs.{Item}
use Rattle.forest.specs.Rows.{Row, sizes, joined, line, Fill}
pub use Rattle.pool.specs.Stores.{num_at, upd, Holds, HoldsUp}

-- the value or child of an item
abbrev pub val : Item → ℕ
val x = x.1

-- the same items, up to the key of the first
pub record Alike (xs ys : List Item) : Type 0 where
  pub vals : map val xs ≡ map val ys
  pub rest : drop 1 xs ≡ drop 1 ys

-- rows stacked up to first keys
abbrev pub Stacked : Row → List Row → Type 0
Stacked R [] = length R ≡ 1
Stacked R (S ∷ Ss) = Alike (joined S) (line R) × Fill inner_least inner_cap (sizes S) × Stacked S Ss

-- the path to the j-th node of R: ns are the nodes, ps the places
abbrev pub Leads : Row → ℕ → List Row → (ℕ → ℕ) → (ℕ → ℕ) → Type 0
Leads R j [] ns ps = ns 0 ≡ num_at R j
Leads R j (S ∷ Ss) ns ps = (ns (suc (length Ss)) ≡ num_at R j) × (ps (length Ss) ≡ offset (sizes S) j) × Leads S (parent (sizes S) j) Ss ns ps

-- DEFINITIONS. Rows with a wound: a node that is to go, or one that has lost an item
use Rattle.std.specs.Prelude.{◌≡◌, List, ◌∷◌, ◌++◌, ◌&&◌, ℕ, suc, ◌+◌, ◌≤◌, ◌<◌, length, leb}
use Rattle.forest.specs.Lists.{remove_at, sum, once, count, parent, offset}
use Rattle.forest.specs.Pairs.{Item}
use Rattle.forest.specs.Rows.{Row, front, nums, sizes, line, items_at, Fill}
use Rattle.forest.specs.Trees.{numbers}
use Rattle.pool.specs.Stores.{no_words}
use Rattle.crit.specs.States.{State}
use Rattle.crit.specs.Paths.{upd, num_at, Alike, Stacked, Holds, HoldsUp, Leads}

-- each number is one of 1..N and stands once among xs and the free ones
abbrev pub Within : ℕ → List ℕ → List ℕ → Type 0
Within N xs free = (x : ℕ) → count x xs + count x free ≤ once (leb 1 x && leb x N)

-- R has one node too many, the j-th: R' is the row without it. Both stand under the rows above R
pub record Gap (R' R : Row) (j : ℕ) : Type 0 where
  pub alike : Alike (remove_at j (line R)) (line R')
  pub fronts : 0 < j → suc j < length R → front (items_at R j) ≡ front (items_at R (suc j))

-- the row whose node has lost item i
abbrev pub cut_row : ℕ → Row → Row
cut_row i S = upd (parent (sizes S) i) (remove_at (offset (sizes S) i)) S

-- empty_node at level l: the j-th node of a row goes; `below` is the row without it, the rows above still name it
pub record Emptied (N l : ℕ) (s : State) : Type 0 where
  pub row : Row
  pub below : Row
  pub at : ℕ
  pub rows : List Row
  pub level : length rows ≡ l
  pub gap : Gap below row at
  pub inside : at < length row
  pub two : 2 ≤ length row
  pub stacked : Stacked row rows
  pub within : Within N (num_at row at ∷ numbers rows) s.free
  pub up : HoldsUp s.st rows
  pub path : Leads row at rows s.ns s.ps

-- heal_level at level l: a node has lost item i of its row S, and has some left or none
pub data Left (enc : List Item → List ℕ) (S : Row) (i : ℕ) (Ss : List Row) (s : State) : Type 0 where
  alive : 2 ≤ length (items_at S (parent (sizes S) i)) → Stacked (cut_row i S) Ss → Holds enc s.st (cut_row i S) → Left enc S i Ss s
  dead : length (items_at S (parent (sizes S) i)) ≡ 1 → Stacked S Ss → 2 ≤ sum (sizes S) → s.st (s.ns (length Ss)) ≡ no_words → Holds enc s.st (remove_at (parent (sizes S) i) S) → Left enc S i Ss s

-- and the rows around it, as the words hold them
pub record Wounded (enc : List Item → List ℕ) (cap low N l : ℕ) (s : State) : Type 0 where
  pub row : Row
  pub at : ℕ
  pub rows : List Row
  pub level : length rows ≡ l
  pub inside : at < sum (sizes row)
  pub fill : Fill low cap (sizes row)
  pub within : Within N (nums row ++ numbers rows) s.free
  pub up : HoldsUp s.st rows
  pub place : s.ps (length rows) ≡ offset (sizes row) at
  pub path : Leads row (parent (sizes row) at) rows s.ns s.ps
  pub left : Left enc row at rows s

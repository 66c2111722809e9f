-- DEFINITIONS. Healing over words: what heal_level, underflowed_node and empty_node ask and leave, over the kind of the nodes at a level
use Rattle.std.specs.Prelude.{◌≡◌, List, ◌++◌, Bool, true, false, ℕ, ◌≤◌, ◌<◌, length, get_or, Option, Some, None}
use Rattle.forest.specs.Sizes.{most_levels, leaf_cap, inner_cap, leaf_least, inner_least}
use Rattle.forest.specs.Lists.{sum, parent, offset}
use Rattle.forest.specs.Pairs.{Item}
use Rattle.forest.specs.Rows.{Row, nums, sizes, Fill}
use Rattle.forest.specs.Trees.{numbers}
use Rattle.forest.specs.Pools.{leaf_words, inner_words}
use Rattle.forest.specs.declared.Cursor.{Cursor}
use Rattle.node.specs.Nodes.{status_of}
use Rattle.node.specs.declared.Removed.{Removed}
use Rattle.node.specs.declared.Removed.TheVariants.{Underflow}
use Rattle.crit.specs.States.{State, right_sibling}
use Rattle.crit.specs.Paths.{Stacked, Holds, HoldsUp, Leads}
use Rattle.crit.specs.Asks.{Mem, Spelt, Route, Finds, Leaves, moved}
use Rattle.heal.specs.Steps
use Rattle.heal.specs.Steps.{Ops, leaf_ops, inner_ops, parent_cut, heal_level, underflowed, empty_node}
use Rattle.heal.specs.Wounds.{Within, Emptied, Wounded}

-- a kind of node: the operations, the words of items, capacity and minimum
pub record Kind : Type 0 where
  pub ops : Ops
  pub words : List Item → List ℕ
  pub cap : ℕ
  pub low : ℕ

-- leaves
abbrev pub leaf_kind : Kind
leaf_kind = record { ops = leaf_ops; words = leaf_words; cap = leaf_cap; low = leaf_least }

-- inner nodes
abbrev pub inner_kind : Kind
inner_kind = record { ops = inner_ops; words = inner_words; cap = inner_cap; low = inner_least }

-- what empty_node does
unfoldable pub emptied : ℕ → State → State
emptied l s = empty_node inner_ops l s

module _ (k : Kind) where
  -- the items left in the node at a level
  abbrev pub left : State → ℕ → ℕ
  left = Steps.left k.ops k.cap

  -- how it stands
  abbrev pub standing : State → ℕ → Removed
  standing s l = status_of k.cap (s.ps l) (left s l)

  -- do the items of the node at a level and of its neighbour fit in one
  abbrev pub fits : State → ℕ → Item → Bool
  fits = Steps.fits k.ops k.cap

  -- everything goes to the neighbour
  abbrev pub gathered : State → ℕ → Item → State
  gathered = Steps.gathered k.ops k.cap

  -- or they share
  abbrev pub shared : State → ℕ → Item → State
  shared = Steps.shared k.ops k.cap

  -- with no neighbour it stays small; off the end if the place was the last
  abbrev pub stayed : State → ℕ → State
  stayed = Steps.stayed k.ops k.cap

  -- what heal_level does
  unfoldable pub healed : ℕ → State → State
  healed l s = heal_level k.ops k.cap (empty_node inner_ops l) l s

  -- what underflowed_node does
  unfoldable pub under : ℕ → State → State
  under l s = underflowed k.ops k.cap (empty_node inner_ops l) l s

-- empty_node may be called
pub record AskEmpty (ws : List ℕ) (t : ℕ) (c : Cursor) (level : ℕ) : Type 0 where
  pub deep : level < most_levels
  pub mem : Mem
  pub spelt : Spelt ws t c mem
  pub ready : Emptied mem.count level mem.s

-- heal_level may be called
pub record AskHeal (k : Kind) (ws : List ℕ) (t : ℕ) (c : Cursor) (status : Removed) (level : ℕ) : Type 0 where
  pub deep : level < most_levels
  pub mem : Mem
  pub spelt : Spelt ws t c mem
  pub ready : Wounded k.words k.cap k.low mem.count level mem.s
  pub says : status ≡ standing k mem.s level

-- two neighbours may be joined
pub record AskJoin (k : Kind) (ws : List ℕ) (t : ℕ) (c : Cursor) (level key node : ℕ) : Type 0 where
  pub heal : AskHeal k ws t c Underflow level
  pub finds : Finds ws t c level (Some (key, node))

-- the node at a level may lose the item that the path goes through
pub record AskCut (k : Kind) (ws : List ℕ) (t : ℕ) (c : Cursor) (level : ℕ) : Type 0 where
  pub deep : level < most_levels
  pub mem : Mem
  pub spelt : Spelt ws t c mem
  pub items : List Item
  pub some : 1 ≤ mem.s.ns level
  pub few : mem.s.ns level ≤ mem.count
  pub words : mem.s.st (mem.s.ns level) ≡ k.words items
  pub inside : mem.s.ps level < length items
  pub room : length items ≤ k.cap

-- all went to the right neighbour x, or they share
pub record Joined (k : Kind) (ws vs : List ℕ) (t : ℕ) (c : Cursor) (level : ℕ) (all : Bool) : Type 0 where
  pub all_is : (m : Mem) (x : Item) → Spelt ws t c m → right_sibling m.s.st m.s.ns m.s.ps level ≡ Some x → all ≡ fits k m.s level x
  pub gather_all : (m : Mem) (x : Item) → Spelt ws t c m → right_sibling m.s.st m.s.ns m.s.ps level ≡ Some x → all ≡ true → Spelt vs t c (moved m (gathered k m.s level x))
  pub share_some : (m : Mem) (x : Item) → Spelt ws t c m → right_sibling m.s.st m.s.ns m.s.ps level ≡ Some x → all ≡ false → Spelt vs t c (moved m (shared k m.s level x))

-- the node at level l has lost its item, and how it stands
pub record Cuts (k : Kind) (ws vs : List ℕ) (t : ℕ) (c : Cursor) (l : ℕ) (r : Removed) : Type 0 where
  pub leaves : (m : Mem) → Spelt ws t c m → Spelt vs t c (moved m (parent_cut k.ops m.s l))
  pub says : (m : Mem) → Spelt vs t c m → r ≡ standing k m.s l

-- heal_level has healed
pub record Mends (k : Kind) (ws vs : List ℕ) (t : ℕ) (c r : Cursor) (status : Removed) (level : ℕ) : Type 0 where
  pub run : (m : Mem) → status ≡ standing k m.s level → Spelt ws t c m → Spelt vs t r (moved m (healed k level m.s))

-- a node has settled as P says, or it is empty: then P holds once it went
pub record Settles (P : List ℕ → Cursor → Type 0) (vs : List ℕ) (t : ℕ) (c : Cursor) (level : ℕ) (r : Option Cursor) : Type 0 where
  pub stays : (d : Cursor) → r ≡ Some d → P vs d
  pub asks : r ≡ None → AskEmpty vs t c level
  pub goes : r ≡ None → (us : List ℕ) (d : Cursor) → Leaves (emptied level) vs us t c d → P us d

-- the cursor is on a pair of a tree that has another: L are its leaves under the rows Rs
pub record AskPair (ws : List ℕ) (t : ℕ) (c : Cursor) (level : ℕ) : Type 0 where
  pub deep : level < most_levels
  pub mem : Mem
  pub spelt : Spelt ws t c mem
  pub row : Row
  pub rows : List Row
  pub at : ℕ
  pub levels : length rows ≡ level
  pub inside : at < sum (sizes row)
  pub two : 2 ≤ sum (sizes row)
  pub fill : Fill leaf_least leaf_cap (sizes row)
  pub stacked : Stacked row rows
  pub within : Within mem.count (nums row ++ numbers rows) mem.s.free
  pub holds : Holds leaf_words mem.s.st row
  pub up : HoldsUp mem.s.st rows
  pub place : mem.s.ps (length rows) ≡ offset (sizes row) at
  pub path : Leads row (parent (sizes row) at) rows mem.s.ns mem.s.ps

-- the leaf is cut, and its front key may have to change above
pub record AskFront (ws : List ℕ) (t : ℕ) (c : Cursor) (level : ℕ) : Type 0 where
  pub way : Route ws t c level
  pub some : 1 ≤ get_or c.nodes level 0
  pub few : get_or c.nodes level 0 ≤ way.mem.count

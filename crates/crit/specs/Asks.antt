-- DEFINITIONS. What the functions of removal ask of the words and the cursor, and what they leave
use Rattle.std.specs.Prelude.{◌≡◌, List, cond, ℕ, ◌≤◌, ◌<◌, length, get_or, Option, Some, is_some}
use Rattle.forest.specs.Sizes.{most_nodes, most_levels}
use Rattle.forest.specs.Lists.{count}
use Rattle.forest.specs.Pairs.{Item}
use Rattle.forest.specs.Rows.{Row}
use Rattle.forest.specs.Trees.{numbers}
use Rattle.forest.specs.declared.Cursor.{Cursor}
use Rattle.pool.specs.Stores.{Sixteen, spell}
use Rattle.crit.specs.States.{State, right_sibling, crit_key, next_path, through_right}
use Rattle.crit.specs.Paths.{Stacked, HoldsUp, Leads}

-- a pool's words over a state: roots, N, the tree of the cursor and its size while it is on a pair
pub record Mem : Type 0 where
  pub roots : List ℕ
  pub count : ℕ
  pub tree : ℕ
  pub depth : ℕ
  pub s : State

-- with another state
abbrev pub moved : Mem → State → Mem
moved m s = record { roots = m.roots; count = m.count; tree = m.tree; depth = m.depth; s = s }

-- the words and the cursor are those of m
pub record Spelt (ws : List ℕ) (t : ℕ) (c : Cursor) (m : Mem) : Type 0 where
  pub words : ws ≡ spell m.roots m.count m.s.st m.s.free
  pub trees : t ≡ length m.roots
  pub few : m.count ≤ most_nodes
  pub sixteen : Sixteen m.s.st
  pub nodes : (l : ℕ) → l < most_levels → get_or c.nodes l 0 ≡ m.s.ns l
  pub places : (l : ℕ) → l < most_levels → get_or c.places l 0 ≡ m.s.ps l
  pub long : length c.nodes ≡ most_levels
  pub wide : length c.places ≡ most_levels
  pub tree : c.tree ≡ m.tree
  pub size : c.size ≡ cond m.s.live m.depth 0

-- the path goes through stacked rows above a level, which the words hold
pub record Route (ws : List ℕ) (t : ℕ) (c : Cursor) (level : ℕ) : Type 0 where
  pub deep : level < most_levels
  pub mem : Mem
  pub spelt : Spelt ws t c mem
  pub row : Row
  pub at : ℕ
  pub rows : List Row
  pub levels : length rows ≡ level
  pub inside : at < length row
  pub stacked : Stacked row rows
  pub named : (x : ℕ) → 1 ≤ count x (numbers rows) → (1 ≤ x) × (x ≤ mem.count)
  pub up : HoldsUp mem.s.st rows
  pub path : Leads row at rows mem.s.ns mem.s.ps

-- what a function does to the state
pub record Leaves (f : State → State) (ws vs : List ℕ) (t : ℕ) (c d : Cursor) : Type 0 where
  pub run : (m : Mem) → Spelt ws t c m → Spelt vs t d (moved m (f m.s))

-- what right_sibling finds
pub record Finds (ws : List ℕ) (t : ℕ) (c : Cursor) (level : ℕ) (r : Option Item) : Type 0 where
  pub run : (m : Mem) → Spelt ws t c m → r ≡ right_sibling m.s.st m.s.ns m.s.ps level

-- what current_crit_key finds
pub record Crits (ws : List ℕ) (t : ℕ) (c : Cursor) (level : ℕ) (r : Option ℕ) : Type 0 where
  pub run : (m : Mem) → Spelt ws t c m → r ≡ crit_key m.s.st m.s.ns m.s.ps level

-- where next_path leads: through the right sibling, if there is one
pub record Nexts (ws : List ℕ) (t : ℕ) (c : Cursor) (level : ℕ) (r : Option Cursor) : Type 0 where
  pub found : (m : Mem) → Spelt ws t c m → is_some r ≡ is_some (right_sibling m.s.st m.s.ns m.s.ps level)
  pub leads : (d : Cursor) → r ≡ Some d → Leaves (next_path level) ws ws t c d

-- the cursor off the end, its nodes and places as they are
abbrev pub off_end : Cursor → Cursor
off_end c = record { tree = c.tree; size = 0; nodes = c.nodes; places = c.places }

-- the cursor goes through the right neighbour, or off the end
pub record Passes (c r : Cursor) (level : ℕ) (near : Option Item) : Type 0 where
  pub run : (ws : List ℕ) (t : ℕ) (m : Mem) → Spelt ws t c m → Spelt ws t r (moved m (through_right near level m.s))

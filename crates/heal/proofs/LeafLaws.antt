-- PROOFS. Leaves: the cut at the cursor, a leaf that stays small, the pairs of two neighbours
use mathlib.Core.Path.{◌≡◌, ◌∙◌}
use mathlib.Core.List.{List, ◌++◌}
use Prim.Native.Nat.{ℕ, ◌≤◌, ◌<◌}
use native.Mathlib.Omega.{arith}
use lib.ListN.{length, get_or}
use Rattle.forest.specs.Lists.{count, parent, offset}
use Rattle.forest.specs.Pairs.{Item}
use Rattle.forest.specs.Rows.{nums, sizes, items_at}
use Rattle.forest.specs.Trees.{numbers}
use Rattle.forest.specs.Pools.{leaf_words}
use Rattle.forest.specs.declared.Cursor.{Cursor}
use Rattle.forest.proofs.RowLaws.{fill_at, length-items, parent_there, offset_there}
use Rattle.node.specs.declared.Removed.{Removed}
use Rattle.crit.specs.Paths.{num_at}
use Rattle.crit.specs.Asks.{moved}
use Rattle.heal.specs.Cycle.{leaf_kind, AskFront, AskCut, Cuts, AskPair}
use Rattle.crit.proofs.HealMem
use Rattle.crit.proofs.HealPath
use Rattle.heal.proofs.FreeLaws.{within_named}
use Rattle.heal.proofs.HealReady.{within_once}
pub use Rattle.forest.proofs.CountLaws.{leaf_length}
use Rattle.forest.proofs.WordLaws.{count-append}

-- the leaf at the cursor
module _ {ws : List ℕ} {t : ℕ} {c : Cursor} {level : ℕ} (a : AskPair ws t c level) where
  abbrev par : ℕ
  par = parent (sizes a.row) a.at

  par_in : parent (sizes a.row) a.at < length a.row
  par_in = parent_there a.row a.at a.inside

  abbrev xs : List Item
  xs = items_at a.row (parent (sizes a.row) a.at)

  off_in : offset (sizes a.row) a.at < length xs
  off_in = offset_there a.row a.at a.inside

  few_xs : length xs ≤ 7
  few_xs = rw (length-items a.row (parent (sizes a.row) a.at)) (fill_at 3 7 (sizes a.row) (parent (sizes a.row) a.at) a.fill)

  pub leaf_name : get_or c.nodes level 0 ≡ num_at a.row (parent (sizes a.row) a.at)
  leaf_name = a.spelt.nodes level a.deep ∙ rw a.levels at (HealPath.path_node a.row (parent (sizes a.row) a.at) a.rows a.mem.s.ns a.mem.s.ps a.path)

  pub leaf_place : get_or c.places level 0 ≡ offset (sizes a.row) a.at
  leaf_place = a.spelt.places level a.deep ∙ rw a.levels at a.place

  inside_count : 1 ≤ count (get_or c.nodes level 0) (nums a.row)
  inside_count = rw leaf_name (HealMem.num_at-counts a.row (parent (sizes a.row) a.at) par_in)

  pub leaf_named : (1 ≤ get_or c.nodes level 0) × (get_or c.nodes level 0 ≤ a.mem.count)
  leaf_named =
      within_named a.mem.count (nums a.row ++ numbers a.rows) a.mem.s.free a.within (get_or c.nodes level 0)
      (omega (arith, inside_count, count-append (get_or c.nodes level 0) (nums a.row) (numbers a.rows)))

  -- it may lose that pair
  pub leaf_asks : AskCut leaf_kind ws t c level
  leaf_asks = record {
    deep = a.deep;
    mem = a.mem;
    spelt = a.spelt;
    items = xs;
    some = rw (← (a.spelt.nodes level a.deep)) leaf_named.0;
    few = rw (← (a.spelt.nodes level a.deep)) leaf_named.1;
    words = rw (← (a.spelt.nodes level a.deep), leaf_name) (HealMem.holds_at leaf_words a.mem.s.st a.row (parent (sizes a.row) a.at) par_in a.holds);
    inside = rw (← (a.spelt.places level a.deep), leaf_place) off_in;
    room = few_xs;
  }

  -- the way above it, also with other words for the leaf
  pub front_asks : {vs : List ℕ} {status : Removed} → Cuts leaf_kind ws vs t c level status → AskFront vs t c level
  front_asks k = record {
    way = record {
      deep = a.deep;
      mem = moved a.mem _;
      spelt = k.leaves a.mem a.spelt;
      row = a.row;
      at = parent (sizes a.row) a.at;
      rows = a.rows;
      levels = a.levels;
      inside = par_in;
      stacked = a.stacked;
      named = λ x h. within_named a.mem.count (nums a.row ++ numbers a.rows) a.mem.s.free a.within x (omega (arith, count-append x (nums a.row) (numbers a.rows)));
      up = HealMem.up_apart a.mem.s.st _ (nums a.row) a.rows
          (HealMem.put_keeps a.mem.s.st (a.mem.s.ns level) _ (nums a.row) (rw (← (a.spelt.nodes level a.deep)) inside_count))
          (HealMem.once-append (nums a.row) (numbers a.rows) (within_once a.mem.count (nums a.row ++ numbers a.rows) a.mem.s.free a.within)) a.up;
      path = a.path;
    };
    some = leaf_named.0;
    few = leaf_named.1;
  }

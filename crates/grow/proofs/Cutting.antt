-- PROOFS. The top of the stack taken, and a node cut in two: the path up from there still leads through the same rows
use mathlib.Core.Path.{◌≡◌, sym, ◌∙◌}
use mathlib.Core.List.{List}
use Prim.Native.Nat.{ℕ, ◌+◌, ◌≤◌}
use native.Mathlib.Omega.{arith}
use lib.ListN.{length, drop, get_or, length-drop}
use lib.Dec.{eqb}
use borrow.Author.Tests.{eq-eqb}
use Rattle.forest.specs.Lists.{once, count}
use Rattle.forest.specs.Trees.{numbers}
use Rattle.forest.proofs.ListLaws.{total_head}
use Rattle.pool.specs.Stores.{put, top_node}
use Rattle.pool.proofs.Spell.{put_other}
use Rattle.grow.specs.Grows
use Rattle.grow.proofs.Mem
use Rattle.grow.proofs.Spelling
use Rattle.grow.proofs.Climbs.{scene}

-- the scene once node n is cut
abbrev pub cut_from : Grows.Scene → ℕ → List ℕ → List ℕ → Grows.Scene
cut_from s n left right = scene s.roots s.nodes (put (put s.store n left) (get_or s.free 0 0) right) (drop 1 s.free) s.row s.rows s.at

module _ (ws : List ℕ) (t tree : ℕ) (ns ps : List ℕ) (level : ℕ) (s : Grows.Scene) (u : Grows.Under s ws t tree ns ps level) (some : 1 ≤ length s.free) where
  pub top_range : (1 ≤ get_or s.free 0 0) × (get_or s.free 0 0 ≤ s.nodes)
  top_range = u.range (get_or s.free 0 0) (omega (arith, Mem.head_counts s.free some))

  pub takes : Grows.Takes ws t
  takes =
      rw (← u.words, ← u.trees)
      (Spelling.takes-spell s.roots s.nodes s.store u.sixteen s.free some u.stack top_range.0 top_range.1)

  pub top_is : top_node ws t ≡ get_or s.free 0 0
  top_is = rw (← u.words, ← u.trees) (Spelling.top_spell s.roots s.nodes s.store u.sixteen s.free some u.stack)

  head : (y : ℕ) → once (eqb y (get_or s.free 0 0)) + count y (drop 1 s.free) ≡ count y s.free
  head y = total_head (λ z. once (eqb y z)) s.free some

  shorter : length (drop 1 s.free) ≤ s.nodes
  shorter = omega (arith, length-drop 1 s.free, u.stack)

  -- n is in no row above
  module _ (n : ℕ) (lo : 1 ≤ n) (hi : n ≤ s.nodes) (apart : count n (numbers s.rows) ≡ 0) (left right : List ℕ) (el : length left ≡ 16) (er : length right ≡ 16) where
    still-holds : Grows.HoldsUp (cut_from s n left right).store s.rows
    still-holds =
        Mem.up_keeps s.store (cut_from s n left right).store s.rows (λ y c.
        put_other (put s.store n left) (get_or s.free 0 0) right y (λ z. let k = simp (eq-eqb y (get_or s.free 0 0) z) at (head y) in omega (arith, u.each_once y)) ∙
        put_other s.store n left y (λ z. let k = rw z at c in omega arith)) u.holds

    pub cut_under : (m : List ℕ) → m ≡ Grows.cut_words ws t n left right → Grows.Under (cut_from s n left right) m t tree ns ps level
    cut_under m f = record {
      words = sym (f ∙ rw (← u.words, ← u.trees)
          (Spelling.cut_spell s.roots s.nodes s.store u.sixteen s.free some u.stack top_range.0 top_range.1 n left right lo hi el er));
      trees = u.trees;
      few_trees = u.few_trees;
      few_nodes = u.few_nodes;
      sixteen = Spelling.put_sixteen (put s.store n left) (get_or s.free 0 0) right (Spelling.put_sixteen s.store n left u.sixteen el) er;
      stack = shorter;
      there = u.there;
      root = u.root;
      levels = u.levels;
      few_levels = u.few_levels;
      within = u.within;
      tower = u.tower;
      holds = still-holds;
      each_once = λ y. omega (arith, head y, u.each_once y);
      range = λ y c. u.range y (omega (arith, head y));
      along = u.along;
    }

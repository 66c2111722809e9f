-- PROOFS. Where a path stands in a leaf: its words, the need, and what the steps of the code make of them
use mathlib.Core.Path.{◌≡◌, sym, ap, ◌∙◌}
use mathlib.Core.List.{List}
use mathlib.Core.Bool.{Bool, true, false}
use Prim.Native.Nat.{ℕ, ◌+◌, ◌≤◌, ◌<◌}
use native.Mathlib.Omega.{arith}
use lib.ListN.{length, drop, get_or, length-drop}
use borrow.Author.Tests.{le-leb, lt-leb, leb-true, ltb-true, ltb-false}
use Rattle.forest.specs.Lists.{insert_at, count}
use Rattle.forest.specs.Pairs.{Item}
use Rattle.forest.specs.Rows.{front, sizes, items_at, keeps, full}
use Rattle.forest.specs.Trees.{numbers, need_up}
use Rattle.forest.specs.Pools.{leaf_words}
use Rattle.forest.proofs.ListLaws.{drop_one}
use Rattle.forest.proofs.RowLaws.{length-items}
use Rattle.pool.specs.Stores.{put, spell, block, with_block, top_node, Placed}
use Rattle.pool.proofs.Bridges.{spell_placed, spell-block, spell-with_block}
use Rattle.node.specs.declared.SplitOff.{SplitOff}
use Rattle.node.specs.Nodes.{Leaf, leaf_pairs, split_of}
use Rattle.node.proofs.Words.{leaf_pairs_lem, leaf_is}
use Rattle.grow.specs.Grows
use Rattle.grow.specs.Puts.{LeafPlace, filled_words, Tries}
use Rattle.grow.proofs.Mem
use Rattle.grow.proofs.Spelling
use Rattle.grow.proofs.Cutting

-- the items of the leaf
abbrev pub leaf_of : Grows.Scene → List Item
leaf_of s = items_at s.row s.at

abbrev pub leaf_num : Grows.Scene → ℕ
leaf_num s = Grows.num_at s.row s.at

module _ (ws : List ℕ) (t tree : ℕ) (ns ps : List ℕ) (level : ℕ) where
  module _ (s : Grows.Scene) (p : ℕ) (d : Grows.Site s p ws t tree ns ps level) where
    pub leaf_range : (1 ≤ leaf_num s) × (leaf_num s ≤ s.nodes)
    leaf_range = d.range_more (leaf_num s) (Mem.num_at-counts s.row s.at d.under.within)

    pub leaf_placed : Placed ws t (get_or ns level 0)
    leaf_placed =
        rw (d.node, ← d.under.words, ← d.under.trees)
        (spell_placed s.roots s.nodes s.store s.free d.under.sixteen (leaf_num s) leaf_range.0 leaf_range.1)

    pub leaf_block : block ws t (get_or ns level 0) ≡ leaf_words (leaf_of s)
    leaf_block =
        rw (d.node, ← d.under.words, ← d.under.trees)
        (spell-block s.roots s.nodes s.store s.free d.under.sixteen (leaf_num s) leaf_range.0 leaf_range.1 ∙
        Mem.holds_at leaf_words s.store s.row s.at d.under.within d.leaves)

    pub leaf_size : (1 ≤ length (leaf_of s)) × (length (leaf_of s) ≤ 7)
    leaf_size = rw (length-items s.row s.at) (d.some, d.few)

    pub leaf_inside : p ≤ length (leaf_of s)
    leaf_inside = rw (length-items s.row s.at) d.inside

    pub leaf_room : get_or (block ws t (get_or ns level 0)) 0 0 < 39 → full 7 s.at s.row ≡ false
    leaf_room b = let z = rw leaf_block at b in lt-leb 7 (get_or (sizes s.row) s.at 0) (omega (arith, length-items s.row s.at))

    pub leaf_full : 39 ≤ get_or (block ws t (get_or ns level 0)) 0 0 → full 7 s.at s.row ≡ true
    leaf_full b = let z = rw leaf_block at b in le-leb 7 (get_or (sizes s.row) s.at 0) (omega (arith, length-items s.row s.at))

    pub leaf_place : LeafPlace ws t (get_or ns level 0) (get_or ps level 0)
    leaf_place = record {
      placed = leaf_placed;
      leaf = rw leaf_block (leaf_is (leaf_of s) leaf_size.0 leaf_size.1);
      inside = rw (leaf_block, d.place) (omega (arith, leaf_inside));
    }

    pub leaf_items_lem : leaf_pairs (block ws t (get_or ns level 0)) ≡ leaf_of s
    leaf_items_lem = ap leaf_pairs leaf_block ∙ leaf_pairs_lem (leaf_of s) leaf_size.1

    -- the leaf gets other items
    pub leaf_put : (ys : List Item) → with_block ws t (get_or ns level 0) (leaf_words ys) ≡ spell s.roots s.nodes (put s.store (leaf_num s) (leaf_words ys)) s.free
    leaf_put ys =
        rw (d.node, ← d.under.words, ← d.under.trees)
        (spell-with_block s.roots s.nodes s.store s.free d.under.sixteen (leaf_num s) leaf_range.0 leaf_range.1 _ (Spelling.leaf_length ys))

  -- the need, for each scene of these words
  pub more_here : (r : ℕ) → ((s : Grows.Scene) → Grows.Under s ws t tree ns ps level → r ≡ need_up s.at s.rows) → (s : Grows.Scene) (p : ℕ) → Grows.Land s p ws t tree ns ps level → 1 + r ≡ Grows.leaf_need s
  more_here r f s p d = let y = f s d.site.under in omega arith

-- THE ENTRY COMES
-- the scene once the leaf is cut, x at place p in it
abbrev pub cut_leaf : Grows.Scene → ℕ → Item → Grows.Scene
cut_leaf s p x = Cutting.cut_from s (leaf_num s) (leaf_words (Grows.left_part 7 p x (leaf_of s))) (leaf_words (Grows.right_part 7 p x (leaf_of s)))

landed_full : (s : Grows.Scene) (p tree : ℕ) (x : Item) → Grows.climbed (cut_leaf s p x) tree (front (Grows.right_part 7 p x (leaf_of s)), get_or s.free 0 0) ≡ Grows.landed_words s p tree x
unfolding Grows.landed_words Grows.climbed
landed_full s p tree x = simp drop_one

-- after a try to put it in the leaf as it is
module _ (ws : List ℕ) (t tree : ℕ) (ns ps : List ℕ) (level : ℕ) (x : Item) (o : List ℕ) (b : Bool) (f : Tries t (get_or ns level 0) (get_or ps level 0) x ws o b)
    (s : Grows.Scene) (p : ℕ) (d : Grows.Site s p ws t tree ns ps level) where
  pub has_room : b ≡ true → full 7 s.at s.row ≡ false
  has_room z = leaf_room ws t tree ns ps level s p d (ltb-true _ _ (sym f.room ∙ z))

  pub room-done : b ≡ true → o ≡ spell s.roots s.nodes (put s.store (leaf_num s) (leaf_words (insert_at p x (leaf_of s)))) s.free
  unfolding filled_words
  room-done z = f.done_words z ∙ rw (leaf_items_lem ws t tree ns ps level s p d, d.place) (leaf_put ws t tree ns ps level s p d (insert_at p x (leaf_of s)))

  -- there was none
  pub lands_full : b ≡ false → Grows.Land s p ws t tree ns ps level
  lands_full z = record { site = d; no_room = leaf_full ws t tree ns ps level s p d (ltb-false _ _ (sym f.room ∙ z)) }

module _ (ws : List ℕ) (t tree : ℕ) (ns ps : List ℕ) (level : ℕ) (w : List ℕ) (e : w ≡ block ws t (get_or ns level 0)) where
  module _ (s : Grows.Scene) (p : ℕ) (d : Grows.Land s p ws t tree ns ps level) where
    pub split_asks : Leaf w × (get_or w 0 0 ≡ 39) × (get_or ps level 0 ≤ 7)
    split_asks =
        let z : get_or w 0 0 ≡ 32 + length (leaf_of s) = ap (λ (v : List ℕ). get_or v 0 0) (e ∙ leaf_block ws t tree ns ps level s p d.site) in
        let n = length-items s.row s.at in
        let m = leb-true 7 (get_or (sizes s.row) s.at 0) d.no_room in
        (rw e (leaf_place ws t tree ns ps level s p d.site).leaf, omega (arith, d.site.few), rw d.site.place (omega (arith, d.site.inside, d.site.few)))

    pub pairs_are : leaf_pairs w ≡ leaf_of s
    pairs_are = ap leaf_pairs e ∙ leaf_items_lem ws t tree ns ps level s p d.site

  -- it is cut
  module _ (key value : ℕ) (r : SplitOff) (q : r ≡ split_of leaf_words (keeps 7 (get_or ps level 0)) (insert_at (get_or ps level 0) (key, value) (leaf_pairs w)))
      (s : Grows.Scene) (p : ℕ) (g : Grows.Landed s p ws t tree ns ps level) where
    abbrev x : Item
    x = (key, value)

    abbrev d : Grows.Site s p ws t tree ns ps level
    d = g.land.site

    u : Grows.Under s ws t tree ns ps level
    u = d.under

    some-free : 1 ≤ length s.free
    some-free = omega (arith, g.enough)

    still-enough : need_up s.at s.rows ≤ length (drop 1 s.free)
    still-enough = omega (arith, length-drop 1 s.free, g.enough)

    left_is : r.left ≡ leaf_words (Grows.left_part 7 p x (leaf_of s))
    left_is = ap (λ (o : SplitOff). o.left) q ∙ rw (pairs_are s p g.land, d.place)

    right_is : r.right ≡ leaf_words (Grows.right_part 7 p x (leaf_of s))
    right_is = ap (λ (o : SplitOff). o.right) q ∙ rw (pairs_are s p g.land, d.place)

    key-is : r.key ≡ front (Grows.right_part 7 p x (leaf_of s))
    key-is = ap (λ (o : SplitOff). o.key) q ∙ rw (pairs_are s p g.land, d.place)

    pub cuts_asks : Grows.AskCut ws t (get_or ns level 0)
    cuts_asks = record {
      takes = Cutting.takes ws t tree ns ps level s u some-free;
      node = leaf_placed ws t tree ns ps level s p d;
    }

    apart : count (leaf_num s) (numbers s.rows) ≡ 0
    apart = omega (arith, Mem.num_at-counts s.row s.at u.within, d.once_more (leaf_num s))

    module _ (m : List ℕ) (f : m ≡ Grows.cut_words ws t (get_or ns level 0) r.left r.right) where
      pub climb_asks : Grows.Climb (cut_leaf s p x) m t tree ns ps level
      climb_asks =
          let n = leaf_range ws t tree ns ps level s p d in
          record {
            under = Cutting.cut_under ws t tree ns ps level s u some-free (leaf_num s) n.0 n.1 apart
                (leaf_words (Grows.left_part 7 p x (leaf_of s))) (leaf_words (Grows.right_part 7 p x (leaf_of s)))
                (Spelling.leaf_length (Grows.left_part 7 p x (leaf_of s))) (Spelling.leaf_length (Grows.right_part 7 p x (leaf_of s))) m (f ∙ rw (left_is, right_is, d.node));
            enough = still-enough;
          }

      pub climb_done : (rhs : ℕ) (o : List ℕ) → rhs ≡ top_node ws t → ((s' : Grows.Scene) → Grows.Climb s' m t tree ns ps level → o ≡ Grows.climbed s' tree (r.key, rhs)) →
          o ≡ Grows.landed_words s p tree x
      climb_done rhs o a ens =
          ens (cut_leaf s p x) climb_asks ∙ rw (key-is, a, Cutting.top_is ws t tree ns ps level s u some-free) (landed_full s p tree x)

-- PROOFS. The path of a key in a tree of a pool: it lands in a leaf of the pool's words
use mathlib.Core.Path.{◌≡◌, refl, sym, ap, ◌∙◌}
use mathlib.Core.List.{List, [], ◌∷◌, map}
use Prim.Native.Nat.{ℕ, zero, suc, ◌+◌, ◌-◌, ◌≤◌, ◌<◌}
use native.Mathlib.Omega.{arith}
use lib.ListN.{length, get_or, length-map}
use borrow.Author.Tests.{lt-ltb}
use Rattle.forest.specs.Sizes.{leaf_least}
use Rattle.forest.specs.Lists.{count, parent, offset}
use Rattle.forest.specs.Pairs.{place}
use Rattle.forest.specs.Rows.{Row, Tree, nums, sizes, items_at, Good}
use Rattle.forest.specs.Trees.{numbers, leaf_of, leaf_items}
use Rattle.forest.specs.Pools
use Rattle.forest.specs.Cursors.{Path, path_up, path_of, cursor_at, seek}
use Rattle.forest.specs.declared.Cursor.{Cursor}
use Rattle.forest.proofs.PairLaws.{place_le}
use Rattle.forest.proofs.RowLaws.{length-items, fill_at}
use Rattle.forest.proofs.TreeLaws.{none_empty, lands}
use Rattle.forest.proofs.TowerLaws.{tower_some}
use Rattle.forest.proofs.PoolLaws.{good_at}
use Rattle.forest.proofs.CountLaws.{nodes_all, node-length}
use Rattle.forest.proofs.Six.{six_levels}
use Rattle.pool.proofs.Spell.{encode-spell}
use Rattle.path.proofs.CursorWords.{node_at_lem, place_at}
use Rattle.path.proofs.Seats.{up_at}
use Rattle.grow.specs.Grows
use Rattle.grow.proofs.Mem
use Rattle.grow.proofs.Leaves
use Rattle.grow.proofs.Pooled
use Rattle.grow.proofs.Climbs.{scene}
use Rattle.forest.proofs.StandLaws.{length-path_up}
use Rattle.forest.proofs.FrameLaws.{some_at}

-- the levels that hold a path lead upward
along : (ns ps : List ℕ) (i : ℕ) (Rs : List Row) (below : Path) →
    ((h : ℕ) → h < length Rs → (get_or ns h 0 ≡ (get_or (path_up i Rs below) h (0, 0)).0) × (get_or ps h 0 ≡ (get_or (path_up i Rs below) h (0, 0)).1)) → Grows.Along ns ps i Rs
along ns ps i [] below f = tt
along ns ps i (S ∷ Ss) below f =
    let q = up_at (parent (sizes S) i) Ss (get_or (nums S) (parent (sizes S) i) 0, offset (sizes S) i) below in
    let g = f (length Ss) (omega arith) in (
      g.0 ∙ ap (λ (x : ℕ × ℕ). x.0) q,
      g.1 ∙ ap (λ (x : ℕ × ℕ). x.1) q,
      along ns ps (parent (sizes S) i) Ss ((get_or (nums S) (parent (sizes S) i) 0, offset (sizes S) i) ∷ below) (λ h b. f h (omega arith)),
    )

pub root-at : (ts : List Tree) (t : ℕ) → get_or (map Pools.root ts) t 0 ≡ Pools.root (get_or ts t [])
root-at [] t = refl
root-at (x ∷ ts) zero = refl
root-at (x ∷ ts) (suc t) = root-at ts t

-- a pool, seen from the leaf of key k in tree L ∷ Rs
abbrev pub scene_of : Pools.Pool → ℕ → Row → List Row → Grows.Scene
scene_of p k L Rs = scene (map Pools.root p.trees) p.count (Pools.node_words p.trees) p.free L Rs (leaf_of k L)

module _ (p : Pools.Pool) (w : Pools.WellFormed leaf_least p) (ws : List ℕ) (same : Pools.encode p ≡ ws) (t tree k : ℕ) (trees : t ≡ length p.trees) (there : tree < t)
    (L : Row) (Rs : List Row) (is : Pools.tree_of p tree ≡ L ∷ Rs) where
  pub good : Good leaf_least 7 (L ∷ Rs)
  good = rw is at (good_at leaf_least p.trees tree w.good)

  abbrev j : ℕ
  j = leaf_of k L

  abbrev e : ℕ
  e = place k (leaf_items k L)

  at : j < length L
  at = (lands leaf_least 7 k L Rs (omega arith) good).at

  holds : Leaves.HoldsTree (Pools.node_words p.trees) (L ∷ Rs)
  holds = Pooled.pool_holds leaf_least p w tree (L ∷ Rs) is

  once_all : (y : ℕ) → count y (nums L) + count y (numbers Rs) + count y p.free ≤ 1
  once_all y = let z = rw is at (Pooled.tree_once leaf_least (omega arith) (omega arith) p w tree y) in omega (arith, Mem.parts y L Rs)

  range_all : (y : ℕ) → 1 ≤ count y (nums L) + count y (numbers Rs) + count y p.free → (1 ≤ y) × (y ≤ p.count)
  range_all y h = Pooled.tree_range leaf_least (omega arith) (omega arith) p w tree y (rw is (omega (arith, Mem.parts y L Rs)))

  few_rows : suc (length Rs) ≤ 6
  few_rows = rw is at (six_levels leaf_least p tree w)

  abbrev path : Path
  path = path_up j Rs ((get_or (nums L) j 0, e) ∷ [])

  -- the levels of a cursor that hold the path
  module _ (ns ps : List ℕ) (f : (h : ℕ) → h < 16 → get_or ns h 0 ≡ (get_or path h (0, 0)).0) (g : (h : ℕ) → h < 16 → get_or ps h 0 ≡ (get_or path h (0, 0)).1) where
    pub under_of : Grows.Under (scene_of p k L Rs) ws t tree ns ps (length Rs)
    under_of = record {
      words = sym (encode-spell p) ∙ same;
      trees = length-map p.trees Pools.root ∙ sym trees;
      few_trees = rw trees w.few_trees;
      few_nodes = w.few_nodes;
      sixteen = λ n. node-length p.trees n;
      stack = omega (arith, nodes_all leaf_least p w);
      there = there;
      root = root-at p.trees tree ∙ ap Pools.root is;
      levels = refl;
      few_levels = omega (arith, few_rows);
      within = at;
      tower = good.2;
      holds = holds.1;
      each_once = λ y. omega (arith, once_all y);
      range = λ y h. range_all y (omega arith);
      along = along ns ps j Rs ((get_or (nums L) j 0, e) ∷ []) (λ h b. (f h (omega (arith, few_rows)), g h (omega (arith, few_rows))));
    }

    pub site_of : Grows.Site (scene_of p k L Rs) e ws t tree ns ps (length Rs)
    site_of =
        let q = up_at j Rs (get_or (nums L) j 0, e) [] in
        let s : 1 ≤ length (items_at L j) = some_at L j (none_empty leaf_least 7 L (omega arith) good.1) at in
        record {
          under = under_of;
          node = f (length Rs) (omega (arith, few_rows)) ∙ ap (λ (x : ℕ × ℕ). x.0) q;
          place = g (length Rs) (omega (arith, few_rows)) ∙ ap (λ (x : ℕ × ℕ). x.1) q;
          inside = rw (← (length-items L j)) (place_le k (leaf_items k L));
          some = rw (← (length-items L j)) s;
          few = fill_at leaf_least 7 (sizes L) j good.1;
          leaves = holds.0;
          once_more = once_all;
          range_more = λ y h. range_all y (omega arith);
        }

  -- the cursor of a key
  module _ (c : Cursor) (q : c ≡ cursor_at tree (path_of (L ∷ Rs) (seek k L))) where
    cursor_is : c ≡ cursor_at tree path
    cursor_is = q ∙ rw (lt-ltb 0 (length L) (omega (arith, tower_some L Rs good.2)))

    pub size_is : c.size ≡ suc (length Rs)
    size_is = ap (λ (d : Cursor). d.size) cursor_is ∙ length-path_up j Rs ((get_or (nums L) j 0, e) ∷ []) ∙ omega arith

    pub found_site : Grows.Site (scene_of p k L Rs) e ws t tree c.nodes c.places (c.size - 1)
    found_site =
        let z : c.size - 1 ≡ length Rs = omega (arith, size_is) in
        rw z (site_of c.nodes c.places
        (λ h b. ap (λ (d : Cursor). get_or d.nodes h 0) cursor_is ∙ node_at_lem tree path h b)
        (λ h b. ap (λ (d : Cursor). get_or d.places h 0) cursor_is ∙ place_at tree path h b))

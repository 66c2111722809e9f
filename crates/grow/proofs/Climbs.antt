-- PROOFS. Going up a path: what the words at each level are, and what the steps of the code make of them
use mathlib.Core.Path.{◌≡◌, refl, sym, ap, ◌∙◌}
use mathlib.Core.List.{List, [], ◌∷◌}
use mathlib.Core.Bool.{true, false, cond}
use Prim.Native.Nat.{ℕ, suc, ◌+◌, ◌-◌, ◌≤◌, ◌<◌}
use native.Mathlib.Omega.{arith}
use lib.ListN.{length, drop, get_or}
use borrow.Author.Tests.{le-leb, lt-leb}
use Rattle.forest.specs.Lists.{sum, count, parent, offset}
use Rattle.forest.specs.Pairs.{Item}
use Rattle.forest.specs.Rows.{Row, nums, sizes, items_at, full, Tower}
use Rattle.forest.specs.Trees.{numbers, need_up}
use Rattle.forest.specs.Pools.{inner_words}
use Rattle.forest.proofs.RowLaws.{sum-sizes, length-line, length-items, fill_at, parent_there, offset_there}
use Rattle.pool.specs.Stores.{Store, block, Placed}
use Rattle.pool.proofs.Bridges.{spell_placed, spell-block}
use Rattle.grow.specs.Grows
use Rattle.grow.proofs.Mem

-- a scene by its parts
abbrev pub scene : List ℕ → ℕ → Store → List ℕ → Row → List Row → ℕ → Grows.Scene
scene roots N st free R Rs i = record { roots = roots; nodes = N; store = st; free = free; row = R; rows = Rs; at = i }

-- the row above, the items of the parent there, and the place in it
abbrev pub row_up : Grows.Scene → Row
row_up s = get_or s.rows 0 []

abbrev pub par_up : Grows.Scene → ℕ
par_up s = parent (sizes (row_up s)) s.at

abbrev pub off_up : Grows.Scene → ℕ
off_up s = offset (sizes (row_up s)) s.at

abbrev pub items_up : Grows.Scene → List Item
items_up s = items_at (row_up s) (par_up s)

-- the scene one level up, of the parent
abbrev pub up_scene : Grows.Scene → Grows.Scene
up_scene s = scene s.roots s.nodes s.store s.free (row_up s) (drop 1 s.rows) (par_up s)

module _ (ws : List ℕ) (t tree : ℕ) (ns ps : List ℕ) where
  abbrev Und : Grows.Scene → ℕ → Type 0
  Und s level = Grows.Under s ws t tree ns ps level

  -- what is known one level up
  pub record Seen (s : Grows.Scene) (level : ℕ) : Type 0 where
    pub node : get_or ns (level - 1) 0 ≡ Grows.num_at (row_up s) (par_up s)
    pub place : get_or ps (level - 1) 0 ≡ off_up s
    pub counts : (y : ℕ) → count y (numbers s.rows) ≡ count y (nums (row_up s)) + count y (numbers (drop 1 s.rows))
    pub row_in : par_up s < length (row_up s)
    pub inside : off_up s < length (items_up s)
    pub few : length (items_up s) ≤ 8
    pub low : 1 ≤ Grows.num_at (row_up s) (par_up s)
    pub high : Grows.num_at (row_up s) (par_up s) ≤ s.nodes
    pub held : s.store (Grows.num_at (row_up s) (par_up s)) ≡ inner_words (items_up s)
    pub needs : need_up s.at s.rows ≡ cond (full 8 (par_up s) (row_up s)) (suc (need_up (par_up s) (drop 1 s.rows))) 0
    pub above : Und (up_scene s) (level - 1)

  seen_rows : (roots : List ℕ) (N : ℕ) (st : Store) (free : List ℕ) (R : Row) (Rs : List Row) (i : ℕ) (level : ℕ) → 1 ≤ level → Und (scene roots N st free R Rs i) level →
      Seen (scene roots N st free R Rs i) level
  seen_rows roots N st free R [] i level h u = absurd (omega (arith, u.levels))
  seen_rows roots N st free R (S ∷ Ss) i level h u =
      let w : Tower R (S ∷ Ss) = u.tower in
      let b : i < sum (sizes S) = omega (arith, sum-sizes S, ap length w.1, length-line R, u.within) in
      let at : parent (sizes S) i < length S = parent_there S i b in
      let l : length Ss ≡ level - 1 = omega (arith, u.levels) in
      let c = Mem.num_at-counts S (parent (sizes S) i) at in
      let p = Mem.parts (Grows.num_at S (parent (sizes S) i)) S Ss in
      let r = u.range (Grows.num_at S (parent (sizes S) i)) (omega arith) in
      record {
        node = rw l at u.along.0;
        place = rw l at u.along.1;
        counts = λ y. Mem.parts y S Ss;
        row_in = at;
        inside = offset_there S i b;
        few = rw (length-items S (parent (sizes S) i)) (fill_at 4 8 (sizes S) (parent (sizes S) i) w.2);
        low = r.0;
        high = r.1;
        held = Mem.holds_at inner_words st S (parent (sizes S) i) at u.holds.0;
        needs = refl;
        above = record {
          words = u.words;
          trees = u.trees;
          few_trees = u.few_trees;
          few_nodes = u.few_nodes;
          sixteen = u.sixteen;
          stack = u.stack;
          there = u.there;
          root = u.root;
          levels = l;
          few_levels = omega (arith, u.few_levels);
          within = at;
          tower = w.3;
          holds = u.holds.1;
          each_once = λ y. omega (arith, Mem.parts y S Ss, u.each_once y);
          range = λ y q. u.range y (omega (arith, Mem.parts y S Ss));
          along = u.along.2;
        };
      }

  pub seen : (s : Grows.Scene) (level : ℕ) → 1 ≤ level → Und s level → Seen s level
  seen s level h u = seen_rows s.roots s.nodes s.store s.free s.row s.rows s.at level h u

  module _ (s : Grows.Scene) (level : ℕ) (u : Und s level) (h : Seen s level) where
    pub up_placed : Placed ws t (get_or ns (level - 1) 0)
    up_placed = rw (h.node, ← u.words, ← u.trees) (spell_placed s.roots s.nodes s.store s.free u.sixteen (Grows.num_at (row_up s) (par_up s)) h.low h.high)

    pub up_block : block ws t (get_or ns (level - 1) 0) ≡ inner_words (items_up s)
    up_block =
        rw (h.node, ← u.words, ← u.trees)
        (spell-block s.roots s.nodes s.store s.free u.sixteen (Grows.num_at (row_up s) (par_up s)) h.low h.high ∙ h.held)

    -- word 0 tells whether the node is full
    pub up_room : get_or (block ws t (get_or ns (level - 1) 0)) 0 0 < 23 → full 8 (par_up s) (row_up s) ≡ false
    up_room b = let z = rw up_block at b in lt-leb 8 (get_or (sizes (row_up s)) (par_up s) 0) (omega (arith, length-items (row_up s) (par_up s), h.inside))

    pub up_full : 23 ≤ get_or (block ws t (get_or ns (level - 1) 0)) 0 0 → full 8 (par_up s) (row_up s) ≡ true
    up_full b = let z = rw up_block at b in le-leb 8 (get_or (sizes (row_up s)) (par_up s) 0) (omega (arith, length-items (row_up s) (par_up s), h.inside))

    -- the need
    pub need-room : get_or (block ws t (get_or ns (level - 1) 0)) 0 0 < 23 → 0 ≡ need_up s.at s.rows
    need-room b = sym (h.needs ∙ rw (up_room b))

    pub need-full : (r : ℕ) → 23 ≤ get_or (block ws t (get_or ns (level - 1) 0)) 0 0 → r ≡ need_up (par_up s) (drop 1 s.rows) → 1 + r ≡ need_up s.at s.rows
    need-full r b e = let z : need_up s.at s.rows ≡ suc (need_up (par_up s) (drop 1 s.rows)) = h.needs ∙ rw (up_full b) in omega arith

  need_none : (i : ℕ) (Rs : List Row) → length Rs ≡ 0 → 1 ≡ need_up i Rs
  need_none i [] h = refl
  need_none i (S ∷ Ss) h = absurd (omega arith)

  pub need_top : (s : Grows.Scene) (level : ℕ) → level ≡ 0 → Und s level → 1 ≡ need_up s.at s.rows
  need_top s level z u = need_none s.at s.rows (u.levels ∙ z)

  -- for each scene of these words
  pub load_up : (level : ℕ) → 1 ≤ level → Grows.Unders ws t tree ns ps level → Placed ws t (get_or ns (level - 1) 0)
  load_up level b g = up_placed g.scene level g.under (seen g.scene level b g.under)

  pub unders_up : (level : ℕ) → 1 ≤ level → Grows.Unders ws t tree ns ps level → Grows.Unders ws t tree ns ps (level - 1)
  unders_up level b g = record { scene = up_scene g.scene; under = (seen g.scene level b g.under).above }

  pub none_up : (level : ℕ) (w : List ℕ) → 1 ≤ level → w ≡ block ws t (get_or ns (level - 1) 0) → get_or w 0 0 < 23 → (s : Grows.Scene) → Und s level → 0 ≡ need_up s.at s.rows
  none_up level w b e h s u = need-room s level u (seen s level b u) (rw e at h)

  pub more_up : (level r : ℕ) (w : List ℕ) → 1 ≤ level → w ≡ block ws t (get_or ns (level - 1) 0) → 23 ≤ get_or w 0 0 →
      ((s : Grows.Scene) → Und s (level - 1) → r ≡ need_up s.at s.rows) → (s : Grows.Scene) → Und s level → 1 + r ≡ need_up s.at s.rows
  more_up level r w b e h f s u = let v = seen s level b u in need-full s level u v r (rw e at h) (f (up_scene s) v.above)

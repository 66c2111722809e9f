-- PROOFS. The steps of a put upward: what the calls of the code ask and leave, past the root, in a node with room, and in one that is cut
use mathlib.Core.Path.{◌≡◌, refl, sym, ap, ◌∙◌}
use mathlib.Core.List.{List, [], ◌∷◌}
use mathlib.Core.Bool.{true, false}
use Prim.Native.Nat.{ℕ, suc, ◌+◌, ◌-◌, ◌≤◌, ◌<◌}
use native.Mathlib.Numerals.{add-one}
use native.Mathlib.Omega.{arith}
use lib.ListN.{length, take, drop, get_or, set, length-drop}
use lib.Seq.{set-get_or}
use Rattle.forest.specs.Lists.{insert_at, count, parent, offset}
use Rattle.forest.specs.Pairs.{Item}
use Rattle.forest.specs.Rows.{Row, front, sizes, items_at, keeps, full}
use Rattle.forest.specs.Trees.{numbers, need_up}
use Rattle.forest.specs.Pools.{inner_words, root_above}
use Rattle.forest.proofs.ListLaws.{drop_one}
use Rattle.forest.proofs.RowLaws.{keeps-fits}
use Rattle.pool.specs.Stores.{Store, put, spell, block, with_block, top_node}
use Rattle.pool.proofs.Bridges.{spell-length, spell-root, spell-with_block}
use Rattle.node.specs.declared.SplitOff.{SplitOff}
use Rattle.node.specs.Nodes.{Inner, inner_items, rekey_at, split_of}
use Rattle.node.proofs.Words.{inner_items_lem, inner_is, insert-first, take-first, drop-first}
use Rattle.grow.specs.Grows
use Rattle.grow.proofs.Mem
use Rattle.grow.proofs.Spelling
use Rattle.grow.proofs.Cutting.{cut_from, top_range, takes, top_is, cut_under}
use Rattle.grow.proofs.Climbs.{scene, row_up, par_up, off_up, items_up, up_scene, Seen, seen, up_placed, up_block, up_room, up_full, need_top}

-- THE STEPS OF A CLIMB
module _ (ws : List ℕ) (t tree : ℕ) (ns ps : List ℕ) where
  -- past the root: a new one
  pub root_in : (s : Grows.Scene) (level : ℕ) → Grows.Under s ws t tree ns ps level → tree + 1 < length ws
  root_in s level u = rw (← u.words) (omega (arith, spell-length s.roots s.nodes s.store s.free u.sixteen, u.trees, u.there))

  pub top_takes : (level : ℕ) → level ≡ 0 → Grows.Climbs ws t tree ns ps level → Grows.Takes ws t
  top_takes level z g = takes ws t tree ns ps level g.scene g.climb.under (omega (arith, need_top ws t tree ns ps g.scene level z g.climb.under, g.climb.enough))

  climbed_top : (roots : List ℕ) (N : ℕ) (st : Store) (free : List ℕ) (R : Row) (Rs : List Row) (i : ℕ) (x : Item) → length Rs ≡ 0 →
      Grows.climbed (scene roots N st free R Rs i) tree x ≡ spell (set roots tree (get_or free 0 0)) N (put st (get_or free 0 0) (inner_words ((0, root_above R Rs) ∷ x ∷ []))) (drop 1 free)
  unfolding Grows.climbed
  climbed_top roots N st free R [] i x h = refl
  climbed_top roots N st free R (S ∷ Ss) i x h = absurd (omega arith)

  pub top_done : (level : ℕ) (x : Item) (r : ℕ) (w e : List ℕ) → level ≡ 0 → r ≡ get_or ws (tree + 1) 0 → w ≡ inner_words ((0, r) ∷ x ∷ []) → e ≡ Grows.planted_words ws t tree w →
      (s : Grows.Scene) → Grows.Climb s ws t tree ns ps level → e ≡ Grows.climbed s tree x
  top_done level x r w e z a b q s g =
      let u = g.under in
      let h : 1 ≤ length s.free = omega (arith, need_top ws t tree ns ps s level z u, g.enough) in
      let y = top_range ws t tree ns ps level s u h in
      let k : r ≡ root_above s.row s.rows =
      a ∙ ap (λ (v : List ℕ). get_or v (tree + 1) 0) (sym u.words) ∙ spell-root s.roots s.nodes s.store s.free u.sixteen tree (rw u.trees u.there) ∙ u.root in
      q ∙
      rw (b, k, ← u.words, ← u.trees)
      (Spelling.planted_spell s.roots s.nodes s.store u.sixteen s.free h u.stack y.0 y.1 tree _ (rw u.trees u.there) (Spelling.inner_length ((0, root_above s.row s.rows) ∷ x ∷ [])) ∙
      sym (climbed_top s.roots s.nodes s.store s.free s.row s.rows s.at x (u.levels ∙ z)))

-- the scene of the parent once it is cut, x in it
abbrev pub cut_scene : Grows.Scene → Item → Grows.Scene
cut_scene s x =
    cut_from (up_scene s) (Grows.num_at (row_up s) (par_up s)) (inner_words (Grows.left_part 8 (suc (off_up s)) x (items_up s))) (inner_words (Grows.right_part 8 (suc (off_up s)) x (items_up s)))

-- what the node operations of the code make of the words of items ys
module _ (x : Item) (ys : List Item) (o : ℕ) (some : 1 ≤ length ys) (few : length ys ≤ 8) where
  insert-rekey : (xs : List Item) → 1 ≤ length xs → insert_at (suc o) x (rekey_at 0 0 xs) ≡ rekey_at 0 0 (insert_at (suc o) x xs)
  insert-rekey [] h = absurd (omega arith)
  insert-rekey (y ∷ xs) h = refl

  pub inserted : inner_words (insert_at (suc o) x (inner_items (inner_words ys))) ≡ inner_words (insert_at (suc o) x ys)
  inserted = rw (inner_items_lem ys some few) (insert-first 0 o x ys)

  pub left_half : inner_words (take (keeps 8 (suc o)) (insert_at (suc o) x (inner_items (inner_words ys)))) ≡ inner_words (Grows.left_part 8 (suc o) x ys)
  left_half = rw (inner_items_lem ys some few, insert-rekey ys some) (take-first 0 (keeps 8 (suc o)) (insert_at (suc o) x ys))

  pub right_half : drop (keeps 8 (suc o)) (insert_at (suc o) x (inner_items (inner_words ys))) ≡ Grows.right_part 8 (suc o) x ys
  right_half =
      let k = keeps-fits 8 4 (suc o) (omega arith) (omega arith) in
      rw (inner_items_lem ys some few, insert-rekey ys some) (drop-first 0 (keeps 8 (suc o)) (insert_at (suc o) x ys) (omega (arith, k.0)))

module _ (ws : List ℕ) (t tree : ℕ) (ns ps : List ℕ) where
  climbed-room : (roots : List ℕ) (N : ℕ) (st : Store) (free : List ℕ) (R : Row) (Rs : List Row) (i : ℕ) (x : Item) → 1 ≤ length Rs → get_or roots tree 0 ≡ root_above R Rs →
      full 8 (parent (sizes (get_or Rs 0 [])) i) (get_or Rs 0 []) ≡ false →
      Grows.climbed (scene roots N st free R Rs i) tree x ≡
      spell roots N (put st (Grows.num_at (get_or Rs 0 []) (parent (sizes (get_or Rs 0 [])) i)) (inner_words (insert_at (suc (offset (sizes (get_or Rs 0 [])) i)) x (items_at (get_or Rs 0 []) (parent (sizes (get_or Rs 0 [])) i))))) free
  unfolding Grows.climbed
  climbed-room roots N st free R [] i x h e q = absurd (omega arith)
  climbed-room roots N st free R (S ∷ Ss) i x h e q = simp (q, ← e, set-get_or roots tree 0)

  climbed-full : (roots : List ℕ) (N : ℕ) (st : Store) (free : List ℕ) (R : Row) (Rs : List Row) (i : ℕ) (x : Item) → 1 ≤ length Rs →
      full 8 (parent (sizes (get_or Rs 0 [])) i) (get_or Rs 0 []) ≡ true →
      Grows.climbed (cut_scene (scene roots N st free R Rs i) x) tree
      (front (Grows.right_part 8 (suc (offset (sizes (get_or Rs 0 [])) i)) x (items_at (get_or Rs 0 []) (parent (sizes (get_or Rs 0 [])) i))), get_or free 0 0) ≡
      Grows.climbed (scene roots N st free R Rs i) tree x
  unfolding Grows.climbed
  climbed-full roots N st free R [] i x h q = absurd (omega arith)
  climbed-full roots N st free R (S ∷ Ss) i x h q = simp (q, drop_one)

  module _ (s : Grows.Scene) (level : ℕ) (b : 1 ≤ level) (x : Item) (g : Grows.Climb s ws t tree ns ps level) where
    u : Grows.Under s ws t tree ns ps level
    u = g.under

    v : Seen ws t tree ns ps s level
    v = seen ws t tree ns ps s level b u

    some-rows : 1 ≤ length s.rows
    some-rows = omega (arith, u.levels)

    -- with room
    pub room-done : (w v' e : List ℕ) → w ≡ block ws t (get_or ns (level - 1) 0) → get_or w 0 0 < 23 → v' ≡ inner_words (insert_at (suc (get_or ps (level - 1) 0)) x (inner_items w)) →
        e ≡ with_block ws t (get_or ns (level - 1) 0) v' → e ≡ Grows.climbed s tree x
    room-done w v' e q h k f =
        let z : v' ≡ inner_words (insert_at (suc (off_up s)) x (items_up s)) =
        k ∙ rw (q, up_block ws t tree ns ps s level u v, v.place) (inserted x (items_up s) (off_up s) (omega (arith, v.inside)) v.few) in
        f ∙
        rw (z, v.node, ← u.words, ← u.trees)
        (spell-with_block s.roots s.nodes s.store s.free u.sixteen (Grows.num_at (row_up s) (par_up s)) v.low v.high _ (Spelling.inner_length (insert_at (suc (off_up s)) x (items_up s))) ∙
        sym (climbed-room s.roots s.nodes s.store s.free s.row s.rows s.at x some-rows u.root (up_room ws t tree ns ps s level u v (rw q at h))))

    -- cut
    module _ (q : full 8 (par_up s) (row_up s) ≡ true) where
      needs-more : need_up s.at s.rows ≡ suc (need_up (par_up s) (drop 1 s.rows))
      needs-more = v.needs ∙ rw q

      some-free : 1 ≤ length s.free
      some-free = omega (arith, needs-more, g.enough)

      still-enough : need_up (par_up s) (drop 1 s.rows) ≤ length (drop 1 s.free)
      still-enough = omega (arith, length-drop 1 s.free, needs-more, g.enough)

      apart : count (Grows.num_at (row_up s) (par_up s)) (numbers (drop 1 s.rows)) ≡ 0
      apart =
          omega (arith, Mem.num_at-counts (row_up s) (par_up s) v.row_in, v.counts (Grows.num_at (row_up s) (par_up s)), u.each_once (Grows.num_at (row_up s) (par_up s)))

      pub next_climb : (m left right : List ℕ) → left ≡ inner_words (Grows.left_part 8 (suc (off_up s)) x (items_up s)) → right ≡ inner_words (Grows.right_part 8 (suc (off_up s)) x (items_up s)) →
          m ≡ Grows.cut_words ws t (get_or ns (level - 1) 0) left right → Grows.Climb (cut_scene s x) m t tree ns ps (level - 1)
      next_climb m left right l r f = record {
        under = cut_under ws t tree ns ps (level - 1) (up_scene s) v.above some-free (Grows.num_at (row_up s) (par_up s)) v.low v.high apart
            (inner_words (Grows.left_part 8 (suc (off_up s)) x (items_up s))) (inner_words (Grows.right_part 8 (suc (off_up s)) x (items_up s)))
            (Spelling.inner_length (Grows.left_part 8 (suc (off_up s)) x (items_up s))) (Spelling.inner_length (Grows.right_part 8 (suc (off_up s)) x (items_up s))) m (f ∙ rw (l, r, v.node));
        enough = still-enough;
      }

      pub cut_done : (key rhs : ℕ) (e : List ℕ) → key ≡ front (Grows.right_part 8 (suc (off_up s)) x (items_up s)) → rhs ≡ get_or s.free 0 0 →
          e ≡ Grows.climbed (cut_scene s x) tree (key, rhs) → e ≡ Grows.climbed s tree x
      cut_done key rhs e k r f = f ∙ rw (k, r) (climbed-full s.roots s.nodes s.store s.free s.row s.rows s.at x some-rows q)

-- What the calls of the code ask, and what they leave
module _ (ws : List ℕ) (t tree : ℕ) (ns ps : List ℕ) (level : ℕ) (b : 1 ≤ level) (w : List ℕ) (e : w ≡ block ws t (get_or ns (level - 1) 0)) where
  module _ (s : Grows.Scene) (u : Grows.Under s ws t tree ns ps level) where
    abbrev seen_up : Seen ws t tree ns ps s level
    seen_up = seen ws t tree ns ps s level b u

    is-inner : w ≡ inner_words (items_up s)
    is-inner = e ∙ up_block ws t tree ns ps s level u seen_up

    pub insert_asks : get_or w 0 0 < 23 → Inner w × (get_or w 0 0 < 23) × (get_or ps (level - 1) 0 < get_or w 0 0 - 15)
    insert_asks h =
        let z : get_or w 0 0 ≡ 16 + (length (items_up s) - 1) = ap (λ (v : List ℕ). get_or v 0 0) is-inner in
        (rw is-inner (inner_is (items_up s) (omega (arith, seen_up.inside)) seen_up.few), h, rw seen_up.place (omega (arith, seen_up.inside)))

    pub split_asks : 23 ≤ get_or w 0 0 → Inner w × (get_or w 0 0 ≡ 23) × (get_or ps (level - 1) 0 + 1 ≤ 8)
    split_asks h =
        let z : get_or w 0 0 ≡ 16 + (length (items_up s) - 1) = ap (λ (v : List ℕ). get_or v 0 0) is-inner in (
          rw is-inner (inner_is (items_up s) (omega (arith, seen_up.inside)) seen_up.few),
          omega (arith, seen_up.few, seen_up.inside),
          rw seen_up.place (omega (arith, seen_up.inside, seen_up.few)),
        )

  -- the halves of the cut node
  module _ (key node : ℕ) (r : SplitOff) (cut : r ≡ split_of inner_words (keeps 8 (get_or ps (level - 1) 0 + 1)) (insert_at (get_or ps (level - 1) 0 + 1) (key, node) (inner_items w)))
      (h : 23 ≤ get_or w 0 0) (s : Grows.Scene) (g : Grows.Climb s ws t tree ns ps level) where
    abbrev here : Seen ws t tree ns ps s level
    here = seen_up s g.under

    q : r ≡ split_of inner_words (keeps 8 (suc (get_or ps (level - 1) 0))) (insert_at (suc (get_or ps (level - 1) 0)) (key, node) (inner_items w))
    q = cut ∙ ap (λ (i : ℕ). split_of inner_words (keeps 8 i) (insert_at i (key, node) (inner_items w))) (add-one (get_or ps (level - 1) 0))

    is-full : full 8 (par_up s) (row_up s) ≡ true
    is-full = up_full ws t tree ns ps s level g.under here (rw e at h)

    left_is : r.left ≡ inner_words (Grows.left_part 8 (suc (off_up s)) (key, node) (items_up s))
    left_is =
        ap (λ (o : SplitOff). o.left) q ∙
        rw (is-inner s g.under, here.place) (left_half (key, node) (items_up s) (off_up s) (omega (arith, here.inside)) here.few)

    right_is : r.right ≡ inner_words (Grows.right_part 8 (suc (off_up s)) (key, node) (items_up s))
    right_is =
        ap (λ (o : SplitOff). o.right) q ∙
        rw (is-inner s g.under, here.place) (ap inner_words (right_half (key, node) (items_up s) (off_up s) (omega (arith, here.inside)) here.few))

    key-is : r.key ≡ front (Grows.right_part 8 (suc (off_up s)) (key, node) (items_up s))
    key-is =
        ap (λ (o : SplitOff). o.key) q ∙
        rw (is-inner s g.under, here.place) (ap front (right_half (key, node) (items_up s) (off_up s) (omega (arith, here.inside)) here.few))

    pub cuts_asks : Grows.AskCut ws t (get_or ns (level - 1) 0)
    cuts_asks = record {
      takes = takes ws t tree ns ps level s g.under (some-free ws t tree ns ps s level b (key, node) g is-full);
      node = up_placed ws t tree ns ps s level g.under here;
    }

    module _ (m : List ℕ) (f : m ≡ Grows.cut_words ws t (get_or ns (level - 1) 0) r.left r.right) where
      pub climb_asks : Grows.Climb (cut_scene s (key, node)) m t tree ns ps (level - 1)
      climb_asks = next_climb ws t tree ns ps s level b (key, node) g is-full m r.left r.right left_is right_is f

      pub climb_done : (rhs : ℕ) (o : List ℕ) → rhs ≡ top_node ws t → ((s' : Grows.Scene) → Grows.Climb s' m t tree ns ps (level - 1) → o ≡ Grows.climbed s' tree (r.key, rhs)) →
          o ≡ Grows.climbed s tree (key, node)
      climb_done rhs o p ens =
          cut_done ws t tree ns ps s level b (key, node) g is-full r.key rhs o key-is (p ∙ top_is ws t tree ns ps level s g.under (some-free ws t tree ns ps s level b (key, node) g is-full))
          (ens (cut_scene s (key, node)) climb_asks)

-- a climb's path alone
pub climbs-under : (ws : List ℕ) (t tree : ℕ) (ns ps : List ℕ) (level : ℕ) → Grows.Climbs ws t tree ns ps level → Grows.Unders ws t tree ns ps level
climbs-under ws t tree ns ps level g = record { scene = g.scene; under = g.climb.under }

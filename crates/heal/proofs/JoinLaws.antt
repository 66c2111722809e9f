-- PROOFS. A cut, a node that stays small, two neighbours that join: over the kind of the nodes
use mathlib.Core.Path.{◌≡◌, refl, sym, ap, ◌∙◌, subst}
use mathlib.Core.List.{List}
use mathlib.Core.Bool.{true, false, true≢false}
use Rattle.std.specs.Prelude.{Some}
use Prim.Native.Nat.{ℕ, suc, ◌+◌, ◌-◌, ◌≤◌, ◌<◌}
use native.Mathlib.Omega.{arith}
use lib.ListN.{length, get_or, take, drop}
use lib.Dec.{ltb, leb}
use borrow.Author.Tests.{lt-ltb, le-ltb}
use Rattle.forest.specs.Lists.{remove_at, parent, offset}
use Rattle.forest.specs.Pairs.{Item}
use Rattle.forest.specs.Rows.{front, nums, sizes}
use Rattle.forest.specs.declared.Cursor.{Cursor}
use Rattle.forest.proofs.ListLaws.{is, isnt, test, length-remove_at, offset_lt}
use Rattle.forest.proofs.RowLaws.{fill_at}
use Rattle.pool.specs.Stores.{put, block, with_block, Placed}
use Rattle.node.specs.Nodes.{status_of, keep, cut_of, split_of, balance_of}
use Rattle.node.specs.declared.SplitOff.{SplitOff}
use Rattle.node.specs.declared.Balanced.TheVariants.{Merged, Shared}
use Rattle.node.specs.declared.Removed.{Removed}
use Rattle.node.specs.declared.Removed.TheVariants.{Underflow}
use Rattle.node.proofs.OnItems.{is_merged, is_shared}
use Rattle.crit.specs.States.{right_sibling, right_set, hand_key, stored}
use Rattle.crit.specs.Asks.{Mem, moved, Spelt, Route, Leaves, off_end}
use Rattle.heal.specs.Cycle.{Kind, left, fits, gathered, shared, stayed, AskHeal, AskJoin, AskCut, Joined, Cuts}
use Rattle.heal.specs.Steps.{Ops, both, ops_of}
use Rattle.heal.specs.Kinds.{HealLaws}
use Rattle.crit.proofs.HealMem
use Rattle.crit.proofs.SpeltLaws.{spelt_block, spelt_placed, spelt_store, spelt_level, same_count}
use Rattle.crit.proofs.NextLaws.{spelt_off}
use Rattle.heal.proofs.HealUp.{Lawful}
use Rattle.heal.proofs.WoundLaws.{Held, held_here, held_mate}
use Rattle.heal.proofs.CycleLaws.{heal_way_put, some_left}

module _ {k : Kind} {cap tag hid : ℕ} {words : List Item → List ℕ} {items : List ℕ → List Item} {Is : List ℕ → Type 0} (laws : HealLaws k cap tag hid words items Is) where
  abbrev law : Lawful k.ops k.words k.cap k.low
  law = laws.lawful

  same_ops : k.ops ≡ ops_of tag hid words items
  same_ops = ap (λ (x : Kind). x.ops) laws.same

  same_words : words ≡ k.words
  same_words = sym (ap (λ (x : Kind). x.words) laws.same)

  same_cap : cap ≡ k.cap
  same_cap = sym (ap (λ (x : Kind). x.cap) laws.same)

  sixteen : (xs : List Item) → length (k.words xs) ≡ 16
  sixteen xs = ap (λ (f : List Item → List ℕ). length (f xs)) (sym same_words) ∙ laws.sixteen xs

  is_node : (xs : List Item) → 1 ≤ length xs → length xs ≤ k.cap → Is (k.words xs)
  is_node xs h f = rw (← same_words) (laws.is xs h (rw same_cap f))

  counted : (xs : List Item) → 1 ≤ length xs → get_or (k.words xs) 0 0 ≡ tag + length xs
  counted xs h = rw (← same_words) (laws.counts xs h)

  -- the items of two neighbours with a key between them
  abbrev pair : List ℕ → List ℕ → ℕ → List Item
  pair = both tag hid words items

  pair_size : (w v : List ℕ) (key : ℕ) → length (pair w v key) ≡ k.ops.entries w + k.ops.entries v
  pair_size w v key = laws.size w v key ∙ sym (ap (λ (o : Ops). o.entries w + o.entries v) same_ops)

  gathers : (w v : List ℕ) (key : ℕ) → k.ops.gather w v key ≡ k.words (pair w v key)
  gathers w v key = ap (λ (o : Ops). o.gather w v key) same_ops ∙ ap (λ (f : List Item → List ℕ). f (pair w v key)) same_words

  lefts : (w v : List ℕ) (key : ℕ) → k.ops.left w v key ≡ k.words (take (keep (pair w v key)) (pair w v key))
  lefts w v key = ap (λ (o : Ops). o.left w v key) same_ops ∙ ap (λ (f : List Item → List ℕ). f (take (keep (pair w v key)) (pair w v key))) same_words

  rights : (w v : List ℕ) (key : ℕ) → k.ops.right w v key ≡ k.words (drop (keep (pair w v key)) (pair w v key))
  rights w v key = ap (λ (o : Ops). o.right w v key) same_ops ∙ ap (λ (f : List Item → List ℕ). f (drop (keep (pair w v key)) (pair w v key))) same_words

  mids : (w v : List ℕ) (key : ℕ) → k.ops.mid w v key ≡ front (drop (keep (pair w v key)) (pair w v key))
  mids w v key = ap (λ (o : Ops). o.mid w v key) same_ops

  -- the words of a node without an item
  cut_length : (xs : List Item) (p : ℕ) → p < length xs → length xs ≤ k.cap → length (k.ops.cut (k.words xs) p) ≡ 16
  cut_length xs p h f = elim (test (ltb 1 (length xs))) [
    | is e ↦ ap length (law.cut_is xs p h (borrow.Author.Tests.ltb-true 1 (length xs) e) f) ∙ sixteen (remove_at p xs)
    | isnt e ↦ ap length (law.cut_none xs p (let z = borrow.Author.Tests.ltb-false 1 (length xs) e in omega arith))
  ]

  cut_left : (xs : List Item) (p : ℕ) → p < length xs → length xs ≤ k.cap → k.ops.entries (k.ops.cut (k.words xs) p) ≡ length xs - 1
  cut_left xs p h f = elim (test (ltb 1 (length xs))) [
    | is e ↦
        let z = borrow.Author.Tests.ltb-true 1 (length xs) e in
        let l = length-remove_at p xs h in
        ap k.ops.entries (law.cut_is xs p h z f) ∙ law.entries_is (remove_at p xs) (omega arith) ∙ omega arith
    | isnt e ↦
        let z = borrow.Author.Tests.ltb-false 1 (length xs) e in
        ap k.ops.entries (law.cut_none xs p (omega arith)) ∙ law.entries_none ∙ omega arith
  ]

  -- a cut
  module _ {ws : List ℕ} {t : ℕ} {c : Cursor} {l : ℕ} (a : AskCut k ws t c l) where
    cut_name : get_or c.nodes l 0 ≡ a.mem.s.ns l
    cut_name = a.spelt.nodes l a.deep

    pub cut_placed : Placed ws t (get_or c.nodes l 0)
    cut_placed = rw cut_name (spelt_placed a.spelt (a.mem.s.ns l) a.some a.few)

    cut-block : block ws t (get_or c.nodes l 0) ≡ k.words a.items
    cut-block = rw cut_name (spelt_block a.spelt (a.mem.s.ns l) a.some a.few ∙ a.words)

    cut_place : get_or c.places l 0 < length a.items
    cut_place = rw (a.spelt.places l a.deep) a.inside

    module _ (w : List ℕ) (e : w ≡ block ws t (get_or c.nodes l 0)) where
      pub cut_asks : Is w × (get_or c.places l 0 < get_or w 0 0 - tag)
      cut_asks = rw (e ∙ cut-block) (is_node a.items (omega (arith, cut_place)) a.room, omega (arith, cut_place, counted a.items (omega (arith, cut_place))))

      pub cuts : {vs cw : List ℕ} {status : Removed} → vs ≡ with_block ws t (get_or c.nodes l 0) cw → cw ≡ cut_of tag words items w (get_or c.places l 0) →
          status ≡ status_of cap (get_or c.places l 0) (get_or w 0 0 - suc tag) → Cuts k ws vs t c l status
      cuts {vs} {cw} {status} v0 cq q0 =
          let lo : 1 ≤ get_or c.nodes l 0 = rw cut_name a.some in
          let hi : get_or c.nodes l 0 ≤ a.mem.count = rw cut_name a.few in
          let n0 : get_or w 0 0 ≡ tag + length a.items = rw (e ∙ cut-block) (counted a.items (omega (arith, cut_place))) in
          let v : vs ≡ with_block ws t (get_or c.nodes l 0) (k.ops.cut (k.words a.items) (get_or c.places l 0)) = v0 ∙ rw (cq, ← (ap (λ (o : Ops). o.cut w (get_or c.places l 0)) same_ops), e, cut-block) in
          let q : status ≡ status_of k.cap (get_or c.places l 0) (length a.items - 1) = q0 ∙ rw same_cap (ap (status_of k.cap (get_or c.places l 0)) (omega (arith, n0))) in
          record {
            leaves = λ m sp.
                let n = sp.nodes l a.deep in
                let p : get_or c.places l 0 ≡ m.s.ps l = sp.places l a.deep in
                let b : k.words a.items ≡ m.s.st (m.s.ns l) = sym cut-block ∙ spelt_level sp l a.deep lo (rw (← (same_count a.spelt sp)) hi) in
                subst (λ (x : ℕ × List ℕ). Spelt vs t c (moved m (stored m.s (put m.s.st x.0 x.1)))) (λ i. (n i, k.ops.cut (b i) (p i)))
                (rw v (spelt_store sp (get_or c.nodes l 0) lo (rw (← (same_count a.spelt sp)) hi) (k.ops.cut (k.words a.items) (get_or c.places l 0)) (cut_length a.items (get_or c.places l 0) cut_place a.room)));
            says = λ m sp.
                let sp1 = spelt_store a.spelt (get_or c.nodes l 0) lo hi (k.ops.cut (k.words a.items) (get_or c.places l 0)) (cut_length a.items (get_or c.places l 0) cut_place a.room) in
                let sp2 = rw (← v) at sp1 in
                let b : m.s.st (get_or c.nodes l 0) ≡ k.ops.cut (k.words a.items) (get_or c.places l 0) =
                sym (spelt_block sp (get_or c.nodes l 0) lo (rw (← (same_count sp2 sp)) hi)) ∙ spelt_block sp2 (get_or c.nodes l 0) lo hi ∙ HealMem.put_same a.mem.s.st (get_or c.nodes l 0) (k.ops.cut (k.words a.items) (get_or c.places l 0)) in
                let g : left k m.s l ≡ length a.items - 1 = ap (λ (x : ℕ). k.ops.entries (m.s.st x)) (sym (sp.nodes l a.deep)) ∙ ap k.ops.entries b ∙ cut_left a.items (get_or c.places l 0) cut_place a.room in
                q ∙ ap (λ (x : ℕ). status_of k.cap x (length a.items - 1)) (sp.places l a.deep) ∙ ap (status_of k.cap (m.s.ps l)) (sym g);
          }

  module _ {ws : List ℕ} {t : ℕ} {c : Cursor} {level : ℕ} (a : AskHeal k ws t c Underflow level) where
    -- the words of the node
    pub here : Held k.words k.cap a.mem.count a.ready.row a.mem.s.st (a.mem.s.ns level)
    here = held_here law a.mem.count level a.mem.s a.ready (some_left k law a refl)

    name : get_or c.nodes level 0 ≡ a.mem.s.ns level
    name = a.spelt.nodes level a.deep

    pub here_placed : Placed ws t (get_or c.nodes level 0)
    here_placed = rw name (spelt_placed a.spelt (a.mem.s.ns level) here.some here.few)

    here-block : block ws t (get_or c.nodes level 0) ≡ k.words here.items
    here-block = rw name (spelt_block a.spelt (a.mem.s.ns level) here.some here.few ∙ here.words)

    here_of : (m : Mem) → Spelt ws t c m → block ws t (get_or c.nodes level 0) ≡ m.s.st (m.s.ns level)
    here_of m sp = spelt_level sp level a.deep (rw name here.some) (rw (name, ← (same_count a.spelt sp)) here.few)

    pub here_words : (w : List ℕ) → w ≡ block ws t (get_or c.nodes level 0) → w ≡ k.words here.items
    here_words w e = e ∙ here-block

    pub here_is : (w : List ℕ) → w ≡ block ws t (get_or c.nodes level 0) → Is w
    here_is w e = rw (here_words w e) (is_node here.items here.one here.room)

    left_of_lem : (m : Mem) → Spelt ws t c m → left k m.s level ≡ length here.items
    left_of_lem m sp = ap k.ops.entries (sym (here_of m sp) ∙ here-block) ∙ law.entries_is here.items here.one

    pub place_few : get_or c.places level 0 < k.cap
    place_few =
        let p : a.mem.s.ps level ≡ offset (sizes a.ready.row) a.ready.at = rw (← a.ready.level) a.ready.place in
        omega (arith, a.spelt.places level a.deep, offset_lt (sizes a.ready.row) a.ready.at a.ready.inside, fill_at k.low k.cap (sizes a.ready.row) (parent (sizes a.ready.row) a.ready.at) a.ready.fill)

    -- it stays small
    module _ (w : List ℕ) (e : w ≡ block ws t (get_or c.nodes level 0)) where
      pub here_count : get_or w 0 0 ≡ tag + length here.items
      here_count = rw (here_words w e) (counted here.items here.one)

      pub stays_on : get_or c.places level 0 < get_or w 0 0 - tag → Leaves (λ s. stayed k s level) ws ws t c c
      stays_on h = record {
        run = λ m sp.
            let e : ltb (m.s.ps level) (left k m.s level) ≡ true = rw (left_of_lem m sp, ← (sp.places level a.deep)) (lt-ltb _ _ (omega (arith, here_count))) in
            simp e sp;
      }

      pub stays_off : {r : Cursor} → get_or w 0 0 - tag ≤ get_or c.places level 0 → r ≡ off_end c → Leaves (λ s. stayed k s level) ws ws t c r
      stays_off {r} h o = record {
        run = λ m sp.
            let e : ltb (m.s.ps level) (left k m.s level) ≡ false = rw (left_of_lem m sp, ← (sp.places level a.deep)) (le-ltb _ _ (omega (arith, here_count))) in
            simp e (spelt_off sp o);
      }

  -- two neighbours
  module _ {ws : List ℕ} {t : ℕ} {c : Cursor} {level key node : ℕ} (j : AskJoin k ws t c level key node) where
    right : right_sibling j.heal.mem.s.st j.heal.mem.s.ns j.heal.mem.s.ps level ≡ Some (key, node)
    right = sym (j.finds.run j.heal.mem j.heal.spelt)

    pub mate : Held k.words k.cap j.heal.mem.count j.heal.ready.row j.heal.mem.s.st node
    mate = held_mate law j.heal.mem.count level j.heal.mem.s j.heal.ready (key, node) (some_left k law j.heal refl) right

    pub mate_placed : Placed ws t node
    mate_placed = spelt_placed j.heal.spelt node mate.some mate.few

    pub mate_words : (v : List ℕ) → v ≡ block ws t node → v ≡ k.words mate.items
    mate_words v e = e ∙ spelt_block j.heal.spelt node mate.some mate.few ∙ mate.words

    pub mate_is : (v : List ℕ) → v ≡ block ws t node → Is v
    mate_is v e = rw (mate_words v e) (is_node mate.items mate.one mate.room)

    mate-of : (m : Mem) → Spelt ws t c m → block ws t node ≡ m.s.st node
    mate-of m sp = spelt_block sp node mate.some (rw (← (same_count j.heal.spelt sp)) mate.few)

    hi_of : (m : Mem) → Spelt ws t c m → node ≤ m.count
    hi_of m sp = rw (← (same_count j.heal.spelt sp)) mate.few

    -- storing the neighbour's words, and both
    module _ (w v : List ℕ) (ew : w ≡ block ws t (get_or c.nodes level 0)) (ev : v ≡ block ws t node) where
      abbrev us : List Item
      us = pair w v key

      fits-of : (m : Mem) (x : Item) → Spelt ws t c m → right_sibling m.s.st m.s.ns m.s.ps level ≡ Some x → leb (length us) k.cap ≡ fits k m.s level x
      fits-of m x sp e =
          let q : ◌≡◌ {A = Item} (key, node) x = cc (j.finds.run m sp, e) in
          subst (λ (x : Item). leb (length us) k.cap ≡ fits k m.s level x) q
          (ap (λ (n : ℕ). leb n k.cap) (pair_size w v key ∙ rw (ew ∙ here_of j.heal m sp, ev ∙ mate-of m sp)))

      -- all to the right
      module _ (all : List ℕ) (ea0 : Merged all ≡ balance_of words cap us) where
        ea : Merged all ≡ balance_of k.words k.cap us
        ea = ea0 ∙ rw (same_words, same_cap)

        full : all ≡ k.ops.gather w v key
        full = (is_merged k.words k.cap us ea).1 ∙ sym (gathers w v key)

        module _ (vs : List ℕ) (e1 : vs ≡ with_block ws t node all) where
          stored-right : (m : Mem) → Spelt ws t c m → Spelt vs t c (moved m (stored m.s (put m.s.st node all)))
          stored-right m sp = rw e1 (spelt_store sp node mate.some (hi_of m sp) all (ap length (full ∙ gathers w v key) ∙ sixteen us))

          pub way_gathered : Route vs t c level
          way_gathered =
              heal_way_put k law j.heal (put j.heal.mem.s.st node all)
              (HealMem.put_keeps j.heal.mem.s.st node all (nums j.heal.ready.row) mate.inside) (stored-right j.heal.mem j.heal.spelt)

          pub joined_all : {us' : List ℕ} → Leaves (λ s. stored s (hand_key s.st s.ns s.ps level)) vs us' t c c → Joined k ws us' t c level true
          joined_all {us'} f = record {
            all_is = λ m x sp e. sym (is_merged k.words k.cap us ea).0 ∙ fits-of m x sp e;
            gather_all = λ m x sp e q.
                let i : ◌≡◌ {A = Item} (key, node) x = cc (j.finds.run m sp, e) in
                let g : all ≡ k.ops.gather (m.s.st (m.s.ns level)) (m.s.st node) key = full ∙ rw (ew ∙ here_of j.heal m sp, ev ∙ mate-of m sp) in
                subst (λ (x : Item). Spelt us' t c (moved m (gathered k m.s level x))) i
                (subst (λ (w : List ℕ). Spelt us' t c (moved m (stored m.s (hand_key (put m.s.st node w) m.s.ns m.s.ps level)))) g
                (f.run (moved m (stored m.s (put m.s.st node all))) (stored-right m sp)));
            share_some = λ m x sp e q. absurd (true≢false q);
          }

      -- they share
      module _ (b : SplitOff) (eb0 : Shared b ≡ balance_of words cap us) where
        eb : Shared b ≡ balance_of k.words k.cap us
        eb = eb0 ∙ rw (same_words, same_cap)

        parts : b ≡ split_of k.words (keep us) us
        parts = (is_shared k.words k.cap us eb).1

        half-left : b.left ≡ k.ops.left w v key
        half-left = ap (λ (x : SplitOff). x.left) parts ∙ sym (lefts w v key)

        half-right : b.right ≡ k.ops.right w v key
        half-right = ap (λ (x : SplitOff). x.right) parts ∙ sym (rights w v key)

        half-key : b.key ≡ k.ops.mid w v key
        half-key = ap (λ (x : SplitOff). x.key) parts ∙ sym (mids w v key)

        module _ (vs us' : List ℕ) (e1 : vs ≡ with_block ws t (get_or c.nodes level 0) b.left) (e2 : us' ≡ with_block vs t node b.right) where
          left-length : length b.left ≡ 16
          left-length = ap length (half-left ∙ lefts w v key) ∙ sixteen (take (keep us) us)

          stored-left : (m : Mem) → Spelt ws t c m → Spelt vs t c (moved m (stored m.s (put m.s.st (m.s.ns level) b.left)))
          stored-left m sp =
              let n = sp.nodes level j.heal.deep in
              subst (λ (n : ℕ). Spelt vs t c (moved m (stored m.s (put m.s.st n b.left)))) n
              (rw e1 (spelt_store sp (get_or c.nodes level 0) (rw (name j.heal) (here j.heal).some) (rw (name j.heal, ← (same_count j.heal.spelt sp)) (here j.heal).few) b.left left-length))

          stored-both : (m : Mem) → Spelt ws t c m → Spelt us' t c (moved m (stored m.s (put (put m.s.st (m.s.ns level) b.left) node b.right)))
          stored-both m sp = rw e2 (spelt_store (stored-left m sp) node mate.some (hi_of m sp) b.right (ap length (half-right ∙ rights w v key) ∙ sixteen (drop (keep us) us)))

          pub left_placed : Placed vs t node
          left_placed = spelt_placed (stored-left j.heal.mem j.heal.spelt) node mate.some mate.few

          pub way_shared : Route us' t c level
          way_shared =
              heal_way_put k law j.heal (put (put j.heal.mem.s.st (j.heal.mem.s.ns level) b.left) node b.right)
              (λ x z. HealMem.put_keeps (put j.heal.mem.s.st (j.heal.mem.s.ns level) b.left) node b.right (nums j.heal.ready.row) mate.inside x z ∙
              HealMem.put_keeps j.heal.mem.s.st (j.heal.mem.s.ns level) b.left (nums j.heal.ready.row) (here j.heal).inside x z)
              (stored-both j.heal.mem j.heal.spelt)

          pub joined_some : {xs : List ℕ} → Leaves (λ s. stored s (right_set s.st s.ns s.ps level b.key)) us' xs t c c → Joined k ws xs t c level false
          joined_some {xs} f = record {
            all_is = λ m x sp e. sym (is_shared k.words k.cap us eb).0 ∙ fits-of m x sp e;
            gather_all = λ m x sp e q. absurd (true≢false (sym q));
            share_some = λ m x sp e q.
                let i : ◌≡◌ {A = Item} (key, node) x = cc (j.finds.run m sp, e) in
                let hw : w ≡ m.s.st (m.s.ns level) = ew ∙ here_of j.heal m sp in
                let hv : v ≡ m.s.st node = ev ∙ mate-of m sp in
                let g1 : b.left ≡ k.ops.left (m.s.st (m.s.ns level)) (m.s.st node) key = half-left ∙ rw (hw, hv) in
                let g2 : b.right ≡ k.ops.right (m.s.st (m.s.ns level)) (m.s.st node) key = half-right ∙ rw (hw, hv) in
                let g3 : b.key ≡ k.ops.mid (m.s.st (m.s.ns level)) (m.s.st node) key = half-key ∙ rw (hw, hv) in
                subst (λ (x : Item). Spelt xs t c (moved m (shared k m.s level x))) i
                (subst (λ (y : (List ℕ × List ℕ) × ℕ). Spelt xs t c (moved m (stored m.s (right_set (put (put m.s.st (m.s.ns level) y.0.0) node y.0.1) m.s.ns m.s.ps level y.1))))
                (λ i. ((g1 i, g2 i), g3 i))
                (f.run (moved m (stored m.s (put (put m.s.st (m.s.ns level) b.left) node b.right))) (stored-both m sp)));
          }

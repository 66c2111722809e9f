-- PROOFS. Is it the only pair of its tree; and the removal of that one
use mathlib.Core.Path.{◌≡◌, refl, sym, ap, ◌∙◌, subst}
use mathlib.Core.List.{List, [], ◌∷◌, ◌++◌}
use mathlib.Core.Bool.{false}
use Prim.Native.Nat.{ℕ, ◌+◌, ◌≤◌, ◌<◌}
use native.Mathlib.Omega.{arith}
use lib.ListN.{length, get_or, set}
use lib.Dec.{eqb}
use borrow.Author.Tests.{lt-ltb, le-ltb, eq-eqb, ne_eqb, eqb-true, eqb-false}
use Rattle.forest.specs.Lists.{sum, once, count}
use Rattle.forest.specs.Rows.{Row, size, nums, sizes, items_at, Tower, drop_row, alone, without}
use Rattle.forest.specs.Trees.{numbers, pairs, leaf_of, remove_tree, freed, drop_leaf, drop_above}
use Rattle.forest.specs.Pools.{Pool, WellFormed, encode, tree_of, node_words, leaf_words}
use Rattle.forest.specs.Cursors.{move, to_remove, cursor_at}
use Rattle.forest.specs.declared.Cursor.{Cursor}
use Rattle.forest.proofs.ListLaws.{is, isnt, test, length-remove_at}
use Rattle.pool.specs.Stores.{put, block, freed_words, no_words, Placed, Freeable}
use Rattle.crit.specs.Paths.{num_at}
use Rattle.crit.specs.Asks.{moved, Spelt}
use Rattle.heal.specs.Steps.{free_node}
use Rattle.remove.specs.Ends.{AskRemove, AskLast, Lone, Removes}
use Rattle.crit.proofs.HealStack
use Rattle.crit.proofs.HealMem
use Rattle.crit.proofs.HealPath
use Rattle.crit.proofs.SpeltLaws.{spelt_block, spelt_placed}
use Rattle.heal.proofs.FreeLaws.{spelt_freeable, spelt_freed, room, within_named}
use Rattle.remove.proofs.HealTrim.{one_size}
use Rattle.remove.proofs.HealPool.{pool_words}
use Rattle.remove.proofs.StartLaws.{Begun, begun, good, e_in, i, size_is, s0, m0, spelt0, path0, holds0, within0, before0, each0, pairs_are}
use Rattle.remove.proofs.RemoveLaws.{there_it_is, sought, encoded, cursor_is, root_in, root-set}
use Rattle.forest.proofs.WordLaws.{count-append}

-- two leaves have two pairs
two_pairs : (gs : List ℕ) → HealStack.Some gs → length gs ≤ sum gs
two_pairs [] p = omega arith
two_pairs (g ∷ gs) p = omega (arith, two_pairs gs p.1)

module _ (p : Pool) (c : Cursor) (formed : WellFormed 3 p) (b : Begun p c) where
  -- a pool with rows above the leaves has another pair
  many : (1 ≤ length b.Rs) → 2 ≤ sum (sizes b.L)
  many h = from b.Rs h (good p c formed b).2
    where
      from : (Rs : List Row) → 1 ≤ length Rs → Tower b.L Rs → 2 ≤ sum (sizes b.L)
      from [] h w = absurd (omega arith)
      from (S ∷ Ss) h w = omega (arith, two_pairs (sizes b.L) (HealStack.fill_some 3 7 (sizes b.L) (omega arith) (good p c formed b).1), lib.ListN.length-map b.L size)

  pub single : length b.Rs ≡ 0 → length b.L ≡ 1
  single h = from b.Rs h (good p c formed b).2
    where
      from : (Rs : List Row) → length Rs ≡ 0 → Tower b.L Rs → length b.L ≡ 1
      from [] h w = w
      from (S ∷ Ss) h w = absurd (omega arith)

  abbrev n : ℕ
  n = get_or c.nodes (length b.Rs) 0

  pub n_is : get_or c.nodes (length b.Rs) 0 ≡ num_at b.L b.j
  n_is = HealPath.path_node b.L b.j b.Rs (s0 p c formed b).ns (s0 p c formed b).ps (path0 p c formed b)

  pub n_in : (1 ≤ get_or c.nodes (length b.Rs) 0) × (get_or c.nodes (length b.Rs) 0 ≤ p.count)
  n_in = rw n_is (within_named p.count (nums b.L ++ numbers b.Rs) p.free (within0 p c formed b) (num_at b.L b.j)
      (omega (arith, HealMem.num_at-counts b.L b.j b.jl, count-append (num_at b.L b.j) (nums b.L) (numbers b.Rs))))

  pub n_words : node_words p.trees (get_or c.nodes (length b.Rs) 0) ≡ leaf_words (items_at b.L b.j)
  n_words = rw n_is (HealMem.holds_at leaf_words (node_words p.trees) b.L b.j b.jl (holds0 p c formed b).0)

  module _ {ws : List ℕ} {t : ℕ} (same : encode p ≡ ws) (tr : t ≡ length p.trees) where
    sp : Spelt ws t c (m0 p c formed b)
    sp = spelt0 p c formed b same tr

    top_placed : c.size ≡ 1 → Placed ws t (get_or c.nodes 0 0)
    top_placed h =
        let z : length b.Rs ≡ 0 = omega (arith, size_is p c formed b) in
        subst (λ (l : ℕ). Placed ws t (get_or c.nodes l 0)) z (spelt_placed sp (get_or c.nodes (length b.Rs) 0) n_in.0 n_in.1)

    lone_is : (w : List ℕ) → c.size ≡ 1 → w ≡ block ws t (get_or c.nodes 0 0) → eqb (get_or w 0 0) 33 ≡ eqb (length (pairs (tree_of p c.tree))) 1
    lone_is w h e =
        let z : length b.Rs ≡ 0 = omega (arith, size_is p c formed b) in
        let one = single z in
        let j0 : b.j ≡ 0 = omega (arith, b.jl) in
        let q : w ≡ leaf_words (items_at b.L 0) =
        e ∙ ap (λ (l : ℕ). block ws t (get_or c.nodes l 0)) (sym z) ∙ spelt_block sp (get_or c.nodes (length b.Rs) 0) n_in.0 n_in.1 ∙ n_words ∙ ap (λ (k : ℕ). leaf_words (items_at b.L k)) j0 in
        let g : get_or w 0 0 ≡ 32 + length (items_at b.L 0) = ap (λ (v : List ℕ). get_or v 0 0) q in
        let l : length (pairs (tree_of p c.tree)) ≡ length (items_at b.L 0) = pairs_are p c formed b ∙ one_size b.L one in
        elim (test (eqb (length (items_at b.L 0)) 1)) [
          | is f ↦ let y = eqb-true (length (items_at b.L 0)) 1 f in eq-eqb (get_or w 0 0) 33 (omega arith) ∙ sym (ap (λ (k : ℕ). eqb k 1) l ∙ f)
          | isnt f ↦ let y = eqb-false (length (items_at b.L 0)) 1 f in ne_eqb (get_or w 0 0) 33 (λ k. y (omega arith)) ∙ sym (ap (λ (k : ℕ). eqb k 1) l ∙ f)
        ]

    lone-no : (c.size ≡ 1 → ⊥) → false ≡ eqb (length (pairs (tree_of p c.tree))) 1
    lone-no h =
        let m = many (let y = size_is p c formed b in omega arith) in
        sym (ne_eqb (length (pairs (tree_of p c.tree))) 1 (λ k. let y = pairs_are p c formed b in omega arith))

    -- the only pair
    module _ (lone : length (pairs (tree_of p c.tree)) ≡ 1) where
      none_above : length b.Rs ≡ 0
      none_above = elim (test (eqb (length b.Rs) 0)) [
        | is f ↦ eqb-true (length b.Rs) 0 f
        | isnt f ↦ let y = eqb-false (length b.Rs) 0 f in absurd (let m = many (omega arith) in let q = pairs_are p c formed b in omega arith)
      ]

      last-in : (1 ≤ get_or c.nodes 0 0) × (get_or c.nodes 0 0 ≤ p.count)
      last-in = subst (λ (l : ℕ). (1 ≤ get_or c.nodes l 0) × (get_or c.nodes l 0 ≤ p.count)) none_above n_in

      last-room : length p.free < p.count
      last-room =
          room p.count (num_at b.L b.j) [] p.free
          (λ x. omega (arith, within0 p c formed b x, HealMem.gone_count b.L b.j x b.jl, count-append x (nums b.L) (numbers b.Rs)))

      pub last_freeable : Freeable ws t (get_or c.nodes 0 0)
      last_freeable = spelt_freeable sp (get_or c.nodes 0 0) last-in.0 last-in.1 last-room

      pub last_freed : (vs : List ℕ) → vs ≡ freed_words ws t (get_or c.nodes 0 0) → Spelt vs t c (moved (m0 p c formed b) (free_node (s0 p c formed b) (get_or c.nodes 0 0)))
      last_freed vs e = rw e (spelt_freed sp (get_or c.nodes 0 0) last-in.0 last-in.1 last-room)

      one-leaf : length b.L ≡ 1
      one-leaf = single none_above

      one-item : length (items_at b.L 0) ≡ 1
      one-item = sym (one_size b.L one-leaf) ∙ sym (pairs_are p c formed b) ∙ lone

      j-zero : b.j ≡ 0
      j-zero = omega (arith, b.jl, one-leaf)

      e-zero : b.e ≡ 0
      e-zero =
          let h = subst (λ (k : ℕ). b.e < get_or (sizes b.L) k 0) j-zero (e_in p c formed b) in
          omega (arith, Rattle.forest.proofs.RowLaws.length-items b.L 0, one-item)

      dropped : (L : Row) → length L ≡ 1 → length (items_at L 0) ≡ 1 → drop_row 7 0 0 L ≡ []
      unfolding alone
      dropped [] h k = absurd (omega arith)
      dropped (m ∷ []) h k = simp (eq-eqb (size (without 0 m)) 0 (let y = length-remove_at 0 m.items (omega arith) in omega arith))
      dropped (m ∷ m2 ∷ L) h k = absurd (omega arith)

      gone-leaf : drop_leaf 7 b.x.0 b.L ≡ []
      unfolding drop_leaf
      gone-leaf = rw ((sought p c formed b).1 ∙ e-zero, (sought p c formed b).0 ∙ j-zero) (dropped b.L one-leaf one-item)

      tree_none : remove_tree 7 b.x.0 (b.L ∷ b.Rs) ≡ []
      unfolding remove_tree
      tree_none = simp (there_it_is p c formed b, gone-leaf)

      name : get_or (nums b.L) (leaf_of b.x.0 b.L) 0 ≡ get_or c.nodes 0 0
      name =
          ap (λ (k : ℕ). get_or (nums b.L) k 0) (sought p c formed b).0 ∙ sym n_is ∙ ap (λ (l : ℕ). get_or c.nodes l 0) none_above

      freed-one : freed 7 b.x.0 (b.L ∷ b.Rs) ≡ get_or c.nodes 0 0 ∷ []
      unfolding freed drop_above
      freed-one = from b.Rs none_above
        where
          from : (Rs : List Row) → length Rs ≡ 0 → freed 7 b.x.0 (b.L ∷ Rs) ≡ get_or c.nodes 0 0 ∷ []
          from [] h = simp (there_it_is p c formed b, gone-leaf, lt-ltb 0 (length b.L) (omega (arith, one-leaf)), name)
          from (S ∷ Ss) h = absurd (omega arith)

      alone-in : (x : ℕ) → count x (numbers (b.L ∷ b.Rs)) ≡ once (eqb x (get_or c.nodes 0 0))
      alone-in x = from b.L b.Rs one-leaf none_above (sym (ap (λ (k : ℕ). get_or (nums b.L) k 0) ((sought p c formed b).0 ∙ j-zero)) ∙ name)
        where
          from : (L : Row) (Rs : List Row) → length L ≡ 1 → length Rs ≡ 0 → num_at L 0 ≡ get_or c.nodes 0 0 → count x (numbers (L ∷ Rs)) ≡ once (eqb x (get_or c.nodes 0 0))
          from [] Rs h k q = absurd (omega arith)
          from (m ∷ []) [] h k q = omega (arith, ap (λ (y : ℕ). once (eqb x y)) q)
          from (m ∷ []) (S ∷ Ss) h k q = absurd (omega arith)
          from (m ∷ m2 ∷ L) Rs h k q = absurd (omega arith)

      words-none : (x : ℕ) → put (node_words p.trees) (get_or c.nodes 0 0) no_words x ≡ node_words (set p.trees c.tree []) x
      words-none = pool_words p.trees c.tree (b.L ∷ b.Rs) [] (node_words p.trees) (put (node_words p.trees) (get_or c.nodes 0 0) no_words) b.there (before0 p c formed b) (each0 p c formed b) tt
          (HealMem.put_keeps (node_words p.trees) (get_or c.nodes 0 0) no_words (numbers (b.L ∷ b.Rs))
          (omega (arith, alone-in (get_or c.nodes 0 0), ap once (eq-eqb (get_or c.nodes 0 0) (get_or c.nodes 0 0) refl))))
          (λ x h k. elim (test (eqb x (get_or c.nodes 0 0))) [
            | is f ↦ simp f
            | isnt f ↦ absurd (omega (arith, alone-in x, ap once f))
          ])
          (λ x. omega arith)

      pub last_words : (vs us : List ℕ) → vs ≡ freed_words ws t (get_or c.nodes 0 0) → us ≡ set vs (c.tree + 1) 0 → encode (move to_remove c p).pool ≡ us
      last_words vs us e f =
          encoded p c formed b [] (get_or c.nodes 0 0 ∷ []) tree_none freed-one (put (node_words p.trees) (get_or c.nodes 0 0) no_words) (get_or c.nodes 0 0 ∷ p.free) 0 words-none refl refl ∙
          sym (root-set p c formed b 0 (last_freed vs e) f)

      pub last_cursor : (r : Cursor) → r ≡ cursor_at c.tree [] → (move to_remove c p).cursor ≡ r
      last_cursor r e = cursor_is p c formed b [] (get_or c.nodes 0 0 ∷ []) tree_none freed-one ∙ simp (le-ltb (i p c formed b) 0 (omega arith)) (sym e)

-- is_last
module _ {ws : List ℕ} {t : ℕ} {c : Cursor} (a : AskRemove ws t c) where
  pub alone_placed : c.size ≡ 1 → Placed ws t (get_or c.nodes 0 0)
  alone_placed h =
      top_placed a.sound.pool c a.sound.formed (begun a.sound.pool c (a.stands a.sound.pool a.sound.formed a.sound.same)) a.sound.same (a.trees a.sound.pool a.sound.formed a.sound.same) h

  pub alone_no : (c.size ≡ 1 → ⊥) → Lone ws c false
  alone_no h = record { run = λ p f e. lone-no p c f (begun p c (a.stands p f e)) e (a.trees p f e) h }

  pub alone_is : (w : List ℕ) → c.size ≡ 1 → w ≡ block ws t (get_or c.nodes 0 0) → Lone ws c (eqb (get_or w 0 0) 33)
  alone_is w h q = record { run = λ p f e. lone_is p c f (begun p c (a.stands p f e)) e (a.trees p f e) w h q }

-- remove_last
module _ {ws : List ℕ} {t : ℕ} {c : Cursor} (a : AskLast ws t c) where
  abbrev p0 : Pool
  p0 = a.asks.sound.pool

  b0 : Begun p0 c
  b0 = begun p0 c (a.asks.stands p0 a.asks.sound.formed a.asks.sound.same)

  pub last_asks : Freeable ws t (get_or c.nodes 0 0)
  last_asks = last_freeable p0 c a.asks.sound.formed b0 a.asks.sound.same (a.asks.trees p0 a.asks.sound.formed a.asks.sound.same) (a.one p0 a.asks.sound.formed a.asks.sound.same)

  pub last_root : (vs : List ℕ) → vs ≡ freed_words ws t (get_or c.nodes 0 0) → c.tree + 1 < length vs
  last_root vs e =
      root_in p0 c a.asks.sound.formed b0
      (last_freed p0 c a.asks.sound.formed b0 a.asks.sound.same (a.asks.trees p0 a.asks.sound.formed a.asks.sound.same) (a.one p0 a.asks.sound.formed a.asks.sound.same) vs e)

  pub last_removes : (vs us : List ℕ) (r : Cursor) → vs ≡ freed_words ws t (get_or c.nodes 0 0) → us ≡ set vs (c.tree + 1) 0 → r ≡ cursor_at c.tree [] → Removes ws us c r
  last_removes vs us r e f g = record {
    words = λ p fo sa. last_words p c fo (begun p c (a.asks.stands p fo sa)) sa (a.asks.trees p fo sa) (a.one p fo sa) vs us e f;
    cursor = λ p fo sa. last_cursor p c fo (begun p c (a.asks.stands p fo sa)) sa (a.asks.trees p fo sa) (a.one p fo sa) r g;
  }

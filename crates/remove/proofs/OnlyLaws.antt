-- PROOFS. A pair goes, and its leaf alone changes: the tree of the definition is the same but for that leaf, and nothing is freed
use mathlib.Core.Path.{◌≡◌, refl, sym, ap, ◌∙◌, subst}
use mathlib.Core.List.{List, [], ◌∷◌, ◌++◌, map}
use mathlib.Core.Bool.{Bool, false, cond}
use Prim.Native.Nat.{ℕ, suc, ◌+◌, ◌≤◌, ◌<◌}
use native.Mathlib.Omega.{arith}
use lib.ListN.{length, get_or, set, get_or-map}
use lib.Seq.{set-get_or}
use borrow.Author.Tests.{le-ltb}
use Rattle.forest.specs.Lists.{remove_at, count, parent, offset}
use Rattle.forest.specs.Pairs.{Item}
use Rattle.forest.specs.Rows.{Row, nums, sizes, items_at, Tower, drop_row, refresh}
use Rattle.forest.specs.Trees.{numbers, drop_up, freed_up, lost, trim, trimmed, remove_tree, freed}
use Rattle.forest.specs.Pools.{Pool, WellFormed, encode, root, root_above, node_words, leaf_words}
use Rattle.forest.specs.Cursors.{move, to_remove}
use Rattle.forest.specs.declared.Cursor.{Cursor}
use Rattle.forest.proofs.ListLaws.{length-remove_at}
use Rattle.forest.proofs.RowLaws.{length-items, fill_at}
use Rattle.forest.proofs.CountLaws.{leaf_length}
use Rattle.forest.proofs.TowerLaws.{tower_line}
use Rattle.forest.proofs.FrameLaws.{root-refresh}
use Rattle.forest.proofs.NodeForms.{refresh_same}
use Rattle.pool.proofs.Held.{parts, line_same}
use Rattle.pool.specs.Stores.{Store, block, put, spell}
use Rattle.crit.specs.Paths.{num_at, upd, Stacked, HoldsUp}
use Rattle.crit.specs.Asks.{Spelt}
use Rattle.crit.proofs.HealRows.{upd-length, upd-nums, upd_same}
use Rattle.crit.proofs.HealMem
use Rattle.crit.proofs.SpeltLaws.{spelt_block, spelt_store}
use Rattle.heal.proofs.HealMend.{drop_mend, mend_stays, mend_last}
use Rattle.heal.proofs.HealStep.{front_cut}
use Rattle.node.proofs.Words.{leaf_pairs_lem}
use Rattle.remove.specs.Keys.{less_words}
use Rattle.remove.proofs.HealDone.{tower_stacked}
use Rattle.remove.proofs.HealPool.{pool_words}
use Rattle.remove.proofs.HealRemove.{tree_is, freed_is}
use Rattle.remove.proofs.ShrinkLaws.{summit}
use Rattle.remove.proofs.StartLaws.{Begun, good, e_in, i, spot, s0, m0, spelt0, holds0, before0, each0}
use Rattle.remove.proofs.RemoveLaws.{there_it_is, sought, encoded, root_word, root_in}
use Rattle.remove.proofs.LastLaws.{single, n_is, n_in, n_words}

-- no root of a tree has one child
tower_trim : (R : Row) (Rs : List Row) → Tower R Rs → (trim R Rs ≡ Rs) × (trimmed R Rs ≡ [])
tower_trim R [] w = (refl, refl)
tower_trim R (S ∷ Ss) w = let z = tower_trim S Ss w.3 in simp (le-ltb (length R) 2 w.0) (ap (S ∷◌) z.0, z.1)

module _ (p : Pool) (c : Cursor) (formed : WellFormed 3 p) (b : Begun p c) where
  -- the leaf row without the pair
  abbrev M : Row
  M = upd b.j (remove_at b.e) b.L

  abbrev n : ℕ
  n = num_at b.L b.j

  pub e_less : b.e < length (items_at b.L b.j)
  e_less = omega (arith, e_in p c formed b, length-items b.L b.j)

  pub few : length (items_at b.L b.j) ≤ 7
  few = omega (arith, length-items b.L b.j, fill_at 3 7 (sizes b.L) b.j (good p c formed b).1)

  left : suc (length (items_at M b.j)) ≡ length (items_at b.L b.j)
  left = ap (λ (xs : List Item). suc (length xs)) (upd_same b.j (remove_at b.e) b.L b.jl) ∙ length-remove_at b.e (items_at b.L b.j) e_less

  in_leaves : 1 ≤ count n (nums b.L)
  in_leaves = HealMem.num_at-counts b.L b.j b.jl

  -- words of the pool
  module _ {ws : List ℕ} {t : ℕ} (same : encode p ≡ ws) (tr : t ≡ length p.trees) where
    sp : Spelt ws t c (m0 p c formed b)
    sp = spelt0 p c formed b same tr

    lo-hi : (1 ≤ n) × (n ≤ p.count)
    lo-hi = rw (n_is p c formed b) at (n_in p c formed b)

    pub leaf_block : block ws t n ≡ leaf_words (items_at b.L b.j)
    leaf_block = spelt_block sp n lo-hi.0 lo-hi.1 ∙ rw (n_is p c formed b) at (n_words p c formed b)

    pub top_word : get_or ws (c.tree + 1) 0 ≡ root_above b.L b.Rs
    top_word = root_word p c formed b {s = s0 p c formed b} sp

    pub top_in : c.tree + 1 < length ws
    top_in = root_in p c formed b {s = s0 p c formed b} sp

  -- four are left, and the pair was not the first
  module _ (more : 5 ≤ length (items_at b.L b.j)) (later : 1 ≤ b.e) where
    pub healthy_stays : drop_row 7 b.j b.e b.L ≡ M
    healthy_stays = drop_mend 7 b.j b.e b.L ∙ mend_stays 7 b.j M (omega (arith, left)) (omega (arith, b.jl, upd-length b.j (remove_at b.e) b.L)) (omega arith)

    pub healthy_tower : Tower M b.Rs
    healthy_tower =
        tower_line b.L M b.Rs
        (line_same b.j (remove_at b.e) b.L (front_cut b.e (items_at b.L b.j) (λ z. omega arith))) (good p c formed b).2

  -- the leaf is the root, and has another pair
  module _ (top : root_above b.L b.Rs ≡ n) (more : 2 ≤ length (items_at b.L b.j)) where
    no_rows : length b.Rs ≡ 0
    no_rows = from b.Rs refl
      where
        from : (Rs : List Row) → b.Rs ≡ Rs → length Rs ≡ 0
        from [] q = refl
        from (S ∷ Ss) q =
            let st : Stacked b.L (S ∷ Ss) = subst (Stacked b.L) q (tower_stacked b.L b.Rs (good p c formed b).2) in
            let up : HoldsUp (node_words p.trees) (S ∷ Ss) = subst (HoldsUp (node_words p.trees)) q (holds0 p c formed b).1 in
            let s = (summit (node_words p.trees) b.L S Ss (omega (arith, b.jl)) st up).inside in
            let z : root_above b.L (S ∷ Ss) ≡ n = ap (root_above b.L) (sym q) ∙ top in
            let y : 1 ≤ count n (numbers (S ∷ Ss)) = subst (λ (x : ℕ). 1 ≤ count x (numbers (S ∷ Ss))) z s in
            let x : count n (numbers b.Rs) ≡ count n (numbers (S ∷ Ss)) = ap (λ (Rs : List Row). count n (numbers Rs)) q in
            absurd (omega (arith, in_leaves, each0 p c formed b n, parts n b.L b.Rs))

    alone : length M ≡ 1
    alone = upd-length b.j (remove_at b.e) b.L ∙ single p c formed b no_rows

    pub root_stays : drop_row 7 b.j b.e b.L ≡ M
    root_stays = drop_mend 7 b.j b.e b.L ∙ mend_last 7 b.j M (omega (arith, left)) (omega (arith, b.jl, alone, upd-length b.j (remove_at b.e) b.L))

    pub root_tower : Tower M b.Rs
    root_tower = from b.Rs no_rows
      where
        from : (Rs : List Row) → length Rs ≡ 0 → Tower M Rs
        from [] h = alone
        from (S ∷ Ss) h = absurd (omega arith)

  -- the definition, where the leaf stays and the rows above are still stacked
  module _ (stays : drop_row 7 b.j b.e b.L ≡ M) (tower : Tower M b.Rs) where
    dropped : drop_row 7 (parent (sizes b.L) (i p c formed b)) (offset (sizes b.L) (i p c formed b)) b.L ≡ M
    dropped = rw ((spot p c formed b).0, (spot p c formed b).1) stays

    none-lost : lost M b.L ≡ false
    none-lost = le-ltb (length M) (length b.L) (omega (arith, upd-length b.j (remove_at b.e) b.L))

    some_left : 1 ≤ length M
    some_left = omega (arith, upd-length b.j (remove_at b.e) b.L, b.jl)

    tree-less : remove_tree 7 b.x.0 (b.L ∷ b.Rs) ≡ M ∷ b.Rs
    tree-less =
        tree_is 7 b.x.0 b.L b.Rs (i p c formed b) (there_it_is p c formed b) ((spot p c formed b).0 ∙ sym (sought p c formed b).0) ((spot p c formed b).1 ∙ sym (sought p c formed b).1) (rw dropped some_left) ∙
        ap (λ (D : Row). D ∷ refresh D (trim D (cond (lost D b.L) (drop_up (parent (sizes b.L) (i p c formed b)) b.Rs) b.Rs))) dropped ∙
        ap (λ (z : Bool). M ∷ refresh M (trim M (cond z (drop_up (parent (sizes b.L) (i p c formed b)) b.Rs) b.Rs))) none-lost ∙
        ap (λ (Rs : List Row). M ∷ refresh M Rs) (tower_trim M b.Rs tower).0 ∙ ap (M ∷◌) (refresh_same M b.Rs tower)

    freed-none : freed 7 b.x.0 (b.L ∷ b.Rs) ≡ []
    freed-none =
        freed_is 7 b.x.0 b.L b.Rs (i p c formed b) (there_it_is p c formed b) ((spot p c formed b).0 ∙ sym (sought p c formed b).0) ((spot p c formed b).1 ∙ sym (sought p c formed b).1) ∙
        ap (λ (D : Row). cond (lost D b.L) (num_at b.L (parent (sizes b.L) (i p c formed b)) ∷ freed_up (parent (sizes b.L) (i p c formed b)) b.Rs) [] ++
        trimmed D (cond (lost D b.L) (drop_up (parent (sizes b.L) (i p c formed b)) b.Rs) b.Rs)) dropped ∙
        ap (λ (z : Bool). cond z (num_at b.L (parent (sizes b.L) (i p c formed b)) ∷ freed_up (parent (sizes b.L) (i p c formed b)) b.Rs) [] ++
        trimmed M (cond z (drop_up (parent (sizes b.L) (i p c formed b)) b.Rs) b.Rs)) none-lost ∙
        (tower_trim M b.Rs tower).1

    -- the store with the words of the leaf anew
    abbrev w : List ℕ
    w = leaf_words (remove_at b.e (items_at b.L b.j))

    abbrev st' : Store
    st' = put (node_words p.trees) n w

    same_numbers : numbers (M ∷ b.Rs) ≡ numbers (b.L ∷ b.Rs)
    same_numbers = ap (◌++ numbers b.Rs) (upd-nums b.j (remove_at b.e) b.L)

    words-less : (x : ℕ) → st' x ≡ node_words (set p.trees c.tree (M ∷ b.Rs)) x
    words-less =
        pool_words p.trees c.tree (b.L ∷ b.Rs) (M ∷ b.Rs) (node_words p.trees) st' b.there (before0 p c formed b) (each0 p c formed b) (
          HealMem.holds_upd leaf_words (node_words p.trees) b.L b.j (remove_at b.e) w b.jl (λ x. omega (arith, each0 p c formed b x, parts x b.L b.Rs)) refl (holds0 p c formed b).0,
          HealMem.up_keeps (node_words p.trees) st' b.Rs
              (λ x h. HealMem.put_other (node_words p.trees) n w x (λ q. let z = rw q at h in omega (arith, in_leaves, each0 p c formed b n, parts n b.L b.Rs))) (holds0 p c formed b).1,
        )
        (HealMem.put_keeps (node_words p.trees) n w (numbers (b.L ∷ b.Rs)) (omega (arith, in_leaves, parts n b.L b.Rs)))
        (λ x h k. absurd (omega (arith, ap (count x) same_numbers)))
        (λ x. omega (arith, ap (count x) same_numbers))

    same-root : set (map root p.trees) c.tree (root_above b.L b.Rs) ≡ map root p.trees
    same-root =
        ap (set (map root p.trees) c.tree) (sym (get_or-map root p.trees c.tree [] ∙ ap root b.is)) ∙
        set-get_or (map root p.trees) c.tree 0

    -- THE WORDS: those of the leaf alone are others
    pub less : {ws : List ℕ} {t : ℕ} (same : encode p ≡ ws) (tr : t ≡ length p.trees) (m : ℕ) → m ≡ n → encode (move to_remove c p).pool ≡ less_words ws t m b.e
    unfolding less_words
    less {ws} {t} same tr m q =
        encoded p c formed b (M ∷ b.Rs) [] tree-less freed-none st' p.free (root_above b.L b.Rs) words-less refl (sym (ap (root_above M) (sym (refresh_same M b.Rs tower)) ∙ root-refresh b.L M b.Rs (upd-nums b.j (remove_at b.e) b.L))) ∙
        ap (λ (rs : List ℕ). spell rs p.count st' p.free) same-root ∙
        sym (spelt_store (sp same tr) n (lo-hi same tr).0 (lo-hi same tr).1 w (leaf_length (remove_at b.e (items_at b.L b.j)))).words ∙
        rw (q, leaf_block same tr, leaf_pairs_lem (items_at b.L b.j) few)

-- PROOFS. What remove_key asks on its way, and what it leaves
use mathlib.Core.Path.{◌≡◌, sym, ap, ◌∙◌, subst}
use mathlib.Core.List.{List}
use mathlib.Core.Bool.{true, false, true≢false}
use Prim.Native.Nat.{ℕ, ◌+◌, ◌-◌, ◌≤◌, ◌<◌}
use native.Mathlib.Omega.{arith}
use lib.ListN.{length, get_or}
use lib.Dec.{eqb}
use borrow.Author.Tests.{eqb-true, eqb-false, leb-true}
use Rattle.forest.specs.Rows.{items_at}
use Rattle.forest.specs.Pools.{Pool, WellFormed, encode, leaf_words}
use Rattle.forest.specs.Cursors.{cursor_at, seek, move, to_remove}
use Rattle.forest.specs.declared.Cursor.{Cursor}
use Rattle.forest.proofs.Slices.{first_block}
use Rattle.forest.proofs.ListLaws.{is, isnt, test}
use Rattle.node.specs.Nodes.{Leaf}
use Rattle.node.proofs.Words.{leaf_is}
use Rattle.pool.specs.Stores.{num_at, base, block}
use Rattle.path.specs.Cores.{Ready, Goes}
use Rattle.path.proofs.Roots.{the_pool}
use Rattle.path.proofs.Foots.{ends_in}
use Rattle.remove.specs.Ends.{AskRemove, Removes}
use Rattle.remove.specs.Keys.{LeafPair, less_words, only_leaf, AskKey, RemovesKey}
use Rattle.remove.proofs.StartLaws.{Begun, begun, size_is, place0}
use Rattle.remove.proofs.LastLaws.{n_is}
use Rattle.remove.proofs.OnlyLaws

-- what a yes of only_leaf says
module _ (ws : List ℕ) (t tree n e : ℕ) (u : only_leaf ws t tree n e ≡ true) where
  if_root : eqb (get_or ws (tree + 1) 0) n ≡ true → 34 ≤ get_or ws (base t n) 0
  unfolding only_leaf
  if_root q = leb-true _ _ (simp q at u)

  if_other : eqb (get_or ws (tree + 1) 0) n ≡ false → (1 ≤ e) × (37 ≤ get_or ws (base t n) 0)
  unfolding only_leaf
  if_other q =
      let z = simp q at u in
      elim (test (eqb e 0)) [
        | is y ↦ absurd (true≢false (sym (simp y at z)))
        | isnt y ↦ (let x = eqb-false e 0 y in omega arith, leb-true _ _ (simp y at z))
      ]

-- there is one cursor that a seek makes
pub same_cursor : (ws : List ℕ) (t tree k : ℕ) → Ready ws t tree → (c d : Cursor) → Goes (seek k) ws tree c → Goes (seek k) ws tree d → c ≡ d
same_cursor ws t tree k y c d g h = g.to y.sound.pool (the_pool ws t tree y) ∙ sym (h.to y.sound.pool (the_pool ws t tree y))

module _ {ws : List ℕ} {t tree k n e : ℕ} (a : AskKey ws t tree k n e) where
  -- the cursor of the path, which the code does not make
  abbrev c : Cursor
  c = cursor_at tree a.ends.path

  asks : AskRemove ws t c
  asks = a.asks c a.ends.goes

  -- where find makes it
  pub found_removes : (vs : List ℕ) (d r : Cursor) → Goes (seek k) ws tree d → Removes ws vs d r → RemovesKey ws vs tree k
  found_removes vs d r g q = record {
    words = λ x h p f s. ap (λ (y : Cursor). encode (move to_remove y p).pool) (same_cursor ws t tree k a.ready x d h g) ∙ q.words p f s;
  }

  module _ (p : Pool) (f : WellFormed 3 p) (s : encode p ≡ ws) where
    abbrev b : Begun p c
    b = begun p c (asks.stands p f s)

    tr : t ≡ length p.trees
    tr = asks.trees p f s

    last-level : length a.ends.path - 1 ≡ length b.Rs
    last-level = omega (arith, size_is p c f b)

    node-is : n ≡ num_at b.L b.j
    node-is = sym a.ends.node ∙ ap (λ (l : ℕ). get_or c.nodes l 0) last-level ∙ n_is p c f b

    place_is : e ≡ b.e
    place_is = sym a.ends.place ∙ ap (λ (l : ℕ). get_or c.places l 0) last-level ∙ place0 p c f b

    block-is : block ws t n ≡ leaf_words (items_at b.L b.j)
    block-is = ap (block ws t) node-is ∙ OnlyLaws.leaf_block p c f b s tr

    word-is : get_or ws (base t n) 0 ≡ 32 + length (items_at b.L b.j)
    word-is = sym (first_block ws (base t n)) ∙ ap (λ (w : List ℕ). get_or w 0 0) block-is

    e_less : e < length (items_at b.L b.j)
    e_less = omega (arith, place_is, OnlyLaws.e_less p c f b)

    pair : LeafPair ws t n e
    pair = record {
      within = ends_in ws t tree a.ready k n e a.ends;
      leaf = subst Leaf (sym block-is) (leaf_is (items_at b.L b.j) (omega (arith, e_less)) (OnlyLaws.few p c f b));
      pair = omega (arith, e_less, word-is);
    }

    only-words : only_leaf ws t tree n e ≡ true → encode (move to_remove c p).pool ≡ less_words ws t n e
    only-words u = elim (test (eqb (get_or ws (tree + 1) 0) n)) [
      | is q ↦
          let top = sym (OnlyLaws.top_word p c f b s tr) ∙ eqb-true _ _ q ∙ node-is in
          let more : 2 ≤ length (items_at b.L b.j) = omega (arith, if_root ws t tree n e u q, word-is) in
          OnlyLaws.less p c f b (OnlyLaws.root_stays p c f b top more) (OnlyLaws.root_tower p c f b top more) s tr n node-is ∙ ap (less_words ws t n) (sym place_is)
      | isnt q ↦
          let z = if_other ws t tree n e u q in
          let more : 5 ≤ length (items_at b.L b.j) = omega (arith, z.1, word-is) in
          let later : 1 ≤ b.e = omega (arith, z.0, place_is) in
          OnlyLaws.less p c f b (OnlyLaws.healthy_stays p c f b more later) (OnlyLaws.healthy_tower p c f b more later) s tr n node-is ∙ ap (less_words ws t n) (sym place_is)
    ]

  abbrev p0 : Pool
  p0 = asks.sound.pool

  pub leaf_pair : LeafPair ws t n e
  leaf_pair = pair p0 asks.sound.formed asks.sound.same

  pub root_there : tree + 1 < length ws
  root_there = OnlyLaws.top_in p0 c asks.sound.formed (b p0 asks.sound.formed asks.sound.same) asks.sound.same (tr p0 asks.sound.formed asks.sound.same)

  -- where the leaf alone changes
  pub only_removes : (vs : List ℕ) → only_leaf ws t tree n e ≡ true → vs ≡ less_words ws t n e → RemovesKey ws vs tree k
  only_removes vs u q = record {
    words = λ x h p f s. ap (λ (y : Cursor). encode (move to_remove y p).pool) (same_cursor ws t tree k a.ready x c h a.ends.goes) ∙ only-words p f s u ∙ sym q;
  }

-- PROOFS. A put on sound words: in an empty tree, where the key is there, and where it is absent
use mathlib.Core.Path.{◌≡◌, refl, sym, ap, ◌∙◌}
use mathlib.Core.List.{List, [], ◌∷◌, map}
use mathlib.Core.Logic.{◌⊎◌, ⊎_elim}
use Prim.Native.Nat.{ℕ, ◌+◌, ◌≤◌, ◌<◌}
use native.Mathlib.Omega.{arith}
use lib.ListN.{length, drop, get_or, set, length-map}
use Rattle.std.specs.Prelude.{Err}
use Rattle.forest.specs.Answers.{Reply, nothing, value, pair}
use Rattle.forest.specs.Sizes.{leaf_least}
use Rattle.forest.specs.Rows.{Tree}
use Rattle.forest.specs.Trees.{need}
use Rattle.forest.specs.Pools
use Rattle.forest.specs.declared.Refusal.{Refusal}
use Rattle.forest.specs.declared.Refusal.TheVariants.{NoRoom}
use Rattle.forest.proofs.CountLaws.{nodes_all, node-length}
use Rattle.pool.specs.Stores.{spell, stack_at, free_count, Sixteen}
use Rattle.pool.proofs.Spell.{encode-spell}
use Rattle.pool.proofs.Bridges.{spell-length, spell-stack_at, spell-frees}
use Rattle.path.specs.Cores.{Ready, Of}
use Rattle.path.proofs.Roots.{root-place, trees_are, root_is, some_root, the_pool}
use Rattle.grow.specs.Grows
use Rattle.grow.specs.Puts.{Puts, Empty}
use Rattle.grow.proofs.Mem
use Rattle.grow.proofs.Pooled
use Rattle.grow.proofs.Spelling
use Rattle.grow.proofs.Calls

-- The variant of a reply
pub no_nothing : (r : Reply) (v : ℕ) → r ≡ value v → r ≡ nothing → ⊥
no_nothing r v h e = let z : value v ≡ nothing = sym h ∙ e in cc

pub no_value : (r : Reply) → (r ≡ nothing) ⊎ (((k w : ℕ) × (r ≡ pair k w)) ⊎ ((x : Refusal) × (r ≡ Err x))) → (v : ℕ) → r ≡ value v → ⊥
no_value r h v e =
    ⊎_elim (λ q. let z : nothing ≡ value v = sym q ∙ e in cc)
    (λ l. ⊎_elim (λ q. let z : pair q.0 q.1 ≡ value v = sym q.2 ∙ e in cc) (λ q. let z : Err q.0 ≡ value v = sym q.1 ∙ e in cc) l) h

module _ (ws : List ℕ) (t tree : ℕ) (y : Ready ws t tree) where
  pub root_asks : tree + 1 < length ws
  root_asks = omega (arith, root-place ws t tree y)

  module _ (p : Pools.Pool) (o : Of ws p) where
    pub there : tree < length p.trees
    there = omega (arith, trees_are ws t tree y p o, y.there)

    spelled : spell (map Pools.root p.trees) p.count (Pools.node_words p.trees) p.free ≡ ws
    spelled = sym (encode-spell p) ∙ o.same

    roots-are : length (map Pools.root p.trees) ≡ t
    roots-are = length-map p.trees Pools.root ∙ sym (trees_are ws t tree y p o)

    sixteen : Sixteen (Pools.node_words p.trees)
    sixteen n = node-length p.trees n

    pub stack_asks : stack_at ws t < length ws
    stack_asks =
        rw (← spelled, ← roots-are)
        (omega (
          arith,
          spell-stack_at (map Pools.root p.trees) p.count (Pools.node_words p.trees) p.free sixteen,
          spell-length (map Pools.root p.trees) p.count (Pools.node_words p.trees) p.free sixteen,
        ))

    pub free_is : (f : ℕ) → f ≡ free_count ws t → f ≡ length p.free
    free_is f q = q ∙ rw (← spelled, ← roots-are) (spell-frees (map Pools.root p.trees) p.count (Pools.node_words p.trees) p.free sixteen)

    pub root_word : get_or ws (tree + 1) 0 ≡ Pools.root (Pools.tree_of p tree)
    root_word = let z : tree + 1 ≡ 1 + tree = omega arith in rw z (root_is ws t tree y p o)

    pub none_there : get_or ws (tree + 1) 0 ≡ 0 → Pools.tree_of p tree ≡ []
    none_there h = go (Pools.tree_of p tree) refl
      where
        go : (x : Tree) → Pools.tree_of p tree ≡ x → x ≡ []
        go [] e = refl
        go (L ∷ Rs) e = absurd (omega (arith, some_root ws t tree y p o L Rs e, root_word, ap Pools.root e))

    -- the free numbers
    top : 1 ≤ length p.free → (1 ≤ get_or p.free 0 0) × (get_or p.free 0 0 ≤ p.count)
    top h = Pooled.tree_range leaf_least (omega arith) (omega arith) p o.formed tree (get_or p.free 0 0) (omega (arith, Mem.head_counts p.free h))

    few : length p.free ≤ p.count
    few = omega (arith, nodes_all leaf_least p o.formed)

    pub takes : 1 ≤ length p.free → Grows.Takes ws t
    takes h =
        let r = top h in
        rw (← spelled, ← roots-are)
        (Spelling.takes-spell (map Pools.root p.trees) p.count (Pools.node_words p.trees) sixteen p.free h few r.0 r.1)

    pub planted : (w : List ℕ) → 1 ≤ length p.free → length w ≡ 16 →
        Grows.planted_words ws t tree w ≡ spell (set (map Pools.root p.trees) tree (get_or p.free 0 0)) p.count
        (Rattle.pool.specs.Stores.put (Pools.node_words p.trees) (get_or p.free 0 0) w) (drop 1 p.free)
    planted w h l =
        let r = top h in
        rw (← spelled, ← roots-are)
        (Spelling.planted_spell (map Pools.root p.trees) p.count (Pools.node_words p.trees) sixteen p.free h few r.0 r.1 tree w (omega (arith, roots-are, y.there)) l)

-- An empty tree
module _ (ws : List ℕ) (t tree k v : ℕ) (g : Empty ws t tree) (f : ℕ) (q : f ≡ free_count ws t) where
  abbrev mine : Of ws g.ready.sound.pool
  mine = the_pool ws t tree g.ready

  module _ (p : Pools.Pool) (o : Of ws p) where
    empty : Pools.tree_of p tree ≡ []
    empty = none_there ws t tree g.ready p o g.root

    in-pool : tree < length p.trees
    in-pool = there ws t tree g.ready p o

    counted : f ≡ length p.free
    counted = free_is ws t tree g.ready p o f q

    need-one : need 7 k (Pools.tree_of p tree) ≡ 1
    need-one = Calls.empty_need p o.formed tree k v in-pool empty

  pub first-refused : f ≡ 0 → Puts tree k v ws ws (Err NoRoom)
  first-refused z = record {
    words = λ p w e.
        let o : Of ws p = record { formed = w; same = e } in
        ap (λ (d : Pools.Done). Pools.encode d.pool) (Calls.refused-call p tree k v (in-pool p o) (omega (arith, need-one p o, counted p o))) ∙ e;
    answer = λ p w e.
        let o : Of ws p = record { formed = w; same = e } in
        ap (λ (d : Pools.Done). d.answer) (Calls.refused-call p tree k v (in-pool p o) (omega (arith, need-one p o, counted p o)));
  }

  pub plant_asks : 1 ≤ f → Grows.Takes ws t × (tree + 1 < length ws)
  plant_asks h = (takes ws t tree g.ready g.ready.sound.pool mine (omega (arith, counted g.ready.sound.pool mine)), root_asks ws t tree g.ready)

  pub first_done : (w m : List ℕ) → 1 ≤ f → w ≡ Pools.leaf_words ((k, v) ∷ []) → m ≡ Grows.planted_words ws t tree w → Puts tree k v ws m nothing
  first_done w m h a b = record {
    words = λ p u e.
        let o : Of ws p = record { formed = u; same = e } in
        let c = counted p o in
        ap (λ (d : Pools.Done). Pools.encode d.pool) (Calls.done-call p tree k v (in-pool p o) (omega (arith, need-one p o))) ∙
        sym (b ∙ rw a (planted ws t tree g.ready p o (Pools.leaf_words ((k, v) ∷ [])) (omega arith) (Spelling.leaf_length ((k, v) ∷ [])) ∙
        Calls.empty_words p u tree k v (in-pool p o) (empty p o) (omega arith)));
    answer = λ p u e.
        let o : Of ws p = record { formed = u; same = e } in
        ap (λ (d : Pools.Done). d.answer) (Calls.done-call p tree k v (in-pool p o) (omega (arith, need-one p o, counted p o))) ∙
        Calls.empty_held p u tree k v (in-pool p o) (empty p o);
  }

-- what the code asks at first
pub stack_there : (ws : List ℕ) (t tree : ℕ) → Ready ws t tree → stack_at ws t < length ws
stack_there ws t tree y = stack_asks ws t tree y y.sound.pool (the_pool ws t tree y)

-- PROOFS. Words that spell a state: reading, storing and freeing a node are steps of the state
use mathlib.Core.Path.{◌≡◌, refl, sym, ap, ◌∙◌}
use mathlib.Core.List.{List}
use Prim.Native.Nat.{ℕ, ◌+◌, ◌≤◌, ◌<◌}
use lib.ListN.{length, get_or}
use Rattle.forest.specs.declared.Cursor.{Cursor}
use Rattle.pool.specs.Stores.{put, Sixteen, spell, block, with_block, Placed}
use Rattle.pool.proofs.Bridges.{spell_nodes, spell-block, spell-with_block, spell_placed}
use Rattle.crit.specs.States.{State, stored}
use Rattle.crit.specs.Asks.{Mem, moved, Spelt}
pub use Rattle.pool.proofs.Held.{put_sixteen}

module _ {ws : List ℕ} {t : ℕ} {c : Cursor} {m : Mem} (sp : Spelt ws t c m) where
  pub spelt_count : get_or ws (t + 1) 0 ≡ m.count
  spelt_count = rw (sp.words, sp.trees) (spell_nodes m.roots m.count m.s.st m.s.free sp.sixteen)

  -- the same state with other parts that the words and the cursor don't show
  pub spelt_as : {vs : List ℕ} (s : State) → vs ≡ spell m.roots m.count s.st s.free → Sixteen s.st → s.ns ≡ m.s.ns → s.ps ≡ m.s.ps → s.live ≡ m.s.live → Spelt vs t c (moved m s)
  spelt_as s e x a b l = record {
    words = e;
    trees = sp.trees;
    few = sp.few;
    sixteen = x;
    nodes = λ l h. rw a (sp.nodes l h);
    places = λ l h. rw b (sp.places l h);
    long = sp.long;
    wide = sp.wide;
    tree = sp.tree;
    size = rw l sp.size;
  }

  module _ (n : ℕ) (lo : 1 ≤ n) (hi : n ≤ m.count) where
    pub spelt_block : block ws t n ≡ m.s.st n
    spelt_block = rw (sp.words, sp.trees) (spell-block m.roots m.count m.s.st m.s.free sp.sixteen n lo hi)

    pub spelt_placed : Placed ws t n
    spelt_placed = rw (sp.words, sp.trees) (spell_placed m.roots m.count m.s.st m.s.free sp.sixteen n lo hi)

    pub spelt_store : (w : List ℕ) → length w ≡ 16 → Spelt (with_block ws t n w) t c (moved m (stored m.s (put m.s.st n w)))
    spelt_store w h =
        spelt_as (stored m.s (put m.s.st n w))
        (ap (λ (v : List ℕ). with_block v t n w) sp.words ∙ ap (λ (x : ℕ). with_block (spell m.roots m.count m.s.st m.s.free) x n w) sp.trees ∙
        spell-with_block m.roots m.count m.s.st m.s.free sp.sixteen n lo hi w h)
        (put_sixteen m.s.st n w sp.sixteen h) refl refl refl

  -- the node at a level of the path
  pub spelt_level : (l : ℕ) → l < 16 → 1 ≤ get_or c.nodes l 0 → get_or c.nodes l 0 ≤ m.count → block ws t (get_or c.nodes l 0) ≡ m.s.st (m.s.ns l)
  spelt_level l d lo hi = spelt_block (get_or c.nodes l 0) lo hi ∙ ap m.s.st (sp.nodes l d)

pub same_count : {ws : List ℕ} {t : ℕ} {c d : Cursor} {m m' : Mem} → Spelt ws t c m → Spelt ws t d m' → m.count ≡ m'.count
same_count a b = sym (spelt_count a) ∙ spelt_count b

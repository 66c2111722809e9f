-- PROOFS. On the words over a store: a node taken and made a root, and a node cut in two
use mathlib.Core.Path.{◌≡◌}
use mathlib.Core.List.{List, [], ◌∷◌}
use Prim.Native.Nat.{ℕ, ◌+◌, ◌≤◌, ◌<◌}
use native.Mathlib.Omega.{arith}
use lib.ListN.{length, drop, get_or, set}
use Rattle.pool.specs.Stores.{Store, put, spell, Sixteen, with_block, top_node, taken_words}
use Rattle.pool.proofs.Bridges.{spell_placed, spell-set-root, spell-with_block}
use Rattle.pool.proofs.Stacks.{spell_stocked, spell_top, spell-taken}
use Rattle.grow.specs.Grows.{planted_words, cut_words, Takes}
pub use Rattle.pool.proofs.Held.{put_sixteen}
pub use Rattle.forest.proofs.CountLaws.{leaf_length, inner_length}

module _ (roots : List ℕ) (N : ℕ) (st : Store) (s : Sixteen st) where
  -- the top of the stack can be taken
  pub takes-spell : (free : List ℕ) → 1 ≤ length free → length free ≤ N → 1 ≤ get_or free 0 0 → get_or free 0 0 ≤ N → Takes (spell roots N st free) (length roots)
  takes-spell [] h l lo hi = absurd (omega arith)
  takes-spell (a ∷ free) h l lo hi = record {
    stock = spell_stocked roots N st free s (omega arith) a;
    new = rw (spell_top roots N st free s (omega arith) a) (spell_placed roots N st (a ∷ free) s a lo hi);
  }

  pub top_spell : (free : List ℕ) → 1 ≤ length free → length free ≤ N → top_node (spell roots N st free) (length roots) ≡ get_or free 0 0
  top_spell [] h l = absurd (omega arith)
  top_spell (a ∷ free) h l = spell_top roots N st free s (omega arith) a

  taken-spell : (free : List ℕ) → 1 ≤ length free → length free ≤ N → taken_words (spell roots N st free) (length roots) ≡ spell roots N st (drop 1 free)
  taken-spell [] h l = absurd (omega arith)
  taken-spell (a ∷ free) h l = spell-taken roots N st free s (omega arith) a

  module _ (free : List ℕ) (h : 1 ≤ length free) (l : length free ≤ N) (lo : 1 ≤ get_or free 0 0) (hi : get_or free 0 0 ≤ N) where
    pub planted_spell : (tree : ℕ) (w : List ℕ) → tree < length roots → length w ≡ 16 →
        planted_words (spell roots N st free) (length roots) tree w ≡ spell (set roots tree (get_or free 0 0)) N (put st (get_or free 0 0) w) (drop 1 free)
    unfolding planted_words
    planted_spell tree w b e =
        rw (taken-spell free h l, top_spell free h l, spell-with_block roots N st (drop 1 free) s (get_or free 0 0) lo hi w e)
        (spell-set-root roots N (put st (get_or free 0 0) w) (drop 1 free) (put_sixteen st (get_or free 0 0) w s e) tree (get_or free 0 0) b)

    pub cut_spell : (n : ℕ) (left right : List ℕ) → 1 ≤ n → n ≤ N → length left ≡ 16 → length right ≡ 16 →
        cut_words (spell roots N st free) (length roots) n left right ≡ spell roots N (put (put st n left) (get_or free 0 0) right) (drop 1 free)
    unfolding cut_words
    cut_spell n left right a b e f =
        rw (taken-spell free h l, top_spell free h l, spell-with_block roots N st (drop 1 free) s n a b left e)
        (spell-with_block roots N (put st n left) (drop 1 free) (put_sixteen st n left s e) (get_or free 0 0) lo hi right f)

-- what plant and cut do, from what each of their calls gives: r is the node taken, a the words then
module _ (ws : List ℕ) (t r : ℕ) (a : List ℕ) (e : r ≡ top_node ws t) (f : a ≡ taken_words ws t) where
  pub planted_is : (tree : ℕ) (w b d : List ℕ) → b ≡ with_block a t r w → d ≡ set b (tree + 1) r → d ≡ planted_words ws t tree w
  unfolding planted_words
  planted_is tree w b d g h = rw (h, g, f, e)

  pub cut_is : (n : ℕ) (left right b d : List ℕ) → b ≡ with_block a t n left → d ≡ with_block b t r right → (r ≡ top_node ws t) × (d ≡ cut_words ws t n left right)
  unfolding cut_words
  cut_is n left right b d g h = (e, rw (h, g, f, e))

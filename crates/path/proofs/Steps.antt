-- PROOFS. Each return of the functions that go down, over plain numbers
use mathlib.Core.Path.{◌≡◌, refl, sym, ap, ◌∙◌}
use mathlib.Core.List.{List}
use mathlib.Core.Logic.{◌⊎◌, inl, inr}
use Prim.Native.Nat.{ℕ, zero, suc, ◌+◌, ◌-◌, ◌≤◌, ◌<◌}
use native.Mathlib.Omega.{arith}
use lib.ListN.{length, take, drop, get_or, length-take, length-drop}
use lib.Seq.{take-take, length-take-le}
use lib.Dec.{leb}
use borrow.Author.Tests.{le-leb, lt-leb}
use Rattle.std.specs.Prelude.{Result, Ok, Err}
use Rattle.forest.specs.Slices.{KeysRise, searched}
use Rattle.forest.specs.declared.Cursor.{Cursor}
use Rattle.forest.proofs.ListLaws.{is, isnt, test}
use Rattle.path.specs.Ways.{base, block_at, block, keys_of, turn_of, land_of, descend, Lies, Deep}
use Rattle.path.specs.Levels.{pushed, extended}
use Rattle.path.specs.declared.Way.{Way}
use Rattle.path.specs.declared.Way.TheVariants.{Key, First, Last}
pub use Rattle.forest.proofs.Slices.{first_block as first_word}
use Rattle.forest.proofs.Slices.{at_block}
use Rattle.path.proofs.NodeWords.{block-keys}
use Rattle.path.proofs.Searching.{Stops, stops_here, stops_absent}
use Rattle.path.proofs.Laid.{deep_lies, deep_child}

-- a value or a child, a key
pub link_word_at : (ws : List ℕ) (b i : ℕ) → i < 8 → get_or (block_at ws b) (8 + i) 0 ≡ get_or ws (b + 8 + i) 0
link_word_at ws b i h = let z : b + (8 + i) ≡ b + 8 + i = omega arith in at_block ws b (8 + i) (omega arith) ∙ ap (λ (x : ℕ). get_or ws x 0) z

pub key_word_at : (ws : List ℕ) (b i : ℕ) → i < 7 → get_or (block_at ws b) (1 + i) 0 ≡ get_or ws (b + 1 + i) 0
key_word_at ws b i h = let z : b + (1 + i) ≡ b + 1 + i = omega arith in at_block ws b (1 + i) (omega arith) ∙ ap (λ (x : ℕ). get_or ws x 0) z

-- turn and land, as the code has them
module _ (ws : List ℕ) (b : ℕ) where
  -- the keys that the code lends to a search
  abbrev lent : ℕ → List ℕ
  lent tag = take (get_or ws b 0 - tag) (take (b + 8 - (b + 1)) (drop (b + 1) ws))

  module _ (tag : ℕ) (h : get_or ws b 0 ≤ tag + 7) where
    lent_is : lent tag ≡ keys_of tag (block_at ws b)
    lent_is =
        take-take (get_or ws b 0 - tag) (b + 8 - (b + 1)) (drop (b + 1) ws) (omega arith) ∙ rw first_word (sym (block-keys ws b (get_or ws b 0 - tag) (omega arith)))

    -- they rise, and a search in them finds what one in the keys of the node does
    module _ (r : KeysRise (keys_of tag (block_at ws b))) where
      pub lent_asks : b + 16 ≤ length ws → ((length (take (b + 8 - (b + 1)) (drop (b + 1) ws)) ≡ 7) × (get_or ws b 0 - tag ≤ 7)) × KeysRise (lent tag)
      lent_asks l = ((length-take-le (b + 8 - (b + 1)) (drop (b + 1) ws) (simp length-drop (omega arith)) ∙ omega arith, omega arith), rw lent_is r)

      found_here : (k i : ℕ) (x : Result ℕ ℕ) → x ≡ searched k (lent tag) → x ≡ Ok i → Stops k (keys_of tag (block_at ws b)) i (i + 1)
      found_here k i x e q = stops_here k (keys_of tag (block_at ws b)) i r (sym q ∙ e ∙ ap (searched k) lent_is)

      found-absent : (k i : ℕ) (x : Result ℕ ℕ) → x ≡ searched k (lent tag) → x ≡ Err i → Stops k (keys_of tag (block_at ws b)) i i
      found-absent k i x e q = stops_absent k (keys_of tag (block_at ws b)) i r (sym q ∙ e ∙ ap (searched k) lent_is)

  few_keys : (tag : ℕ) → length (keys_of tag (block_at ws b)) ≤ get_or ws b 0 - tag
  few_keys tag = simp (length-take, first_word) (omega arith)

  -- what turn and land give
  abbrev Turns : Way → ℕ → Type 0
  Turns way i = (i ≡ turn_of way (block_at ws b)) × (i ≤ get_or ws b 0 - 16)

  abbrev Lands : Way → ℕ → Type 0
  Lands way i = (i ≡ land_of way (block_at ws b)) × (i ≤ get_or ws b 0 - 32)

  turns_key : (way : Way) (k i up : ℕ) → way ≡ Key k → Stops k (keys_of 16 (block_at ws b)) i up → Turns way up
  unfolding turn_of
  turns_key way k i up e s = rw e (s.upto_is, omega (arith, few_keys 16, s.few))

  lands_key : (way : Way) (k i up : ℕ) → way ≡ Key k → Stops k (keys_of 32 (block_at ws b)) i up → Lands way i
  unfolding land_of
  lands_key way k i up e s = rw e (s.place, omega (arith, few_keys 32, s.few))

  -- each return, with the way and the answer of the search that the code has matched
  module _ (h : get_or ws b 0 ≤ 23) (r : KeysRise (keys_of 16 (block_at ws b))) (way : Way) where
    pub turns_here : (k i : ℕ) (x : Result ℕ ℕ) → way ≡ Key k → x ≡ searched k (lent 16) → x ≡ Ok i → Turns way (i + 1)
    turns_here k i x m e q = turns_key way k i (i + 1) m (found_here 16 h r k i x e q)

    pub turns_absent : (k i : ℕ) (x : Result ℕ ℕ) → way ≡ Key k → x ≡ searched k (lent 16) → x ≡ Err i → Turns way i
    turns_absent k i x m e q = turns_key way k i i m (found-absent 16 h r k i x e q)

  module _ (h : get_or ws b 0 ≤ 39) (r : KeysRise (keys_of 32 (block_at ws b))) (way : Way) where
    pub lands_found : (k i : ℕ) (x : Result ℕ ℕ) → way ≡ Key k → x ≡ searched k (lent 32) → (x ≡ Ok i) ⊎ (x ≡ Err i) → Lands way i
    lands_found k i x m e (inl q) = lands_key way k i (i + 1) m (found_here 32 h r k i x e q)
    lands_found k i x m e (inr q) = lands_key way k i i m (found-absent 32 h r k i x e q)

  module _ (way : Way) where
    pub turns_first : way ≡ First → Turns way 0
    unfolding turn_of
    turns_first e = rw e (refl, omega arith)

    pub turns_last : way ≡ Last → Turns way (get_or ws b 0 - 16)
    unfolding turn_of
    turns_last e = rw e (rw first_word, omega arith)

    pub lands_first : way ≡ First → Lands way 0
    unfolding land_of
    lands_first e = rw e (refl, omega arith)

    pub lands_last : way ≡ Last → Lands way (get_or ws b 0 - 32 - 1)
    unfolding land_of
    lands_last e = rw e (rw first_word (omega arith), omega arith)

-- the nodes that going down meets
module _ (ws : List ℕ) (t n : ℕ) (l : Lies ws t n) where
  pub leaf_bounds : 32 ≤ get_or ws (base t n) 0 → (33 ≤ get_or ws (base t n) 0) × (get_or ws (base t n) 0 ≤ 39)
  leaf_bounds h = rw first_word at (l.leaf (rw first_word h))

  pub inner_bounds : get_or ws (base t n) 0 < 32 → (16 ≤ get_or ws (base t n) 0) × (get_or ws (base t n) 0 ≤ 23)
  inner_bounds h = rw first_word at (l.inner (rw first_word h))

  pub leaf_rise : 32 ≤ get_or ws (base t n) 0 → KeysRise (keys_of 32 (block ws t n))
  leaf_rise h = l.leaf_rises (rw first_word h)

  pub inner_rise : get_or ws (base t n) 0 < 32 → KeysRise (keys_of 16 (block ws t n))
  inner_rise h = l.inner_rises (rw first_word h)

pub lies_of : (f : ℕ) (ws : List ℕ) (t n : ℕ) → (f ≡ 0 → ⊥) → Deep f ws t n → Lies ws t n
lies_of f ws t n z d = deep_lies ws t f n (omega arith) d

pub child_deep : (f : ℕ) (ws : List ℕ) (t n i : ℕ) → (f ≡ 0 → ⊥) → Deep f ws t n → get_or ws (base t n) 0 < 32 → i ≤ get_or ws (base t n) 0 - 16 →
    Deep (f - 1) ws t (get_or ws (base t n + 8 + i) 0)
child_deep f ws t n i z d a b =
    let q = inner_bounds ws t n (lies_of f ws t n z d) a in
    rw (← link_word_at ws (base t n) i (omega arith)) (deep_child ws t f n i (omega arith) d (rw first_word a) (rw first_word b))

-- going down takes no more levels than it may
pub length-descend : (way : Way) (f : ℕ) (ws : List ℕ) (t n : ℕ) → length (descend way f ws t n) ≤ f
unfolding descend
length-descend way zero ws t n = omega arith
length-descend way (suc f) ws t n = elim (test (leb 32 (get_or (block ws t n) 0 0))) [
  | is a ↦ rw a (omega arith)
  | isnt a ↦ rw a (omega (arith, length-descend way f ws t (get_or (block ws t n) (8 + turn_of way (block ws t n)) 0)))
]

-- down
module _ (way : Way) (ws : List ℕ) (t : ℕ) (c : Cursor) (n : ℕ) where
  pub down_none : (f : ℕ) → f ≡ 0 → extended c (descend way f ws t n) ≡ c
  unfolding descend extended
  down_none f e = rw e

  pub down_leaf : (f i : ℕ) → (f ≡ 0 → ⊥) → 32 ≤ get_or ws (base t n) 0 → i ≡ land_of way (block ws t n) → extended c (descend way f ws t n) ≡ pushed c n i
  unfolding descend extended
  down_leaf zero i z h u = absurd (z refl)
  down_leaf (suc f) i z h u = rw (le-leb 32 (get_or (block ws t n) 0 0) (rw first_word h), ← u)

  pub down_inner : (f i : ℕ) (d : Cursor) → (f ≡ 0 → ⊥) → get_or ws (base t n) 0 < 32 → i < 8 → i ≡ turn_of way (block ws t n) → d ≡ pushed c n i →
      extended c (descend way f ws t n) ≡ extended d (descend way (f - 1) ws t (get_or ws (base t n + 8 + i) 0))
  unfolding descend extended
  down_inner zero i d z h k u e = absurd (z refl)
  down_inner (suc f) i d z h k u e =
      let y : suc f - 1 ≡ f = omega arith in
      rw (lt-leb 32 (get_or (block ws t n) 0 0) (rw first_word h), ← u, link_word_at ws (base t n) i k, y, e)

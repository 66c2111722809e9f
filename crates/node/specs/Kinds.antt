-- DEFINITIONS. A kind of node: how its words hold items, and that leaves and inner nodes are of such kinds
use Rattle.std.specs.Prelude.{◌≡◌, refl, List, [], ◌∷◌, ◌++◌, map, ℕ, ◌+◌, ◌-◌, ◌≤◌, ◌<◌, length, drop, get_or}
use Rattle.std.proofs.Common.{ap, sym, ◌∙◌, lit≤, sub-one, add-suc, suc-add, suc}
use Rattle.forest.specs.Lists.{pad}
use Rattle.forest.specs.Pairs.{Item}
use Rattle.forest.specs.Pools.{leaf_words, inner_words}
use Rattle.node.specs.Nodes.{tabulate, leaf_item, leaf_pairs, inner_item, inner_items, keyed, Leaf, Inner}

-- the words hold a node of 1 to c items, a less than word 0 says
pub record Node (c a : ℕ) (words : List Item → List ℕ) (items : List ℕ → List Item) (w : List ℕ) : Type 0 where
  pub some : a < get_or w 0 0
  pub few : get_or w 0 0 ≤ a + c
  pub same : words (items w) ≡ w

-- items behind word 0, which adds a to their number: the keys but the first i, and the links
abbrev pub laid : ℕ → ℕ → List Item → List ℕ
laid a i xs = (a + length xs) ∷ (pad 7 (map (λ (x : Item). x.0) (drop i xs)) ++ pad 8 (map (λ (x : Item). x.1) xs))

-- what a kind of node keeps, of capacity c, of which the first i keys are stored nowhere
pub record KindLaws (c a i : ℕ) (words : List Item → List ℕ) (items : List ℕ → List Item) (Is : List ℕ → Type 0) : Type 0 where
  pub small : (2 ≤ c) × (c ≤ 7 + i) × (a ≤ 32) × (i ≤ 1)
  -- such words are those of a node
  pub is : (w : List ℕ) → Is w → Node c a words items w
  -- items are written like this
  pub written : (x : Item) (xs : List Item) → words (x ∷ xs) ≡ laid a i (x ∷ xs)
  -- and read one by one; a key that is stored nowhere reads 0
  pub item : List ℕ → ℕ → Item
  pub read : (w : List ℕ) → items w ≡ tabulate (item w) 0 (get_or w 0 0 - a)
  pub first : (w : List ℕ) → keyed i 0 (item w 0 ∷ []) ≡ item w 0 ∷ []

-- leaves do; what a trait's law rests on stands in specs/, since src/ can name no file of proofs/
abbrev pub leaf_laws : KindLaws 7 32 0 leaf_words leaf_pairs Leaf
leaf_laws = record {
  small = (lit≤ tt, lit≤ tt, lit≤ tt, lit≤ tt);
  is = λ w h. record { some = h.some; few = h.few; same = h.same };
  written = λ x xs. refl;
  item = leaf_item;
  read = λ w. refl;
  first = λ w. refl;
}

-- an inner node has a child more than keys
pub inner_written : (x : Item) (xs : List Item) → inner_words (x ∷ xs) ≡ laid 15 1 (x ∷ xs)
inner_written x xs = ap (λ (n : ℕ). n ∷ drop 1 (laid 15 1 (x ∷ xs))) (ap (λ (n : ℕ). 16 + n) (sub-one (suc (length xs))) ∙ suc-add 15 (length xs) ∙ sym (add-suc 15 (length xs)))

-- and inner nodes
abbrev pub inner_laws : KindLaws 8 15 1 inner_words inner_items Inner
inner_laws = record {
  small = (lit≤ tt, lit≤ tt, lit≤ tt, lit≤ tt);
  is = λ w h. record { some = h.some; few = h.few; same = h.same };
  written = inner_written;
  item = inner_item;
  read = λ w. refl;
  first = λ w. refl;
}

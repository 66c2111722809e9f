-- DEFINITIONS. One node: its sixteen words read as items, and what insert, cut, remove and balance make of them, over the kind and the capacity c
use Rattle.std.specs.Prelude.{◌≡◌, List, [], ◌∷◌, map, cond, ℕ, zero, suc, ◌+◌, ◌-◌, ◌*◌, ◌/◌, ◌≤◌, length, take, drop, get_or, ltb, leb, eqb}
use Rattle.std.proofs.Math.Seq.{paste}
use Rattle.forest.specs.Lists.{remove_at, pad}
use Rattle.forest.specs.Pairs.{Item}
use Rattle.forest.specs.Rows.{front}
use Rattle.forest.specs.Pools.{leaf_words, inner_words}
use Rattle.forest.specs.Slices.{inserted}
use Rattle.node.specs.declared.items.Items.{Items}
use Rattle.node.specs.declared.items.Halves.{Halves}
use Rattle.node.specs.declared.SplitOff.{SplitOff}
use Rattle.node.specs.declared.Balanced.{Balanced}
use Rattle.node.specs.declared.Balanced.TheVariants.{Merged, Shared}
use Rattle.node.specs.declared.Removed.{Removed}
use Rattle.node.specs.declared.Removed.TheVariants.{Healthy, Rightmost, Underflow, Empty}

-- n items from place i on
abbrev pub tabulate : (ℕ → Item) → ℕ → ℕ → List Item
tabulate f i zero = []
tabulate f i (suc n) = f i ∷ tabulate f (suc i) n

-- pair i of a leaf's words
abbrev pub leaf_item : List ℕ → ℕ → Item
leaf_item w i = (get_or w (1 + i) 0, get_or w (8 + i) 0)

-- the pairs of a leaf's words
abbrev pub leaf_pairs : List ℕ → List Item
leaf_pairs w = tabulate (leaf_item w) 0 (get_or w 0 0 - 32)

-- item i of an inner node's words; the first key is stored nowhere and reads 0
abbrev pub inner_item : List ℕ → ℕ → Item
inner_item w zero = (0, get_or w 8 0)
inner_item w (suc i) = (get_or w (suc i) 0, get_or w (8 + suc i) 0)

-- the items of an inner node's words
abbrev pub inner_items : List ℕ → List Item
inner_items w = tabulate (inner_item w) 0 (get_or w 0 0 - 15)

-- the words are those of a leaf
pub record Leaf (w : List ℕ) : Type 0 where
  pub some : 33 ≤ get_or w 0 0
  pub few : get_or w 0 0 ≤ 39
  pub same : leaf_words (leaf_pairs w) ≡ w

-- the words are those of an inner node
pub record Inner (w : List ℕ) : Type 0 where
  pub some : 16 ≤ get_or w 0 0
  pub few : get_or w 0 0 ≤ 23
  pub same : inner_words (inner_items w) ≡ w

-- the key of item i becomes k
abbrev pub rekey_at : ℕ → ℕ → List Item → List Item
rekey_at i k [] = []
rekey_at zero k (x ∷ xs) = (k, x.1) ∷ xs
rekey_at (suc i) k (x ∷ xs) = x ∷ rekey_at i k xs

-- items with k as the key of the first, where i first keys are stored nowhere
abbrev pub keyed : ℕ → ℕ → List Item → List Item
keyed zero k xs = xs
keyed (suc i) k xs = rekey_at 0 k xs

-- how a node of capacity c stands that lost its item at a place and has some left
unfoldable pub status_of : ℕ → ℕ → ℕ → Removed
status_of c place left =
    cond (leb c (2 * left)) (cond (eqb place left) Rightmost Healthy)
    (cond (ltb 0 left) Underflow Empty)

-- the words of a node that lost its item at place o: sixteen zeros if it was the last one; t is what the first word adds to the number of items
unfoldable pub cut_of : ℕ → (List Item → List ℕ) → (List ℕ → List Item) → List ℕ → ℕ → List ℕ
cut_of t words items w o = cond (eqb (get_or w 0 0) (suc t)) (pad 16 []) (words (remove_at o (items w)))

-- those of a leaf
abbrev pub leaf_cut : List ℕ → ℕ → List ℕ
leaf_cut = cut_of 32 leaf_words leaf_pairs

-- and those of an inner node
abbrev pub inner_cut : List ℕ → ℕ → List ℕ
inner_cut = cut_of 15 inner_words inner_items

-- items cut after the first l: both halves, and the first key on the right
abbrev pub split_of : (List Item → List ℕ) → ℕ → List Item → SplitOff
split_of words l us = record { left = words (take l us); right = words (drop l us); key = front (drop l us) }

-- how many of some items the left of two nodes gets that share them
abbrev pub keep : List Item → ℕ
keep us = length us - length us / 2

-- the items of two nodes: all on the right if they fit in one, or else each gets half
unfoldable pub balance_of : (List Item → List ℕ) → ℕ → List Item → Balanced
balance_of words c us = cond (leb (length us) c) (Merged (words us)) (Shared (split_of words (keep us) us))

-- items as a count, their keys and their links
abbrev pub items_of : List Item → Items
items_of xs = record { count = length xs; keys = pad 16 (map (λ (x : Item). x.0) xs); links = pad 16 (map (λ (x : Item). x.1) xs) }

-- one more, of key k and link l, at place i
abbrev pub with_item : Items → ℕ → ℕ → ℕ → Items
with_item s i k l = record { count = s.count + 1; keys = inserted s.keys i k; links = inserted s.links i l }

-- one less, the one at place i; a 0 comes to the end
abbrev pub less_item : Items → ℕ → Items
less_item s i = record { count = s.count - 1; keys = pad 16 (remove_at i s.keys); links = pad 16 (remove_at i s.links) }

-- those of a, and behind them those of b
abbrev pub both_items : Items → Items → Items
both_items a b = record {
  count = a.count + b.count;
  keys = paste a.keys a.count b.keys b.count;
  links = paste a.links a.count b.links b.count;
}

-- n of them from place i on, over zeros
abbrev pub part_items : Items → ℕ → ℕ → Items
part_items s i n = record { count = n; keys = paste (pad 16 []) 0 (drop i s.keys) n; links = paste (pad 16 []) 0 (drop i s.links) n }

-- the first l, the others, and the key of the first of these
abbrev pub half_items : Items → ℕ → Halves
half_items s l = record { left = part_items s 0 l; right = part_items s l (s.count - l); key = get_or s.keys l 0 }

-- a node's words: the count on top of a, seven keys from place i on, eight links
abbrev pub packed : ℕ → ℕ → Items → List ℕ
packed a i s = paste (paste ((a + s.count) ∷ pad 15 []) 1 (drop i s.keys) 7) 8 s.links 8

-- a node's items: the number without a, seven keys to place i on with k in place 0 before, eight links
abbrev pub unpacked : ℕ → ℕ → ℕ → List ℕ → Items
unpacked a i k w = record { count = get_or w 0 0 - a; keys = paste (k ∷ pad 15 []) i (drop 1 w) 7; links = paste (pad 16 []) 0 (drop 8 w) 8 }

-- the first l in a node and the others in another, and the first key of these
abbrev pub packed_halves : ℕ → ℕ → Items → ℕ → SplitOff
packed_halves a i s l = record { left = packed a i (half_items s l).left; right = packed a i (half_items s l).right; key = (half_items s l).key }

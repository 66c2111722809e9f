-- PROOFS. Of any kind of node: its items out of its words, and into them
use mathlib.Core.Path.{◌≡◌, refl, sym, ap, ◌∙◌}
use mathlib.Core.List.{List, [], ◌∷◌, ◌++◌}
use Prim.Native.Nat.{ℕ, zero, suc, ◌+◌, ◌-◌, ◌*◌, ◌≤◌}
use native.Mathlib.Omega.{arith}
use lib.ListN.{length, drop, get_or, length-map, length-append}
use lib.Seq.{paste}
use Rattle.forest.specs.Lists.{pad}
use Rattle.forest.specs.Pairs.{Item}
use Rattle.forest.proofs.CountLaws.{length-pad}
use Rattle.forest.proofs.ListLaws.{map-drop}
use Rattle.node.specs.Nodes.{tabulate, keyed, items_of, both_items, packed, unpacked}
use Rattle.node.specs.Kinds.{Node, laid, KindLaws}
use Rattle.node.specs.declared.items.Items.{Items}
use Rattle.node.proofs.Pads.{pad-take, pad-drop}
use Rattle.node.proofs.Words.{keys_of, links_of, length-tabulate, length-rekey_at}
use Rattle.node.proofs.ItemLaws.{key_of, link_of, items_eq, append-items, links_out, keys_out, keys_on, pack}

pub length-keyed : (i k : ℕ) (xs : List Item) → length (keyed i k xs) ≡ length xs
length-keyed zero k xs = refl
length-keyed (suc i) k xs = length-rekey_at 0 k xs

module _ {c a i : ℕ} {words : List Item → List ℕ} {items : List ℕ → List Item} {Is : List ℕ → Type 0} (laws : KindLaws c a i words items Is) where
  -- so many items are read
  pub number : (w : List ℕ) → length (items w) ≡ get_or w 0 0 - a
  number w = ap length (laws.read w) ∙ length-tabulate (laws.item w) 0 (get_or w 0 0 - a)

  -- a first key that is stored nowhere reads 0
  pub keyed_none : (w : List ℕ) → keyed i 0 (items w) ≡ items w
  keyed_none w = rw (laws.read w) (none i (get_or w 0 0 - a) (laws.first w))
    where
      none : (i n : ℕ) → keyed i 0 (laws.item w 0 ∷ []) ≡ laws.item w 0 ∷ [] → keyed i 0 (tabulate (laws.item w) 0 n) ≡ tabulate (laws.item w) 0 n
      none zero n e = refl
      none (suc i) zero e = refl
      none (suc i) (suc n) e = ap (λ (xs : List Item). xs ++ tabulate (laws.item w) 1 n) e

  pub written : (xs : List Item) → 1 ≤ length xs → words xs ≡ laid a i xs
  written [] h = absurd (omega arith)
  written (x ∷ xs) h = laws.written x xs

  -- and unpacked, its words are the items
  pub unpacks : (w : List ℕ) (k : ℕ) → Is w → unpacked a i k w ≡ items_of (keyed i k (items w))
  unpacks w k h =
      let xs : List Item = items w in
      let node : Node c a words items w = laws.is w h in
      let n : length (items w) ≡ get_or w 0 0 - a = number w in
      let small : (2 ≤ c) × (c ≤ 7 + i) × (a ≤ 32) × (i ≤ 1) = laws.small in
      let some : 1 ≤ length (items w) = omega (arith, node.some) in
      let few : length (items w) ≤ 8 = omega (arith, node.few) in
      let e : laid a i (items w) ≡ w = sym (written xs some) ∙ node.same in
      items_eq (sym (length-keyed i k xs ∙ n))
      (ap (λ (v : List ℕ). paste (k ∷ pad 15 []) i (drop 1 v) 7) (sym e) ∙ keys i xs small.3 some (omega (arith, node.few)))
      (ap (λ (v : List ℕ). paste (pad 16 []) 0 (drop 8 v) 8) (sym e) ∙ links_out (a + length xs) (keys_of (drop i xs)) (links_of xs) (rw (length-map xs link_of) few) ∙ ap (pad 16) (links i xs))
    where
      keys : (i : ℕ) (xs : List Item) → i ≤ 1 → 1 ≤ length xs → length xs ≤ i + 7 → paste (k ∷ pad 15 []) i (drop 1 (laid a i xs)) 7 ≡ pad 16 (keys_of (keyed i k xs))
      keys zero xs h s l = keys_out (a + length xs) k (keys_of xs) (links_of xs) (rw (length-map xs key_of) (omega arith))
      keys (suc zero) [] h s l = absurd (omega arith)
      keys (suc zero) (x ∷ xs) h s l = keys_on (a + suc (length xs)) k (keys_of xs) (links_of (x ∷ xs)) (rw (length-map xs key_of) (omega arith))
      keys (suc (suc i)) xs h s l = absurd (omega arith)

      links : (i : ℕ) (xs : List Item) → links_of xs ≡ links_of (keyed i k xs)
      links zero xs = refl
      links (suc i) [] = refl
      links (suc i) (x ∷ xs) = refl

  -- packed, the items of a list are its words
  pub packs : (s : Items) (xs : List Item) → s ≡ items_of xs → 1 ≤ length xs → packed a i s ≡ words xs
  packs s xs e h =
      let small : (2 ≤ c) × (c ≤ 7 + i) × (a ≤ 32) × (i ≤ 1) = laws.small in
      ap (packed a i) e ∙ pack (a + length xs) i (pad 16 (keys_of xs)) (pad 16 (links_of xs)) (omega (arith, length-pad 16 (keys_of xs)))
      ∙ rw (pad-drop i 16 (keys_of xs), pad-take 7 (16 - i) (drop i (keys_of xs)) (omega arith), pad-take 8 16 (links_of xs) (omega arith), ← map-drop key_of i xs)
      (sym (written xs h))

  -- the items of two nodes, with a key before the second one's
  module _ (w v : List ℕ) (k : ℕ) where
    abbrev pub both : List Item
    both = items w ++ keyed i k (items v)

    pub length-both : length both ≡ (get_or w 0 0 - a) + (get_or v 0 0 - a)
    length-both = length-append (items w) (keyed i k (items v)) ∙ rw (number w, length-keyed i k (items v), number v)

    pub both_some : Is w → Is v → 2 ≤ length both
    both_some h j =
        let m : Node c a words items w = laws.is w h in
        let n : Node c a words items v = laws.is v j in
        omega (arith, length-both, m.some, n.some)

    pub both_few : Is w → Is v → length both ≤ 2 * c
    both_few h j =
        let m : Node c a words items w = laws.is w h in
        let n : Node c a words items v = laws.is v j in
        omega (arith, length-both, m.few, n.few)

    pub both_held : (r s : Items) → Is w → Is v → r ≡ items_of (keyed i 0 (items w)) → s ≡ items_of (keyed i k (items v)) → both_items r s ≡ items_of both
    both_held r s h j p q =
        append-items r s (items w) (keyed i k (items v)) (p ∙ ap items_of (keyed_none w)) q
        (omega (arith, both_few h j, laws.small.1, laws.small.3, length-append (items w) (keyed i k (items v))))

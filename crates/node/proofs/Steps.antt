-- PROOFS. What a node keeps that lost an item, what the halves are of one that is cut, and what two nodes share: over the kind
use mathlib.Core.Path.{◌≡◌, ap, ◌∙◌}
use mathlib.Core.Logic.{◌≢◌}
use mathlib.Core.List.{List, []}
use Prim.Native.Nat.{ℕ, suc, ◌-◌, ◌/◌, ◌≤◌, ◌<◌}
use native.Mathlib.Omega.{arith}
use lib.ListN.{length, take, drop, get_or, length-drop}
use lib.Seq.{length-take-le}
use borrow.Author.Tests.{le-leb, lt-leb, eq-eqb, ne_eqb}
use Rattle.forest.specs.Lists.{remove_at, pad}
use Rattle.forest.specs.Pairs.{Item}
use Rattle.node.specs.Nodes.{cut_of, split_of, keep, balance_of, items_of, half_items, packed, packed_halves}
use Rattle.node.specs.Kinds.{KindLaws}
use Rattle.node.specs.declared.items.Items.{Items}
use Rattle.node.specs.declared.items.Halves.{Halves}
use Rattle.node.specs.declared.SplitOff.{SplitOff}
use Rattle.node.specs.declared.Balanced.TheVariants.{Merged, Shared}
use Rattle.node.proofs.ItemLaws.{halves_of, half_items_lem}
use Rattle.node.proofs.KindLaws.{packs}

-- a node that lost its last item, and one that has others
module _ (t : ℕ) (words : List Item → List ℕ) (items : List ℕ → List Item) (w : List ℕ) (o : ℕ) where
  pub cut_none : get_or w 0 0 ≡ suc t → pad 16 [] ≡ cut_of t words items w o
  unfolding cut_of
  cut_none e = simp (eq-eqb (get_or w 0 0) (suc t) e)

  pub cut_some : get_or w 0 0 ≢ suc t → words (remove_at o (items w)) ≡ cut_of t words items w o
  unfolding cut_of
  cut_some e = simp (ne_eqb (get_or w 0 0) (suc t) e)

pub split_eq : {a b d e : List ℕ} {k m : ℕ} → a ≡ d → b ≡ e → k ≡ m → ◌≡◌ {A = SplitOff} (record { left = a; right = b; key = k }) (record { left = d; right = e; key = m })
split_eq p q r = cc

-- items us, packed as a kind of node
module _ {c a i : ℕ} {words : List Item → List ℕ} {items : List ℕ → List Item} {Is : List ℕ → Type 0} (laws : KindLaws c a i words items Is) (us : List Item) (s : Items) (held : s ≡ items_of us) where
  pub split_done : (l m : ℕ) → l ≡ m → length us ≤ 16 → 1 ≤ l → l < length us → packed_halves a i s l ≡ split_of words m us
  split_done l m e few some more =
      let d : half_items s l ≡ halves_of us l = half_items_lem s l us held few more in
      split_eq
      (packs laws (half_items s l).left (take l us) (ap (λ (o : Halves). o.left) d) (rw (length-take-le l us (omega arith)) some))
      (packs laws (half_items s l).right (drop l us) (ap (λ (o : Halves). o.right) d) (simp length-drop (omega arith)))
      (ap (λ (o : Halves). o.key) d)
      ∙ ap (λ (j : ℕ). split_of words j us) e

  pub balance_all : 1 ≤ length us → length us ≤ c → Merged (packed a i s) ≡ balance_of words c us
  unfolding balance_of
  balance_all some h = simp (le-leb (length us) c h) (ap Merged (packs laws s us held some))

  pub balance_share : length us ≤ 16 → 1 ≤ c → c < length us → Shared (packed_halves a i s (s.count - s.count / 2)) ≡ balance_of words c us
  unfolding balance_of
  balance_share few d more =
      let e : s.count - s.count / 2 ≡ keep us = ap (λ (o : Items). o.count - o.count / 2) held in
      simp (lt-leb (length us) c more) (ap Shared (split_done (s.count - s.count / 2) (keep us) e few (rw e (omega arith)) (rw e (omega arith))))

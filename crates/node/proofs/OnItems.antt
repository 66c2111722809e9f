-- PROOFS. The operations on the words of a node with items xs: their words are those of the step on xs. For the callers
use mathlib.Core.Path.{◌≡◌, refl, sym, ap, subst⁻¹, ◌∙◌}
use mathlib.Core.List.{List, [], ◌∷◌, ◌++◌}
use mathlib.Core.Bool.{true, false}
use Prim.Native.Nat.{ℕ, suc, ◌+◌, ◌-◌, ◌/◌, ◌≤◌, ◌<◌}
use native.Mathlib.Omega.{arith}
use lib.ListN.{length, get_or, length-append}
use lib.Dec.{leb}
use borrow.Author.Tests.{le-leb, lt-leb, leb-true, leb-false}
use Rattle.forest.specs.Lists.{insert_at, remove_at, pad}
use Rattle.forest.specs.Pairs.{Item}
use Rattle.forest.specs.Rows.{front}
use Rattle.forest.specs.Pools.{leaf_words, inner_words}
use Rattle.forest.proofs.ListLaws.{is, isnt, test, length-insert_at, length-remove_at}
use Rattle.node.specs.Nodes.{leaf_pairs, inner_items, Leaf, Inner, leaf_cut, inner_cut, split_of, keep, balance_of, rekey_at}
use Rattle.node.specs.declared.SplitOff.{SplitOff}
use Rattle.node.specs.declared.Balanced.TheVariants.{Merged, Shared}
use Rattle.node.proofs.Words.{leaf_is, inner_is, length_pairs, length-items, leaf_pairs_lem, inner_items_lem, inner_first, take-first, drop-first, cut_first, insert-first, rekey_back, rekey_at_left, length-rekey_at}
use Rattle.node.proofs.Steps.{cut_none, cut_some, split_eq}

-- Insert

pub inner_insert : (xs : List Item) (i : ℕ) (x : Item) → 1 ≤ length xs → length xs ≤ 8 →
    inner_words (insert_at (suc i) x (inner_items (inner_words xs))) ≡ inner_words (insert_at (suc i) x xs)
inner_insert xs i x h l = ap (λ (u : List Item). inner_words (insert_at (suc i) x u)) (inner_items_lem xs h l) ∙ insert-first 0 i x xs

-- Cut in two

pub leaf_split : (xs : List Item) (l i : ℕ) (x : Item) → length xs ≤ 7 → split_of leaf_words l (insert_at i x (leaf_pairs (leaf_words xs))) ≡ split_of leaf_words l (insert_at i x xs)
leaf_split xs l i x h = ap (λ (u : List Item). split_of leaf_words l (insert_at i x u)) (leaf_pairs_lem xs h)

-- a first key that is stored nowhere comes through a cut: it is neither in the words nor in the right half
insert-rekey : (k i : ℕ) (x : Item) (xs : List Item) → 1 ≤ length xs → insert_at (suc i) x (rekey_at 0 k xs) ≡ rekey_at 0 k (insert_at (suc i) x xs)
insert-rekey k i x [] h = absurd (omega arith)
insert-rekey k i x (y ∷ xs) h = refl

split_first : (k l : ℕ) (us : List Item) → 1 ≤ l → split_of inner_words l (rekey_at 0 k us) ≡ split_of inner_words l us
split_first k l us h = split_eq (take-first k l us) (ap inner_words (drop-first k l us h)) (ap front (drop-first k l us h))

pub inner_split : (xs : List Item) (l i : ℕ) (x : Item) → 1 ≤ length xs → length xs ≤ 8 → 1 ≤ l →
    split_of inner_words l (insert_at (suc i) x (inner_items (inner_words xs))) ≡ split_of inner_words l (insert_at (suc i) x xs)
inner_split xs l i x h m s =
    ap (λ (u : List Item). split_of inner_words l (insert_at (suc i) x u)) (inner_items_lem xs h m)
    ∙ ap (split_of inner_words l) (insert-rekey 0 i x xs h) ∙ split_first 0 l (insert_at (suc i) x xs) s

-- Remove

pub leaf_cut_lem : (xs : List Item) (o : ℕ) → 2 ≤ length xs → length xs ≤ 7 → leaf_cut (leaf_words xs) o ≡ leaf_words (remove_at o xs)
leaf_cut_lem xs o h l = sym (cut_some 32 leaf_words leaf_pairs (leaf_words xs) o (λ e. omega arith)) ∙ ap (λ (u : List Item). leaf_words (remove_at o u)) (leaf_pairs_lem xs l)

pub leaf_cut_last : (xs : List Item) (o : ℕ) → length xs ≡ 1 → leaf_cut (leaf_words xs) o ≡ pad 16 []
leaf_cut_last xs o h = sym (cut_none 32 leaf_words leaf_pairs (leaf_words xs) o (omega arith))

pub inner_cut_lem : (xs : List Item) (o : ℕ) → 2 ≤ length xs → length xs ≤ 8 → inner_cut (inner_words xs) o ≡ inner_words (remove_at o xs)
inner_cut_lem xs o h l =
    sym (cut_some 15 inner_words inner_items (inner_words xs) o (λ e. omega arith)) ∙ ap (λ (u : List Item). inner_words (remove_at o u)) (inner_items_lem xs (omega arith) l) ∙ cut_first 0 o xs

pub inner_cut_last : (xs : List Item) (o : ℕ) → length xs ≡ 1 → inner_cut (inner_words xs) o ≡ pad 16 []
inner_cut_last xs o h = sym (cut_none 15 inner_words inner_items (inner_words xs) o (omega arith))

-- Balance

module _ (words : List Item → List ℕ) (c : ℕ) (us : List Item) where
  pub balance_fits : length us ≤ c → balance_of words c us ≡ Merged (words us)
  unfolding balance_of
  balance_fits h = simp (le-leb (length us) c h)

  pub balance_over : c < length us → balance_of words c us ≡ Shared (split_of words (keep us) us)
  unfolding balance_of
  balance_over h = simp (lt-leb (length us) c h)

  -- all is in the right one only if it fits, and they share only if it does not
  pub is_merged : {w : List ℕ} → Merged w ≡ balance_of words c us → (leb (length us) c ≡ true) × (w ≡ words us)
  is_merged {w} e = elim (test (leb (length us) c)) [
    | is f ↦ (f, let g = e ∙ balance_fits (leb-true _ _ f) in cc)
    | isnt f ↦ absurd (let g = e ∙ balance_over (leb-false _ _ f) in cc)
  ]

  pub is_shared : {s : SplitOff} → Shared s ≡ balance_of words c us → (leb (length us) c ≡ false) × (s ≡ split_of words (keep us) us)
  is_shared {s} e = elim (test (leb (length us) c)) [
    | is f ↦ absurd (let g = e ∙ balance_fits (leb-true _ _ f) in cc)
    | isnt f ↦ (f, let g = e ∙ balance_over (leb-false _ _ f) in cc)
  ]

-- the items of two leaves, and of two inner nodes with the right one's first key put down
pub leaf_both : (xs ys : List Item) → length xs ≤ 7 → length ys ≤ 7 → leaf_pairs (leaf_words xs) ++ leaf_pairs (leaf_words ys) ≡ xs ++ ys
leaf_both xs ys a b = rw (leaf_pairs_lem xs a, leaf_pairs_lem ys b)

pub inner_both : (xs ys : List Item) → 1 ≤ length xs → length xs ≤ 8 → 1 ≤ length ys → length ys ≤ 8 →
    inner_items (inner_words xs) ++ rekey_at 0 (front ys) (inner_items (inner_words ys)) ≡ rekey_at 0 0 (xs ++ ys)
inner_both xs ys a b c d = rw (inner_items_lem xs a b, inner_items_lem ys c d, rekey_back 0 ys) (sym (rekey_at_left 0 0 xs ys a))

pub leaf_balance : (xs ys : List Item) → length xs ≤ 7 → length ys ≤ 7 → balance_of leaf_words 7 (leaf_pairs (leaf_words xs) ++ leaf_pairs (leaf_words ys)) ≡ balance_of leaf_words 7 (xs ++ ys)
leaf_balance xs ys a b = ap (balance_of leaf_words 7) (leaf_both xs ys a b)

-- a first key that is stored nowhere comes through a balance
balance_first : (k c : ℕ) (us : List Item) → 1 ≤ length us → balance_of inner_words c (rekey_at 0 k us) ≡ balance_of inner_words c us
balance_first k c us h = elim (test (leb (length us) c)) [
  | is e ↦ (
      let l : length us ≤ c = leb-true _ _ e in
      balance_fits inner_words c (rekey_at 0 k us) (rw same l) ∙ ap Merged (inner_first k us) ∙ sym (balance_fits inner_words c us l))
  | isnt e ↦ (
      let l : c < length us = leb-false _ _ e in
      let j : keep (rekey_at 0 k us) ≡ keep us = ap (λ (n : ℕ). n - n / 2) same in
      balance_over inner_words c (rekey_at 0 k us) (rw same l)
      ∙ ap (λ (n : ℕ). Shared (split_of inner_words n (rekey_at 0 k us))) j
      ∙ ap Shared (split_first k (keep us) us (omega arith))
      ∙ sym (balance_over inner_words c us l))
]
  where
    same : length (rekey_at 0 k us) ≡ length us
    same = length-rekey_at 0 k us

pub inner_balance : (xs ys : List Item) → 1 ≤ length xs → length xs ≤ 8 → 1 ≤ length ys → length ys ≤ 8 →
    balance_of inner_words 8 (inner_items (inner_words xs) ++ rekey_at 0 (front ys) (inner_items (inner_words ys))) ≡ balance_of inner_words 8 (xs ++ ys)
inner_balance xs ys a b c d = ap (balance_of inner_words 8) (inner_both xs ys a b c d) ∙ balance_first 0 8 (xs ++ ys) (omega (arith, length-append xs ys))

-- Two leaves that fit in one make a leaf; what an insert makes of an inner node is one with one child more; and one that lost a child, not its last, is one

pub join_leaf : (w v r : List ℕ) → Merged r ≡ balance_of leaf_words 7 (leaf_pairs w ++ leaf_pairs v) → Leaf w → Leaf v → get_or w 0 0 + get_or v 0 0 ≤ 71 → Leaf r × (get_or r 0 0 + 32 ≡ get_or w 0 0 + get_or v 0 0)
join_leaf w v r e leaf other h =
    let us : List Item = leaf_pairs w ++ leaf_pairs v in
    let n : length us ≡ get_or w 0 0 - 32 + (get_or v 0 0 - 32) = length-append (leaf_pairs w) (leaf_pairs v) ∙ rw (length_pairs w, length_pairs v) in
    let some : 33 ≤ get_or w 0 0 = leaf.some in
    let more : 33 ≤ get_or v 0 0 = other.some in
    let all : r ≡ leaf_words us = (is_merged leaf_words 7 us e).1 in
    subst⁻¹ (λ (u : List ℕ). Leaf u × (get_or u 0 0 + 32 ≡ get_or w 0 0 + get_or v 0 0)) all (leaf_is us (omega arith) (omega arith), omega arith)

pub insert_inner : (w r : List ℕ) (i : ℕ) (x : Item) → r ≡ inner_words (insert_at i x (inner_items w)) → Inner w → get_or w 0 0 < 23 → Inner r × (get_or r 0 0 ≡ suc (get_or w 0 0))
insert_inner w r i x e node h =
    let m : length (insert_at i x (inner_items w)) ≡ suc (length (inner_items w)) = length-insert_at i x (inner_items w) in
    let n : length (inner_items w) ≡ get_or w 0 0 - 15 = length-items w in
    let some : 16 ≤ get_or w 0 0 = node.some in
    subst⁻¹ (λ (v : List ℕ). Inner v × (get_or v 0 0 ≡ suc (get_or w 0 0))) e (inner_is (insert_at i x (inner_items w)) (omega arith) (omega arith), omega arith)

pub remove_inner : (w r : List ℕ) (o : ℕ) → r ≡ inner_cut w o → Inner w → 16 < get_or w 0 0 → o < get_or w 0 0 - 15 → Inner r × (suc (get_or r 0 0) ≡ get_or w 0 0)
remove_inner w r o e node h l =
    let n : length (inner_items w) ≡ get_or w 0 0 - 15 = length-items w in
    let m : suc (length (remove_at o (inner_items w))) ≡ length (inner_items w) = length-remove_at o (inner_items w) (omega arith) in
    let few : get_or w 0 0 ≤ 23 = node.few in
    subst⁻¹ (λ (v : List ℕ). Inner v × (suc (get_or v 0 0) ≡ get_or w 0 0)) (e ∙ sym (cut_some 15 inner_words inner_items w o (λ e. omega arith)))
    (inner_is (remove_at o (inner_items w)) (omega arith) (omega arith), omega arith)

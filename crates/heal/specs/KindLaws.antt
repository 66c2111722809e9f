-- PROOFS. Leaves and inner nodes keep the laws of healing. They stand here since an impl's law may cite specs alone
use Rattle.std.specs.Prelude.{ℕ, ◌++◌, ◌*◌, ◌≤◌, refl}
use Rattle.std.proofs.Common.{ap, ◌∙◌, length-append, arith}
use Rattle.forest.specs.Rows.{front}
use Rattle.forest.specs.Pools.{leaf_words, inner_words}
use Rattle.forest.proofs.CountLaws.{leaf_length, inner_length}
use Rattle.node.specs.Nodes.{Leaf, Inner, leaf_pairs, inner_items, rekey_at, keep}
use Rattle.node.proofs.Words.{leaf_is, length_pairs, inner_first, take-first, drop-first, length-items, length-rekey_at, inner_is}
use Rattle.node.proofs.OnItems.{leaf_cut_lem, leaf_cut_last, leaf_both, inner_cut_lem, inner_cut_last, inner_both}
use Rattle.heal.specs.Steps.{leaf_ops, inner_ops}
use Rattle.heal.specs.Cycle.{leaf_kind, inner_kind}
use Rattle.heal.specs.Kinds.{Lawful, HealLaws}

-- a leaf's operations do to pairs what they should, over the minimum of a leaf that is not the last
pub leaf_law : (low : ℕ) → 2 ≤ low → 2 * low ≤ 8 → Lawful leaf_ops leaf_words 7 low
leaf_law low two half = record {
  least_two = two;
  least_half = half;
  entries_is = λ xs h. omega arith;
  entries_none = refl;
  cut_is = λ xs o b t few. leaf_cut_lem xs o t few;
  cut_none = λ xs o one. leaf_cut_last xs o one;
  gather_is = λ xs ys a b c. rw (leaf_both xs ys (omega arith) (omega arith));
  left_is = λ xs ys a b c d. rw (leaf_both xs ys b c);
  right_is = λ xs ys a b c d. rw (leaf_both xs ys b c);
  mid_is = λ xs ys a b c d. rw (leaf_both xs ys b c);
}

-- leaves heal by them
pub leaf_heals : HealLaws leaf_kind 7 32 0 leaf_words leaf_pairs Leaf
leaf_heals = record {
  lawful = leaf_law 3 (omega arith) (omega arith);
  same = refl;
  is = leaf_is;
  sixteen = leaf_length;
  counts = λ xs h. refl;
  size = λ w v k. length-append (leaf_pairs w) (leaf_pairs v) ∙ rw (length_pairs w, length_pairs v);
}

-- an inner node's operations do to items what they should
pub inner_law : Lawful inner_ops inner_words 8 4
inner_law = record {
  least_two = omega arith;
  least_half = omega arith;
  entries_is = λ xs h. omega arith;
  entries_none = refl;
  cut_is = λ xs o b two few. inner_cut_lem xs o two few;
  cut_none = λ xs o one. inner_cut_last xs o one;
  gather_is = λ xs ys a b c. rw (inner_both xs ys a (omega arith) b (omega arith)) (inner_first 0 (xs ++ ys));
  left_is = λ xs ys a b c d. rw (inner_both xs ys a b (omega arith) c, length-rekey_at 0 0 (xs ++ ys)) (take-first 0 (keep (xs ++ ys)) (xs ++ ys));
  right_is = λ xs ys a b c d. rw (inner_both xs ys a b (omega arith) c, length-rekey_at 0 0 (xs ++ ys)) (ap inner_words (drop-first 0 (keep (xs ++ ys)) (xs ++ ys) (omega (arith, length-append xs ys))));
  mid_is = λ xs ys a b c d. rw (inner_both xs ys a b (omega arith) c, length-rekey_at 0 0 (xs ++ ys)) (ap front (drop-first 0 (keep (xs ++ ys)) (xs ++ ys) (omega (arith, length-append xs ys))));
}

-- inner nodes heal by them
pub inner_heals : HealLaws inner_kind 8 15 1 inner_words inner_items Inner
inner_heals = record {
  lawful = inner_law;
  same = refl;
  is = inner_is;
  sixteen = inner_length;
  counts = λ xs h. omega arith;
  size = λ w v k. length-append (inner_items w) (rekey_at 0 k (inner_items v)) ∙ rw (length-items w, length-rekey_at 0 k (inner_items v), length-items v);
}

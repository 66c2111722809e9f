-- PROOFS. The step on a row: a cut, and then the node is mended
use mathlib.Core.Path.{◌≡◌, refl, ap, ◌∙◌}
use mathlib.Core.List.{List, [], ◌∷◌, ◌++◌}
use Prim.Native.Nat.{ℕ, zero, suc, ◌+◌, ◌*◌, ◌≤◌, ◌<◌}
use native.Mathlib.Omega.{arith}
use lib.ListN.{length, take, drop}
use borrow.Author.Tests.{eq-eqb, ne_eqb, le-leb, lt-leb}
use Rattle.forest.specs.Lists.{remove_at}
use Rattle.forest.specs.Pairs.{Item}
use Rattle.forest.specs.Rows.{Row, size, front, nums, line, items_at, alone, heal, drop_row}
use Rattle.forest.proofs.Descent.{front-append}
use Rattle.crit.specs.Paths.{upd}
use Rattle.crit.proofs.HealRows.{rekey_at, upd-nums, nums-remove_at}
pub use Rattle.node.specs.Nodes.{keep}

-- The step on a row is a cut, and then the node is mended
abbrev pub mend : ℕ → ℕ → Row → Row
mend c j [] = []
mend c zero (n ∷ []) = alone n
mend c zero (n ∷ m ∷ R) = heal c n m ++ R
mend c (suc j) (n ∷ R) = n ∷ mend c j R

pub drop_mend : (c j p : ℕ) (R : Row) → drop_row c j p R ≡ mend c j (upd j (remove_at p) R)
drop_mend c j p [] = refl
drop_mend c zero p (n ∷ []) = refl
drop_mend c zero p (n ∷ m ∷ R) = refl
drop_mend c (suc j) p (n ∷ R) = ap (n ∷◌) (drop_mend c j p R)

-- it stays: healthy, or without right neighbour and not empty
pub mend_stays : (c j : ℕ) (R : Row) → c ≤ 2 * length (items_at R j) → j < length R → 1 ≤ c → mend c j R ≡ R
unfolding alone heal
mend_stays c j [] h l k = refl
mend_stays c zero (n ∷ []) h l k = simp (ne_eqb (size n) 0 (omega arith))
mend_stays c zero (n ∷ m ∷ R) h l k = simp (le-leb c (2 * size n) h)
mend_stays c (suc j) (n ∷ R) h l k = ap (n ∷◌) (mend_stays c j R h (omega arith) k)

pub mend_last : (c j : ℕ) (R : Row) → 1 ≤ length (items_at R j) → suc j ≡ length R → mend c j R ≡ R
unfolding alone
mend_last c j [] h l = refl
mend_last c zero (n ∷ []) h l = simp (ne_eqb (size n) 0 (omega arith))
mend_last c zero (n ∷ m ∷ R) h l = absurd (omega arith)
mend_last c (suc j) (n ∷ R) h l = ap (n ∷◌) (mend_last c j R h (omega arith))

pub mend_empty : (c j : ℕ) (R : Row) → length (items_at R j) ≡ 0 → suc j ≡ length R → mend c j R ≡ remove_at j R
unfolding alone
mend_empty c j [] h l = refl
mend_empty c zero (n ∷ []) h l = simp (eq-eqb (size n) 0 h)
mend_empty c zero (n ∷ m ∷ R) h l = absurd (omega arith)
mend_empty c (suc j) (n ∷ R) h l = ap (n ∷◌) (mend_empty c j R h (omega arith))

-- everything goes right
abbrev pub merge_at : ℕ → Row → Row
merge_at j R = remove_at j (upd (suc j) (λ ys. items_at R j ++ ys) R)

pub mend_merges : (c j : ℕ) (R : Row) → 2 * length (items_at R j) < c → suc j < length R → length (items_at R j) + length (items_at R (suc j)) ≤ c → mend c j R ≡ merge_at j R
unfolding heal
mend_merges c j [] h l f = refl
mend_merges c zero (n ∷ []) h l f = absurd (omega arith)
mend_merges c zero (n ∷ m ∷ R) h l f = simp (lt-leb c (2 * size n) h, le-leb (size n + size m) c f)
mend_merges c (suc j) (n ∷ R) h l f = ap (n ∷◌) (mend_merges c j R h (omega arith) f)

abbrev pub share_at : ℕ → List Item → Row → Row
share_at j u R = upd (suc j) (λ _. drop (keep u) u) (upd j (λ _. take (keep u) u) R)

pub mend_shares : (c j : ℕ) (R : Row) → 2 * length (items_at R j) < c → suc j < length R → c < length (items_at R j) + length (items_at R (suc j)) →
    mend c j R ≡ share_at j (items_at R j ++ items_at R (suc j)) R
unfolding heal
mend_shares c j [] h l f = refl
mend_shares c zero (n ∷ []) h l f = absurd (omega arith)
mend_shares c zero (n ∷ m ∷ R) h l f = simp (lt-leb c (2 * size n) h, lt-leb (size n + size m) c f)
mend_shares c (suc j) (n ∷ R) h l f = ap (n ∷◌) (mend_shares c j R h (omega arith) f)

-- what they leave
pub merge_line : (j : ℕ) (R : Row) → suc j < length R → 1 ≤ length (items_at R j) → line (merge_at j R) ≡ remove_at j (rekey_at (suc j) (front (items_at R j)) (line R))
merge_line j [] h k = absurd (omega arith)
merge_line zero (n ∷ []) h k = absurd (omega arith)
merge_line zero (n ∷ m ∷ R) h k = ap (λ (x : ℕ). (x, m.num) ∷ line R) (front-append n.items m.items k)
merge_line (suc j) (n ∷ R) h k = ap ((front n.items, n.num) ∷◌) (merge_line j R (omega arith) k)

pub merge_nums : (j : ℕ) (R : Row) → nums (merge_at j R) ≡ remove_at j (nums R)
merge_nums j R = nums-remove_at j (upd (suc j) (λ ys. items_at R j ++ ys) R) ∙ ap (remove_at j) (upd-nums (suc j) (λ ys. items_at R j ++ ys) R)

pub share-nums : (j : ℕ) (u : List Item) (R : Row) → nums (share_at j u R) ≡ nums R
share-nums j u R = upd-nums (suc j) (λ _. drop (keep u) u) (upd j (λ _. take (keep u) u) R) ∙ upd-nums j (λ _. take (keep u) u) R

pub share-line : (j : ℕ) (u : List Item) (R : Row) → j < length R → front (take (keep u) u) ≡ front (items_at R j) → line (share_at j u R) ≡ rekey_at (suc j) (front (drop (keep u) u)) (line R)
share-line j u [] h e = refl
share-line zero u (n ∷ []) h e = ap (λ (k : ℕ). (k, n.num) ∷ []) e
share-line zero u (n ∷ m ∷ R) h e = ap (λ (k : ℕ). (k, n.num) ∷ (front (drop (keep u) u), m.num) ∷ line R) e
share-line (suc j) u (n ∷ R) h e = ap ((front n.items, n.num) ∷◌) (share-line j u R (omega arith) e)

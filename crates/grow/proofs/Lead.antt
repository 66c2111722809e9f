-- PROOFS. The first key of a list or of a row becomes another: an inner node's words don't show it
use mathlib.Core.Path.{◌≡◌, refl, sym, ap}
use mathlib.Core.List.{List, [], ◌∷◌, ◌++◌}
use Prim.Native.Nat.{ℕ, suc, ◌≤◌}
use native.Mathlib.Omega.{arith}
use lib.ListN.{length}
use lib.Seq.{take-append_seam, drop-append_seam}
use Rattle.forest.specs.Lists.{insert_at}
use Rattle.forest.specs.Pairs.{Item}
use Rattle.forest.specs.Rows.{Row, node, size, front, nums, sizes, joined, line, rekey}
use Rattle.forest.specs.Pools.{inner_words}
use Rattle.forest.proofs.TreeLaws.{NoneEmpty}

-- the first key becomes f
abbrev pub lead : ℕ → List Item → List Item
lead f [] = []
lead f (x ∷ xs) = (f, x.1) ∷ xs

abbrev pub lead_row : ℕ → Row → Row
lead_row f [] = []
lead_row f (n ∷ R) = node n.num (lead f n.items) ∷ R

pub lead_words : (f : ℕ) (xs : List Item) → inner_words (lead f xs) ≡ inner_words xs
lead_words f [] = refl
lead_words f (x ∷ xs) = refl

pub lead_length : (f : ℕ) (xs : List Item) → length (lead f xs) ≡ length xs
lead_length f [] = refl
lead_length f (x ∷ xs) = refl

pub lead_insert : (f i : ℕ) (x : Item) (xs : List Item) → 1 ≤ length xs → lead f (insert_at (suc i) x xs) ≡ insert_at (suc i) x (lead f xs)
lead_insert f i x [] h = absurd (omega arith)
lead_insert f i x (y ∷ xs) h = refl

lead_append : (f : ℕ) (xs ys : List Item) → 1 ≤ length xs → lead f (xs ++ ys) ≡ lead f xs ++ ys
lead_append f [] ys h = absurd (omega arith)
lead_append f (x ∷ xs) ys h = refl

lead_front : (f : ℕ) (xs : List Item) → 1 ≤ length xs → front (lead f xs) ≡ f
lead_front f [] h = absurd (omega arith)
lead_front f (x ∷ xs) h = refl

pub lead_joined : (f : ℕ) (R : Row) → NoneEmpty R → joined (lead_row f R) ≡ lead f (joined R)
lead_joined f [] s = refl
lead_joined f (n ∷ R) s = sym (lead_append f n.items (joined R) s.0)

pub lead_line : (f : ℕ) (R : Row) → NoneEmpty R → line (lead_row f R) ≡ lead f (line R)
lead_line f [] s = refl
lead_line f (n ∷ R) s = ap (λ (a : ℕ). (a, n.num) ∷ line R) (lead_front f n.items s.0)

pub lead_sizes : (f : ℕ) (R : Row) → sizes (lead_row f R) ≡ sizes R
lead_sizes f [] = refl
lead_sizes f (n ∷ R) = ap (◌∷ sizes R) (lead_length f n.items)

pub lead_nums : (f : ℕ) (R : Row) → nums (lead_row f R) ≡ nums R
lead_nums f [] = refl
lead_nums f (n ∷ R) = refl

-- a row of the same sizes and numbers takes the items of S: it is S
pub rekey_like : (S T : Row) → sizes T ≡ sizes S → nums T ≡ nums S → rekey (joined S) T ≡ S
rekey_like [] [] e a = refl
rekey_like [] (m ∷ T) e a = absurd (omega (arith, ap length e))
rekey_like (n ∷ S) [] e a = absurd (omega (arith, ap length e))
rekey_like (n ∷ S) (m ∷ T) e a =
    let z : size m ≡ size n = cc in
    let y : m.num ≡ n.num = cc in
    let u : sizes T ≡ sizes S = cc in
    let w : nums T ≡ nums S = cc in
    rw (z, y, take-append_seam n.items (joined S), drop-append_seam n.items (joined S)) (ap (n ∷◌) (rekey_like S T u w))

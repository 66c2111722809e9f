-- PROOFS. One node of a row changes, or goes: the joined items, the line, the sizes, the numbers
use mathlib.Core.Path.{◌≡◌, refl, sym, ap, ◌∙◌}
use mathlib.Core.List.{List, [], ◌∷◌, ◌++◌}
use Prim.Native.Nat.{ℕ, zero, suc, ◌+◌, ◌-◌, ◌<◌}
use native.Mathlib.Omega.{arith}
use lib.ListN.{length, get_or}
use lib.Seq.{get_or-append-add}
use lib.ListN.{get_or-append}
use lib.Dec.{ltb}
use borrow.Author.Tests.{ltb-true, ltb-false}
use Rattle.forest.specs.Lists.{remove_at, sum, parent, offset}
use Rattle.forest.specs.Pairs.{Item}
use Rattle.forest.specs.Rows.{Row, size, front, nums, sizes, joined, line, items_at}
use Rattle.forest.proofs.ListLaws.{is, isnt, test, remove_at_left, remove_at_right}
pub use Rattle.node.specs.Nodes.{rekey_at}
pub use Rattle.node.proofs.Words.{rekey_at_left, rekey_at_right, length-rekey_at}
pub use Rattle.crit.specs.Paths.{upd, num_at}
pub use Rattle.pool.proofs.Held.{upd-nums}

-- an operation at a place of a list, which sees nothing but that place's part
module _ (op : ℕ → List Item → List Item)
    (left : (i : ℕ) (xs ys : List Item) → i < length xs → op i (xs ++ ys) ≡ op i xs ++ ys)
    (right : (i : ℕ) (xs ys : List Item) → op (length xs + i) (xs ++ ys) ≡ xs ++ op i ys) where
  pub op_joined : (S : Row) (i : ℕ) → i < sum (sizes S) → joined (upd (parent (sizes S) i) (op (offset (sizes S) i)) S) ≡ op i (joined S)
  op_joined [] i h = absurd (omega arith)
  op_joined (n ∷ S) i h = elim (test (ltb i (size n))) [
    | is e ↦ simp e (sym (left i n.items (joined S) (ltb-true _ _ e)))
    | isnt e ↦ simp e (
        let z = ltb-false i (size n) e in
        let q : i ≡ size n + (i - size n) = omega arith in
        ap (n.items ++◌) (op_joined S (i - size n) (omega arith)) ∙ sym (right (i - size n) n.items (joined S)) ∙ ap (λ (x : ℕ). op x (n.items ++ joined S)) (sym q))
  ]

pub cut_joined : (S : Row) (i : ℕ) → i < sum (sizes S) → joined (upd (parent (sizes S) i) (remove_at (offset (sizes S) i)) S) ≡ remove_at i (joined S)
cut_joined S i h = op_joined remove_at remove_at_left remove_at_right S i h

pub rekeyed_joined : (k : ℕ) (S : Row) (i : ℕ) → i < sum (sizes S) → joined (upd (parent (sizes S) i) (rekey_at (offset (sizes S) i) k) S) ≡ rekey_at i k (joined S)
rekeyed_joined k S i h = op_joined (λ i xs. rekey_at i k xs) (rekey_at_left k) (rekey_at_right k) S i h

-- item i of the row is item `offset` of node `parent`
pub item_at : (d : Item) (S : Row) (i : ℕ) → i < sum (sizes S) → get_or (joined S) i d ≡ get_or (items_at S (parent (sizes S) i)) (offset (sizes S) i) d
item_at d [] i h = absurd (omega arith)
item_at d (n ∷ S) i h = elim (test (ltb i (size n))) [
  | is e ↦ simp e (get_or-append n.items (joined S) d i (ltb-true _ _ e))
  | isnt e ↦ simp e (
      let z = ltb-false i (size n) e in
      let q : i ≡ size n + (i - size n) = omega arith in
      ap (λ (x : ℕ). get_or (n.items ++ joined S) x d) q ∙ get_or-append-add n.items (joined S) (i - size n) d ∙ item_at d S (i - size n) (omega arith))
]

-- what a change of one node leaves
pub upd-line : (j : ℕ) (f : List Item → List Item) (R : Row) → line (upd j f R) ≡ rekey_at j (front (f (items_at R j))) (line R)
upd-line j f [] = refl
upd-line zero f (n ∷ R) = refl
upd-line (suc j) f (n ∷ R) = ap ((front n.items, n.num) ∷◌) (upd-line j f R)

pub upd-length : (j : ℕ) (f : List Item → List Item) (R : Row) → length (upd j f R) ≡ length R
upd-length j f [] = refl
upd-length zero f (n ∷ R) = refl
upd-length (suc j) f (n ∷ R) = ap suc (upd-length j f R)

pub upd-sizes : (j : ℕ) (f : List Item → List Item) (R : Row) → length (f (items_at R j)) ≡ length (items_at R j) → sizes (upd j f R) ≡ sizes R
upd-sizes j f [] e = refl
upd-sizes zero f (n ∷ R) e = ap (◌∷ sizes R) e
upd-sizes (suc j) f (n ∷ R) e = ap (size n ∷◌) (upd-sizes j f R e)

pub upd_same : (j : ℕ) (f : List Item → List Item) (R : Row) → j < length R → items_at (upd j f R) j ≡ f (items_at R j)
upd_same j f [] h = absurd (omega arith)
upd_same zero f (n ∷ R) h = refl
upd_same (suc j) f (n ∷ R) h = upd_same j f R (omega arith)

pub upd-next : (j : ℕ) (f : List Item → List Item) (R : Row) → items_at (upd j f R) (suc j) ≡ items_at R (suc j)
upd-next j f [] = refl
upd-next zero f (n ∷ R) = refl
upd-next (suc j) f (n ∷ R) = upd-next j f R

pub upd-num_at : (i j : ℕ) (f : List Item → List Item) (R : Row) → num_at (upd j f R) i ≡ num_at R i
upd-num_at i j f [] = refl
upd-num_at zero zero f (n ∷ R) = refl
upd-num_at (suc i) zero f (n ∷ R) = refl
upd-num_at zero (suc j) f (n ∷ R) = refl
upd-num_at (suc i) (suc j) f (n ∷ R) = upd-num_at i j f R

pub line_at : (d : Item) (R : Row) (j : ℕ) → j < length R → get_or (line R) j d ≡ (front (items_at R j), num_at R j)
line_at d [] j h = absurd (omega arith)
line_at d (n ∷ R) zero h = refl
line_at d (n ∷ R) (suc j) h = line_at d R j (omega arith)

pub line-remove_at : (j : ℕ) (R : Row) → line (remove_at j R) ≡ remove_at j (line R)
line-remove_at j [] = refl
line-remove_at zero (n ∷ R) = refl
line-remove_at (suc j) (n ∷ R) = ap ((front n.items, n.num) ∷◌) (line-remove_at j R)

pub nums-remove_at : (j : ℕ) (R : Row) → nums (remove_at j R) ≡ remove_at j (nums R)
nums-remove_at j [] = refl
nums-remove_at zero (n ∷ R) = refl
nums-remove_at (suc j) (n ∷ R) = ap (n.num ∷◌) (nums-remove_at j R)

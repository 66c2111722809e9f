-- PROOFS. The node steps in the words of document 01: cut first, then put the new one into its half; and what `rekey` leaves as it was
use mathlib.Core.Path.{◌≡◌, refl, sym, ap, ◌∙◌}
use mathlib.Core.List.{List, [], ◌∷◌, ◌++◌}
use mathlib.Core.Bool.{false}
use Prim.Native.Nat.{ℕ, zero, suc, ◌+◌, ◌-◌, ◌*◌, ◌≤◌, ◌<◌, ◌/◌}
use native.Mathlib.Omega.{arith}
use lib.ListN.{length, take, drop, get_or, set, length-drop}
use lib.Seq.{take-append_seam, drop-append_seam, take-set-lt, take-set-le, drop-set-lt, drop-set-add}
use lib.Dec.{ltb}
use borrow.Author.Tests.{lt-ltb, le-ltb, ltb-true, ltb-false, le-leb, lt-leb, leb-false, ne_eqb, eq-eqb}
use Rattle.forest.specs.Lists.{insert_at, sum, parent, offset}
use Rattle.forest.specs.Pairs.{Item}
use Rattle.forest.specs.Rows.{Node, Row, node, size, sizes, joined, line, front, keeps, put_node, alone, heal, share, set_row, put_row, full, rekey, refresh, Tower}
use Rattle.forest.proofs.ListLaws.{is, isnt, test}

module _ {A : Type 0} where
  take-insert_left : (h p : ℕ) (x : A) (xs : List A) → p ≤ h → take (suc h) (insert_at p x xs) ≡ insert_at p x (take h xs)
  take-insert_left h zero x xs a = refl
  take-insert_left zero (suc p) x xs a = absurd (omega arith)
  take-insert_left (suc h) (suc p) x [] a = refl
  take-insert_left (suc h) (suc p) x (y ∷ xs) a = ap (y ∷◌) (take-insert_left h p x xs (omega arith))

  drop-insert_left : (h p : ℕ) (x : A) (xs : List A) → p ≤ h → p ≤ length xs → drop (suc h) (insert_at p x xs) ≡ drop h xs
  drop-insert_left h zero x xs a b = refl
  drop-insert_left zero (suc p) x xs a b = absurd (omega arith)
  drop-insert_left (suc h) (suc p) x [] a b = absurd (omega arith)
  drop-insert_left (suc h) (suc p) x (y ∷ xs) a b = drop-insert_left h p x xs (omega arith) (omega arith)

  take-insert_right : (h p : ℕ) (x : A) (xs : List A) → h ≤ p → p ≤ length xs → take h (insert_at p x xs) ≡ take h xs
  take-insert_right zero p x xs a b = refl
  take-insert_right (suc h) zero x xs a b = absurd (omega arith)
  take-insert_right (suc h) (suc p) x [] a b = absurd (omega arith)
  take-insert_right (suc h) (suc p) x (y ∷ xs) a b = ap (y ∷◌) (take-insert_right h p x xs (omega arith) (omega arith))

  drop-insert_right : (h p : ℕ) (x : A) (xs : List A) → h ≤ p → p ≤ length xs → drop h (insert_at p x xs) ≡ insert_at (p - h) x (drop h xs)
  drop-insert_right zero p x xs a b = let z : p - 0 ≡ p = omega arith in rw z
  drop-insert_right (suc h) zero x xs a b = absurd (omega arith)
  drop-insert_right (suc h) (suc p) x [] a b = absurd (omega arith)
  drop-insert_right (suc h) (suc p) x (y ∷ xs) a b = let z : suc p - suc h ≡ p - h = omega arith in rw z (drop-insert_right h p x xs (omega arith) (omega arith))

-- a node with room takes the item
pub put-room : (c p : ℕ) (x : Item) (new : ℕ) (n : Node) → size n < c → put_node c p x new n ≡ node n.num (insert_at p x n.items) ∷ []
unfolding put_node
put-room c p x new n h = simp (lt-ltb (size n) c h)

-- a full node is cut at half rounded down, and the item goes left
pub cut_left : (c p : ℕ) (x : Item) (new : ℕ) (n : Node) → c ≤ size n → p ≤ c / 2 →
    put_node c p x new n ≡ node n.num (insert_at p x (take (c / 2) n.items)) ∷ node new (drop (c / 2) n.items) ∷ []
unfolding put_node keeps
cut_left c p x new n h a =
    simp (le-ltb (size n) c h, le-leb p (c / 2) a, take-insert_left (c / 2) p x n.items a, drop-insert_left (c / 2) p x n.items a (omega arith))

-- or at half rounded up, and the item goes right
pub cut_right : (c p : ℕ) (x : Item) (new : ℕ) (n : Node) → c ≤ size n → c / 2 < p → p ≤ size n →
    put_node c p x new n ≡ node n.num (take (suc c / 2) n.items) ∷ node new (insert_at (p - suc c / 2) x (drop (suc c / 2) n.items)) ∷ []
unfolding put_node keeps
cut_right c p x new n h a b =
    simp (le-ltb (size n) c h, lt-leb p (c / 2) a, take-insert_right (suc c / 2) p x n.items (omega arith) b, drop-insert_right (suc c / 2) p x n.items (omega arith) b)

-- the four ways of a removal
pub heal-healthy : (c : ℕ) (n m : Node) → c ≤ 2 * size n → heal c n m ≡ n ∷ m ∷ []
unfolding heal
heal-healthy c n m h = simp (le-leb c (2 * size n) h)

pub heal_merge : (c : ℕ) (n m : Node) → 2 * size n < c → size n + size m ≤ c → heal c n m ≡ node m.num (n.items ++ m.items) ∷ []
unfolding heal
heal_merge c n m h k = simp (lt-leb c (2 * size n) h, le-leb (size n + size m) c k)

pub heal-share : (c : ℕ) (n m : Node) → 2 * size n < c → c < size n + size m → heal c n m ≡ share n.num m.num (n.items ++ m.items)
unfolding heal
heal-share c n m h k = simp (lt-leb c (2 * size n) h, lt-leb (size n + size m) c k)

pub alone_empty : (n : Node) → size n ≡ 0 → alone n ≡ []
unfolding alone
alone_empty n h = simp (eq-eqb (size n) 0 h)

pub alone_some : (n : Node) → 1 ≤ size n → alone n ≡ n ∷ []
unfolding alone
alone_some n h = simp (ne_eqb (size n) 0 (omega arith))

-- a row that is up to date stays
pub rekey_same : (S : Row) → rekey (joined S) S ≡ S
rekey_same [] = refl
rekey_same (n ∷ S) = rw (take-append_seam n.items (joined S), drop-append_seam n.items (joined S)) (ap (n ∷◌) (rekey_same S))

pub refresh_same : (R : Row) (Rs : List Row) → Tower R Rs → refresh R Rs ≡ Rs
refresh_same R [] w = refl
refresh_same R (S ∷ Ss) w =
    let e : rekey (line R) S ≡ S = ap (λ (xs : List Item). rekey xs S) (sym w.1) ∙ rekey_same S in
    rw e (ap (S ∷◌) (refresh_same S Ss w.3))

-- a key that changes at position i changes in one node: the parent of i
pub rekey-set : (xs : List Item) (S : Row) (i : ℕ) (x : Item) → i < sum (sizes S) → sum (sizes S) ≡ length xs →
    rekey (set xs i x) S ≡ set_row (parent (sizes S) i) (offset (sizes S) i) x (rekey xs S)
rekey-set xs [] i x h e = refl
rekey-set xs (n ∷ S) i x h e = elim (test (ltb i (size n))) [
  | is c ↦ simp (c, take-set-lt (size n) xs i x (ltb-true _ _ c), drop-set-lt (size n) xs i x (ltb-true _ _ c))
  | isnt c ↦
      let z : size n ≤ i = ltb-false _ _ c in
      let q : i ≡ size n + (i - size n) = omega arith in
      let u : drop (size n) (set xs i x) ≡ set (drop (size n) xs) (i - size n) x = ap (λ (j : ℕ). drop (size n) (set xs j x)) q ∙ drop-set-add (size n) xs (i - size n) x in
      simp (c, take-set-le (size n) xs i x z, u, rekey-set (drop (size n) xs) S (i - size n) x (omega arith) (rw length-drop (omega arith)))
]

-- an item put into a node with room, not in front: the line stays, and so the rows above
pub front-put : (p : ℕ) (x : Item) (xs : List Item) → 1 ≤ p → 1 ≤ length xs → front (insert_at p x xs) ≡ front xs
front-put zero x xs h k = absurd (omega arith)
front-put (suc p) x [] h k = absurd (omega arith)
front-put (suc p) x (y ∷ xs) h k = refl

pub put-line : (c j p : ℕ) (x : Item) (new : ℕ) (R : Row) → full c j R ≡ false → 1 ≤ p → p ≤ get_or (sizes R) j 0 → line (put_row c j p x new R) ≡ line R
put-line c j p x new [] f h k = refl
put-line c zero p x new (n ∷ R) f h k = rw (put-room c p x new n (leb-false _ _ f)) (ap (λ (a : ℕ). (a, n.num) ∷ line R) (front-put p x n.items h (omega arith)))
put-line c (suc j) p x new (n ∷ R) f h k = ap ((front n.items, n.num) ∷◌) (put-line c j p x new R f h k)

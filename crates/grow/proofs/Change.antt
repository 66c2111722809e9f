-- PROOFS. A put changes one node of a row and may add one to its right
use mathlib.Core.Path.{◌≡◌, refl, sym, ap, ◌∙◌}
use mathlib.Core.List.{List, [], ◌∷◌, ◌++◌}
use mathlib.Core.Bool.{true, false}
use Prim.Native.Nat.{ℕ, zero, suc, ◌≤◌, ◌<◌}
use native.Mathlib.Omega.{arith}
use lib.ListN.{length, length-take, length-drop}
use Rattle.forest.proofs.ListLaws.{is, isnt, test, length-insert_at, map-append}
use lib.Dec.{ltb}
use borrow.Author.Tests.{lt-ltb, le-ltb, leb-true, leb-false}
use Rattle.forest.specs.Lists.{insert_at}
use Rattle.forest.specs.Pairs.{Item}
use Rattle.grow.specs.Grows.{left_part, right_part}
use Rattle.forest.specs.Rows.{Node, Row, node, size, front, sizes, line, items_at, put_node, put_row, full}
pub use Rattle.pool.specs.Stores.{upd}
pub use Rattle.pool.proofs.Held.{upd-nums, line_same}
pub use Rattle.forest.proofs.Descent.{front-take}
use Rattle.forest.proofs.NodeForms.{front-put}

pub put_with_room : (c j p : ℕ) (x : Item) (new : ℕ) (R : Row) → full c j R ≡ false → put_row c j p x new R ≡ upd j (insert_at p x) R
unfolding put_node
put_with_room c j p x new [] e = refl
put_with_room c zero p x new (n ∷ R) e = simp (lt-ltb (size n) c (leb-false _ _ e))
put_with_room c (suc j) p x new (n ∷ R) e = ap (n ∷◌) (put_with_room c j p x new R e)

pub put_cuts : (c j p : ℕ) (x : Item) (new : ℕ) (R : Row) → j < length R → full c j R ≡ true →
    put_row c j p x new R ≡ insert_at (suc j) (node new (right_part c p x (items_at R j))) (upd j (left_part c p x) R)
unfolding put_node
put_cuts c j p x new [] h e = absurd (omega arith)
put_cuts c zero p x new (n ∷ R) h e = simp (le-ltb (size n) c (leb-true _ _ e))
put_cuts c (suc j) p x new (n ∷ R) h e = ap (n ∷◌) (put_cuts c j p x new R (omega arith) e)

-- the line
pub line-insert : (i : ℕ) (n : Node) (R : Row) → line (insert_at i n R) ≡ insert_at i (front n.items, n.num) (line R)
line-insert zero n R = refl
line-insert (suc i) n [] = refl
line-insert (suc i) n (m ∷ R) = ap ((front m.items, m.num) ∷◌) (line-insert i n R)

-- the first key of a node that takes x behind its first item stays
pub front-insert : (p : ℕ) (x : Item) (ys : List Item) → 1 ≤ length ys → front (insert_at (suc p) x ys) ≡ front ys
front-insert p x ys h = front-put (suc p) x ys (omega arith) h

-- the sizes don't depend on the item
node-sizes : (c p : ℕ) (x y : Item) (new : ℕ) (n : Node) → sizes (put_node c p x new n) ≡ sizes (put_node c p y new n)
unfolding put_node
node-sizes c p x y new n =
    let z : length (insert_at p x n.items) ≡ length (insert_at p y n.items) = length-insert_at p x n.items ∙ sym (length-insert_at p y n.items) in
    elim (test (ltb (size n) c)) [
      | is q ↦ simp q (ap (◌∷ []) z)
      | isnt q ↦ simp (q, length-take, length-drop, z)
    ]

pub put-sizes : (c j p : ℕ) (x y : Item) (new : ℕ) (R : Row) → sizes (put_row c j p x new R) ≡ sizes (put_row c j p y new R)
put-sizes c j p x y new [] = refl
put-sizes c zero p x y new (n ∷ R) = map-append size (put_node c p x new n) R ∙ ap (◌++ sizes R) (node-sizes c p x y new n) ∙ sym (map-append size (put_node c p y new n) R)
put-sizes c (suc j) p x y new (n ∷ R) = ap (size n ∷◌) (put-sizes c j p x y new R)

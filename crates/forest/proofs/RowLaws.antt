-- PROOFS. Rows: what the steps do to the joined items, the sizes and the numbers, over any capacity c and minimum lo
use mathlib.Core.Path.{◌≡◌, refl, sym, ap}
use mathlib.Core.List.{List, [], ◌∷◌, ◌++◌, append_assoc, append-nil}
use mathlib.Core.Bool.{true, false}
use Prim.Native.Nat.{ℕ, zero, suc, ◌+◌, ◌-◌, ◌*◌, ◌≤◌, ◌<◌, ◌/◌}
use native.Mathlib.Omega.{arith}
use lib.ListN.{length, take, drop, get_or, set, length-append, length-map, length-take, length-drop, take-append-drop, length-set}
use lib.Dec.{ltb, eqb, leb}
use borrow.Author.Tests.{lt-ltb, le-ltb, eqb-true, leb-true, leb-false}
use Rattle.forest.specs.Lists.{insert_at, remove_at, sum, parent, offset}
use Rattle.forest.specs.Pairs.{Item}
use Rattle.forest.specs.Rows.{Node, Row, size, front, nums, sizes, joined, line, items_at, least, Fill, keeps, put_node, alone, healthy, heal, without, put_row, set_row, drop_row, full, rekey}
use Rattle.forest.proofs.ListLaws

pub joined-append : (R S : Row) → joined (R ++ S) ≡ joined R ++ joined S
joined-append [] S = refl
joined-append (n ∷ R) S = rw (joined-append R S, append_assoc)

pub sum-sizes : (R : Row) → sum (sizes R) ≡ length (joined R)
sum-sizes [] = refl
sum-sizes (n ∷ R) = rw length-append (omega (arith, sum-sizes R))

pub length-line : (R : Row) → length (line R) ≡ length R
length-line [] = refl
length-line (n ∷ R) = ap suc (length-line R)

pub length-items : (R : Row) (j : ℕ) → length (items_at R j) ≡ get_or (sizes R) j 0
length-items [] j = refl
length-items (n ∷ R) zero = refl
length-items (n ∷ R) (suc j) = length-items R j

-- item i of a row: its node, and its place in that node
pub parent_there : (S : Row) (i : ℕ) → i < sum (sizes S) → parent (sizes S) i < length S
parent_there S i h = rw (length-map S size) at (ListLaws.parent_lt (sizes S) i h)

pub offset_there : (S : Row) (i : ℕ) → i < sum (sizes S) → offset (sizes S) i < length (items_at S (parent (sizes S) i))
offset_there S i h = rw (length-items S (parent (sizes S) i)) (ListLaws.offset_lt (sizes S) i h)

pub fill_at : (lo hi : ℕ) (xs : List ℕ) (i : ℕ) → Fill lo hi xs → get_or xs i 0 ≤ hi
fill_at lo hi [] i s = omega arith
fill_at lo hi (x ∷ xs) zero s = s.1
fill_at lo hi (x ∷ xs) (suc i) s = fill_at lo hi xs i s.2

-- an item more
module _ (c : ℕ) where
  pub put_node-joined : (p : ℕ) (x : Item) (new : ℕ) (n : Node) → joined (put_node c p x new n) ≡ insert_at p x n.items
  unfolding put_node
  put_node-joined p x new n = elim (ListLaws.test (ltb (size n) c)) [
    | ListLaws.is e ↦ simp (e, append-nil)
    | ListLaws.isnt e ↦ simp (e, append-nil, take-append-drop)
  ]

  pub put_row-joined : (j p : ℕ) (x : Item) (new : ℕ) (R : Row) → j < length R → p ≤ get_or (sizes R) j 0 →
      joined (put_row c j p x new R) ≡ insert_at (sum (take j (sizes R)) + p) x (joined R)
  put_row-joined j p x new [] h q = absurd (omega arith)
  put_row-joined zero p x new (n ∷ R) h q =
      let z : 0 + p ≡ p = omega arith in
      rw (joined-append, put_node-joined p x new n, z) (sym (ListLaws.insert_at_left p x n.items (joined R) q))
  put_row-joined (suc j) p x new (n ∷ R) h q =
      let z : size n + sum (take j (sizes R)) + p ≡ size n + (sum (take j (sizes R)) + p) = omega arith in
      rw (z, ListLaws.insert_at_right (sum (take j (sizes R)) + p) x n.items (joined R), put_row-joined j p x new R (omega arith) q)

  pub put_row-room : (j p : ℕ) (x : Item) (new : ℕ) (R : Row) → full c j R ≡ false → nums (put_row c j p x new R) ≡ nums R
  unfolding put_node
  put_row-room j p x new [] e = refl
  put_row-room zero p x new (n ∷ R) e = simp (lt-ltb (size n) c (leb-false _ _ e))
  put_row-room (suc j) p x new (n ∷ R) e = ap (n.num ∷◌) (put_row-room j p x new R e)

  pub put_row-full : (j p : ℕ) (x : Item) (new : ℕ) (R : Row) → j < length R → full c j R ≡ true → nums (put_row c j p x new R) ≡ insert_at (suc j) new (nums R)
  unfolding put_node
  put_row-full j p x new [] h e = absurd (omega arith)
  put_row-full zero p x new (n ∷ R) h e = simp (le-ltb (size n) c (leb-true _ _ e))
  put_row-full (suc j) p x new (n ∷ R) h e = ap (n.num ∷◌) (put_row-full j p x new R (omega arith) e)

  pub put_row-least : (lo j p : ℕ) (x : Item) (new : ℕ) (R : Row) → least lo (sizes (put_row c j p x new R)) ≡ least lo (sizes R)
  unfolding put_node
  put_row-least lo j p x new [] = refl
  put_row-least lo zero p x new (n ∷ R) = elim (ListLaws.test (ltb (size n) c)) [ ListLaws.is e ↦ simp e | ListLaws.isnt e ↦ simp e ]
  put_row-least lo (suc j) p x new (n ∷ R) = refl

  -- the parts of a node that is cut
  pub keeps-fits : (lo p : ℕ) → 2 ≤ c → 2 * lo ≤ suc c → (lo ≤ keeps c p) × (keeps c p ≤ c) × (lo ≤ suc c - keeps c p) × (suc c - keeps c p ≤ c)
  unfolding keeps
  keeps-fits lo p h g = elim (ListLaws.test (leb p (c / 2))) [ ListLaws.is e ↦ simp e (omega arith) | ListLaws.isnt e ↦ simp e (omega arith) ]

  pub put_row_fill : (lo j p : ℕ) (x : Item) (new : ℕ) (R : Row) → 1 ≤ lo → 2 ≤ c → 2 * lo ≤ suc c → Fill lo c (sizes R) → Fill lo c (sizes (put_row c j p x new R))
  unfolding put_node
  put_row_fill lo j p x new [] a b d f = tt
  put_row_fill lo zero p x new (n ∷ R) a b d f = elim (ListLaws.test (ltb (size n) c)) [
    | ListLaws.is e ↦ simp (e, ListLaws.length-insert_at) (omega arith, omega ListLaws.tests, f.2)
    | ListLaws.isnt e ↦
        let z = keeps-fits lo p b d in
        let s : size n ≡ c = omega ListLaws.tests in
        let l : least lo (sizes R) ≤ lo = low (sizes R) in
        simp (e, length-take, length-drop, ListLaws.length-insert_at)
        (omega arith, omega arith, (omega arith, omega arith, f.2))
  ]
    where
      low : (xs : List ℕ) → least lo xs ≤ lo
      low [] = a
      low (y ∷ xs) = omega arith
  put_row_fill lo (suc j) p x new (n ∷ R) a b d f = (rw (put_row-least lo j p x new R) f.0, f.1, put_row_fill lo j p x new R a b d f.2)

-- an item replaced
pub set_row-joined : (j p : ℕ) (x : Item) (R : Row) → j < length R → p < get_or (sizes R) j 0 → joined (set_row j p x R) ≡ set (joined R) (sum (take j (sizes R)) + p) x
set_row-joined j p x [] h q = absurd (omega arith)
set_row-joined zero p x (n ∷ R) h q =
    let z : 0 + p ≡ p = omega arith in
    rw z (sym (ListLaws.set_left p x n.items (joined R) q))
set_row-joined (suc j) p x (n ∷ R) h q =
    let z : size n + sum (take j (sizes R)) + p ≡ size n + (sum (take j (sizes R)) + p) = omega arith in
    rw (z, ListLaws.set_right (sum (take j (sizes R)) + p) x n.items (joined R), set_row-joined j p x R (omega arith) q)

pub set_row-sizes : (j p : ℕ) (x : Item) (R : Row) → sizes (set_row j p x R) ≡ sizes R
set_row-sizes j p x [] = refl
set_row-sizes zero p x (n ∷ R) = ap (◌∷ sizes R) (length-set n.items p x)
set_row-sizes (suc j) p x (n ∷ R) = ap (size n ∷◌) (set_row-sizes j p x R)

pub set_row-nums : (j p : ℕ) (x : Item) (R : Row) → nums (set_row j p x R) ≡ nums R
set_row-nums j p x [] = refl
set_row-nums zero p x (n ∷ R) = refl
set_row-nums (suc j) p x (n ∷ R) = ap (n.num ∷◌) (set_row-nums j p x R)

pub set_row-length : (j p : ℕ) (x : Item) (R : Row) → length (set_row j p x R) ≡ length R
set_row-length j p x [] = refl
set_row-length zero p x (n ∷ R) = refl
set_row-length (suc j) p x (n ∷ R) = ap suc (set_row-length j p x R)

-- the line stays where the key does
pub set_row-line : (j p : ℕ) (x : Item) (R : Row) → x.0 ≡ (get_or (items_at R j) p x).0 → line (set_row j p x R) ≡ line R
set_row-line j p x [] e = refl
set_row-line zero p x (n ∷ R) e = ap (λ (k : ℕ). (k, n.num) ∷ line R) (keeps-front p n.items e)
  where
    keeps-front : (p : ℕ) (xs : List Item) → x.0 ≡ (get_or xs p x).0 → front (set xs p x) ≡ front xs
    keeps-front p [] e = refl
    keeps-front zero (y ∷ xs) e = e
    keeps-front (suc p) (y ∷ xs) e = refl
set_row-line (suc j) p x (n ∷ R) e = ap ((front n.items, n.num) ∷◌) (set_row-line j p x R e)

-- an item less
empty : (xs : List Item) → length xs ≡ 0 → xs ≡ []
empty [] q = refl
empty (x ∷ xs) q = absurd (omega arith)

pub alone-joined : (n : Node) → joined (alone n) ≡ n.items
unfolding alone
alone-joined n = elim (ListLaws.test (eqb (size n) 0)) [
  | ListLaws.is e ↦ simp e (sym (empty n.items (eqb-true _ _ e)))
  | ListLaws.isnt e ↦ simp (e, append-nil)
]

module _ (c : ℕ) where
  pub heal-joined : (n m : Node) → joined (heal c n m) ≡ n.items ++ m.items
  unfolding heal
  heal-joined n m = elim (ListLaws.test (healthy c n)) [
    | ListLaws.is e ↦ simp (e, append-nil)
    | ListLaws.isnt e ↦ elim (ListLaws.test (leb (size n + size m) c)) [
      | ListLaws.is f ↦ simp (e, f, append-nil)
      | ListLaws.isnt f ↦ simp (e, f, append-nil, take-append-drop)
    ]
  ]

  pub drop_row_joined : (j p : ℕ) (R : Row) → j < length R → p < get_or (sizes R) j 0 → joined (drop_row c j p R) ≡ remove_at (sum (take j (sizes R)) + p) (joined R)
  drop_row_joined j p [] h q = absurd (omega arith)
  drop_row_joined zero p (n ∷ []) h q =
      let z : 0 + p ≡ p = omega arith in
      rw (z, append-nil, alone-joined)
  drop_row_joined zero p (n ∷ m ∷ R) h q =
      let z : 0 + p ≡ p = omega arith in
      rw (z, joined-append, heal-joined (without p n) m, append_assoc) (sym (ListLaws.remove_at_left p n.items (m.items ++ joined R) q))
  drop_row_joined (suc j) p (n ∷ R) h q =
      let z : size n + sum (take j (sizes R)) + p ≡ size n + (sum (take j (sizes R)) + p) = omega arith in
      rw (z, ListLaws.remove_at_right (sum (take j (sizes R)) + p) n.items (joined R), drop_row_joined j p R (omega arith) q)

  -- the numbers: as they were, or without the j-th
  pub drop_row_kept : (j p : ℕ) (R : Row) → length R ≤ length (drop_row c j p R) → nums (drop_row c j p R) ≡ nums R
  unfolding alone heal
  drop_row_kept j p [] h = refl
  drop_row_kept zero p (n ∷ []) h = elim (ListLaws.test (eqb (size (without p n)) 0)) [
    | ListLaws.is e ↦ absurd (let z = simp e at h in omega arith)
    | ListLaws.isnt e ↦ simp e
  ]
  drop_row_kept zero p (n ∷ m ∷ R) h = elim (ListLaws.test (healthy c (without p n))) [
    | ListLaws.is e ↦ simp e
    | ListLaws.isnt e ↦ elim (ListLaws.test (leb (size (without p n) + size m) c)) [
      | ListLaws.is f ↦ absurd (let z = simp (e, f) at h in omega arith)
      | ListLaws.isnt f ↦ simp (e, f)
    ]
  ]
  drop_row_kept (suc j) p (n ∷ R) h = ap (n.num ∷◌) (drop_row_kept j p R (omega arith))

  pub drop_row_lost : (j p : ℕ) (R : Row) → length (drop_row c j p R) < length R → nums (drop_row c j p R) ≡ remove_at j (nums R)
  unfolding alone heal
  drop_row_lost j p [] h = refl
  drop_row_lost zero p (n ∷ []) h = elim (ListLaws.test (eqb (size (without p n)) 0)) [
    | ListLaws.is e ↦ simp e
    | ListLaws.isnt e ↦ absurd (let z = simp e at h in omega arith)
  ]
  drop_row_lost zero p (n ∷ m ∷ R) h = elim (ListLaws.test (healthy c (without p n))) [
    | ListLaws.is e ↦ absurd (let z = simp e at h in omega arith)
    | ListLaws.isnt e ↦ elim (ListLaws.test (leb (size (without p n) + size m) c)) [
      | ListLaws.is f ↦ simp (e, f)
      | ListLaws.isnt f ↦ absurd (let z = simp (e, f) at h in omega arith)
    ]
  ]
  drop_row_lost (suc j) p (n ∷ R) h = ap (n.num ∷◌) (drop_row_lost j p R (omega arith))

  pub drop_row_length : (j p : ℕ) (R : Row) → (length (drop_row c j p R) ≤ length R) × (length R ≤ suc (length (drop_row c j p R)))
  unfolding alone heal
  drop_row_length j p [] = omega arith
  drop_row_length zero p (n ∷ []) = elim (ListLaws.test (eqb (size (without p n)) 0)) [ ListLaws.is e ↦ simp e (omega arith) | ListLaws.isnt e ↦ simp e (omega arith) ]
  drop_row_length zero p (n ∷ m ∷ R) = elim (ListLaws.test (healthy c (without p n))) [
    | ListLaws.is e ↦ simp e (omega arith)
    | ListLaws.isnt e ↦ elim (ListLaws.test (leb (size (without p n) + size m) c)) [ ListLaws.is f ↦ simp (e, f) (omega arith) | ListLaws.isnt f ↦ simp (e, f) (omega arith) ]
  ]
  drop_row_length (suc j) p (n ∷ R) = omega (arith, drop_row_length j p R)

  module _ (lo : ℕ) (a : 1 ≤ lo) (b : 2 * lo ≤ suc c) where
    low : (xs : List ℕ) → least lo xs ≤ lo
    low [] = a
    low (y ∷ xs) = omega arith

    one : (xs : List ℕ) → 1 ≤ least lo xs
    one [] = omega arith
    one (y ∷ xs) = a

    drop_row_least : (j p : ℕ) (R : Row) → least lo (sizes (drop_row c j p R)) ≤ least lo (sizes R)
    unfolding alone heal
    drop_row_least j p [] = omega arith
    drop_row_least zero p (n ∷ []) = elim (ListLaws.test (eqb (size (without p n)) 0)) [ ListLaws.is e ↦ simp e (omega arith) | ListLaws.isnt e ↦ simp e (omega arith) ]
    drop_row_least zero p (n ∷ m ∷ R) = elim (ListLaws.test (healthy c (without p n))) [
      | ListLaws.is e ↦ simp e (omega arith)
      | ListLaws.isnt e ↦ elim (ListLaws.test (leb (size (without p n) + size m) c)) [ ListLaws.is f ↦ simp (e, f) (omega arith) | ListLaws.isnt f ↦ simp (e, f) (omega arith) ]
    ]
    drop_row_least (suc j) p (n ∷ R) = omega arith

    heal-fill : (n m : Node) (s : ℕ) (xs : List ℕ) → suc (size n) ≡ s → Fill lo c (s ∷ size m ∷ xs) → Fill lo c (sizes (heal c n m) ++ xs)
    unfolding heal
    heal-fill n m s xs h f = elim (ListLaws.test (healthy c n)) [
      | ListLaws.is e ↦ simp e (omega ListLaws.tests, omega ListLaws.tests, f.2)
      | ListLaws.isnt e ↦ elim (ListLaws.test (leb (size n + size m) c)) [
        | ListLaws.is g ↦ simp (e, g, length-append) (omega (ListLaws.tests, low xs, one xs), omega ListLaws.tests, f.2.2)
        | ListLaws.isnt g ↦ simp (e, g, length-take, length-drop, length-append)
            (omega ListLaws.tests, omega ListLaws.tests, (omega (ListLaws.tests, low xs), omega ListLaws.tests, f.2.2))
      ]
    ]

    pub drop_row_fill : (j p : ℕ) (R : Row) → p < get_or (sizes R) j 0 → Fill lo c (sizes R) → Fill lo c (sizes (drop_row c j p R))
    unfolding alone
    drop_row_fill j p [] q f = tt
    drop_row_fill zero p (n ∷ []) q f =
        let z = ListLaws.length-remove_at p n.items q in
        elim (ListLaws.test (eqb (size (without p n)) 0)) [
          | ListLaws.is e ↦ simp e tt
          | ListLaws.isnt e ↦ simp e (omega ListLaws.tests, omega arith, tt)
        ]
    drop_row_fill zero p (n ∷ m ∷ R) q f =
        rw (ListLaws.map-append size (heal c (without p n) m) R)
        (heal-fill (without p n) m (size n) (sizes R) (ListLaws.length-remove_at p n.items q) f)
    drop_row_fill (suc j) p (n ∷ R) q f = (omega (arith, drop_row_least j p R), f.1, drop_row_fill j p R q f.2)

-- bringing a row up to date
pub rekey-nums : (xs : List Item) (R : Row) → nums (rekey xs R) ≡ nums R
rekey-nums xs [] = refl
rekey-nums xs (n ∷ R) = ap (n.num ∷◌) (rekey-nums (drop (size n) xs) R)

pub rekey-sizes : (xs : List Item) (R : Row) → sum (sizes R) ≡ length xs → sizes (rekey xs R) ≡ sizes R
rekey-sizes xs [] h = refl
rekey-sizes xs (n ∷ R) h =
    let z : length (take (size n) xs) ≡ size n = rw length-take (omega arith) in
    rw (z, rekey-sizes (drop (size n) xs) R (rw length-drop (omega arith)))

pub rekey-joined : (xs : List Item) (R : Row) → sum (sizes R) ≡ length xs → joined (rekey xs R) ≡ xs
rekey-joined [] [] h = refl
rekey-joined (x ∷ xs) [] h = absurd (omega arith)
rekey-joined xs (n ∷ R) h = rw (rekey-joined (drop (size n) xs) R (rw length-drop (omega arith))) (take-append-drop (size n) xs)

pub rekey-length : (xs : List Item) (R : Row) → length (rekey xs R) ≡ length R
rekey-length xs [] = refl
rekey-length xs (n ∷ R) = ap suc (rekey-length (drop (size n) xs) R)

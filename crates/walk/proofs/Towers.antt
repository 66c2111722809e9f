-- PROOFS. Subtrees are rows: what holds of the one holds of the other
use mathlib.Core.Path.{◌≡◌, refl, sym, ap, ◌∙◌}
use mathlib.Core.List.{List, [], ◌∷◌, ◌++◌, append_assoc, append-nil, map}
use mathlib.Core.Bool.{Bool, true, false}
use Prim.Native.Nat.{ℕ, zero, suc, ◌+◌, ◌≤◌}
use native.Mathlib.Omega.{arith}
use lib.ListN.{length, length-append, length-map, take, drop, take-append-drop}
use lib.Seq.{take-append_seam, drop-append_seam}
use Rattle.forest.specs.Lists.{total}
use Rattle.forest.specs.Pairs.{Rising}
use Rattle.forest.specs.Rows.{Node, Row, Tree, line, joined, nums, size, sizes, least, Fill, Tower, Good}
use Rattle.forest.specs.Trees.{pairs, numbers}
use Rattle.forest.specs.Pools.{leaf_words, inner_words, root, root_above}
use Rattle.forest.proofs.ListLaws.{map-append, map-take, map-drop, total-append}
use Rattle.walk.proofs.Subtree
use Rattle.walk.specs.Walks
use Rattle.walk.proofs.WalkLaws.{lower_some}
use Rattle.forest.proofs.RowLaws.{length-line}

line-append : (R S : Row) → line (R ++ S) ≡ line R ++ line S
line-append [] S = refl
line-append (n ∷ R) S = rw (line-append R S)

module _ {A B C : Type 0} (f : B → List C) (g : A → List B) where
  flat_append : (xs ys : List B) → Subtree.flat f (xs ++ ys) ≡ Subtree.flat f xs ++ Subtree.flat f ys
  flat_append [] ys = refl
  flat_append (x ∷ xs) ys = rw (flat_append xs ys, append_assoc)

  pub flat_flat : (xs : List A) → Subtree.flat f (Subtree.flat g xs) ≡ Subtree.flat (λ x. Subtree.flat f (g x)) xs
  flat_flat [] = refl
  flat_flat (x ∷ xs) = rw (flat_append, flat_flat xs)

module _ {A : Type 0} (P : Bool → A → Type 0) where
  flagged_join : (e : Bool) (xs ys : List A) → Subtree.Flagged P false xs → Subtree.Flagged P e ys → 1 ≤ length ys → Subtree.Flagged P e (xs ++ ys)
  flagged_join e [] ys f g h = g
  flagged_join e (x ∷ []) [] f g h = absurd (omega arith)
  flagged_join e (x ∷ []) (y ∷ ys) f g h = (f.0, g)
  flagged_join e (x ∷ w ∷ xs) ys f g h = (f.0, flagged_join e (w ∷ xs) ys f.1 g h)

  flagged_left : (e : Bool) (xs ys : List A) → 1 ≤ length ys → Subtree.Flagged P e (xs ++ ys) → Subtree.Flagged P false xs
  flagged_left e [] ys h f = tt
  flagged_left e (x ∷ []) [] h f = absurd (omega arith)
  flagged_left e (x ∷ []) (y ∷ ys) h f = (f.0, tt)
  flagged_left e (x ∷ w ∷ xs) ys h f = (f.0, flagged_left e (w ∷ xs) ys h f.1)

  flagged_right : (e : Bool) (xs ys : List A) → Subtree.Flagged P e (xs ++ ys) → Subtree.Flagged P e ys
  flagged_right e [] ys f = f
  flagged_right e (x ∷ xs) ys f = flagged_right e xs ys f.1

module _ {A : Type 0} (P : A → Type 0) where
  pub each_join : (xs ys : List A) → Subtree.Each P xs → Subtree.Each P ys → Subtree.Each P (xs ++ ys)
  each_join [] ys f g = g
  each_join (x ∷ xs) ys f g = (f.0, each_join xs ys f.1 g)

  pub each_left : (xs ys : List A) → Subtree.Each P (xs ++ ys) → Subtree.Each P xs
  each_left [] ys f = tt
  each_left (x ∷ xs) ys f = (f.0, each_left xs ys f.1)

  pub each_right : (xs ys : List A) → Subtree.Each P (xs ++ ys) → Subtree.Each P ys
  each_right [] ys f = f
  each_right (x ∷ xs) ys f = each_right xs ys f.1

abbrev pub tops : (h : ℕ) → List (Subtree.Sub h) → Row
tops h ts = map (Subtree.crown h) ts

-- the items of a row are the line of the row below
pub joined_tops : (h : ℕ) (ts : List (Subtree.Sub (suc h))) → joined (tops (suc h) ts) ≡ line (tops h (Subtree.below h ts))
joined_tops h [] = refl
joined_tops h (t ∷ ts) = rw (joined_tops h ts, map-append, line-append)

pub size_crown : (h : ℕ) (t : Subtree.Sub (suc h)) → size (Subtree.crown (suc h) t) ≡ length t.1
size_crown h t = length-line (tops h t.1) ∙ length-map t.1 (Subtree.crown h)

least-lower : (lo : ℕ) {A B : Type 0} (f : A → B) (g : B → ℕ) (ts : List A) → least lo (map g (map f ts)) ≡ Walks.lower (Walks.lastly true ts) lo
least-lower lo f g [] = refl
least-lower lo f g (t ∷ ts) = refl

below_longer : (m c h : ℕ) (e : Bool) (ts : List (Subtree.Sub (suc h))) → Subtree.Flagged (Subtree.Filled m c (suc h)) e ts → length ts ≤ length (Subtree.below h ts)
below_longer m c h e [] f = omega arith
below_longer m c h e (t ∷ ts) f = rw length-append (omega (arith, lower_some (Walks.lastly e ts) 4 (omega arith), f.0, below_longer m c h e ts f.1))

-- fill, downward
below_flagged : (m c h : ℕ) (e : Bool) (ts : List (Subtree.Sub (suc h))) → Subtree.Flagged (Subtree.Filled m c (suc h)) e ts → Subtree.Flagged (Subtree.Filled m c h) e (Subtree.below h ts)
below_flagged m c h e [] f = tt
below_flagged m c h e (t ∷ []) f = rw append-nil f.0.2
below_flagged m c h e (t ∷ u ∷ ts) f =
    flagged_join (Subtree.Filled m c h) e t.1 (Subtree.below h (u ∷ ts)) f.0.2 (below_flagged m c h e (u ∷ ts) f.1)
    (omega (arith, below_longer m c h e (u ∷ ts) f.1))

fill_tops : (m c h : ℕ) (ts : List (Subtree.Sub (suc h))) → Subtree.Flagged (Subtree.Filled m c (suc h)) true ts → Fill 4 8 (sizes (tops (suc h) ts))
fill_tops m c h [] f = tt
fill_tops m c h (t ∷ ts) f =
    (rw (least-lower 4 (Subtree.crown (suc h)) size ts, size_crown h t) f.0.0, rw (size_crown h t) f.0.1, fill_tops m c h ts f.1)

fill_leaves : (m c : ℕ) (ts : List (Subtree.Sub zero)) → Subtree.Flagged (Subtree.Filled m c zero) true ts → Fill m c (sizes (tops zero ts))
fill_leaves m c [] f = tt
fill_leaves m c (t ∷ ts) f = (rw (least-lower m (Subtree.crown zero) size ts) f.0.0, f.0.1, fill_leaves m c ts f.1)

-- two children at the top at least
abbrev pub Wide : (h : ℕ) → List (Subtree.Sub h) → Type 0
Wide zero ts = Unit {0}
Wide (suc h) ts = 2 ≤ length (Subtree.below h ts)

wide_below : (m c h : ℕ) (ts : List (Subtree.Sub (suc h))) → Subtree.Flagged (Subtree.Filled m c (suc h)) true ts → Wide (suc h) ts → Wide h (Subtree.below h ts)
wide_below m c zero ts f w = tt
wide_below m c (suc h) ts f w = omega (arith, below_longer m c h true (Subtree.below (suc h) ts) (below_flagged m c (suc h) true ts f))

joined-leaves : (ts : List Node) → joined (tops zero ts) ≡ Subtree.flat (Subtree.pairs_of zero) ts
joined-leaves [] = refl
joined-leaves (t ∷ ts) = ap (t.items ++◌) (joined-leaves ts)

pub pairs_rows : (h : ℕ) (ts : List (Subtree.Sub h)) (Rs : List Row) → pairs (Subtree.rows_of h ts Rs) ≡ Subtree.flat (Subtree.pairs_of h) ts
pairs_rows zero ts Rs = joined-leaves ts
pairs_rows (suc h) ts Rs = pairs_rows h (Subtree.below h ts) (tops (suc h) ts ∷ Rs) ∙ flat_flat (Subtree.pairs_of h) (λ t. t.1) ts

-- subtrees that are filled and whose pairs rise are a well formed tree
pub good_rows : (m c h : ℕ) (ts : List (Subtree.Sub h)) (Rs : List Row) → Subtree.Flagged (Subtree.Filled m c h) true ts → Wide h ts → Rising (Subtree.flat (Subtree.pairs_of h) ts) →
    Tower (tops h ts) Rs → Good m c (Subtree.rows_of h ts Rs)
good_rows m c zero ts Rs f w r t = (rw (joined-leaves ts) r, fill_leaves m c ts f, t)
good_rows m c (suc h) ts Rs f w r t =
    good_rows m c h (Subtree.below h ts) (tops (suc h) ts ∷ Rs) (below_flagged m c h true ts f) (wide_below m c h ts f w)
    (rw (flat_flat (Subtree.pairs_of h) (λ t. t.1) ts) r)
    (rw length-map w, joined_tops h ts, fill_tops m c h ts f, t)

pub root_rows : (h : ℕ) (ts : List (Subtree.Sub h)) (Rs : List Row) → root (Subtree.rows_of h ts Rs) ≡ root_above (tops h ts) Rs
root_rows zero ts Rs = refl
root_rows (suc h) ts Rs = root_rows h (Subtree.below h ts) (tops (suc h) ts ∷ Rs)

-- the numbers, by any weight
module _ (w : ℕ → ℕ) where
  leaf_numbers : (ts : List Node) → total w (nums (tops zero ts)) ≡ total w (Subtree.flat (Subtree.nums_of zero) ts)
  leaf_numbers [] = refl
  leaf_numbers (t ∷ ts) = omega (arith, leaf_numbers ts)

  tops_numbers : (h : ℕ) (ts : List (Subtree.Sub (suc h))) →
      total w (Subtree.flat (Subtree.nums_of (suc h)) ts) ≡ total w (nums (tops (suc h) ts)) + total w (Subtree.flat (Subtree.nums_of h) (Subtree.below h ts))
  tops_numbers h [] = refl
  tops_numbers h (t ∷ ts) =
      rw (flat_append (Subtree.nums_of h) (λ (u : Subtree.Sub (suc h)). u.1) t.1 (Subtree.below h ts), total-append, total-append) (omega (arith, tops_numbers h ts))

  pub numbers_rows : (h : ℕ) (ts : List (Subtree.Sub h)) (Rs : List Row) →
      total w (numbers (Subtree.rows_of h ts Rs)) ≡ total w (Subtree.flat (Subtree.nums_of h) ts) + total w (numbers Rs)
  numbers_rows zero ts Rs = rw total-append (omega (arith, leaf_numbers ts))
  numbers_rows (suc h) ts Rs =
      numbers_rows h (Subtree.below h ts) (tops (suc h) ts ∷ Rs) ∙ rw total-append (omega (arith, tops_numbers h ts))

-- the words
module _ (st : ℕ → List ℕ) where
  abbrev Inner : Node → Type 0
  Inner n = st n.num ≡ inner_words n.items

  abbrev Leaf : Node → Type 0
  Leaf n = st n.num ≡ leaf_words n.items

  leaf_down : (ts : List Node) → Subtree.Each (Subtree.Held st zero) ts → Subtree.Each Leaf (tops zero ts)
  leaf_down [] e = tt
  leaf_down (t ∷ ts) e = (e.0, leaf_down ts e.1)

  leaf_up : (ts : List Node) → Subtree.Each Leaf (tops zero ts) → Subtree.Each (Subtree.Held st zero) ts
  leaf_up [] e = tt
  leaf_up (t ∷ ts) e = (e.0, leaf_up ts e.1)

  each_below : (h : ℕ) (ts : List (Subtree.Sub (suc h))) → Subtree.Each (Subtree.Held st (suc h)) ts → Subtree.Each (Subtree.Held st h) (Subtree.below h ts)
  each_below h [] e = tt
  each_below h (t ∷ ts) e = each_join (Subtree.Held st h) t.1 (Subtree.below h ts) e.0.1 (each_below h ts e.1)

  each_tops : (h : ℕ) (ts : List (Subtree.Sub (suc h))) → Subtree.Each (Subtree.Held st (suc h)) ts → Subtree.Each Inner (tops (suc h) ts)
  each_tops h [] e = tt
  each_tops h (t ∷ ts) e = (e.0.0, each_tops h ts e.1)

  each_up : (h : ℕ) (ts : List (Subtree.Sub (suc h))) → Subtree.Each (Subtree.Held st h) (Subtree.below h ts) → Subtree.Each Inner (tops (suc h) ts) →
      Subtree.Each (Subtree.Held st (suc h)) ts
  each_up h [] b e = tt
  each_up h (t ∷ ts) b e =
      ((e.0, each_left (Subtree.Held st h) t.1 (Subtree.below h ts) b), each_up h ts (each_right (Subtree.Held st h) t.1 (Subtree.below h ts) b) e.1)

  pub held_rows : (h : ℕ) (ts : List (Subtree.Sub h)) (Rs : List Row) → Subtree.Each (Subtree.Held st h) ts → Subtree.HeldRows st Rs → Subtree.HeldTree st (Subtree.rows_of h ts Rs)
  held_rows zero ts Rs e r = (leaf_down ts e, r)
  held_rows (suc h) ts Rs e r = held_rows h (Subtree.below h ts) (tops (suc h) ts ∷ Rs) (each_below h ts e) (each_tops h ts e, r)

  pub rows_held : (h : ℕ) (ts : List (Subtree.Sub h)) (Rs : List Row) → Subtree.HeldTree st (Subtree.rows_of h ts Rs) → Subtree.Each (Subtree.Held st h) ts × Subtree.HeldRows st Rs
  rows_held zero ts Rs e = (leaf_up ts e.0, e.1)
  rows_held (suc h) ts Rs e = let r = rows_held h (Subtree.below h ts) (tops (suc h) ts ∷ Rs) e in (each_up h ts r.0 r.1.0, r.1.1)

-- And back: rows are subtrees
abbrev group : (h : ℕ) → Row → List (Subtree.Sub h) → List (Subtree.Sub (suc h))
group h [] ts = []
group h (n ∷ S) ts = (n.num, take (size n) ts) ∷ group h S (drop (size n) ts)

line-take : (i : ℕ) (R : Row) → line (take i R) ≡ take i (line R)
line-take zero R = refl
line-take (suc i) [] = refl
line-take (suc i) (n ∷ R) = rw (line-take i R)

line-drop : (i : ℕ) (R : Row) → line (drop i R) ≡ drop i (line R)
line-drop zero R = refl
line-drop (suc i) [] = refl
line-drop (suc i) (n ∷ R) = line-drop i R

module _ (h : ℕ) where
  rest-line : (n : Node) (S : Row) (ts : List (Subtree.Sub h)) → n.items ++ joined S ≡ line (tops h ts) → joined S ≡ line (tops h (drop (size n) ts))
  rest-line n S ts e =
      sym (drop-append_seam n.items (joined S)) ∙ ap (drop (size n)) e ∙ sym (line-drop (size n) (tops h ts)) ∙ ap line (sym (map-drop (Subtree.crown h) (size n) ts))

  first-line : (n : Node) (S : Row) (ts : List (Subtree.Sub h)) → n.items ++ joined S ≡ line (tops h ts) → line (tops h (take (size n) ts)) ≡ n.items
  first-line n S ts e =
      ap line (map-take (Subtree.crown h) (size n) ts) ∙ line-take (size n) (tops h ts) ∙ ap (take (size n)) (sym e) ∙ take-append_seam n.items (joined S)

  group_tops : (S : Row) (ts : List (Subtree.Sub h)) → joined S ≡ line (tops h ts) → tops (suc h) (group h S ts) ≡ S
  group_tops [] ts e = refl
  group_tops (n ∷ S) ts e = rw (first-line n S ts e, group_tops S (drop (size n) ts) (rest-line n S ts e))

  group_below : (S : Row) (ts : List (Subtree.Sub h)) → joined S ≡ line (tops h ts) → Subtree.below h (group h S ts) ≡ ts
  group_below [] [] e = refl
  group_below [] (t ∷ ts) e = absurd (omega (arith, ap length e))
  group_below (n ∷ S) ts e = rw (group_below S (drop (size n) ts) (rest-line n S ts e), take-append-drop)

-- fill, upward
module _ (m c h : ℕ) where
  kids_some : (u : Subtree.Sub (suc h)) (ts : List (Subtree.Sub (suc h))) → Fill 4 8 (sizes (tops (suc h) (u ∷ ts))) → 1 ≤ length (Subtree.below h (u ∷ ts))
  kids_some u ts f =
      rw length-append (omega (arith, rw (least-lower 4 (Subtree.crown (suc h)) size ts, size_crown h u) at f.0, lower_some (Walks.lastly true ts) 4 (omega arith)))

  kids_fit : (t : Subtree.Sub (suc h)) (ts : List (Subtree.Sub (suc h))) → Fill 4 8 (sizes (tops (suc h) (t ∷ ts))) →
      (Walks.lower (Walks.lastly true ts) 4 ≤ length t.1) × (length t.1 ≤ 8)
  kids_fit t ts f = (rw (least-lower 4 (Subtree.crown (suc h)) size ts, size_crown h t) at f.0, rw (size_crown h t) at f.1)

  flagged_up : (ts : List (Subtree.Sub (suc h))) → Fill 4 8 (sizes (tops (suc h) ts)) → Subtree.Flagged (Subtree.Filled m c h) true (Subtree.below h ts) →
      Subtree.Flagged (Subtree.Filled m c (suc h)) true ts
  flagged_up [] f g = tt
  flagged_up (t ∷ []) f g = let k = kids_fit t [] f in ((k.0, k.1, rw append-nil at g), tt)
  flagged_up (t ∷ u ∷ ts) f g =
      let k = kids_fit t (u ∷ ts) f in (
        (k.0, k.1, flagged_left (Subtree.Filled m c h) true t.1 (Subtree.below h (u ∷ ts)) (kids_some u ts f.2) g),
        flagged_up (u ∷ ts) f.2 (flagged_right (Subtree.Filled m c h) true t.1 (Subtree.below h (u ∷ ts)) g),
      )

leaves_up : (m c : ℕ) (L : Row) → Fill m c (sizes L) → Subtree.Flagged (Subtree.Filled m c zero) true L
leaves_up m c [] f = tt
leaves_up m c (n ∷ []) f = ((f.0, f.1), tt)
leaves_up m c (n ∷ u ∷ L) f = ((f.0, f.1), leaves_up m c (u ∷ L) f.2)

-- a tree as one subtree
pub record One (m c : ℕ) (x : Tree) : Type 0 where
  pub high : ℕ
  pub sub : Subtree.Sub high
  pub same : Subtree.rows_of high (sub ∷ []) [] ≡ x
  pub filled : Subtree.Filled m c high true sub
  pub wide : Wide high (sub ∷ [])

one_rows : (m c h : ℕ) (ts : List (Subtree.Sub h)) (Rs : List Row) → Subtree.Flagged (Subtree.Filled m c h) true ts → Wide h ts → Tower (tops h ts) Rs → One m c (Subtree.rows_of h ts Rs)
one_rows m c h [] [] f w t = absurd (omega arith)
one_rows m c h (t ∷ []) [] f w _ = record { high = h; sub = t; same = refl; filled = f.0; wide = w }
one_rows m c h (t ∷ u ∷ ts) [] f w e = absurd (omega arith)
one_rows m c h ts (S ∷ Ss) f w t =
    let us = group h S ts in
    let b : Subtree.below h us ≡ ts = group_below h S ts t.1 in
    let p : tops (suc h) us ≡ S = group_tops h S ts t.1 in
    let n : 2 ≤ length ts = rw length-map at t.0 in
    let o = one_rows m c (suc h) us Ss (flagged_up m c h us (rw p t.2) (rw b f)) (rw b n) (rw p t.3) in
    rw (b, p) at o

map_crown : (L : Row) → tops zero L ≡ L
map_crown [] = refl
map_crown (n ∷ L) = ap (n ∷◌) (map_crown L)

pub tree_one : (m c : ℕ) (L : Row) (Rs : List Row) → Good m c (L ∷ Rs) → One m c (L ∷ Rs)
tree_one m c L Rs g = rw (map_crown L) at (one_rows m c zero L Rs (leaves_up m c L g.1) tt (rw (map_crown L) g.2))

pub one_good : (m c h : ℕ) (t : Subtree.Sub h) → Subtree.Filled m c h true t → Wide h (t ∷ []) → Rising (Subtree.pairs_of h t) → Good m c (Subtree.rows_of h (t ∷ []) [])
one_good m c h t f w r = good_rows m c h (t ∷ []) [] (f, tt) w (rw append-nil r) refl

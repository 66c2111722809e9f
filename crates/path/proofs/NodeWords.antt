-- PROOFS. What stands where in the words of one node, and in groups end to end
use mathlib.Core.Path.{◌≡◌, refl, sym, ap, ◌∙◌}
use mathlib.Core.List.{List, [], ◌∷◌, ◌++◌, map}
use mathlib.Core.Option.{some}
use Prim.Native.Nat.{ℕ, zero, suc, ◌+◌, ◌-◌, ◌≤◌, ◌<◌}
use native.Mathlib.Omega.{arith}
use lib.ListN.{length, take, drop, get_or, get_elem?, length-map}
use lib.Seq.{take-nil, take-append-le, take-take, drop-drop}
use borrow.Author.Tests.{lt-ltb, le-ltb}
use Rattle.forest.specs.Lists.{sum, parent, offset, upto, pad}
use Rattle.forest.specs.Slices.{key_place}
use Rattle.forest.specs.Pairs.{Item, keys, place}
use Rattle.forest.specs.Rows.{Row, size, sizes, nums, joined, line, items_at}
use Rattle.forest.specs.Pools.{leaf_words, inner_words}
use Rattle.forest.proofs.CountLaws.{length-pad}
pub use Rattle.forest.proofs.WordLaws.{key_word, link_word}
use Rattle.forest.proofs.Descent.{stored}
use Rattle.path.specs.Ways.{block_at, keys_of, turn_of, land_of}
use Rattle.path.specs.declared.Way.TheVariants.{Key, First, Last}

-- the values or children of items
abbrev pub links : List Item → List ℕ
links xs = map (λ (x : Item). x.1) xs

-- the keys in a block
pub block-keys : (ws : List ℕ) (b s : ℕ) → s ≤ 7 → take s (drop 1 (block_at ws b)) ≡ take s (drop (b + 1) ws)
unfolding block_at
block-keys ws b s h = ap (take s) (drop-take 1 15 (drop b ws)) ∙ take-take s 15 (drop 1 (drop b ws)) (omega arith) ∙ ap (take s) (drop-drop 1 b ws)
  where
    drop-take : (m n : ℕ) (l : List ℕ) → drop m (take (m + n) l) ≡ take n (drop m l)
    drop-take zero n l = let z : 0 + n ≡ n = omega arith in rw z
    drop-take (suc m) n [] = let z : suc m + n ≡ suc (m + n) = omega arith in rw z (none n)
      where
        none : (n : ℕ) → ◌≡◌ {A = List ℕ} [] (take n [])
        none zero = refl
        none (suc n) = refl
    drop-take (suc m) n (x ∷ l) = let z : suc m + n ≡ suc (m + n) = omega arith in rw z (drop-take m n l)

take-pad : (n : ℕ) (xs : List ℕ) → length xs ≤ n → take (length xs) (pad n xs) ≡ xs
take-pad n [] h = refl
take-pad zero (x ∷ xs) h = absurd (omega arith)
take-pad (suc n) (x ∷ xs) h = ap (x ∷◌) (take-pad n xs (omega arith))

-- words of a node with keys ks and links vs
module _ (w : ℕ) (ks vs : List ℕ) where
  pub key_words_lem : length ks ≤ 7 → take (length ks) (drop 1 (w ∷ (pad 7 ks ++ pad 8 vs))) ≡ ks
  key_words_lem h = take-append-le (length ks) (pad 7 ks) (pad 8 vs) (rw (length-pad 7 ks) h) ∙ take-pad 7 ks h

-- the keys that the words of a node store
pub inner_keys : (xs : List Item) → 1 ≤ length xs → length xs ≤ 8 → keys_of 16 (inner_words xs) ≡ stored xs
inner_keys [] a h = absurd (omega arith)
inner_keys (x ∷ xs) a h =
    let z : 16 + (length (x ∷ xs) - 1) - 16 ≡ length (keys xs) = omega (arith, length-map xs (λ (y : Item). y.0)) in
    rw z (key_words_lem (16 + (length (x ∷ xs) - 1)) (keys xs) (links (x ∷ xs)) (omega (arith, length-map xs (λ (y : Item). y.0))))

pub leaf_keys_lem : (xs : List Item) → length xs ≤ 7 → keys_of 32 (leaf_words xs) ≡ keys xs
leaf_keys_lem xs h =
    let z : 32 + length xs - 32 ≡ length (keys xs) = omega (arith, length-map xs (λ (y : Item). y.0)) in
    rw z (key_words_lem (32 + length xs) (keys xs) (links xs) (omega (arith, length-map xs (λ (y : Item). y.0))))

-- where a way goes in a node
pub turn_key : (k : ℕ) (xs : List Item) → 1 ≤ length xs → length xs ≤ 8 → turn_of (Key k) (inner_words xs) ≡ upto k (stored xs)
unfolding turn_of
turn_key k xs a h = ap (upto k) (inner_keys xs a h)

pub turn_last : (xs : List Item) → turn_of Last (inner_words xs) ≡ length xs - 1
unfolding turn_of
turn_last xs = omega arith

pub turn_first : (w : List ℕ) → turn_of First w ≡ 0
unfolding turn_of
turn_first w = refl

pub land_key : (k : ℕ) (xs : List Item) → length xs ≤ 7 → land_of (Key k) (leaf_words xs) ≡ place k xs
unfolding land_of
land_key k xs h = ap (key_place k) (leaf_keys_lem xs h)

pub land_last : (xs : List Item) → land_of Last (leaf_words xs) ≡ length xs - 1
unfolding land_of
land_last xs = omega arith

pub land_first : (w : List ℕ) → land_of First w ≡ 0
unfolding land_of
land_first w = refl

-- the pair at place e of a leaf, read from its words
pub pair_words : (xs : List Item) (e : ℕ) → length xs ≤ 7 → e < length xs →
    get_elem? xs e ≡ some (get_or (leaf_words xs) (1 + e) 0, get_or (leaf_words xs) (8 + e) 0)
pair_words xs e h k =
    let z : 1 + e ≡ suc e = omega arith in
    rw (z, key_word (32 + length xs) (keys xs) (links xs) e (omega arith), link_word (32 + length xs) (keys xs) (links xs) e (omega arith)) (nth xs e k)
  where
    nth : (ys : List Item) (i : ℕ) → i < length ys → get_elem? ys i ≡ some (get_or (keys ys) i 0, get_or (links ys) i 0)
    nth [] i q = absurd (omega arith)
    nth (y ∷ ys) zero q = refl
    nth (y ∷ ys) (suc i) q = nth ys i (omega arith)

-- groups end to end: position o of group q
pub record Grouped (gs : List ℕ) (q o i : ℕ) : Type 0 where
  pub group : parent gs i ≡ q
  pub place : offset gs i ≡ o

pub grouped : (gs : List ℕ) (q o : ℕ) → q < length gs → o < get_or gs q 0 → Grouped gs q o (sum (take q gs) + o)
grouped [] q o h k = absurd (omega arith)
grouped (g ∷ gs) zero o h k =
    let z : 0 + o ≡ o = omega arith in
    record { group = simp (z, lt-ltb o g k); place = simp (z, lt-ltb o g k) }
grouped (g ∷ gs) (suc q) o h k =
    let ih = grouped gs q o (omega arith) k in
    let z : g + sum (take q gs) + o - g ≡ sum (take q gs) + o = omega arith in
    let b = le-ltb (g + sum (take q gs) + o) g (omega arith) in
    record { group = simp (b, z) (ap suc ih.group); place = simp (b, z) ih.place }

pub grouped_at : (gs : List ℕ) (q o i : ℕ) → q < length gs → o < get_or gs q 0 → i ≡ sum (take q gs) + o → Grouped gs q o i
grouped_at gs q o i h k e = rw e (grouped gs q o h k)

pub group_end : (gs : List ℕ) (q : ℕ) → sum (take q gs) + get_or gs q 0 ≤ sum gs
group_end [] zero = omega arith
group_end [] (suc q) = omega arith
group_end (g ∷ gs) zero = omega arith
group_end (g ∷ gs) (suc q) = omega (arith, group_end gs q)

pub sum_all : (q : ℕ) (gs : List ℕ) → length gs ≤ q → sum (take q gs) ≡ sum gs
sum_all q [] h = rw take-nil
sum_all zero (g ∷ gs) h = absurd (omega arith)
sum_all (suc q) (g ∷ gs) h = omega (arith, sum_all q gs (omega arith))

-- the link at place o of node q is that at its position in the whole row
pub link_at : (S : Row) (q o : ℕ) → q < length S → o < get_or (sizes S) q 0 → get_or (links (items_at S q)) o 0 ≡ get_or (links (joined S)) (sum (take q (sizes S)) + o) 0
link_at [] q o h k = absurd (omega arith)
link_at (n ∷ S) zero o h k = let z : 0 + o ≡ o = omega arith in rw z (left n.items o k)
  where
    left : (xs : List Item) (i : ℕ) → i < length xs → get_or (links xs) i 0 ≡ get_or (links (xs ++ joined S)) i 0
    left [] i a = absurd (omega arith)
    left (x ∷ xs) zero a = refl
    left (x ∷ xs) (suc i) a = left xs i (omega arith)
link_at (n ∷ S) (suc q) o h k =
    let z : size n + sum (take q (sizes S)) + o ≡ size n + (sum (take q (sizes S)) + o) = omega arith in
    rw z (link_at S q o (omega arith) k ∙ sym (right n.items (sum (take q (sizes S)) + o)))
  where
    right : (xs : List Item) (i : ℕ) → get_or (links (xs ++ joined S)) (length xs + i) 0 ≡ get_or (links (joined S)) i 0
    right [] i = let y : 0 + i ≡ i = omega arith in rw y
    right (x ∷ xs) i = let y : suc (length xs) + i ≡ suc (length xs + i) = omega arith in rw y (right xs i)

pub links_line : (R : Row) → links (line R) ≡ nums R
links_line [] = refl
links_line (n ∷ R) = ap (n.num ∷◌) (links_line R)

-- PROOFS. The items of a node's words are those that the words are made of; words made of items are a leaf's or an inner node's
use mathlib.Core.Path.{◌≡◌, refl, sym, ap, ◌∙◌}
use mathlib.Core.List.{List, [], ◌∷◌, ◌++◌, map}
use Prim.Native.Nat.{ℕ, zero, suc, ◌+◌, ◌-◌, ◌≤◌, ◌<◌}
use native.Mathlib.Omega.{arith}
use native.Mathlib.Nat.{zero-add, suc-add}
use lib.ListN.{length, take, drop, get_or, get_or-map}
use Rattle.forest.specs.Lists.{insert_at, remove_at}
use Rattle.forest.specs.Pairs.{Item}
use Rattle.forest.specs.Rows.{front}
use Rattle.forest.specs.Pools.{leaf_words, inner_words}
use Rattle.forest.proofs.WordLaws.{key_word, link_word}
use Rattle.forest.proofs.ListLaws.{cons_eq}
use Rattle.node.specs.Nodes.{tabulate, leaf_item, leaf_pairs, inner_item, inner_items, Leaf, Inner, rekey_at}

abbrev pub keys_of : List Item → List ℕ
keys_of xs = map (λ (x : Item). x.0) xs

abbrev pub links_of : List Item → List ℕ
links_of xs = map (λ (x : Item). x.1) xs

pub tabulate_is : (f : ℕ → Item) (i : ℕ) (xs : List Item) → ((t : ℕ) → t < length xs → f (i + t) ≡ get_or xs t (0, 0)) → tabulate f i (length xs) ≡ xs
tabulate_is f i [] h = refl
tabulate_is f i (x ∷ xs) h =
    cons_eq (let z : i + 0 ≡ i = omega arith in rw z at (h 0 (omega arith)))
    (tabulate_is f (suc i) xs (λ t l. let z : i + suc t ≡ suc i + t = omega arith in rw z at (h (suc t) (omega arith))))

pub length-tabulate : (f : ℕ → Item) (i n : ℕ) → length (tabulate f i n) ≡ n
length-tabulate f i zero = refl
length-tabulate f i (suc n) = ap suc (length-tabulate f (suc i) n)

-- so many items are read off a leaf's words, and off an inner node's
pub length_pairs : (w : List ℕ) → length (leaf_pairs w) ≡ get_or w 0 0 - 32
length_pairs w = length-tabulate (leaf_item w) 0 (get_or w 0 0 - 32)

pub length-items : (w : List ℕ) → length (inner_items w) ≡ get_or w 0 0 - 15
length-items w = length-tabulate (inner_item w) 0 (get_or w 0 0 - 15)

-- the key of one item changes
pub rekey_at_left : (k i : ℕ) (xs ys : List Item) → i < length xs → rekey_at i k (xs ++ ys) ≡ rekey_at i k xs ++ ys
rekey_at_left k i [] ys h = absurd (omega arith)
rekey_at_left k zero (x ∷ xs) ys h = refl
rekey_at_left k (suc i) (x ∷ xs) ys h = ap (x ∷◌) (rekey_at_left k i xs ys (omega arith))

pub rekey_at_right : (k i : ℕ) (xs ys : List Item) → rekey_at (length xs + i) k (xs ++ ys) ≡ xs ++ rekey_at i k ys
rekey_at_right k i [] ys = rw zero-add
rekey_at_right k i (x ∷ xs) ys = rw suc-add (ap (x ∷◌) (rekey_at_right k i xs ys))

pub length-rekey_at : (i k : ℕ) (xs : List Item) → length (rekey_at i k xs) ≡ length xs
length-rekey_at i k [] = refl
length-rekey_at zero k (x ∷ xs) = refl
length-rekey_at (suc i) k (x ∷ xs) = ap suc (length-rekey_at i k xs)

-- the first key of an inner node's items does not matter to its words, nor to those of a left part, nor is it in a right part
pub inner_first : (k : ℕ) (xs : List Item) → inner_words (rekey_at 0 k xs) ≡ inner_words xs
inner_first k [] = refl
inner_first k (x ∷ xs) = refl

pub take-first : (k n : ℕ) (us : List Item) → inner_words (take n (rekey_at 0 k us)) ≡ inner_words (take n us)
take-first k zero us = refl
take-first k (suc n) [] = refl
take-first k (suc n) (x ∷ us) = refl

pub drop-first : (k n : ℕ) (us : List Item) → 1 ≤ n → drop n (rekey_at 0 k us) ≡ drop n us
drop-first k zero us h = absurd (omega arith)
drop-first k (suc n) [] h = refl
drop-first k (suc n) (x ∷ us) h = refl

pub cut_first : (k o : ℕ) (xs : List Item) → inner_words (remove_at o (rekey_at 0 k xs)) ≡ inner_words (remove_at o xs)
cut_first k o [] = refl
cut_first k zero (x ∷ xs) = refl
cut_first k (suc o) (x ∷ xs) = refl

pub insert-first : (k i : ℕ) (x : Item) (xs : List Item) → inner_words (insert_at (suc i) x (rekey_at 0 k xs)) ≡ inner_words (insert_at (suc i) x xs)
insert-first k i x [] = refl
insert-first k i x (y ∷ xs) = refl

pub rekey_back : (k : ℕ) (xs : List Item) → rekey_at 0 (front xs) (rekey_at 0 k xs) ≡ xs
rekey_back k [] = refl
rekey_back k (x ∷ xs) = refl

-- keys and links, one by one
key_at : (xs : List Item) (t : ℕ) → get_or (keys_of xs) t 0 ≡ (get_or xs t (0, 0)).0
key_at xs t = get_or-map (λ (x : Item). x.0) xs t (0, 0)

link_at : (xs : List Item) (t : ℕ) → get_or (links_of xs) t 0 ≡ (get_or xs t (0, 0)).1
link_at xs t = get_or-map (λ (x : Item). x.1) xs t (0, 0)

pair_eq : {a b c d : ℕ} → a ≡ c → b ≡ d → ◌≡◌ {A = Item} (a, b) (c, d)
pair_eq p q = cc

-- the words of a leaf, place by place
pub leaf_key : (xs : List Item) (t : ℕ) → t < 7 → get_or (leaf_words xs) (suc t) 0 ≡ (get_or xs t (0, 0)).0
leaf_key xs t h = key_word (32 + length xs) (keys_of xs) (links_of xs) t h ∙ key_at xs t

pub leaf_value : (xs : List Item) (t : ℕ) → t < 8 → get_or (leaf_words xs) (8 + t) 0 ≡ (get_or xs t (0, 0)).1
leaf_value xs t h = link_word (32 + length xs) (keys_of xs) (links_of xs) t h ∙ link_at xs t

pub leaf_front_lem : (xs : List Item) → get_or (leaf_words xs) 1 0 ≡ front xs
leaf_front_lem [] = refl
leaf_front_lem (x ∷ xs) = refl

pub leaf_pairs_lem : (xs : List Item) → length xs ≤ 7 → leaf_pairs (leaf_words xs) ≡ xs
leaf_pairs_lem xs l =
    let e : 32 + length xs - 32 ≡ length xs = omega arith in
    rw e (tabulate_is (leaf_item (leaf_words xs)) 0 xs at)
  where
    at : (t : ℕ) → t < length xs → leaf_item (leaf_words xs) (0 + t) ≡ get_or xs t (0, 0)
    at t b =
        let z : 1 + (0 + t) ≡ suc t = omega arith in
        let y : 8 + (0 + t) ≡ 8 + t = omega arith in
        rw (z, y) (pair_eq (leaf_key xs t (omega arith)) (leaf_value xs t (omega arith)))

-- the words of an inner node, place by place: the key between children t and t + 1, and child t
pub inner_key : (xs : List Item) (t : ℕ) → t < 7 → get_or (inner_words xs) (suc t) 0 ≡ (get_or xs (suc t) (0, 0)).0
inner_key xs t h = key_word (16 + (length xs - 1)) (keys_of (drop 1 xs)) (links_of xs) t h ∙ key_at (drop 1 xs) t ∙ next xs
  where
    next : (xs : List Item) → (get_or (drop 1 xs) t (0, 0)).0 ≡ (get_or xs (suc t) (0, 0)).0
    next [] = refl
    next (x ∷ xs) = refl

pub inner_child : (xs : List Item) (t : ℕ) → t < 8 → get_or (inner_words xs) (8 + t) 0 ≡ (get_or xs t (0, 0)).1
inner_child xs t h = link_word (16 + (length xs - 1)) (keys_of (drop 1 xs)) (links_of xs) t h ∙ link_at xs t

pub inner_items_lem : (xs : List Item) → 1 ≤ length xs → length xs ≤ 8 → inner_items (inner_words xs) ≡ rekey_at 0 0 xs
inner_items_lem xs h l =
    let e : 16 + (length xs - 1) - 15 ≡ length (rekey_at 0 0 xs) = omega (arith, length-rekey_at 0 0 xs) in
    rw e (tabulate_is (inner_item (inner_words xs)) 0 (rekey_at 0 0 xs) (λ t b. at t (omega (arith, length-rekey_at 0 0 xs))))
  where
    same : (xs : List Item) (t : ℕ) → get_or (rekey_at 0 0 xs) (suc t) (0, 0) ≡ get_or xs (suc t) (0, 0)
    same [] t = refl
    same (x ∷ xs) t = refl

    first : (xs : List Item) → get_or (rekey_at 0 0 xs) 0 (0, 0) ≡ (0, (get_or xs 0 (0, 0)).1)
    first [] = refl
    first (x ∷ xs) = refl

    at : (t : ℕ) → t < length xs → inner_item (inner_words xs) (0 + t) ≡ get_or (rekey_at 0 0 xs) t (0, 0)
    at zero b = pair_eq refl (inner_child xs 0 (omega arith)) ∙ sym (first xs)
    at (suc t) b =
        let z : 0 + suc t ≡ suc t = omega arith in
        rw z (pair_eq (inner_key xs t (omega arith)) (inner_child xs (suc t) (omega arith)) ∙ sym (same xs t))

-- what a well formed row gives
pub leaf_is : (xs : List Item) → 1 ≤ length xs → length xs ≤ 7 → Leaf (leaf_words xs)
leaf_is xs h l = record { some = omega arith; few = omega arith; same = ap leaf_words (leaf_pairs_lem xs l) }

pub inner_is : (xs : List Item) → 1 ≤ length xs → length xs ≤ 8 → Inner (inner_words xs)
inner_is xs h l = record { some = omega arith; few = omega arith; same = ap inner_words (inner_items_lem xs h l) ∙ inner_first 0 xs }

-- the number of entries

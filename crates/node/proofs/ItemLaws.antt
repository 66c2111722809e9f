-- PROOFS. Items as a count and two padded lists: what the functions on them make of those of a list
use mathlib.Core.Path.{◌≡◌, refl, sym, ap, ◌∙◌}
use mathlib.Core.List.{List, [], ◌∷◌, ◌++◌, map, append-nil}
use Prim.Native.Nat.{ℕ, zero, suc, ◌+◌, ◌-◌, ◌≤◌, ◌<◌}
use native.Mathlib.Numerals.{add-one}
use native.Mathlib.Omega.{arith}
use lib.ListN.{length, take, drop, get_or, length-append, length-drop, length-map, drop_of_length-le}
use lib.Seq.{paste, take_at, drop_at, take_all, length-take-le}
use Rattle.forest.specs.Lists.{insert_at, remove_at, pad}
use Rattle.forest.specs.Pairs.{Item}
use Rattle.forest.specs.Rows.{front}
use Rattle.forest.proofs.CountLaws.{length-pad, get_or-pad}
use Rattle.forest.proofs.ListLaws.{length-insert_at, length-remove_at, map-append, map-take, map-drop, map-insert_at, map-remove_at}
use Rattle.node.specs.Nodes.{items_of, with_item, less_item, both_items, part_items, half_items}
use Rattle.node.specs.declared.items.Items.{Items}
use Rattle.node.specs.declared.items.Halves.{Halves}
use Rattle.node.proofs.Pads.{pad-take, pad-more, inserted-pad, removed-pad, part_pad, append-pad}
use Rattle.node.proofs.Words.{keys_of, links_of}

abbrev pub key_of : Item → ℕ
key_of x = x.0

abbrev pub link_of : Item → ℕ
link_of x = x.1

pub items_eq : {c d : ℕ} {k m l n : List ℕ} → c ≡ d → k ≡ m → l ≡ n →
    ◌≡◌ {A = Items} (record { count = c; keys = k; links = l }) (record { count = d; keys = m; links = n })
items_eq p q r = cc

pub counted : {a b : Items} → a ≡ b → a.count ≡ b.count
counted e = ap (λ (s : Items). s.count) e

-- Steps on items that are those of a list

pub insert-items : (s : Items) (at k l : ℕ) (xs : List Item) → s ≡ items_of xs → at < 16 → at ≤ length xs → with_item s at k l ≡ items_of (insert_at at (k, l) xs)
insert-items s at k l xs e lt h =
    ap (λ (i : Items). with_item i at k l) e
    ∙ items_eq (add-one (length xs) ∙ sym (length-insert_at at (k, l) xs))
    (inserted-pad 16 at k (keys_of xs) (rw (length-map xs key_of) h) lt ∙ ap (pad 16) (sym (map-insert_at key_of at (k, l) xs)))
    (inserted-pad 16 at l (links_of xs) (rw (length-map xs link_of) h) lt ∙ ap (pad 16) (sym (map-insert_at link_of at (k, l) xs)))

pub remove_items : (s : Items) (at : ℕ) (xs : List Item) → s ≡ items_of xs → length xs ≤ 16 → at < length xs → less_item s at ≡ items_of (remove_at at xs)
remove_items s at xs e few h =
    ap (λ (i : Items). less_item i at) e
    ∙ items_eq (let r = length-remove_at at xs h in omega arith)
    (removed-pad 16 at (keys_of xs) (rw (length-map xs key_of) few) ∙ ap (pad 16) (sym (map-remove_at key_of at xs)))
    (removed-pad 16 at (links_of xs) (rw (length-map xs link_of) few) ∙ ap (pad 16) (sym (map-remove_at link_of at xs)))

-- one section of items behind another's
append_section : (f : Item → ℕ) (xs ys : List Item) → length xs + length ys ≤ 16 → paste (pad 16 (map f xs)) (length xs) (pad 16 (map f ys)) (length ys) ≡ pad 16 (map f (xs ++ ys))
append_section f xs ys h =
    let m : length xs ≡ length (map f xs) = sym (length-map xs f) in
    let n : length ys ≡ length (map f ys) = sym (length-map ys f) in
    ap (λ (j : ℕ). paste (pad 16 (map f xs)) j (pad 16 (map f ys)) (length ys)) m
    ∙ ap (λ (j : ℕ). paste (pad 16 (map f xs)) (length (map f xs)) (pad 16 (map f ys)) j) n
    ∙ append-pad 16 (map f xs) (map f ys) (omega arith)
    ∙ ap (pad 16) (sym (map-append f xs ys))

pub append-items : (a b : Items) (xs ys : List Item) → a ≡ items_of xs → b ≡ items_of ys → length xs + length ys ≤ 16 → both_items a b ≡ items_of (xs ++ ys)
append-items a b xs ys d e h =
    ap (λ (i : Items). both_items i b) d ∙ ap (both_items (items_of xs)) e
    ∙ items_eq (sym (length-append xs ys)) (append_section key_of xs ys h) (append_section link_of xs ys h)

-- a part of one section
part_section : (f : Item → ℕ) (from n : ℕ) (xs : List Item) → from + n ≤ 16 → from + n ≤ length xs → paste (pad 16 []) 0 (drop from (pad 16 (map f xs))) n ≡ pad 16 (map f (take n (drop from xs)))
part_section f from n xs h l =
    part_pad 16 from n (map f xs) (rw (length-map xs f) l) h ∙ ap (pad 16) (sym (map-take f n (drop from xs) ∙ ap (take n) (map-drop f from xs)))

part_items_lem : (from n : ℕ) (xs : List Item) → from + n ≤ 16 → from + n ≤ length xs → part_items (items_of xs) from n ≡ items_of (take n (drop from xs))
part_items_lem from n xs h l =
    items_eq (sym (length-take-le n (drop from xs) (simp length-drop (omega arith)))) (part_section key_of from n xs h l) (part_section link_of from n xs h l)

key_items : (at : ℕ) (xs : List Item) → at < 16 → get_or (pad 16 (keys_of xs)) at 0 ≡ front (drop at xs)
key_items at xs h = get_or-pad 16 (keys_of xs) at h ∙ first at xs
  where
    first : (at : ℕ) (xs : List Item) → get_or (keys_of xs) at 0 ≡ front (drop at xs)
    first zero [] = refl
    first zero (x ∷ xs) = refl
    first (suc at) [] = refl
    first (suc at) (x ∷ xs) = first at xs

-- the halves of a list's items
abbrev pub halves_of : List Item → ℕ → Halves
halves_of us l = record { left = items_of (take l us); right = items_of (drop l us); key = front (drop l us) }

pub half_items_lem : (s : Items) (l : ℕ) (us : List Item) → s ≡ items_of us → length us ≤ 16 → l < length us → half_items s l ≡ halves_of us l
half_items_lem s l us e few h =
    let a : part_items (items_of us) 0 l ≡ items_of (take l us) = part_items_lem 0 l us (omega arith) (omega arith) in
    let b : part_items (items_of us) l (length us - l) ≡ items_of (drop l us) =
    part_items_lem l (length us - l) us (omega arith) (omega arith) ∙ ap items_of (take_all (length us - l) (drop l us) (simp length-drop (omega arith))) in
    let k : get_or (pad 16 (keys_of us)) l 0 ≡ front (drop l us) = key_items l us (omega arith) in
    ap (λ (i : Items). half_items i l) e ∙ cc

-- Words to items

-- the sections of a node's words, copied out
pub links_out : (a : ℕ) (ks ls : List ℕ) → length ls ≤ 8 → paste (pad 16 []) 0 (drop 8 (a ∷ (pad 7 ks ++ pad 8 ls))) 8 ≡ pad 16 ls
links_out a ks ls h = rw (drop_at (pad 7 ks) (pad 8 ls) 7 (length-pad 7 ks), pad-take 8 8 ls (omega arith)) (pad-more 8 16 ls h (omega arith))

pub keys_out : (a k : ℕ) (ks ls : List ℕ) → length ks ≤ 7 → paste (k ∷ pad 15 []) 0 (drop 1 (a ∷ (pad 7 ks ++ pad 8 ls))) 7 ≡ pad 16 ks
keys_out a k ks ls h = rw (take_at (pad 7 ks) (pad 8 ls) 7 (length-pad 7 ks)) (pad-more 7 16 ks h (omega arith))

-- one place further on, behind a first key
pub keys_on : (a k : ℕ) (ks ls : List ℕ) → length ks ≤ 7 → paste (k ∷ pad 15 []) 1 (drop 1 (a ∷ (pad 7 ks ++ pad 8 ls))) 7 ≡ pad 16 (k ∷ ks)
keys_on a k ks ls h = rw (take_at (pad 7 ks) (pad 8 ls) 7 (length-pad 7 ks)) (ap (k ∷◌) (pad-more 7 15 ks h (omega arith)))

-- Items to words

-- two sections of sixteen words, copied behind word a
pub pack : (a i : ℕ) (ks ls : List ℕ) → i + 7 ≤ length ks → paste (paste (a ∷ pad 15 []) 1 (drop i ks) 7) 8 ls 8 ≡ a ∷ (take 7 (drop i ks) ++ take 8 ls)
pack a i ks ls h =
    let X : List ℕ = take 7 (drop i ks) in
    let k : length X ≡ 7 = length-take-le 7 (drop i ks) (simp length-drop (omega arith)) in
    let p : take 7 (X ++ pad 8 []) ≡ X = take_at X (pad 8 []) 7 k in
    let q : drop 15 (X ++ pad 8 []) ≡ [] = drop_of_length-le (X ++ pad 8 []) {i = 15} (omega (arith, length-append X (pad 8 []))) in
    ap (λ (r : List ℕ). a ∷ ((r ++ take 8 ls) ++ drop 15 (X ++ pad 8 []))) p ∙ ap (λ (r : List ℕ). a ∷ ((X ++ take 8 ls) ++ r)) q ∙ ap (a ∷◌) (append-nil (X ++ take 8 ls))

-- PROOFS. Padded lists: a part, an insertion, a removal, a list after another; and copies into them
use mathlib.Core.Path.{◌≡◌, refl, sym, ap, ◌∙◌}
use mathlib.Core.List.{List, [], ◌∷◌, ◌++◌, append-nil}
use Prim.Native.Nat.{ℕ, zero, suc, ◌+◌, ◌-◌, ◌≤◌, ◌<◌}
use native.Mathlib.Omega.{arith}
use lib.ListN.{length, take, drop, get_or, set, length-append, length-drop, drop_of_length-le}
use lib.Seq.{paste, drop-nil, length-take-le, take-length, take_all, set_at, drop-cons}
use borrow.Rule.Slice.PartMut.{put_mid}
use Rattle.forest.specs.Lists.{insert_at, remove_at, pad}
use Rattle.forest.specs.Slices.{inserted, shifted}
use Rattle.forest.proofs.CountLaws.{length-pad}

pub pad-take : (m n : ℕ) (xs : List ℕ) → m ≤ n → take m (pad n xs) ≡ pad m xs
pad-take zero n xs h = refl
pad-take (suc m) zero xs h = absurd (omega arith)
pad-take (suc m) (suc n) [] h = ap (0 ∷◌) (pad-take m n [] (omega arith))
pad-take (suc m) (suc n) (x ∷ xs) h = ap (x ∷◌) (pad-take m n xs (omega arith))

pub pad-drop : (m n : ℕ) (xs : List ℕ) → drop m (pad n xs) ≡ pad (n - m) (drop m xs)
pad-drop zero n xs = let e : n - 0 ≡ n = omega arith in rw e
pad-drop (suc m) zero xs = let e : 0 - suc m ≡ 0 = omega arith in rw e
pad-drop (suc m) (suc n) [] = let e : suc n - suc m ≡ n - m = omega arith in rw e (pad-drop m n [] ∙ rw (drop-nil m))
pad-drop (suc m) (suc n) (x ∷ xs) = let e : suc n - suc m ≡ n - m = omega arith in rw e (pad-drop m n xs)

-- zeros behind make a list of n
pub pad_fill : (n : ℕ) (xs : List ℕ) → length xs ≤ n → xs ++ pad (n - length xs) [] ≡ pad n xs
pad_fill n [] h = let e : n - 0 ≡ n = omega arith in rw e
pad_fill zero (x ∷ xs) h = absurd (omega arith)
pad_fill (suc n) (x ∷ xs) h = let e : suc n - suc (length xs) ≡ n - length xs = omega arith in rw e (ap (x ∷◌) (pad_fill n xs (omega arith)))

-- a longer padding is the same with more zeros
pub pad-more : (m n : ℕ) (xs : List ℕ) → length xs ≤ m → m ≤ n → pad m xs ++ pad (n - m) [] ≡ pad n xs
pad-more zero n [] h l = let e : n - 0 ≡ n = omega arith in rw e
pad-more zero n (x ∷ xs) h l = absurd (omega arith)
pad-more (suc m) zero xs h l = absurd (omega arith)
pad-more (suc m) (suc n) [] h l = let e : suc n - suc m ≡ n - m = omega arith in rw e (ap (0 ∷◌) (pad-more m n [] (omega arith) (omega arith)))
pad-more (suc m) (suc n) (x ∷ xs) h l = let e : suc n - suc m ≡ n - m = omega arith in rw e (ap (x ∷◌) (pad-more m n xs (omega arith) (omega arith)))

pad_twice : (m n : ℕ) (xs : List ℕ) → length xs ≤ n → pad m (pad n xs) ≡ pad m xs
pad_twice zero n xs h = refl
pad_twice (suc m) zero [] h = refl
pad_twice (suc m) zero (x ∷ xs) h = absurd (omega arith)
pad_twice (suc m) (suc n) [] h = ap (0 ∷◌) (pad_twice m n [] (omega arith))
pad_twice (suc m) (suc n) (x ∷ xs) h = ap (x ∷◌) (pad_twice m n xs (omega arith))

-- a part of what is in use
pub pad_part : (m from n : ℕ) (xs : List ℕ) → from + n ≤ length xs → from + n ≤ m → take n (drop from (pad m xs)) ≡ take n (drop from xs)
pad_part m from zero xs h l = refl
pad_part zero from (suc n) xs h l = absurd (omega arith)
pad_part (suc m) from (suc n) [] h l = absurd (omega arith)
pad_part (suc m) zero (suc n) (x ∷ xs) h l = ap (x ∷◌) (pad_part m 0 n xs (omega arith) (omega arith))
pad_part (suc m) (suc from) (suc n) (x ∷ xs) h l = pad_part m from (suc n) xs (omega arith) (omega arith)

pad-insert : (n i x : ℕ) (xs : List ℕ) → i ≤ length xs → i < n → take n (insert_at i x (pad n xs)) ≡ pad n (insert_at i x xs)
pad-insert zero i x xs h l = absurd (omega arith)
pad-insert (suc n) zero x xs h l = ap (x ∷◌) (pad-take n (suc n) xs (omega arith))
pad-insert (suc n) (suc i) x [] h l = absurd (omega arith)
pad-insert (suc n) (suc i) x (y ∷ xs) h l = ap (y ∷◌) (pad-insert n i x xs (omega arith) (omega arith))

-- slice_insert on a padded list
pub inserted-pad : (n i x : ℕ) (xs : List ℕ) → i ≤ length xs → i < n → inserted (pad n xs) i x ≡ pad n (insert_at i x xs)
unfolding inserted
inserted-pad n i x xs h l = rw (length-pad n xs) (pad-insert n i x xs h l)

pub removed-pad : (n i : ℕ) (xs : List ℕ) → length xs ≤ n → pad n (remove_at i (pad n xs)) ≡ pad n (remove_at i xs)
removed-pad zero i xs h = refl
removed-pad (suc n) zero [] h = pad_twice (suc n) n [] (omega arith)
removed-pad (suc n) (suc i) [] h = ap (0 ∷◌) (removed-pad n i [] (omega arith))
removed-pad (suc n) zero (x ∷ xs) h = pad_twice (suc n) n xs (omega arith)
removed-pad (suc n) (suc i) (x ∷ xs) h = ap (x ∷◌) (removed-pad n i xs (omega arith))

-- n words copied to the front of zeros
pub part_pad : (m from n : ℕ) (xs : List ℕ) → from + n ≤ length xs → from + n ≤ m → paste (pad m []) 0 (drop from (pad m xs)) n ≡ pad m (take n (drop from xs))
part_pad m from n xs h l =
    let k : length (take n (drop from xs)) ≡ n = length-take-le n (drop from xs) (simp length-drop (omega arith)) in
    let e : 0 + n ≡ n = omega arith in
    rw (pad_part m from n xs h l, e, pad-drop n m [], drop-nil n)
    (ap (λ (j : ℕ). take n (drop from xs) ++ pad (m - j) []) (sym k) ∙ pad_fill m (take n (drop from xs)) (omega arith))

-- those of ys copied behind xs
pub append-pad : (m : ℕ) (xs ys : List ℕ) → length xs + length ys ≤ m → paste (pad m xs) (length xs) (pad m ys) (length ys) ≡ pad m (xs ++ ys)
append-pad m xs ys h =
    let a : take (length xs) (pad m xs) ≡ xs = pad_part m 0 (length xs) xs (omega arith) (omega arith) ∙ take-length xs in
    let b : take (length ys) (pad m ys) ≡ ys = pad_part m 0 (length ys) ys (omega arith) (omega arith) ∙ take-length ys in
    rw (a, b, pad-drop (length xs + length ys) m xs, drop_of_length-le xs {i = length xs + length ys} (omega arith), sym (length-append xs ys))
    (pad_fill m (xs ++ ys) (omega (arith, length-append xs ys)))

-- a word goes: what stands behind it moves up, and a 0 comes to the end
shift_words : (n at : ℕ) (a : List ℕ) → length a ≡ suc n → at < suc n → set (take at a ++ shifted (drop at a) 1) n 0 ≡ pad (suc n) (remove_at at a)
unfolding shifted
shift_words n at [] h l = absurd (omega arith)
shift_words zero zero (x ∷ []) h l = refl
shift_words zero zero (x ∷ y ∷ a) h l = absurd (omega arith)
shift_words zero (suc at) (x ∷ a) h l = absurd (omega arith)
shift_words (suc n) zero (x ∷ a) h l =
    let e : suc (length a) - 1 ≡ suc n = omega arith in
    let z : suc (suc n) - length a ≡ 1 = omega arith in
    rw (e, drop-cons a n 0 (omega arith), drop_of_length-le a {i = suc n} (omega arith), set_at a (get_or a n 0) [] 0 (suc n) (omega arith))
    (ap (λ (j : ℕ). a ++ pad j []) (sym z) ∙ pad_fill (suc (suc n)) a (omega arith))
shift_words (suc n) (suc at) (x ∷ a) h l = ap (x ∷◌) (shift_words n at a (omega arith) (omega arith))

pub without_word : (a s : List ℕ) (at : ℕ) → length a ≡ 16 → at < 16 → s ≡ shifted (take (16 - at) (drop at a)) 1 → set (put_mid at (16 - at) a s) 15 0 ≡ pad 16 (remove_at at a)
without_word a s at h l e =
    let p : take (16 - at) (drop at a) ≡ drop at a = take_all (16 - at) (drop at a) (simp length-drop (omega arith)) in
    let q : drop (16 - at) (drop at a) ≡ [] = drop_of_length-le (drop at a) {i = 16 - at} (simp length-drop (omega arith)) in
    rw (e, p, q, append-nil) (shift_words 15 at a h l)

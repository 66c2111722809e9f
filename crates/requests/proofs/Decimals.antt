-- PROOFS. A number as text: what is written from the right is the number's digits, they read back as the number, and no zero is in front
use mathlib.Core.Path.{◌≡◌, refl, ap, ◌∙◌}
use mathlib.Core.List.{List, [], ◌∷◌, ◌++◌}
use Prim.Native.Nat.{ℕ, zero, suc, ◌+◌, ◌-◌, ◌*◌, ◌/◌, ◌%◌, ◌^◌, ◌≤◌, ◌<◌}
use native.Mathlib.Nat.{pow-suc, div-lt_iff_lt-mul}
use native.Mathlib.Omega.{arith}
use lib.Dec.{ltb}
use lib.ListN.{length, take, drop, set, get_or, length-set, drop_of_length-le}
use lib.Seq.{drop-cons, drop-set-lt, drop_at, get_or-set_same, length-take-le, set_split, take-append-le, take-set-le, take-take}
use borrow.Author.Tests.{lt-ltb, le-ltb, ltb-false}
use Rattle.forest.specs.Lists.{once}
use Rattle.forest.specs.declared.Answer.{Answer}
use Rattle.forest.proofs.ListLaws.{cons_eq, test, is, isnt}
use Rattle.std.specs.Prelude.{Bool, true, false}
use Rattle.std.specs.Int.{from_bool}
use Rattle.requests.specs.Text.{digits_of, decimal, line}

-- a byte stored before a text
pub byte_before : (l : List ℕ) (i j v : ℕ) → j ≡ suc i → i < length l → drop i (set l i v) ≡ v ∷ drop j l
byte_before l i j v e h =
    rw e (drop-cons (set l i v) i 0 (rw length-set h) ∙ cons_eq (get_or-set_same l i v 0 h) (drop-set-lt (suc i) l i v (omega arith)))

-- the digit that is written last, and the others
pub spell_last : (most n : ℕ) (text : List ℕ) → 1 ≤ most → n < 10 → digits_of most n text ≡ (48 + n) ∷ text
spell_last zero n text p h = absurd (omega arith)
spell_last (suc m) n text p h = rw (lt-ltb n 10 h)

pub spell-more : (most n : ℕ) (text : List ℕ) → 1 ≤ most → 10 ≤ n → digits_of most n text ≡ digits_of (most - 1) (n / 10) ((48 + n % 10) ∷ text)
spell-more zero n text p h = absurd (omega arith)
spell-more (suc m) n text p h =
    let q : suc m - 1 ≡ m = omega arith in
    rw (q, le-ltb n 10 h)

-- a digit less to write
pub tenth : (most n : ℕ) → n < 10 ^ most → 10 ≤ n → (1 ≤ most - 1) × (n / 10 < 10 ^ (most - 1))
tenth zero n h t = absurd (omega arith)
tenth (suc zero) n h t = absurd (omega arith)
tenth (suc (suc k)) n h t =
    let q : suc (suc k) - 1 ≡ suc k = omega arith in
    rw q (omega arith, (div-lt_iff_lt-mul {k = 10} {x = n} {y = 10 ^ suc k} (omega arith)).1 (rw pow-suc at h))

-- digits stand before any text alike
pub spell-append : (m n : ℕ) (xs ys : List ℕ) → digits_of m n (xs ++ ys) ≡ digits_of m n xs ++ ys
spell-append zero n xs ys = refl
spell-append (suc m) n xs ys = elim (test (ltb n 10)) [ is e ↦ simp e | isnt e ↦ simp e (spell-append m (n / 10) ((48 + n % 10) ∷ xs) ys) ]

pub spell-decimal : (n : ℕ) (text : List ℕ) → digits_of 10 n text ≡ decimal n ++ text
unfolding decimal
spell-decimal n text = spell-append 10 n [] text

-- the last store of `digits`, and the others: what stands before them stays
pub digits_last : (l : List ℕ) (at most n : ℕ) → 1 ≤ most → most ≤ at → at ≤ length l → n < 10 → set l (at - 1) (48 + n) ≡ take (at - 1) l ++ digits_of most n (drop at l)
digits_last l at most n m a h t =
    let q : suc (at - 1) ≡ at = omega arith in
    set_split l (at - 1) (48 + n) (omega arith) ∙ rw (q, spell_last most n (drop at l) m t)

pub digits_more : (l v : List ℕ) (at most n r : ℕ) → 1 ≤ most → most ≤ at → at ≤ length l → 10 ≤ n → r ≤ at - 1 →
    v ≡ take r (set l (at - 1) (48 + n % 10)) ++ digits_of (most - 1) (n / 10) (drop (at - 1) (set l (at - 1) (48 + n % 10))) → v ≡ take r l ++ digits_of most n (drop at l)
digits_more l v at most n r m a h t b e =
    e ∙ rw (
      take-set-le r l (at - 1) (48 + n % 10) b,
      byte_before l (at - 1) at (48 + n % 10) (omega arith) (omega arith),
      spell-more most n (drop at l) m t,
    )

-- found as a digit
pub found_digit : (b : Bool) → 48 + from_bool b ≡ 48 + once b
found_digit true = refl
found_digit false = refl

-- the line, written from the right
pub line_text : (a : Answer) → digits_of 10 a.number (32 ∷ (48 + once a.found) ∷ 32 ∷ digits_of 10 a.value (10 ∷ [])) ≡ line a
unfolding line
line_text a = rw (spell-decimal a.value (10 ∷ [])) (spell-decimal a.number _)

-- v has the value's digits from place i on, w the whole line from place r on
pub line_written : (a : Answer) (l v w : List ℕ) (i r f : ℕ) → length l ≡ 24 → length v ≡ 24 → 3 ≤ i → i ≤ 23 → r ≤ i - 3 → f ≡ 48 + once a.found →
    v ≡ take i (set l 23 10) ++ digits_of 10 a.value (drop 23 (set l 23 10)) →
    (let u = set (set (set v (i - 1) 32) (i - 2) f) (i - 3) 32 in w ≡ take r u ++ digits_of 10 a.number (drop (i - 3) u)) → w ≡ take r l ++ line a
line_written a l v w i r f h k lo hi b q e g =
    let nothing-after : drop 24 l ≡ [] = drop_of_length-le l {i = 24} (omega arith) in
    let end : drop 23 (set l 23 10) ≡ 10 ∷ [] = byte_before l 23 24 10 refl (omega arith) ∙ ap (λ (t : List ℕ). 10 ∷ t) nothing-after in
    let front : length (take i (set l 23 10)) ≡ i = length-take-le i (set l 23 10) (rw length-set (omega arith)) in
    let value : drop i v ≡ digits_of 10 a.value (10 ∷ []) = rw e (drop_at (take i (set l 23 10)) _ i front ∙ ap (digits_of 10 a.value) end) in
    let v1 = set v (i - 1) 32 in
    let v2 = set v1 (i - 2) f in
    let one : drop (i - 1) v1 ≡ 32 ∷ drop i v = byte_before v (i - 1) i 32 (omega arith) (omega arith) in
    let two : drop (i - 2) v2 ≡ f ∷ drop (i - 1) v1 = byte_before v1 (i - 2) (i - 1) f (omega arith) (rw length-set (omega arith)) in
    let three : drop (i - 3) (set v2 (i - 3) 32) ≡ 32 ∷ drop (i - 2) v2 = byte_before v2 (i - 3) (i - 2) 32 (omega arith) (simp length-set (omega arith)) in
    let text : digits_of 10 a.number (drop (i - 3) (set v2 (i - 3) 32)) ≡ line a = ap (digits_of 10 a.number) (three ∙ rw (two, one, value, q)) ∙ line_text a in
    let stays : take r (set v2 (i - 3) 32) ≡ take r l =
    take-set-le r v2 (i - 3) 32 b ∙ take-set-le r v1 (i - 2) f (omega arith) ∙ take-set-le r v (i - 1) 32 (omega arith) ∙
    rw e (take-append-le r (take i (set l 23 10)) _ (omega arith) ∙ take-take r i (set l 23 10) (omega arith) ∙ take-set-le r l 23 10 (omega arith)) in
    g ∙ rw (stays, text)

-- The text of a number is right

-- a text of digits read, after a number
abbrev pub read_on : ℕ → List ℕ → ℕ
read_on n [] = n
read_on n (d ∷ ds) = read_on (n * 10 + (d - 48)) ds

pub read_spell : (m n : ℕ) (text : List ℕ) → 1 ≤ m → n < 10 ^ m → read_on 0 (digits_of m n text) ≡ read_on n text
read_spell zero n text p h = absurd (omega arith)
read_spell (suc m) n text p h = elim (test (ltb n 10)) [
  | is e ↦ simp e (ap (λ (k : ℕ). read_on k text) (omega arith))
  | isnt e ↦
      let t = tenth (suc m) n h (ltb-false n 10 e) in
      let q : suc m - 1 ≡ m = omega arith in
      simp e (read_spell m (n / 10) ((48 + n % 10) ∷ text) (rw q at t.0) (rw q at t.1) ∙ ap (λ (k : ℕ). read_on k text) (omega arith))
]

-- it reads back as the number
pub read_decimal : (n : ℕ) → n < 2 ^ 32 → read_on 0 (decimal n) ≡ n
unfolding decimal
read_decimal n h = read_spell 10 n [] (omega arith) (omega arith)

pub front-spell : (m n : ℕ) (text : List ℕ) → 1 ≤ m → n < 10 ^ m → 1 ≤ n → 49 ≤ get_or (digits_of m n text) 0 0
front-spell zero n text p h k = absurd (omega arith)
front-spell (suc m) n text p h k = elim (test (ltb n 10)) [
  | is e ↦ simp e (omega arith)
  | isnt e ↦
      let big = ltb-false n 10 e in
      let t = tenth (suc m) n h big in
      let q : suc m - 1 ≡ m = omega arith in
      simp e (front-spell m (n / 10) ((48 + n % 10) ∷ text) (rw q at t.0) (rw q at t.1) (omega arith))
]

-- no zero is in front, but for 0 itself
pub front-decimal : (n : ℕ) → n < 2 ^ 32 → 1 ≤ n → 49 ≤ get_or (decimal n) 0 0
unfolding decimal
front-decimal n h k = front-spell 10 n [] (omega arith) (omega arith) k

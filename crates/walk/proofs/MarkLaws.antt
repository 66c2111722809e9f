-- PROOFS. Marks: a number that is marked is marked, and no other changes; so marks count
use mathlib.Core.Path.{◌≡◌, refl, sym, ap, ◌∙◌}
use mathlib.Core.List.{List, [], ◌∷◌}
use mathlib.Core.Bool.{Bool, true, false}
use Prim.Native.Nat.{ℕ, zero, suc, ◌+◌, ◌-◌, ◌*◌, ◌/◌, ◌%◌, ◌^◌, ◌≤◌, ◌<◌, max}
use native.Mathlib.Nat.{mod-lt, max-zero}
use native.Mathlib.Omega.{arith}
use lib.ListN.{length, get_or, length-set, replicate}
use lib.Seq.{get_or-set_same, get_or-set_other}
use lib.Dec.{eqb}
use lib.Bits.{bit_or, or_shr, or_step, shifted_even}
use lib.Arith.{digits_mod, lt-one}
use lib.Pow.{shl-shr, pow-add, pow-lt, shr_lt}
use borrow.Author.Tests.{eqb-true, eqb-false, eq-eqb, ne_eqb}
use Rattle.forest.specs.Lists.{once, count}
use Rattle.forest.proofs.ListLaws.{is, isnt, test, tri, less, same, more}
use Rattle.walk.specs.Marks.{bit, has, mark}
use Rattle.walk.proofs.Subtree.{Each, Fresh}

-- the marks with those of all numbers of a list
abbrev pub mark_all : List ℕ → List ℕ → List ℕ
mark_all ms [] = ms
mark_all ms (n ∷ ns) = mark_all (mark ms n) ns

bit_or_lem : (a b i : ℕ) → bit (bit_or a b) i ≡ max (bit a i) (bit b i)
bit_or_lem a b i =
    let x = a / (2 ^ i) in
    let y = b / (2 ^ i) in
    rw (or_shr a b i, or_step (a / (2 ^ i)) (b / (2 ^ i)))
    (digits_mod (bit_or (x / 2) (y / 2)) {m = 2} {r = max (x % 2) (y % 2)} (omega (arith, mod-lt x {m = 2} (omega arith), mod-lt y {m = 2} (omega arith))))

bit_pow : (j i : ℕ) → bit (2 ^ j) i ≡ once (eqb i j)
bit_pow j i = elim (tri i j) [
  | less h ↦
      let e : j ≡ suc (j - i - 1) + i = omega arith in
      let one : 2 ^ suc (j - i - 1) ≡ 1 * 2 ^ suc (j - i - 1) = omega arith in
      rw (ne_eqb i j (omega arith), e, pow-add 2 (suc (j - i - 1)) i, shl-shr (2 ^ suc (j - i - 1)) i, one) (shifted_even 1 (j - i - 1))
  | same h ↦
      let one : 2 ^ j ≡ 1 * 2 ^ j = omega arith in
      let d : 2 ^ j / (2 ^ j) ≡ 1 = ap (λ (x : ℕ). x / (2 ^ j)) one ∙ shl-shr 1 j in
      rw (h, eq-eqb j j refl, d)
  | more h ↦
      let z : 0 + i ≡ i = omega arith in
      let l : 2 ^ j < 2 ^ (0 + i) = rw z (pow-lt h) in
      let d : 2 ^ j / (2 ^ i) ≡ 0 = lt-one (shr_lt 0 i l) in
      rw (ne_eqb i j (omega arith), d)
]

pub has_nought : (ms : List ℕ) → has ms zero ≡ false
unfolding has
has_nought ms = refl

has_word : (ms : List ℕ) (i : ℕ) → has ms (suc i) ≡ eqb (bit (get_or ms (i / 64) 0) (i % 64)) 1
unfolding has
has_word ms i = refl

module _ (ms : List ℕ) (i : ℕ) (l : length ms ≡ 8) (g : i < 512) where
  marked_word : (j : ℕ) → j / 64 ≡ i / 64 → get_or (mark ms (suc i)) (j / 64) 0 ≡ bit_or (get_or ms (i / 64) 0) (2 ^ (i % 64))
  unfolding mark
  marked_word j e = rw e (get_or-set_same ms (i / 64) _ 0 (omega arith))

  other_word : (j : ℕ) → (j / 64 ≡ i / 64 → ⊥) → get_or (mark ms (suc i)) (j / 64) 0 ≡ get_or ms (j / 64) 0
  unfolding mark
  other_word j e = get_or-set_other ms (i / 64) (j / 64) _ 0 e

  pub has-mark : has ms (suc i) ≡ false → (k : ℕ) → once (has (mark ms (suc i)) k) ≡ once (eqb k (suc i)) + once (has ms k)
  has-mark f zero = rw (has_nought (mark ms (suc i)), has_nought ms, ne_eqb 0 (suc i) (omega arith))
  has-mark f (suc j) = elim (test (eqb (j / 64) (i / 64))) [
    | isnt e ↦
        let n : (j / 64 ≡ i / 64) → ⊥ = eqb-false (j / 64) (i / 64) e in
        rw (has_word (mark ms (suc i)) j, has_word ms j, other_word j n, ne_eqb (suc j) (suc i) (λ p. n (let w : j ≡ i = omega arith in ap (λ (x : ℕ). x / 64) w))) (omega arith)
    | is e ↦
        let q : j / 64 ≡ i / 64 = eqb-true (j / 64) (i / 64) e in
        elim (test (eqb (j % 64) (i % 64))) [
          | is d ↦
              let r : j % 64 ≡ i % 64 = eqb-true (j % 64) (i % 64) d in
              let s : j ≡ i = omega arith in
              let b : bit (get_or (mark ms (suc i)) (i / 64) 0) (i % 64) ≡ 1 =
              rw (marked_word i refl, bit_or_lem (get_or ms (i / 64) 0) (2 ^ (i % 64)) (i % 64), bit_pow (i % 64) (i % 64), eq-eqb (i % 64) (i % 64) refl)
              (omega (arith, mod-lt (get_or ms (i / 64) 0 / (2 ^ (i % 64))) {m = 2} (omega arith))) in
              rw (s, has_word (mark ms (suc i)) i, b, f, eq-eqb (suc i) (suc i) refl)
          | isnt d ↦
              let b : bit (get_or (mark ms (suc i)) (j / 64) 0) (j % 64) ≡ bit (get_or ms (j / 64) 0) (j % 64) =
              rw (marked_word j q, bit_or_lem (get_or ms (i / 64) 0) (2 ^ (i % 64)) (j % 64), bit_pow (i % 64) (j % 64), d, q) (max-zero _) in
              let n : (j ≡ i) → ⊥ = λ p. eqb-false (j % 64) (i % 64) d (ap (λ (x : ℕ). x % 64) p) in
              rw (has_word (mark ms (suc i)) j, b, has_word ms j, ne_eqb (suc j) (suc i) (λ p. n (omega arith))) (omega arith)
        ]
  ]

pub length-mark : (ms : List ℕ) (n : ℕ) → length (mark ms n) ≡ length ms
unfolding mark
length-mark ms zero = refl
length-mark ms (suc i) = length-set ms (i / 64) _

-- the numbers 1 to 512
abbrev pub Small : ℕ → Type 0
Small n = (1 ≤ n) × (n ≤ 512)

pub mark_law : (ms : List ℕ) (n : ℕ) → length ms ≡ 8 → Small n → has ms n ≡ false → (k : ℕ) → once (has (mark ms n) k) ≡ once (eqb k n) + once (has ms k)
mark_law ms zero l s f k = absurd (omega arith)
mark_law ms (suc i) l s f k = has-mark ms i l (omega arith) f k

-- marks count
pub marks_count : (ms ns : List ℕ) → length ms ≡ 8 → Each Small ns → Fresh ms ns → (k : ℕ) → once (has (mark_all ms ns) k) ≡ count k ns + once (has ms k)
marks_count ms [] l s f k = omega arith
marks_count ms (n ∷ ns) l s f k =
    marks_count (mark ms n) ns (length-mark ms n ∙ l) s.1 f.1 k ∙ omega (arith, mark_law ms n l s.0 f.0 k)

once-false : (b : Bool) → once b ≡ 0 → b ≡ false
once-false true e = absurd (omega arith)
once-false false e = refl

-- numbers of which none stands twice are unmarked, each at its turn
pub fresh-once : (ms ns : List ℕ) → length ms ≡ 8 → Each Small ns → ((k : ℕ) → count k ns + once (has ms k) ≤ 1) → Fresh ms ns
fresh-once ms [] l s c = tt
fresh-once ms (n ∷ ns) l s c =
    let o : once (eqb n n) ≡ 1 = ap once (eq-eqb n n refl) in
    let f : has ms n ≡ false = once-false (has ms n) (omega (arith, c n)) in
    (f, fresh-once (mark ms n) ns (length-mark ms n ∙ l) s.1 (λ k. omega (arith, c k, mark_law ms n l s.0 f k)))

abbrev pub clean : List ℕ
clean = replicate 8 0

zero_bit : (i : ℕ) → bit 0 i ≡ 0
zero_bit i =
    let z : 0 * 2 ^ i ≡ 0 = omega arith in
    let d : 0 / (2 ^ i) ≡ 0 = ap (λ (x : ℕ). x / (2 ^ i)) (sym z) ∙ shl-shr 0 i in
    rw d

clean_word : (n i : ℕ) → ◌≡◌ {A = ℕ} (get_or (replicate n 0) i 0) 0
clean_word zero i = refl
clean_word (suc n) zero = refl
clean_word (suc n) (suc i) = clean_word n i

pub has-clean : (k : ℕ) → has clean k ≡ false
has-clean zero = has_nought clean
has-clean (suc i) = rw (has_word clean i, clean_word 8 (i / 64), zero_bit (i % 64))

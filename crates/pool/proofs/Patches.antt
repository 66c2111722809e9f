-- PROOFS. Loops that copy words, and words put in place one part after the other
use mathlib.Core.Path.{◌≡◌, refl, sym, ap, ◌∙◌}
use mathlib.Core.List.{List, [], ◌∷◌, ◌++◌, append_assoc}
use Prim.Native.Nat.{ℕ, ◌+◌, ◌-◌, ◌≤◌, ◌<◌}
use native.Mathlib.Numerals.{add-one}
use native.Mathlib.Omega.{arith}
use lib.ListN.{length, take, drop, set, get_or, length-append, length-take, length-drop, replicate, length-replicate}
use lib.Seq.{take_all, paste, paste-suc, take-length, take_at, set_split, drop-drop, length-take-le}
use borrow.Rule.Slice.PartMut.{put_mid}
use Rattle.forest.specs.Slices.{block_at}
use Rattle.pool.specs.Stores.{patched, block, with_block, base}

-- what the loop of `load` leaves
pub copied_out : (ws o : List ℕ) (t n i : ℕ) → i ≡ 16 → length o ≡ 16 → take i o ≡ take i (drop (base t n) ws) → o ≡ block ws t n
unfolding block_at
copied_out ws o t n i f h e = sym (take_all i o (omega arith)) ∙ e ∙ ap (λ (j : ℕ). take j (drop (base t n) ws)) f

-- a turn of a loop that stores the words of s from place a on
pub copied_in : (ws v s : List ℕ) (a i x : ℕ) → a + i < length ws → i < length s → x ≡ get_or s i 0 → v ≡ paste ws a s i → set v (a + i) x ≡ paste ws a s (i + 1)
copied_in ws v s a i x h p q e = rw (e, q) (paste-suc ws a s i 0 h p ∙ ap (paste ws a s) (sym (add-one i)))

-- and what it leaves
pub copied_back : (ws v s : List ℕ) (a i : ℕ) → i ≡ length s → v ≡ paste ws a s i → v ≡ patched ws a s
unfolding patched
copied_back ws v s a i f e =
    e ∙ ap (paste ws a s) f ∙ append_assoc (take a ws) (take (length s) s) (drop (a + length s) ws) ∙ ap (λ (l : List ℕ). take a ws ++ (l ++ drop (a + length s) ws)) (take-length s)

-- the loop of `store`
pub stored : (ws v s : List ℕ) (t n i : ℕ) → i ≡ length s → v ≡ paste ws (base t n) s i → v ≡ with_block ws t n s
unfolding with_block
stored ws v s t n i f e = copied_back ws v s (base t n) i f e

-- what `fill` leaves of the words from place a up to place b: r zeros
pub zeroed : (ws z : List ℕ) (a b r : ℕ) → b ≡ a + r → b ≤ length ws → z ≡ replicate (length (take (b - a) (drop a ws))) 0 → put_mid a (b - a) ws z ≡ patched ws a (replicate r 0)
unfolding patched
zeroed ws z a b r e h q =
    let k : b - a ≡ r = omega arith in
    let l : length (take r (drop a ws)) ≡ r = length-take-le r (drop a ws) (simp length-drop (omega arith)) in
    let y : z ≡ replicate r 0 = rw (k, l) at q in
    rw (k, y, length-replicate, ← (drop-drop r a ws)) refl

pub patched-length : (ws s : List ℕ) (a : ℕ) → a + length s ≤ length ws → length (patched ws a s) ≡ length ws
unfolding patched
patched-length ws s a h = simp (length-append, length-take, length-drop) (omega arith)

-- a word stored is a part of one word
pub set-patched : (ws : List ℕ) (a v : ℕ) → a < length ws → set ws a v ≡ patched ws a (v ∷ [])
unfolding patched
set-patched ws a v h = set_split ws a v h ∙ ap (λ (k : ℕ). take a ws ++ v ∷ drop k ws) (sym (add-one a))

-- words that begin with l, once s is put behind it
pub begun : (ws l s : List ℕ) (a : ℕ) → a ≡ length l → a ≤ length ws → take a ws ≡ l → take (a + length s) (patched ws a s) ≡ l ++ s
unfolding patched
begun ws l s a h k e =
    rw (e, ← (append_assoc l s (drop (a + length s) ws)))
    (take_at (l ++ s) (drop (a + length s) ws) (a + length s) (simp length-append (omega arith)))

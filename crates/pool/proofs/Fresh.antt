-- PROOFS. The words of a fresh pool, part by part, and that they are sound
use mathlib.Core.Path.{◌≡◌, refl, sym, ap, ◌∙◌}
use mathlib.Core.List.{List, [], ◌∷◌, ◌++◌, append_assoc, map, reverse_aux}
use mathlib.Core.Bool.{true}
use Prim.Native.Nat.{ℕ, zero, suc, ◌+◌, ◌-◌, ◌*◌, ◌≤◌, ◌<◌}
use native.Mathlib.Omega.{arith}
use lib.ListN.{length, take, drop, get_or, set, replicate, length-append, length-replicate, length-set, replicate-append-replicate}
use lib.Seq.{take-length, paste}
use borrow.Rule.Slice.PartMut.{put_mid}
use Rattle.forest.specs.Lists.{pad}
use Rattle.forest.specs.Rows.{Tree}
use Rattle.forest.specs.Pools.{in_trees, node_words, nodes_from, root, encode, fresh, fresh_stack, formatted, format_words, Sound}
use Rattle.forest.proofs.CountLaws.{fresh_sound}
use Rattle.pool.specs.Stores.{patched, down}
use Rattle.pool.proofs.Patches.{copied_in, copied_back, zeroed, set-patched, begun, patched-length}

pub down-length : (n : ℕ) → length (down n) ≡ n
down-length zero = refl
down-length (suc n) = ap suc (down-length n)

pub down-at : (n i : ℕ) → i < n → get_or (down n) i 0 ≡ n - i
down-at zero i h = absurd (omega arith)
down-at (suc n) zero h = omega arith
down-at (suc n) (suc i) h = down-at n i (omega arith) ∙ omega arith

-- a turn of the loop that stores the stack
pub stacked : (ws v : List ℕ) (a n i : ℕ) → a + i < length ws → i < n → v ≡ paste ws a (down n) i → set v (a + i) (n - i) ≡ paste ws a (down n) (i + 1)
stacked ws v a n i h p e = copied_in ws v (down n) a i (n - i) h (rw down-length p) (sym (down-at n i p)) e

-- and what it leaves
pub stacked_all : (ws v : List ℕ) (a n i : ℕ) → i ≡ n → v ≡ paste ws a (down n) i → v ≡ patched ws a (down n)
stacked_all ws v a n i f e = copied_back ws v (down n) a i (rw down-length f) e

-- the stack top first, turned over
turned : (k c : ℕ) → reverse_aux (fresh_stack (suc k) c) (down k) ≡ down (k + c)
turned k zero = let e : k ≡ k + 0 = omega arith in ap down e
turned k (suc c) = turned (suc k) c ∙ (let e : suc k + c ≡ k + suc c = omega arith in ap down e)

pad-down : (n : ℕ) → pad n (down n) ≡ down n
pad-down zero = refl
pad-down (suc n) = ap (suc n ∷◌) (pad-down n)

fresh-length : (n c : ℕ) → length (fresh_stack n c) ≡ c
fresh-length n zero = refl
fresh-length n (suc c) = ap suc (fresh-length (suc n) c)

fresh_roots : (T : ℕ) → map root (replicate T []) ≡ replicate T 0
fresh_roots zero = refl
fresh_roots (suc T) = ap (0 ∷◌) (fresh_roots T)

fresh-node : (T n : ℕ) → in_trees n (replicate T []) (pad 16 []) ≡ replicate 16 0
fresh-node zero n = refl
fresh-node (suc T) n = fresh-node T n

fresh_nodes : (T n c : ℕ) → nodes_from (node_words (replicate T [])) n c ≡ replicate (16 * c) 0
fresh_nodes T n zero = refl
fresh_nodes T n (suc c) =
    let e : 16 + 16 * c ≡ 16 * suc c = omega arith in
    rw (fresh-node T n, fresh_nodes T (suc n) c) (replicate-append-replicate 16 (16 * c) 0 ∙ ap (λ (k : ℕ). replicate k 0) e)

-- the parts in their order
abbrev parts : ℕ → ℕ → List ℕ
parts T N = (T ∷ []) ++ replicate T 0 ++ (N ∷ []) ++ replicate (16 * N) 0 ++ (N ∷ []) ++ down N

fresh_words : (T N : ℕ) → encode (fresh T N) ≡ parts T N
unfolding encode
fresh_words T N =
    let e : 0 + N ≡ N = omega arith in
    simp (length-replicate {A = Tree} T [], fresh_roots T, fresh_nodes T 1 N, fresh-length 1 N, turned 0 N, e, pad-down N, append_assoc)

-- s is put at place a, behind l; b is the place after it
next : (v v' l s : List ℕ) (a b : ℕ) → v' ≡ patched v a s → a ≡ length l → a ≤ length v → b ≡ a + length s → take a v ≡ l → take b v' ≡ l ++ s
next v v' l s a b e h k q t = rw (e, q) (begun v l s a h k t)

-- r zeros leave the length
clear_long : (v v' : List ℕ) (a r long : ℕ) → v' ≡ patched v a (replicate r 0) → a + r ≤ long → length v ≡ long → length v' ≡ long
clear_long v v' a r long e h k = ap length e ∙ patched-length v (replicate r 0) a (omega (arith, length-replicate {A = ℕ} r 0)) ∙ k

-- the steps of laying out, in order: the zeros that fill the roots, those that fill the nodes, and the words at the end
module _ (ws : List ℕ) (T N : ℕ) (long : length ws ≡ T + 17 * N + 3) where
  abbrev w1 : List ℕ
  w1 = set ws 0 T

  long1 : length w1 ≡ T + 17 * N + 3
  long1 = length-set ws 0 T ∙ long

  module _ (roots : List ℕ) (filled : roots ≡ replicate (length (take (1 + T - 1) (drop 1 w1))) 0) where
    abbrev w2 : List ℕ
    w2 = put_mid 1 (1 + T - 1) w1 roots

    e2 : w2 ≡ patched w1 1 (replicate T 0)
    e2 = zeroed w1 roots 1 (1 + T) T refl (omega (arith, long1)) filled

    abbrev w3 : List ℕ
    w3 = set w2 (T + 1) N

    long2 : length w2 ≡ T + 17 * N + 3
    long2 = clear_long w1 w2 1 T (T + 17 * N + 3) e2 (omega arith) long1

    long3 : length w3 ≡ T + 17 * N + 3
    long3 = length-set w2 (T + 1) N ∙ long2

    module _ (nodes : List ℕ) (cleared : nodes ≡ replicate (length (take (T + 2 + 16 * N - (T + 2)) (drop (T + 2) w3))) 0) where
      abbrev w4 : List ℕ
      w4 = put_mid (T + 2) (T + 2 + 16 * N - (T + 2)) w3 nodes

      e4 : w4 ≡ patched w3 (T + 2) (replicate (16 * N) 0)
      e4 = zeroed w3 nodes (T + 2) (T + 2 + 16 * N) (16 * N) refl (omega (arith, long3)) cleared

      abbrev w5 : List ℕ
      w5 = set w4 (T + 2 + 16 * N) N

      long4 : length w4 ≡ T + 17 * N + 3
      long4 = clear_long w3 w4 (T + 2) (16 * N) (T + 17 * N + 3) e4 (omega arith) long3

      long5 : length w5 ≡ T + 17 * N + 3
      long5 = length-set w4 (T + 2 + 16 * N) N ∙ long4

      module _ (w6 : List ℕ) (e6 : w6 ≡ patched w5 (T + 3 + 16 * N) (down N)) where
        long6 : length w6 ≡ T + 17 * N + 3
        long6 = ap length e6 ∙ patched-length w5 (down N) (T + 3 + 16 * N) (omega (arith, long5, down-length N)) ∙ long5

        pub laid : w6 ≡ encode (fresh T N)
        laid =
            let p1 = (T ∷ []) in
            let p2 = p1 ++ replicate T 0 in
            let p3 = p2 ++ (N ∷ []) in
            let p4 = p3 ++ replicate (16 * N) 0 in
            let p5 = p4 ++ (N ∷ []) in
            let r = length-replicate {A = ℕ} T 0 in
            let q = length-replicate {A = ℕ} (16 * N) 0 in
            let l2 : length p2 ≡ T + 1 = omega (arith, length-append p1 (replicate T 0), r) in
            let l3 : length p3 ≡ T + 2 = omega (arith, length-append p2 (N ∷ []), l2) in
            let l4 : length p4 ≡ T + 2 + 16 * N = omega (arith, length-append p3 (replicate (16 * N) 0), l3, q) in
            let l5 : length p5 ≡ T + 3 + 16 * N = omega (arith, length-append p4 (N ∷ []), l4) in
            let s1 : take 1 w1 ≡ p1 = next ws w1 [] (T ∷ []) 0 1 (set-patched ws 0 T (omega (arith, long))) refl (omega arith) refl refl in
            let s2 : take (T + 1) w2 ≡ p2 = next w1 w2 p1 (replicate T 0) 1 (T + 1) e2 refl (omega (arith, long1)) (omega (arith, r)) s1 in
            let s3 : take (T + 2) w3 ≡ p3 = next w2 w3 p2 (N ∷ []) (T + 1) (T + 2) (set-patched w2 (T + 1) N (omega (arith, long2))) (sym l2) (omega (arith, long2)) (omega arith) s2 in
            let s4 : take (T + 2 + 16 * N) w4 ≡ p4 = next w3 w4 p3 (replicate (16 * N) 0) (T + 2) (T + 2 + 16 * N) e4 (sym l3) (omega (arith, long3)) (omega (arith, q)) s3 in
            let s5 : take (T + 3 + 16 * N) w5 ≡ p5 =
            next w4 w5 p4 (N ∷ []) (T + 2 + 16 * N) (T + 3 + 16 * N) (set-patched w4 (T + 2 + 16 * N) N (omega (arith, long4))) (sym l4) (omega (arith, long4)) (omega arith) s4 in
            let s6 : take (length w6) w6 ≡ p5 ++ down N =
            next w5 w6 p5 (down N) (T + 3 + 16 * N) (length w6) e6 (sym l5) (omega (arith, long5)) (omega (arith, long6, down-length N)) s5 in
            sym (take-length w6) ∙ s6 ∙ sym (fresh_words T N)

-- formatted words are sound, whatever the minimum of a leaf
pub format_sound : (m T N : ℕ) (ws : List ℕ) → formatted T N (length ws) ≡ true → Sound m (format_words T N ws)
unfolding format_words
format_sound m T N ws h = rw h (fresh_sound m T N (length ws) h)

-- PROOFS. A word taken out of a part of the words; a pair taken out of a leaf's
use mathlib.Core.Path.{◌≡◌, refl, sym, ap, ◌∙◌}
use mathlib.Core.List.{List, [], ◌∷◌, ◌++◌, append_assoc}
use Prim.Native.Nat.{ℕ, zero, suc, ◌+◌, ◌-◌, ◌≤◌, ◌<◌}
use native.Mathlib.Omega.{arith}
use lib.ListN.{length, take, drop, get_or, set, length-append, length-drop, length-map, drop_of_length-le}
use lib.Seq.{length-take-le, take-append-add, drop-append-add, take-append-le, take-append_seam, drop-append_seam, drop-cons, take-add, set_at, get_or_at}
use borrow.Rule.Slice.PartMut.{put_mid, Post-is}
use Rattle.forest.specs.Lists.{remove_at, pad}
use Rattle.forest.specs.Pairs.{Item}
use Rattle.forest.specs.Pools.{leaf_words}
use Rattle.forest.specs.Slices.{shifted}
use Rattle.forest.proofs.Slices.{first_block, around_block}
use Rattle.forest.proofs.CountLaws.{length-pad, leaf_length}
use Rattle.forest.proofs.ListLaws.{length-remove_at, map-remove_at}
use Rattle.node.specs.Nodes.{leaf_pairs}
use Rattle.node.proofs.Words.{length_pairs, keys_of, links_of}
use Rattle.node.proofs.Pads.{removed-pad}
use Rattle.pool.specs.Stores.{base, block, with_block, patched}
use Rattle.remove.specs.Keys.{closed, less_words, LeafPair}

-- close_up: s is the part once it is shifted
set_last : (l d r : List ℕ) (y n : ℕ) → length l + length d ≡ n → set (l ++ ((d ++ (y ∷ [])) ++ r)) n 0 ≡ l ++ (d ++ 0 ∷ r)
set_last l d r y n h =
    let e : l ++ ((d ++ (y ∷ [])) ++ r) ≡ (l ++ d) ++ y ∷ r = simp append_assoc in
    ap (λ (v : List ℕ). set v n 0) e ∙ set_at (l ++ d) y r 0 n (length-append l d ∙ h) ∙ append_assoc l d (0 ∷ r)

pub closes : (ws s : List ℕ) (at end : ℕ) → at < end → end ≤ length ws → s ≡ shifted (take (end - at) (drop at ws)) 1 → set (put_mid at (end - at) ws s) (end - 1) 0 ≡ closed ws at end
unfolding closed shifted
closes ws s at end h l e =
    let k : length (take (end - at) (drop at ws)) ≡ end - at = length-take-le (end - at) (drop at ws) (simp length-drop (omega arith)) in
    let y : drop (length (take (end - at) (drop at ws)) - 1) (take (end - at) (drop at ws)) ≡ get_or (take (end - at) (drop at ws)) (length (take (end - at) (drop at ws)) - 1) 0 ∷ [] =
    drop-cons (take (end - at) (drop at ws)) (length (take (end - at) (drop at ws)) - 1) 0 (omega arith) ∙
    ap (get_or (take (end - at) (drop at ws)) (length (take (end - at) (drop at ws)) - 1) 0 ∷◌) (drop_of_length-le (take (end - at) (drop at ws)) {i = suc (length (take (end - at) (drop at ws)) - 1)} (omega arith)) in
    let f : length (take at ws) ≡ at = length-take-le at ws (omega arith) in
    let g : take end ws ≡ take at ws ++ take (end - at) (drop at ws) = (let z : end ≡ at + (end - at) = omega arith in ap (λ (n : ℕ). take n ws) z ∙ take-add at (end - at) ws) in
    let d : drop (suc at) (take end ws) ≡ drop 1 (take (end - at) (drop at ws)) =
    (let z : suc at ≡ length (take at ws) + 1 = omega arith in
    ap (drop (suc at)) g ∙ ap (λ (n : ℕ). drop n (take at ws ++ take (end - at) (drop at ws))) z ∙ drop-append-add (take at ws) (take (end - at) (drop at ws)) 1) in
    ap (λ (r : List ℕ). set (take at ws ++ (r ++ drop (end - at) (drop at ws))) (end - 1) 0) (e ∙ ap (drop 1 (take (end - at) (drop at ws)) ++◌) y) ∙
    set_last (take at ws) (drop 1 (take (end - at) (drop at ws))) (drop (end - at) (drop at ws)) _ (end - 1) (simp length-drop (omega arith)) ∙
    ap (λ (r : List ℕ). take at ws ++ (drop 1 (take (end - at) (drop at ws)) ++ 0 ∷ r)) (Post-is at end ws (omega arith)) ∙
    ap (λ (r : List ℕ). take at ws ++ (r ++ 0 ∷ drop end ws)) (sym d)

-- a part of the words that closes up: l before it, r behind it
pad_one : (s r : List ℕ) → s ++ 0 ∷ r ≡ pad (suc (length s)) s ++ r
pad_one [] r = refl
pad_one (x ∷ s) r = ap (x ∷◌) (pad_one s r)

gap : (s r : List ℕ) (at : ℕ) → at < length s → take at s ++ (drop (suc at) s ++ 0 ∷ r) ≡ pad (length s) (remove_at at s) ++ r
gap [] r at h = absurd (omega arith)
gap (x ∷ s) r zero h = pad_one s r
gap (x ∷ s) r (suc at) h = ap (x ∷◌) (gap s r at (omega arith))

closed_part : (l s r : List ℕ) (at i e : ℕ) → at < length s → i ≡ length l + at → e ≡ length l + length s → closed (l ++ (s ++ r)) i e ≡ l ++ (pad (length s) (remove_at at s) ++ r)
unfolding closed
closed_part l s r at i e h p q =
    let z : suc (length l + at) ≡ length l + suc at = omega arith in
    rw (
      p,
      q,
      take-append-add l (s ++ r) at,
      take-append-add l (s ++ r) (length s),
      drop-append-add l (s ++ r) (length s),
      take-append_seam s r,
      drop-append_seam s r,
      z,
      drop-append-add l s (suc at),
      take-append-le at s r (omega arith),
      append_assoc,
    )
    (ap (l ++◌) (gap s r at h))

-- a padded section
closed-pad : (l xs r : List ℕ) (n at i e : ℕ) → length xs ≤ n → at < n → i ≡ length l + at → e ≡ length l + n → closed (l ++ (pad n xs ++ r)) i e ≡ l ++ (pad n (remove_at at xs) ++ r)
closed-pad l xs r n at i e f h p q =
    closed_part l (pad n xs) r at i e (omega (arith, length-pad n xs)) p (omega (arith, length-pad n xs)) ∙
    ap (λ (k : ℕ). l ++ (pad k (remove_at at (pad n xs)) ++ r)) (length-pad n xs) ∙ ap (λ (v : List ℕ). l ++ (v ++ r)) (removed-pad n at xs f)

flat : (l ks ls r : List ℕ) (a : ℕ) → ((l ++ (a ∷ [])) ++ ks) ++ (ls ++ r) ≡ l ++ ((a ∷ (ks ++ ls)) ++ r)
flat l ks ls r a = simp append_assoc

-- the words of a leaf: its count, then keys, then values
module _ (l r : List ℕ) (ys : List Item) (at : ℕ) (h : at < length ys) (few : length ys ≤ 7) where
  counted : (b a : ℕ) → b ≡ length l → a ≡ 31 + length ys → set (l ++ (leaf_words ys ++ r)) b a ≡ l ++ ((31 + length ys) ∷ (pad 7 (keys_of ys) ++ (pad 8 (links_of ys) ++ r)))
  counted b a e f = set_at l _ _ a b (sym e) ∙ rw (f, append_assoc)

  leaf_closed : (b : ℕ) (v1 v2 v3 : List ℕ) → b ≡ length l → v1 ≡ set (l ++ (leaf_words ys ++ r)) b (get_or (l ++ (leaf_words ys ++ r)) b 0 - 1) →
      v2 ≡ closed v1 (b + 1 + at) (b + 8) → v3 ≡ closed v2 (b + 8 + at) (b + 16) → v3 ≡ l ++ (leaf_words (remove_at at ys) ++ r)
  leaf_closed b v1 v2 v3 e e1 e2 e3 =
      let n : suc (length (remove_at at ys)) ≡ length ys = length-remove_at at ys h in
      let w : get_or (l ++ (leaf_words ys ++ r)) b 0 ≡ 32 + length ys = get_or_at l _ _ 0 b (sym e) in
      let q1 : v1 ≡ (l ++ ((31 + length ys) ∷ [])) ++ (pad 7 (keys_of ys) ++ (pad 8 (links_of ys) ++ r)) =
      e1 ∙ counted b (get_or (l ++ (leaf_words ys ++ r)) b 0 - 1) e (omega arith) ∙ sym (append_assoc l ((31 + length ys) ∷ []) _) in
      let l1 : length (l ++ ((31 + length ys) ∷ [])) ≡ length l + 1 = length-append l ((31 + length ys) ∷ []) in
      let q2 : v2 ≡ ((l ++ ((31 + length ys) ∷ [])) ++ pad 7 (remove_at at (keys_of ys))) ++ (pad 8 (links_of ys) ++ r) =
      e2 ∙ ap (λ (v : List ℕ). closed v (b + 1 + at) (b + 8)) q1 ∙
      closed-pad (l ++ ((31 + length ys) ∷ [])) (keys_of ys) (pad 8 (links_of ys) ++ r) 7 at (b + 1 + at) (b + 8) (rw (length-map ys (λ (x : Item). x.0)) few) (omega arith) (omega arith) (omega arith) ∙
      sym (append_assoc (l ++ ((31 + length ys) ∷ [])) (pad 7 (remove_at at (keys_of ys))) (pad 8 (links_of ys) ++ r)) in
      let l2 : length ((l ++ ((31 + length ys) ∷ [])) ++ pad 7 (remove_at at (keys_of ys))) ≡ length l + 8 =
      length-append (l ++ ((31 + length ys) ∷ [])) (pad 7 (remove_at at (keys_of ys))) ∙ omega (arith, length-pad 7 (remove_at at (keys_of ys))) in
      let q3 : v3 ≡ ((l ++ ((31 + length ys) ∷ [])) ++ pad 7 (remove_at at (keys_of ys))) ++ (pad 8 (remove_at at (links_of ys)) ++ r) =
      e3 ∙ ap (λ (v : List ℕ). closed v (b + 8 + at) (b + 16)) q2 ∙
      closed-pad ((l ++ ((31 + length ys) ∷ [])) ++ pad 7 (remove_at at (keys_of ys))) (links_of ys) r 8 at (b + 8 + at) (b + 16) (rw (length-map ys (λ (x : Item). x.1)) (omega arith)) (omega arith) (omega arith) (omega arith) in
      let c : 31 + length ys ≡ 32 + length (remove_at at ys) = omega arith in
      q3 ∙ flat l (pad 7 (remove_at at (keys_of ys))) (pad 8 (remove_at at (links_of ys))) r (31 + length ys) ∙
      rw (c, map-remove_at (λ (x : Item). x.0) at ys, map-remove_at (λ (x : Item). x.1) at ys)

-- take_out
pub took : (ws v1 v2 v3 : List ℕ) (t n at : ℕ) → LeafPair ws t n at → v1 ≡ set ws (base t n) (get_or ws (base t n) 0 - 1) →
    v2 ≡ closed v1 (base t n + 1 + at) (base t n + 8) → v3 ≡ closed v2 (base t n + 8 + at) (base t n + 16) → v3 ≡ less_words ws t n at
unfolding less_words with_block patched
took ws v1 v2 v3 t n at a e1 e2 e3 =
    let w : ws ≡ take (base t n) ws ++ (leaf_words (leaf_pairs (block ws t n)) ++ drop (base t n + 16) ws) = around_block ws (base t n) ∙ ap (λ (v : List ℕ). take (base t n) ws ++ (v ++ drop (base t n + 16) ws)) (sym a.leaf.same) in
    let m : length (leaf_pairs (block ws t n)) ≡ get_or ws (base t n) 0 - 32 = length_pairs (block ws t n) ∙ ap (λ (x : ℕ). x - 32) (first_block ws (base t n)) in
    let b : base t n ≡ length (take (base t n) ws) = sym (length-take-le (base t n) ws (omega (arith, a.within.long))) in
    leaf_closed (take (base t n) ws) (drop (base t n + 16) ws) (leaf_pairs (block ws t n)) at (omega (arith, a.pair)) (omega (arith, a.within.most)) (base t n) v1 v2 v3 b
    (e1 ∙ ap (λ (v : List ℕ). set v (base t n) (get_or v (base t n) 0 - 1)) w) e2 e3 ∙
    ap (λ (k : ℕ). take (base t n) ws ++ (leaf_words (remove_at at (leaf_pairs (block ws t n))) ++ drop (base t n + k) ws)) (sym (leaf_length (remove_at at (leaf_pairs (block ws t n)))))

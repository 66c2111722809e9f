-- PROOFS. The words of a leaf changed in place: a value replaced, an entry come
use mathlib.Core.Path.{◌≡◌, refl, sym, ap, ◌∙◌}
use mathlib.Core.List.{List, [], ◌∷◌, ◌++◌, append_assoc, map}
use mathlib.Core.Bool.{true, false, true≢false}
use Prim.Native.Nat.{ℕ, zero, suc, ◌+◌, ◌-◌, ◌≤◌, ◌<◌}
use native.Mathlib.Omega.{arith}
use lib.ListN.{length, take, drop, get_or, set, length-append, length-map, length-set, length-drop, get_or-append}
use lib.Seq.{length-take-le, take-append-le, drop-append-le, take-append-add, drop-append-add, get_or-append-add, take_at, drop_at, take-take}
use borrow.Author.Tests.{lt-ltb, le-ltb}
use borrow.Rule.Slice.PartMut.{put_mid}
use Rattle.forest.specs.Lists.{insert_at, pad}
use Rattle.forest.specs.Pairs.{Item}
use Rattle.forest.specs.Slices.{inserted}
use Rattle.forest.specs.Pools.{leaf_words}
use Rattle.forest.proofs.ListLaws.{length-insert_at, map-insert_at, set_left, set_right}
use Rattle.forest.proofs.Slices.{around_block}
use Rattle.forest.proofs.CountLaws.{length-pad}
use Rattle.pool.specs.Stores.{base, patched, block, with_block}
use Rattle.pool.proofs.Patches.{patched-length}
use Rattle.node.specs.Nodes.{leaf_pairs}
use Rattle.node.proofs.Words.{leaf_key, leaf_value}
use Rattle.grow.specs.Puts.{LeafPlace, filled_words, Tries}
use Rattle.grow.proofs.Spelling

-- A part of a list: w between f and r
module _ (f w r ws : List ℕ) (e : ws ≡ f ++ (w ++ r)) (b : ℕ) (l : length f ≡ b) where
  part_at : (i : ℕ) → i < length w → get_or ws (b + i) 0 ≡ get_or w i 0
  part_at i h = rw (e, ← l) (get_or-append-add f (w ++ r) i 0 ∙ get_or-append w r 0 i h)

  part_set : (i v : ℕ) → i < length w → set ws (b + i) v ≡ f ++ (set w i v ++ r)
  part_set i v h = rw (e, ← l) (set_right i v f (w ++ r) ∙ ap (f ++◌) (set_left i v w r h))

  part_drop : (a : ℕ) → a ≤ length w → drop (b + a) ws ≡ drop a w ++ r
  part_drop a h = rw (e, ← l) (drop-append-add f (w ++ r) a ∙ drop-append-le a w r h)

  part_of : (a k : ℕ) → a + k ≤ length w → take k (drop (b + a) ws) ≡ take k (drop a w)
  part_of a k h = rw (part_drop a (omega arith)) (take-append-le k (drop a w) r (simp length-drop (omega arith)))

  part_put : (a k : ℕ) (ys : List ℕ) → a + k ≤ length w → put_mid (b + a) k ws ys ≡ f ++ (put_mid a k w ys ++ r)
  part_put a k ys h =
      let x : take (b + a) ws ≡ f ++ take a w = rw (e, ← l) (take-append-add f (w ++ r) a ∙ ap (f ++◌) (take-append-le a w r (omega arith))) in
      let y : drop k (drop (b + a) ws) ≡ drop k (drop a w) ++ r = rw (part_drop a (omega arith)) (drop-append-le k (drop a w) r (simp length-drop (omega arith))) in
      rw (x, y) (simp append_assoc)

-- An entry comes to padded words, of which the first m are moved
taken-pad : (m n : ℕ) (xs : List ℕ) → length xs ≤ m → m ≤ n → take m (pad (suc n) xs) ++ drop (suc m) (pad (suc n) xs) ≡ pad n xs
taken-pad zero n [] h k = refl
taken-pad zero n (x ∷ xs) h k = absurd (omega arith)
taken-pad (suc m) zero xs h k = absurd (omega arith)
taken-pad (suc m) (suc n) [] h k = ap (0 ∷◌) (taken-pad m n [] (omega arith) (omega arith))
taken-pad (suc m) (suc n) (x ∷ xs) h k = ap (x ∷◌) (taken-pad m n xs (omega arith) (omega arith))

moved-pad : (m n i x : ℕ) (xs : List ℕ) → i ≤ length xs → length xs < m → m ≤ n → take m (insert_at i x (take m (pad n xs))) ++ drop m (pad n xs) ≡ pad n (insert_at i x xs)
moved-pad zero n i x xs h l k = absurd (omega arith)
moved-pad (suc m) zero i x xs h l k = absurd (omega arith)
moved-pad (suc m) (suc n) zero x xs h l k =
    ap (x ∷◌) (ap (◌++ drop (suc m) (pad (suc n) xs)) (take-take m (suc m) (pad (suc n) xs) (omega arith)) ∙ taken-pad m n xs (omega arith) (omega arith))
moved-pad (suc m) (suc n) (suc i) x [] h l k = absurd (omega arith)
moved-pad (suc m) (suc n) (suc i) x (y ∷ xs) h l k = ap (y ∷◌) (moved-pad m n i x xs (omega arith) (omega arith) (omega arith))

come_pad : (m n i x : ℕ) (xs : List ℕ) → i ≤ length xs → length xs < m → m ≤ n → inserted (take m (pad n xs)) i x ++ drop m (pad n xs) ≡ pad n (insert_at i x xs)
unfolding inserted
come_pad m n i x xs h l k = rw (length-take-le m (pad n xs) (rw (length-pad n xs) k)) (moved-pad m n i x xs h l k)

-- The words of a leaf: its keys moved, then its values
abbrev keys : List Item → List ℕ
keys ys = map (λ (y : Item). y.0) ys

abbrev values : List Item → List ℕ
values ys = map (λ (y : Item). y.1) ys

-- once the key has come, and then the value
abbrev keyed : List Item → ℕ → ℕ → List ℕ
keyed ys i key = (32 + length ys) ∷ (pad 7 (insert_at i key (keys ys)) ++ pad 8 (values ys))

abbrev valued : List Item → ℕ → ℕ → ℕ → List ℕ
valued ys i key value = (32 + length ys) ∷ (pad 7 (insert_at i key (keys ys)) ++ pad 8 (insert_at i value (values ys)))

entry_comes : (ys : List Item) (i key value v : ℕ) → v ≡ suc (32 + length ys) → set (valued ys i key value) 0 v ≡ leaf_words (insert_at i (key, value) ys)
entry_comes ys i key value v e =
    let z : v ≡ 32 + length (insert_at i (key, value) ys) = omega (arith, length-insert_at i (key, value) ys) in
    rw (z, map-insert_at (λ (y : Item). y.0) i (key, value) ys, map-insert_at (λ (y : Item). y.1) i (key, value) ys)

module _ (ys : List Item) (i k : ℕ) (h : i ≤ length ys) (few : length ys < 7) (q : k ≡ suc (length ys)) where
  key_comes : (key : ℕ) (ks : List ℕ) → ks ≡ inserted (take k (drop 1 (leaf_words ys))) i key → put_mid 1 k (leaf_words ys) ks ≡ keyed ys i key
  key_comes key ks e =
      let n : length (keys ys) ≡ length ys = length-map ys (λ (y : Item). y.0) in
      let l : k ≤ length (pad 7 (keys ys)) = rw (length-pad 7 (keys ys)) (omega arith) in
      ap ((32 + length ys) ∷◌)
      (rw (e, take-append-le k (pad 7 (keys ys)) (pad 8 (values ys)) l, drop-append-le k (pad 7 (keys ys)) (pad 8 (values ys)) l)
      (sym (append_assoc (inserted (take k (pad 7 (keys ys))) i key) (drop k (pad 7 (keys ys))) (pad 8 (values ys))) ∙
      ap (◌++ pad 8 (values ys)) (come_pad k 7 i key (keys ys) (omega arith) (omega arith) (omega arith))))

  value_comes : (key value : ℕ) (vs : List ℕ) → vs ≡ inserted (take k (drop 8 (keyed ys i key))) i value → put_mid 8 k (keyed ys i key) vs ≡ valued ys i key value
  value_comes key value vs e =
      let n : length (values ys) ≡ length ys = length-map ys (λ (y : Item). y.1) in
      let a : take 7 (pad 7 (insert_at i key (keys ys)) ++ pad 8 (values ys)) ≡ pad 7 (insert_at i key (keys ys)) = take_at (pad 7 (insert_at i key (keys ys))) (pad 8 (values ys)) 7 (length-pad 7 (insert_at i key (keys ys))) in
      let b : drop 7 (pad 7 (insert_at i key (keys ys)) ++ pad 8 (values ys)) ≡ pad 8 (values ys) = drop_at (pad 7 (insert_at i key (keys ys))) (pad 8 (values ys)) 7 (length-pad 7 (insert_at i key (keys ys))) in
      ap ((32 + length ys) ∷◌) (rw (e, a, b) (ap (pad 7 (insert_at i key (keys ys)) ++◌) (come_pad k 8 i value (values ys) (omega arith) (omega arith) (omega arith))))

-- A leaf in its place among the words
module _ (ws : List ℕ) (t n p : ℕ) (g : LeafPlace ws t n p) where
  abbrev items : List Item
  items = leaf_pairs (block ws t n)

  abbrev fore : List ℕ
  fore = take (base t n) ws

  abbrev rear : List ℕ
  rear = drop (base t n + 16) ws

  fore_length : length fore ≡ base t n
  fore_length = length-take-le (base t n) ws (omega (arith, g.placed.room))

  around : ws ≡ fore ++ (leaf_words items ++ rear)
  around = around_block ws (base t n) ∙ ap (λ (w : List ℕ). fore ++ (w ++ rear)) (sym g.leaf.same)

  -- other words for the leaf
  stored : (w : List ℕ) → length w ≡ 16 → fore ++ (w ++ rear) ≡ with_block ws t n w
  unfolding with_block patched
  stored w h = rw h

  pub first_is : get_or ws (base t n) 0 ≡ 32 + length items
  first_is = let z : base t n + 0 ≡ base t n = omega arith in ap (λ (i : ℕ). get_or ws i 0) (sym z) ∙ part_at fore (leaf_words items) rear ws around (base t n) fore_length 0 (rw (Spelling.leaf_length items) (omega arith))

  first_block : get_or (block ws t n) 0 0 ≡ 32 + length items
  first_block = ap (λ (w : List ℕ). get_or w 0 0) (sym g.leaf.same)

  inside : p ≤ length items
  inside = omega (arith, first_block, g.inside)

  pub few : length items ≤ 7
  few = omega (arith, first_block, g.leaf.few)

  sixteen : length (leaf_words items) ≡ 16
  sixteen = Spelling.leaf_length items

  -- a key, a value, and another value stored
  pub key_at : p < 7 → get_or ws (base t n + 1 + p) 0 ≡ (get_or items p (0, 0)).0
  key_at h =
      let z : base t n + 1 + p ≡ base t n + suc p = omega arith in
      rw z (part_at fore (leaf_words items) rear ws around (base t n) fore_length (suc p) (omega (arith, sixteen)) ∙ leaf_key items p h)

  pub value_at : p < 7 → get_or ws (base t n + 8 + p) 0 ≡ (get_or items p (0, 0)).1
  value_at h =
      let z : base t n + 8 + p ≡ base t n + (8 + p) = omega arith in
      rw z (part_at fore (leaf_words items) rear ws around (base t n) fore_length (8 + p) (omega (arith, sixteen)) ∙ leaf_value items p (omega arith))

  pub value_put : (v : ℕ) → p < 7 → set ws (base t n + 8 + p) v ≡ with_block ws t n (set (leaf_words items) (8 + p) v)
  value_put v h =
      let z : base t n + 8 + p ≡ base t n + (8 + p) = omega arith in
      rw z (part_set fore (leaf_words items) rear ws around (base t n) fore_length (8 + p) v (omega (arith, sixteen)) ∙
      stored (set (leaf_words items) (8 + p) v) (length-set (leaf_words items) (8 + p) v ∙ sixteen))

  -- full
  pub tried_full : (x : Item) → 39 ≤ get_or ws (base t n) 0 → Tries t n p x ws ws false
  tried_full x h = record {
    room = sym (le-ltb (get_or (block ws t n) 0 0) 39 (omega (arith, first_is, first_block)));
    done_words = λ e. absurd (true≢false (sym e));
    full_words = λ e. refl;
  }

  -- or with room: the keys are moved, then the values
  module _ (h : get_or ws (base t n) 0 < 39) (key value : ℕ) where
    abbrev lent : ℕ → ℕ
    lent a = base t n + suc a + (get_or ws (base t n) 0 - 32) - (base t n + a)

    lent_is : (a : ℕ) → lent a ≡ suc (length items)
    lent_is a = omega (arith, first_is)

    roomy : length items < 7
    roomy = omega (arith, first_is)

    long : (w : List ℕ) (a : ℕ) → length w ≡ 16 → a ≤ 8 → p < length (take (lent a) (drop a w))
    long w a e l =
        let k = lent_is a in
        let m : lent a ≤ length (drop a w) = simp length-drop (omega (arith, roomy)) in
        rw (length-take-le (lent a) (drop a w) m) (omega (arith, inside))

    pub key_asks : p < length (take (lent 1) (drop (base t n + 1) ws))
    key_asks = rw (part_of fore (leaf_words items) rear ws around (base t n) fore_length 1 (lent 1) (omega (arith, lent_is 1, sixteen, roomy))) (long (leaf_words items) 1 sixteen (omega arith))

    pub key_ends : base t n + 2 + (get_or ws (base t n) 0 - 32) ≤ length ws
    key_ends = omega (arith, g.placed.room)

    module _ (ks : List ℕ) (e : ks ≡ inserted (take (lent 1) (drop (base t n + 1) ws)) p key) where
      abbrev half : List ℕ
      half = keyed items p key

      half_length : length half ≡ 16
      half_length = simp (length-append, length-pad) (omega arith)

      half-way : put_mid (base t n + 1) (lent 1) ws ks ≡ fore ++ (half ++ rear)
      half-way =
          let b : 1 + lent 1 ≤ length (leaf_words items) = omega (arith, lent_is 1, sixteen, roomy) in
          part_put fore (leaf_words items) rear ws around (base t n) fore_length 1 (lent 1) ks b ∙
          ap (λ (w : List ℕ). fore ++ (w ++ rear)) (key_comes items p (lent 1) inside roomy (lent_is 1) key ks
          (e ∙ ap (λ (l : List ℕ). inserted l p key) (part_of fore (leaf_words items) rear ws around (base t n) fore_length 1 (lent 1) b)))

      abbrev once : List ℕ
      once = put_mid (base t n + 1) (lent 1) ws ks

      pub value_asks : p < length (take (lent 8) (drop (base t n + 8) once))
      value_asks = rw (part_of fore half rear once half-way (base t n) fore_length 8 (lent 8) (omega (arith, lent_is 8, half_length, roomy))) (long half 8 half_length (omega arith))

      pub value_ends : base t n + 9 + (get_or ws (base t n) 0 - 32) ≤ length once
      value_ends = rw half-way (simp (length-append, length-pad, fore_length, length-drop) (omega (arith, g.placed.room)))

      module _ (vs : List ℕ) (f : vs ≡ inserted (take (lent 8) (drop (base t n + 8) once)) p value) where
        abbrev whole : List ℕ
        whole = set (put_mid (base t n + 8) (lent 8) once vs) (base t n) (get_or ws (base t n) 0 + 1)

        abbrev both : List ℕ
        both = valued items p key value

        both_ways : put_mid (base t n + 8) (lent 8) once vs ≡ fore ++ (both ++ rear)
        both_ways =
            let b : 8 + lent 8 ≤ length half = omega (arith, lent_is 8, half_length, roomy) in
            part_put fore half rear once half-way (base t n) fore_length 8 (lent 8) vs b ∙
            ap (λ (w : List ℕ). fore ++ (w ++ rear)) (value_comes items p (lent 8) inside roomy (lent_is 8) key value vs
            (f ∙ ap (λ (l : List ℕ). inserted l p value) (part_of fore half rear once half-way (base t n) fore_length 8 (lent 8) b)))

        filled : whole ≡ filled_words ws t n p (key, value)
        unfolding filled_words
        filled =
            let m : base t n + 0 ≡ base t n = omega arith in
            ap (λ (i : ℕ). set (put_mid (base t n + 8) (lent 8) once vs) i (get_or ws (base t n) 0 + 1)) (sym m) ∙
            part_set fore both rear (put_mid (base t n + 8) (lent 8) once vs) both_ways (base t n) fore_length 0 (get_or ws (base t n) 0 + 1) (omega arith) ∙
            ap (λ (w : List ℕ). fore ++ (w ++ rear)) (entry_comes items p key value (get_or ws (base t n) 0 + 1) (omega (arith, first_is))) ∙
            stored (leaf_words (insert_at p (key, value) items)) (Spelling.leaf_length (insert_at p (key, value) items))

        pub tried_done : Tries t n p (key, value) ws whole true
        tried_done = record {
          room = sym (lt-ltb (get_or (block ws t n) 0 0) 39 (omega (arith, first_is, first_block)));
          done_words = λ e. filled;
          full_words = λ e. absurd (true≢false e);
        }

        pub same_words : length whole ≡ length ws
        unfolding filled_words with_block
        same_words = ap length filled ∙ patched-length ws (leaf_words (insert_at p (key, value) items)) (base t n) (omega (arith, g.placed.room, Spelling.leaf_length (insert_at p (key, value) items)))

        pub first_inside : base t n < length (put_mid (base t n + 8) (lent 8) once vs)
        first_inside = rw both_ways (simp (length-append, fore_length) (omega arith))

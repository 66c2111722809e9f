-- PROOFS. On the words over a store: the free stack, a node taken and a node freed
use mathlib.Core.Path.{◌≡◌, refl, sym, ap, ◌∙◌}
use mathlib.Core.List.{List, [], ◌∷◌, ◌++◌, append-nil, reverse, reverse-cons}
use Prim.Native.Nat.{ℕ, zero, suc, ◌+◌, ◌-◌, ◌*◌, ◌≤◌, ◌<◌}
use native.Mathlib.Numerals.{add-one}
use native.Mathlib.Omega.{arith}
use lib.ListN.{length, set, length-reverse}
use lib.Seq.{get_or-append-add, get_or_at, set_at}
use Rattle.forest.specs.Sizes.{most_nodes}
use Rattle.forest.specs.Lists.{pad}
use Rattle.forest.proofs.ListLaws.{set_right}
use Rattle.forest.specs.Pools.{nodes_from}
use Rattle.pool.specs.Stores.{Store, put, spell, Sixteen, no_words, top_node, taken_words, pushed_words, freed_words, Stocked, Freeable}
use Rattle.pool.proofs.Bridges.{fore, spell-length, spell-stack_at, spell-frees, spell_rear, front_length, spell_placed, spell-with_block}

-- a list that is padded with zeros
pad-append : (n : ℕ) (xs ys : List ℕ) → length xs ≤ n → pad n (xs ++ ys) ≡ xs ++ pad (n - length xs) ys
pad-append n [] ys h = let e : n - 0 ≡ n = omega arith in rw e
pad-append zero (x ∷ xs) ys h = absurd (omega arith)
pad-append (suc n) (x ∷ xs) ys h =
    let e : suc n - suc (length xs) ≡ n - length xs = omega arith in
    rw e (ap (x ∷◌) (pad-append n xs ys (omega arith)))

-- the stack, and the first place after it
pad-room : (N : ℕ) (free : List ℕ) → length free < N → pad N (reverse free) ≡ reverse free ++ (0 ∷ pad (N - suc (length free)) [])
pad-room N free h =
    let l = length-reverse free in
    let e : N - length (reverse free) ≡ suc (N - suc (length free)) = omega arith in
    ap (pad N) (sym (append-nil (reverse free))) ∙ pad-append N (reverse free) [] (omega arith) ∙ rw e

-- the stack without its top, the top, and the places after it
pad_top : (N x : ℕ) (free : List ℕ) → length free < N → pad N (reverse (x ∷ free)) ≡ reverse free ++ (x ∷ pad (N - suc (length free)) [])
pad_top N x free h =
    let l = length-reverse free in
    let e : N - length (reverse free) ≡ suc (N - suc (length free)) = omega arith in
    ap (pad N) (reverse-cons x free) ∙ pad-append N (reverse free) (x ∷ []) (omega arith) ∙ rw e

-- a word, and one behind a list of r words, stored anew
two_sets : (f q z : List ℕ) (a b y v p r : ℕ) → length f ≡ p → length q ≡ r →
    set (set (f ++ (a ∷ (q ++ (y ∷ z)))) p b) (p + suc r) v ≡ f ++ (b ∷ (q ++ (v ∷ z)))
two_sets f q z a b y v p r h k =
    rw (set_at f a (q ++ (y ∷ z)) b p h, ← h) (set_right (suc r) v f (b ∷ (q ++ (y ∷ z))) ∙ ap (λ (l : List ℕ). f ++ (b ∷ l)) (set_at q y z v r k))

module _ (roots : List ℕ) (N : ℕ) (st : Store) (free : List ℕ) (s : Sixteen st) (room : length free < N) where
  abbrev at : ℕ
  at = length roots + 2 + 16 * N

  abbrev gap : List ℕ
  gap = pad (N - suc (length free)) []

  -- with x on top
  module _ (x : ℕ) where
    abbrev topped : List ℕ
    topped = spell roots N st (x ∷ free)

    topped-rear : topped ≡ (fore roots N st (x ∷ free) s ++ nodes_from st 1 N) ++ (suc (length free) ∷ (reverse free ++ (x ∷ gap)))
    topped-rear = spell_rear roots N st (x ∷ free) s ∙ rw (pad_top N x free room)

    pub spell_stocked : Stocked topped (length roots)
    spell_stocked = record {
      some = rw (spell-frees roots N st (x ∷ free) s) (omega arith);
      room = rw (spell-frees roots N st (x ∷ free) s, spell-stack_at roots N st (x ∷ free) s) (omega (arith, spell-length roots N st (x ∷ free) s));
    }

    -- the top is x
    pub spell_top : top_node topped (length roots) ≡ x
    spell_top =
        let f = fore roots N st (x ∷ free) s ++ nodes_from st 1 N in
        rw (spell-frees roots N st (x ∷ free) s, spell-stack_at roots N st (x ∷ free) s, topped-rear, ← (front_length roots N st (x ∷ free) s))
        (get_or-append-add f (suc (length free) ∷ (reverse free ++ (x ∷ gap))) (suc (length free)) 0 ∙ get_or_at (reverse free) x gap 0 (length free) (length-reverse free))

    -- once it is taken
    pub spell-taken : taken_words topped (length roots) ≡ spell roots N st free
    unfolding taken_words
    spell-taken =
        let f = fore roots N st (x ∷ free) s ++ nodes_from st 1 N in
        let e : suc (length free) - 1 ≡ length free = omega arith in
        rw (spell-frees roots N st (x ∷ free) s, spell-stack_at roots N st (x ∷ free) s, topped-rear, e)
        (two_sets f (reverse free) gap (suc (length free)) (length free) x 0 at (length free) (front_length roots N st (x ∷ free) s) (length-reverse free)
        ∙ sym (spell_rear roots N st free s ∙ rw (pad-room N free room)))

  -- n comes on top
  pub spell-pushed : (n : ℕ) → pushed_words (spell roots N st free) (length roots) n ≡ spell roots N st (n ∷ free)
  unfolding pushed_words
  spell-pushed n =
      let f = fore roots N st free s ++ nodes_from st 1 N in
      let e : spell roots N st free ≡ f ++ (length free ∷ (reverse free ++ (0 ∷ gap))) = spell_rear roots N st free s ∙ rw (pad-room N free room) in
      rw (spell-frees roots N st free s, spell-stack_at roots N st free s, add-one (length free), e)
      (two_sets f (reverse free) gap (length free) (suc (length free)) 0 n at (length free) (front_length roots N st free s) (length-reverse free) ∙ sym (topped-rear n))

  module _ (n : ℕ) (lo : 1 ≤ n) (hi : n ≤ N) where
    pub spell_freeable : N ≤ most_nodes → Freeable (spell roots N st free) (length roots) n
    spell_freeable few = record {
      node = spell_placed roots N st free s n lo hi;
      few = rw (spell-frees roots N st free s) (omega arith);
      room = rw (spell-frees roots N st free s, spell-stack_at roots N st free s) (omega (arith, spell-length roots N st free s));
    }

    -- node n is zeros, and on top
    pub spell-freed : freed_words (spell roots N st free) (length roots) n ≡ spell roots N (put st n no_words) (n ∷ free)
    unfolding freed_words
    spell-freed = rw (spell-pushed n) (spell-with_block roots N st (n ∷ free) s n lo hi no_words refl)

-- PROOFS. On the words over a store: counts, roots, the node of a number
use mathlib.Core.Path.{◌≡◌, refl, sym, ap, ◌∙◌}
use mathlib.Core.List.{List, [], ◌∷◌, ◌++◌, append_assoc, reverse}
use Prim.Native.Nat.{ℕ, zero, suc, ◌+◌, ◌-◌, ◌*◌, ◌≤◌, ◌<◌}
use native.Mathlib.Numerals.{add-one}
use native.Mathlib.Omega.{arith}
use lib.ListN.{length, drop, get_or, set, length-append, length-set, get_or-append}
use lib.Seq.{set-append_left, take_at, drop_at, drop-append_seam, get_or-append_seam}
use Rattle.forest.specs.Lists.{pad}
use Rattle.forest.specs.Slices.{block_at}
use Rattle.forest.specs.Pools.{nodes_from}
use Rattle.forest.proofs.CountLaws.{length-pad, nodes_length}
use Rattle.pool.specs.Stores.{Store, put, spell, Sixteen, base, patched, block, with_block, stack_at, free_count, Placed}
use Rattle.pool.proofs.Spell.{put_same, put_other, nodes_ext, nodes_other}

-- the words of node m + k among those of c nodes from m on
nodes_split : (st : Store) (m c k : ℕ) → k < c → nodes_from st m c ≡ nodes_from st m k ++ (st (m + k) ++ nodes_from st (suc (m + k)) (c - suc k))
nodes_split st m zero k h = absurd (omega arith)
nodes_split st m (suc c) zero h =
    let y : m + 0 ≡ m = omega arith in
    let z : suc c - 1 ≡ c = omega arith in
    rw (y, z)
nodes_split st m (suc c) (suc k) h =
    let y : m + suc k ≡ suc m + k = omega arith in
    let z : suc c - suc (suc k) ≡ c - suc k = omega arith in
    rw (y, z, append_assoc) (ap (st m ++◌) (nodes_split st (suc m) c k (omega arith)))

regroup : (f x y z r : List ℕ) → f ++ ((x ++ (y ++ z)) ++ r) ≡ (f ++ x) ++ (y ++ (z ++ r))
regroup f x y z r = simp append_assoc

module _ (roots : List ℕ) (N : ℕ) (st : Store) (free : List ℕ) (s : Sixteen st) where
  -- the words in front of the nodes, and behind them
  abbrev pub fore : List ℕ
  fore = length roots ∷ roots ++ (N ∷ [])

  abbrev pub rear : List ℕ
  rear = length free ∷ pad N (reverse free)

  fore_length : length fore ≡ length roots + 2
  fore_length = omega (arith, length-append roots (N ∷ []))

  pub spell-length : length (spell roots N st free) ≡ length roots + 17 * N + 3
  unfolding spell
  spell-length =
      simp (length-append fore (nodes_from st 1 N ++ rear), length-append (nodes_from st 1 N) rear)
      (omega (arith, fore_length, nodes_length st 1 N s, length-pad N (reverse free)))

  -- T, N and F
  pub spell-trees : get_or (spell roots N st free) 0 0 ≡ length roots
  unfolding spell
  spell-trees = refl

  pub spell_nodes : get_or (spell roots N st free) (length roots + 1) 0 ≡ N
  unfolding spell
  spell_nodes =
      rw (add-one, append_assoc roots (N ∷ []) (nodes_from st 1 N ++ rear))
      (get_or-append_seam roots N (nodes_from st 1 N ++ rear) 0)

  pub spell-stack_at : stack_at (spell roots N st free) (length roots) ≡ length roots + 2 + 16 * N
  spell-stack_at = rw spell_nodes

  -- the words from F on
  pub spell_rear : spell roots N st free ≡ (fore ++ nodes_from st 1 N) ++ rear
  unfolding spell
  spell_rear = sym (append_assoc fore (nodes_from st 1 N) rear)

  pub front_length : length (fore ++ nodes_from st 1 N) ≡ length roots + 2 + 16 * N
  front_length = length-append fore (nodes_from st 1 N) ∙ omega (arith, fore_length, nodes_length st 1 N s)

  pub spell-frees : free_count (spell roots N st free) (length roots) ≡ length free
  spell-frees = rw (spell-stack_at, spell_rear, ← front_length) (get_or-append_seam (fore ++ nodes_from st 1 N) (length free) (pad N (reverse free)) 0)

  -- the root of tree i
  pub spell-root : (i : ℕ) → i < length roots → get_or (spell roots N st free) (i + 1) 0 ≡ get_or roots i 0
  unfolding spell
  spell-root i h = rw (add-one, append_assoc roots (N ∷ []) (nodes_from st 1 N ++ rear)) (get_or-append roots (N ∷ [] ++ (nodes_from st 1 N ++ rear)) 0 i h)

  pub spell-set-root : (i n : ℕ) → i < length roots → set (spell roots N st free) (i + 1) n ≡ spell (set roots i n) N st free
  unfolding spell
  spell-set-root i n h =
      rw (add-one, length-set roots i n, append_assoc roots (N ∷ []) (nodes_from st 1 N ++ rear), append_assoc (set roots i n) (N ∷ []) (nodes_from st 1 N ++ rear))
      (ap (length roots ∷◌) (set-append_left roots (N ∷ [] ++ (nodes_from st 1 N ++ rear)) i n h))

  module _ (n : ℕ) (lo : 1 ≤ n) (hi : n ≤ N) where
    pub spell_placed : Placed (spell roots N st free) (length roots) n
    spell_placed = record { some = lo; room = omega (arith, spell-length) }

    -- the words before those of node n, and after them
    abbrev before : List ℕ
    before = fore ++ nodes_from st 1 (n - 1)

    abbrev after : List ℕ
    after = nodes_from st (suc n) (N - n) ++ rear

    before-length : length before ≡ base (length roots) n
    before-length = length-append fore (nodes_from st 1 (n - 1)) ∙ omega (arith, fore_length, nodes_length st 1 (n - 1) s)

    spell-split : spell roots N st free ≡ before ++ (st n ++ after)
    unfolding spell
    spell-split =
        let y : 1 + (n - 1) ≡ n = omega arith in
        let z : N - suc (n - 1) ≡ N - n = omega arith in
        let e : nodes_from st 1 N ≡ nodes_from st 1 (n - 1) ++ (st n ++ nodes_from st (suc n) (N - n)) = rw (y, z) at (nodes_split st 1 N (n - 1) (omega arith)) in
        rw e (regroup fore (nodes_from st 1 (n - 1)) (st n) (nodes_from st (suc n) (N - n)) rear)

    pub spell-block : block (spell roots N st free) (length roots) n ≡ st n
    unfolding block_at
    spell-block = rw (spell-split, drop_at before (st n ++ after) (base (length roots) n) before-length) (take_at (st n) after 16 (s n))

    -- the same of a store with other words for n
    other-split : (w : List ℕ) → length w ≡ 16 → spell roots N (put st n w) free ≡ before ++ (w ++ after)
    unfolding spell
    other-split w h =
        let y : 1 + (n - 1) ≡ n = omega arith in
        let z : N - suc (n - 1) ≡ N - n = omega arith in
        let e : nodes_from (put st n w) 1 N ≡ nodes_from (put st n w) 1 (n - 1) ++ (put st n w n ++ nodes_from (put st n w) (suc n) (N - n)) =
        rw (y, z) at (nodes_split (put st n w) 1 N (n - 1) (omega arith)) in
        rw (e, put_same st n w, nodes_other st n w (suc n) (N - n) (omega arith), nodes_ext (put st n w) st 1 (n - 1) (λ x a b. put_other st n w x (λ q. omega arith)))
        (regroup fore (nodes_from st 1 (n - 1)) w (nodes_from st (suc n) (N - n)) rear)

    -- node n gets other words
    pub spell-with_block : (w : List ℕ) → length w ≡ 16 → with_block (spell roots N st free) (length roots) n w ≡ spell roots N (put st n w) free
    unfolding with_block patched
    spell-with_block w h =
        let k : base (length roots) n + length w ≡ length (before ++ st n) = omega (arith, length-append before (st n), s n, before-length, h) in
        rw (k, spell-split, take_at before (st n ++ after) (base (length roots) n) before-length)
        (ap (λ (r : List ℕ). before ++ (w ++ r)) (ap (drop (length (before ++ st n))) (sym (append_assoc before (st n) after)) ∙ drop-append_seam (before ++ st n) after) ∙ sym (other-split w h))

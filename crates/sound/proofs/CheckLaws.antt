-- PROOFS. For the check of a whole pool: order, the layout of the words, nodes by number, counts
use mathlib.Core.Path.{◌≡◌, refl, sym, ap, ap₂, ◌∙◌}
use mathlib.Core.List.{List, [], ◌∷◌, ◌++◌, reverse, reverse_aux}
use mathlib.Core.Bool.{true}
use Prim.Native.Nat.{ℕ, zero, suc, ◌+◌, ◌*◌, ◌≤◌, ◌<◌}
use native.Mathlib.Omega.{arith}
use lib.ListN.{length, get_or, length-append}
use lib.Seq.{get_or-append_seam, append_snoc}
use lib.Dec.{leb, eqb}
use borrow.Author.Tests.{eqb-true, eqb-false, eq-eqb, le-leb, leb-true}
use Rattle.forest.specs.Lists.{once, total, count}
use Rattle.forest.specs.Pairs.{Item, Above, Rising}
use Rattle.forest.specs.Rows.{Node, Row, Tree, nums}
use Rattle.forest.specs.Trees.{numbers}
use Rattle.forest.specs.Pools.{leaf_words, inner_words, used, in_row, in_rows, in_tree, in_trees, node_words, nodes_from}
use Rattle.forest.proofs.ListLaws.{is, isnt, test, both, total-append, append_parts}
use Rattle.walk.proofs.Subtree.{Each, HeldRows, HeldTree}
use Rattle.walk.specs.Walks.{climbs, place}
use Rattle.walk.proofs.WalkLaws.{span, length_span, span_append}
use Rattle.forest.proofs.CountLaws.{node-length}
use Rattle.forest.proofs.WordLaws.{row_miss, tree_miss, count-append}

-- Order
climbs_above : (k q : ℕ) (xs : List Item) → k < q → climbs q xs ≡ true → Above k xs
climbs_above k q [] h c = tt
climbs_above k q (x ∷ xs) h c =
    let b = both (leb q x.0) (climbs (suc x.0) xs) c in
    let l = leb-true q x.0 b.0 in
    (omega arith, climbs_above k (suc x.0) xs (omega arith) b.1)

pub climbs_rising : (q : ℕ) (xs : List Item) → climbs q xs ≡ true → Rising xs
climbs_rising q [] c = tt
climbs_rising q (x ∷ xs) c =
    let b = both (leb q x.0) (climbs (suc x.0) xs) c in
    (climbs_above x.0 (suc x.0) xs (omega arith) b.1, climbs_rising (suc x.0) xs b.1)

above_climbs : (k : ℕ) (xs : List Item) → Above k xs → Rising xs → climbs (suc k) xs ≡ true
above_climbs k [] a r = refl
above_climbs k (x ∷ xs) a r = rw (le-leb (suc k) x.0 a.0) (above_climbs x.0 xs r.0 r.1)

pub rising_climbs : (xs : List Item) → Rising xs → climbs 0 xs ≡ true
rising_climbs [] r = refl
rising_climbs (x ∷ xs) r = rw (le-leb 0 x.0 (omega arith)) (above_climbs x.0 xs r.0 r.1)

-- The layout
span_mid : (pre mid : List ℕ) → span (pre ++ mid) (length pre) (length mid) ≡ mid
span_mid pre [] = refl
span_mid pre (x ∷ mid) =
    let i = span_mid (pre ++ (x ∷ [])) mid in
    let l : length (pre ++ (x ∷ [])) ≡ suc (length pre) = length-append pre (x ∷ []) ∙ omega arith in
    rw (get_or-append_seam pre x mid 0) (ap (x ∷◌) (rw (append_snoc pre x mid, l) at i))

pub span_all : (ws : List ℕ) → span ws 0 (length ws) ≡ ws
span_all ws = span_mid [] ws

module _ (ws : List ℕ) (T N : ℕ) (l : length ws ≡ T + 17 * N + 3) where
  abbrev laid : List ℕ
  laid = get_or ws 0 0 ∷ (span ws 1 T ++ (get_or ws (T + 1) 0 ∷ (span ws (T + 2) (16 * N) ++ (get_or ws (T + 2 + 16 * N) 0 ∷ span ws (T + 3 + 16 * N) N))))

  pub layout : ws ≡ laid
  layout =
      let n : length ws ≡ suc (T + suc (16 * N + suc N)) = omega arith in
      let a : 1 + T ≡ T + 1 = omega arith in
      let b : suc (T + 1) ≡ T + 2 = omega arith in
      let c : suc (T + 2 + 16 * N) ≡ T + 3 + 16 * N = omega arith in
      sym (span_all ws) ∙ rw (n, span_append ws 1 T (suc (16 * N + suc N)), a, b, span_append ws (T + 2) (16 * N) (suc N), c)

  pub record Parts (t : ℕ) (roots : List ℕ) (n : ℕ) (nodes : List ℕ) (f : ℕ) (stack : List ℕ) : Type 0 where
    pub t_same : get_or ws 0 0 ≡ t
    pub roots_same : span ws 1 T ≡ roots
    pub n_same : get_or ws (T + 1) 0 ≡ n
    pub nodes_same : span ws (T + 2) (16 * N) ≡ nodes
    pub f_same : get_or ws (T + 2 + 16 * N) 0 ≡ f
    pub stack_same : span ws (T + 3 + 16 * N) N ≡ stack

  pub parts : (t : ℕ) (roots : List ℕ) (n : ℕ) (nodes : List ℕ) (f : ℕ) (stack : List ℕ) → length roots ≡ T → length nodes ≡ 16 * N →
      t ∷ (roots ++ (n ∷ (nodes ++ (f ∷ stack)))) ≡ ws → Parts t roots n nodes f stack
  parts t roots n nodes f stack lr ln e =
      let d : laid ≡ t ∷ (roots ++ (n ∷ (nodes ++ (f ∷ stack)))) = sym layout ∙ sym e in
      let d0 : get_or ws 0 0 ≡ t = cc in
      let d1 : span ws 1 T ++ (get_or ws (T + 1) 0 ∷ (span ws (T + 2) (16 * N) ++ (get_or ws (T + 2 + 16 * N) 0 ∷ span ws (T + 3 + 16 * N) N))) ≡
      roots ++ (n ∷ (nodes ++ (f ∷ stack))) = cc in
      let p = append_parts (span ws 1 T) roots _ _ (length_span ws 1 T ∙ sym lr) d1 in
      let q : get_or ws (T + 1) 0 ∷ (span ws (T + 2) (16 * N) ++ (get_or ws (T + 2 + 16 * N) 0 ∷ span ws (T + 3 + 16 * N) N)) ≡ n ∷ (nodes ++ (f ∷ stack)) = p.1 in
      let q0 : get_or ws (T + 1) 0 ≡ n = cc in
      let q1 : span ws (T + 2) (16 * N) ++ (get_or ws (T + 2 + 16 * N) 0 ∷ span ws (T + 3 + 16 * N) N) ≡ nodes ++ (f ∷ stack) = cc in
      let r = append_parts (span ws (T + 2) (16 * N)) nodes _ _ (length_span ws (T + 2) (16 * N) ∙ sym ln) q1 in
      let s : get_or ws (T + 2 + 16 * N) 0 ∷ span ws (T + 3 + 16 * N) N ≡ f ∷ stack = r.1 in
      record { t_same = d0; roots_same = p.0; n_same = q0; nodes_same = r.0; f_same = cc; stack_same = cc }

-- Nodes by number
module _ (st : ℕ → List ℕ) where
  row_finds : (words : List Item → List ℕ) (n : ℕ) (R : Row) (or : List ℕ) → Each (λ (k : Node). st k.num ≡ words k.items) R →
      (count n (nums R) ≡ 0 → or ≡ st n) → in_row words n R or ≡ st n
  row_finds words n [] or h o = o refl
  row_finds words n (k ∷ R) or h o = elim (test (eqb n k.num)) [
    | is e ↦ simp e (sym h.0 ∙ ap st (sym (eqb-true n k.num e)))
    | isnt e ↦ simp e (row_finds words n R or h.1 (λ z. o (rw (ap once e) (omega arith))))
  ]

  rows_find : (n : ℕ) (Rs : List Row) (or : List ℕ) → HeldRows st Rs → (count n (numbers Rs) ≡ 0 → or ≡ st n) → in_rows n Rs or ≡ st n
  rows_find n [] or h o = o refl
  rows_find n (R ∷ Rs) or h o =
      row_finds inner_words n R (in_rows n Rs or) h.0 (λ z. rows_find n Rs or h.1 (λ y. o (total-append _ (nums R) (numbers Rs) ∙ omega arith)))

  tree_finds : (n : ℕ) (x : Tree) (or : List ℕ) → HeldTree st x → (count n (numbers x) ≡ 0 → or ≡ st n) → in_tree n x or ≡ st n
  tree_finds n [] or h o = o refl
  tree_finds n (R ∷ Rs) or h o =
      row_finds leaf_words n R (in_rows n Rs or) h.0 (λ z. rows_find n Rs or h.1 (λ y. o (total-append _ (nums R) (numbers Rs) ∙ omega arith)))

  pub trees_find : (n : ℕ) (xs : List Tree) (or : List ℕ) → Each (HeldTree st) xs → (count n (used xs) ≡ 0 → or ≡ st n) → in_trees n xs or ≡ st n
  trees_find n [] or h o = o refl
  trees_find n (x ∷ xs) or h o =
      tree_finds n x (in_trees n xs or) h.0 (λ z. trees_find n xs or h.1 (λ y. o (total-append _ (numbers x) (used xs) ∙ omega arith)))

  -- and back: no number twice, and each found: so the nodes are held
  row_held : (words : List Item → List ℕ) (R : Row) (or : ℕ → List ℕ) → ((n : ℕ) → count n (nums R) ≤ 1) → ((n : ℕ) → 1 ≤ count n (nums R) → st n ≡ in_row words n R (or n)) →
      Each (λ (k : Node). st k.num ≡ words k.items) R
  row_held words [] or c h = tt
  row_held words (k ∷ R) or c h =
      let o : once (eqb k.num k.num) ≡ 1 = ap once (eq-eqb k.num k.num refl) in (
        h k.num (omega arith) ∙ rw (eq-eqb k.num k.num refl),
        row_held words R or (λ n. omega (arith, c n)) (λ n z. elim (test (eqb n k.num)) [
          | is e ↦ absurd (omega (arith, c n, ap once e))
          | isnt e ↦ h n (omega arith) ∙ rw e
        ]),
      )

  rows_held : (Rs : List Row) (or : ℕ → List ℕ) → ((n : ℕ) → count n (numbers Rs) ≤ 1) → ((n : ℕ) → 1 ≤ count n (numbers Rs) → st n ≡ in_rows n Rs (or n)) → HeldRows st Rs
  rows_held [] or c h = tt
  rows_held (R ∷ Rs) or c h =
      let s : (n : ℕ) → count n (nums R ++ numbers Rs) ≡ count n (nums R) + count n (numbers Rs) = λ n. count-append n (nums R) (numbers Rs) in (
        row_held inner_words R (λ n. in_rows n Rs (or n)) (λ n. omega (arith, c n, s n)) (λ n z. h n (omega (arith, s n))),
        rows_held Rs or (λ n. omega (arith, c n, s n))
            (λ n z. h n (omega (arith, s n)) ∙ row_miss n inner_words R (in_rows n Rs (or n)) (omega (arith, c n, s n))),
      )

  tree_held : (x : Tree) (or : ℕ → List ℕ) → ((n : ℕ) → count n (numbers x) ≤ 1) → ((n : ℕ) → 1 ≤ count n (numbers x) → st n ≡ in_tree n x (or n)) → HeldTree st x
  tree_held [] or c h = tt
  tree_held (R ∷ Rs) or c h =
      let s : (n : ℕ) → count n (nums R ++ numbers Rs) ≡ count n (nums R) + count n (numbers Rs) = λ n. count-append n (nums R) (numbers Rs) in (
        row_held leaf_words R (λ n. in_rows n Rs (or n)) (λ n. omega (arith, c n, s n)) (λ n z. h n (omega (arith, s n))),
        rows_held Rs or (λ n. omega (arith, c n, s n))
            (λ n z. h n (omega (arith, s n)) ∙ row_miss n leaf_words R (in_rows n Rs (or n)) (omega (arith, c n, s n))),
      )

  pub trees-held : (xs : List Tree) (or : ℕ → List ℕ) → ((n : ℕ) → count n (used xs) ≤ 1) → ((n : ℕ) → 1 ≤ count n (used xs) → st n ≡ in_trees n xs (or n)) → Each (HeldTree st) xs
  trees-held [] or c h = tt
  trees-held (x ∷ xs) or c h =
      let s : (n : ℕ) → count n (numbers x ++ used xs) ≡ count n (numbers x) + count n (used xs) = λ n. count-append n (numbers x) (used xs) in (
        tree_held x (λ n. in_trees n xs (or n)) (λ n. omega (arith, c n, s n)) (λ n z. h n (omega (arith, s n))),
        trees-held xs or (λ n. omega (arith, c n, s n))
            (λ n z. h n (omega (arith, s n)) ∙ tree_miss n x (in_trees n xs (or n)) (omega (arith, c n, s n))),
      )

-- the words of the nodes, one by one
module _ (ws : List ℕ) (T : ℕ) (xs : List Tree) where
  pub nodes_join : (n c : ℕ) → 1 ≤ n → ((k : ℕ) → n ≤ k → k < n + c → span ws (place T k) 16 ≡ node_words xs k) → span ws (place T n) (16 * c) ≡ nodes_from (node_words xs) n c
  nodes_join n zero a h = refl
  nodes_join n (suc c) a h =
      let e : 16 * suc c ≡ 16 + 16 * c = omega arith in
      let p : place T n + 16 ≡ place T (suc n) = omega arith in
      let i = nodes_join (suc n) c (omega arith) (λ k g l. h k (omega arith) (omega arith)) in
      rw e (span_append ws (place T n) 16 (16 * c) ∙ ap₂ (λ (u v : List ℕ). u ++ v) (h n (omega arith) (omega arith)) (rw p i))

  pub nodes_part : (n c : ℕ) → 1 ≤ n → span ws (place T n) (16 * c) ≡ nodes_from (node_words xs) n c → (k : ℕ) → n ≤ k → k < n + c → span ws (place T k) 16 ≡ node_words xs k
  nodes_part n zero a h k g l = absurd (omega arith)
  nodes_part n (suc c) a h k g l =
      let e : 16 * suc c ≡ 16 + 16 * c = omega arith in
      let p : place T n + 16 ≡ place T (suc n) = omega arith in
      let d : span ws (place T n) 16 ++ span ws (place T (suc n)) (16 * c) ≡ node_words xs n ++ nodes_from (node_words xs) (suc n) c = rw (e, span_append ws (place T n) 16 (16 * c), p) at h in
      let i = append_parts (span ws (place T n) 16) (node_words xs n) _ _ (length_span ws (place T n) 16 ∙ sym (node-length xs n)) d in
      elim (test (eqb n k)) [
        | is f ↦ let s : n ≡ k = eqb-true n k f in rw s at i.0
        | isnt f ↦ let s = eqb-false n k f in nodes_part (suc n) c (omega arith) i.1 k (omega arith) (omega arith)
      ]

-- Reversed lists
total_reverse_aux : (w : ℕ → ℕ) (xs r : List ℕ) → total w (reverse_aux xs r) ≡ total w xs + total w r
total_reverse_aux w [] r = omega arith
total_reverse_aux w (x ∷ xs) r = total_reverse_aux w xs (x ∷ r) ∙ omega arith

pub total-reverse : (w : ℕ → ℕ) (xs : List ℕ) → total w (reverse xs) ≡ total w xs
total-reverse w xs = total_reverse_aux w xs [] ∙ omega arith

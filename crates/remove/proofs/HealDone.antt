-- PROOFS. Remove at a cursor and shrink: the words of the pool with the tree of the definition
use mathlib.Core.Path.{◌≡◌, refl, sym, ap, ◌∙◌}
use mathlib.Core.List.{List, [], ◌∷◌, ◌++◌}
use mathlib.Core.Bool.{Bool, true, false, cond}
use Prim.Native.Nat.{ℕ, suc, ◌+◌, ◌*◌, ◌≤◌, ◌<◌}
use native.Mathlib.Omega.{arith}
use lib.ListN.{length, get_or, set}
use lib.Dec.{eqb, leb}
use borrow.Author.Tests.{ltb-true, ltb-false, leb-true, leb-false}
use Rattle.forest.specs.Lists.{remove_at, sum, once, count, pad, parent, offset}
use Rattle.forest.specs.Rows.{Row, Tree, nums, sizes, joined, refresh, Fill, Tower, drop_row}
use Rattle.forest.specs.Trees.{numbers, drop_up, freed_up, trim, trimmed, lost}
use Rattle.forest.specs.Pools.{leaf_words, push_all, root_above, node_words, used}
use Rattle.forest.proofs.ListLaws.{is, isnt, test, offset_lt, parent_start, length-remove_at}
use Rattle.forest.proofs.RowLaws.{sum-sizes, drop_row_joined, drop_row_kept, drop_row_lost, parent_there}
use Rattle.forest.proofs.TowerLaws.{tower_levels, drop_weight, trim_weight, refresh-numbers, some_length}
use Rattle.crit.specs.States.{State}
use Rattle.heal.specs.Steps.{free_node, remove_at_cursor, leaf_ops, inner_ops}
use Rattle.remove.specs.Ends.{shrink}
use Rattle.crit.proofs.HealRows
use Rattle.crit.proofs.HealStack
use Rattle.crit.proofs.HealMem
use Rattle.crit.proofs.HealPath
use Rattle.heal.proofs.HealUp.{Mended}
use Rattle.heal.proofs.HealTree.{removed}
use Rattle.heal.specs.KindLaws.{leaf_law, inner_law}
use Rattle.node.proofs.Words.{leaf_front_lem}
use Rattle.remove.proofs.HealTrim.{free_all, free_all_free, free_all_keeps}
use Rattle.remove.proofs.HealEnd
use Rattle.remove.proofs.HealPool.{HoldsTree, pool_words}
use Rattle.forest.proofs.WordLaws.{count-append}

pub tower_stacked : (R : Row) (Rs : List Row) → Tower R Rs → HealStack.Stacked R Rs
tower_stacked R [] w = w
tower_stacked R (S ∷ Ss) w = (HealStack.alike_same w.1, w.2, tower_stacked S Ss w.3)

free_all_zero : (xs : List ℕ) (s : State) (x : ℕ) → 1 ≤ count x xs → (free_all xs s).st x ≡ pad 16 []
free_all_zero [] s x c = absurd (omega arith)
free_all_zero (y ∷ xs) s x c = elim (test (leb 1 (count x xs))) [
  | is e ↦ free_all_zero xs (free_node s y) x (leb-true _ _ e)
  | isnt e ↦
      let z = leb-false 1 (count x xs) e in
      elim (test (eqb x y)) [
        | is f ↦ free_all_keeps xs (free_node s y) x (omega arith) ∙ simp f
        | isnt f ↦ absurd (let q = simp f at c in omega arith)
      ]
]

pub push_all-append : (xs ys s : List ℕ) → push_all (xs ++ ys) s ≡ push_all ys (push_all xs s)
push_all-append [] ys s = refl
push_all-append (x ∷ xs) ys s = push_all-append xs ys (x ∷ s)

module _ (low : ℕ) (two : 2 ≤ low) (half : 2 * low ≤ 8) (L : Row) (Rs : List Row) (fill : Fill low 7 (sizes L)) (tower : Tower L Rs)
    (ts : List Tree) (t : ℕ) (tin : t < length ts) (s : State) (before : (x : ℕ) → s.st x ≡ node_words (set ts t (L ∷ Rs)) x)
    (each : (x : ℕ) → count x (numbers (L ∷ Rs)) + count x (used (set ts t [])) ≤ 1) (holds : HoldsTree s.st (L ∷ Rs))
    (i : ℕ) (b : i < sum (sizes L)) (more : 2 ≤ sum (sizes L))
    (place : s.ps (length Rs) ≡ offset (sizes L) i) (path : HealPath.Leads L (parent (sizes L) i) Rs s.ns s.ps) where
  abbrev key : List ℕ → ℕ
  key w = get_or w 1 0

  abbrev pub s' : State
  s' = remove_at_cursor leaf_ops 7 inner_ops key s (length Rs)

  abbrev pub M : Row
  M = drop_row 7 (parent (sizes L) i) (offset (sizes L) i) L

  abbrev pub w : Bool
  w = lost M L

  abbrev pub above : List Row
  above = cond (lost M L) (drop_up (parent (sizes L) i) Rs) Rs

  parts : (x : ℕ) → count x (nums L ++ numbers Rs) ≡ count x (nums L) + count x (numbers Rs)
  parts x = count-append x (nums L) (numbers Rs)

  pub once_tree : HealMem.Once (nums L ++ numbers Rs)
  once_tree x = omega (arith, each x)

  pub par_in : parent (sizes L) i < length L
  par_in = parent_there L i b

  pub m : Mended leaf_words M w i L Rs s s'
  m = removed (leaf_law low two half) inner_law key (λ xs h. leaf_front_lem xs) L Rs i s b fill (tower_stacked L Rs tower) once_tree holds.0 holds.1 place path more

  -- numbers
  row_counts : (x : ℕ) → count x (nums M) ≤ count x (nums L)
  row_counts x = elim (test (lost M L)) [
    | is e ↦ rw (drop_row_lost 7 (parent (sizes L) i) (offset (sizes L) i) L (ltb-true _ _ e), ← (HealRows.nums-remove_at (parent (sizes L) i) L)) (omega (arith, HealMem.gone_count L (parent (sizes L) i) x par_in))
    | isnt e ↦ rw (drop_row_kept 7 (parent (sizes L) i) (offset (sizes L) i) L (ltb-false _ _ e)) (omega arith)
  ]

  above_counts : (x : ℕ) → count x (numbers above) ≤ count x (numbers Rs)
  above_counts x = either (lost M L)
    where
      either : (c : Bool) → count x (numbers (cond c (drop_up (parent (sizes L) i) Rs) Rs)) ≤ count x (numbers Rs)
      either true = omega (arith, drop_weight (λ z. once (eqb x z)) (length L) Rs (parent (sizes L) i) par_in (tower_levels L Rs tower))
      either false = omega arith

  pub once_above : HealMem.Once (numbers above)
  once_above x = omega (arith, above_counts x, parts x, once_tree x)

  pub some-M : 1 ≤ length M
  some-M =
      let j : joined M ≡ remove_at i (joined L) = rw (drop_row_joined 7 (parent (sizes L) i) (offset (sizes L) i) L par_in (offset_lt (sizes L) i b), parent_start (sizes L) i b) in
      let z : suc (sum (sizes M)) ≡ sum (sizes L) = omega (arith, sum-sizes M, sum-sizes L, ap length j, length-remove_at i (joined L) (omega (arith, sum-sizes L))) in
      some_length M (omega arith)

  abbrev pub new : List Row
  new = refresh M (trim M above)

  abbrev pub s_f : State
  s_f = free_all (trimmed M above) s'

  trims : (x : ℕ) → count x (numbers new) + count x (trimmed M above) ≡ count x (numbers above)
  trims x = rw (refresh-numbers M (trim M above)) (trim_weight (λ z. once (eqb x z)) M above)

  new_parts : (x : ℕ) → count x (nums M ++ numbers new) ≡ count x (nums M) + count x (numbers new)
  new_parts x = count-append x (nums M) (numbers new)

  rows_counts : (x : ℕ) → count x (numbers m.rows) ≡ count x (numbers above)
  rows_counts x = ap (count x) (Rattle.crit.proofs.HealNext.shape-numbers m.shape)

  -- THE WORDS
  pub words : (x : ℕ) → s_f.st x ≡ node_words (set ts t (M ∷ new)) x
  words = pool_words ts t (L ∷ Rs) (M ∷ new) s.st s_f.st tin before each (
    HealMem.holds_apart leaf_words s'.st s_f.st (trimmed M above) M (free_all_keeps (trimmed M above) s')
        (λ x. omega (arith, trims x, above_counts x, row_counts x, parts x, once_tree x)) m.row,
    HealEnd.end_holds m some-M once_above,
  )
      (λ x c. free_all_keeps (trimmed M above) s' x (omega (arith, trims x, above_counts x, parts x)) ∙ m.keeps x c)
      (λ x c d. elim (test (leb 1 (count x (trimmed M above)))) [
        | is e ↦ free_all_zero (trimmed M above) s' x (leb-true _ _ e)
        | isnt e ↦
            let z = leb-false 1 (count x (trimmed M above)) e in
            free_all_keeps (trimmed M above) s' x (omega arith) ∙ m.zeros x (omega (arith, parts x)) (omega (arith, new_parts x, trims x, rows_counts x))
      ])
      (λ x. omega (arith, trims x, above_counts x, row_counts x, parts x, new_parts x))

  -- the free numbers
  pub frees : s_f.free ≡ push_all (cond (lost M L) (HealRows.num_at L (parent (sizes L) i) ∷ freed_up (parent (sizes L) i) Rs) [] ++ trimmed M above) s.free
  frees = free_all_free (trimmed M above) s' ∙ ap (push_all (trimmed M above)) m.free ∙ sym (push_all-append (cond (lost M L) (HealRows.num_at L (parent (sizes L) i) ∷ freed_up (parent (sizes L) i) Rs) []) (trimmed M above) s.free)

  -- the loop that shrinks the root gives that state and that root
  pub ends : shrink (length m.rows) s' (root_above M m.rows) ≡ record { state = s_f; root = root_above M new }
  ends = HealEnd.end m some-M once_above

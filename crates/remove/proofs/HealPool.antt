-- PROOFS. A store that holds the rows of one tree anew spells the pool with that tree anew
use mathlib.Core.Path.{◌≡◌, refl, sym, ap, ◌∙◌}
use mathlib.Core.List.{List, [], ◌∷◌, ◌++◌}
use Prim.Native.Nat.{ℕ, zero, suc, ◌+◌, ◌≤◌, ◌<◌}
use native.Mathlib.Omega.{arith}
use lib.ListN.{length, set}
use lib.Dec.{leb}
use borrow.Author.Tests.{leb-true, leb-false}
use Rattle.forest.specs.Lists.{count, pad}
use Rattle.forest.specs.Rows.{Tree}
use Rattle.forest.specs.Trees.{numbers}
use Rattle.forest.specs.Pools.{in_tree, in_trees, node_words, used}
use Rattle.forest.proofs.ListLaws.{is, isnt, test}
use Rattle.forest.proofs.WordLaws.{count-append, tree_miss, trees_miss}
pub use Rattle.pool.proofs.HeldTrees.{HoldsTree}
use Rattle.pool.proofs.HeldTrees.{tree_finds}
use Rattle.crit.proofs.HealMem.{Store, Keeps}

module _ (x : ℕ) where
  -- one tree of the pool taken out
  apart : (ts : List Tree) (t : ℕ) (T : Tree) (or : List ℕ) → t < length ts → count x (numbers T) + count x (used (set ts t [])) ≤ 1 →
      in_trees x (set ts t T) or ≡ in_tree x T (in_trees x (set ts t []) or)
  apart [] t T or h c = absurd (omega arith)
  apart (U ∷ ts) zero T or h c = refl
  apart (U ∷ ts) (suc t) T or h c =
      let z : count x (numbers U ++ used (set ts t [])) ≡ count x (numbers U) + count x (used (set ts t [])) = count-append x (numbers U) (used (set ts t [])) in
      let ih = apart ts t T or (omega arith) (omega arith) in
      elim (test (leb 1 (count x (numbers T)))) [
        | is e ↦
            let y = leb-true 1 (count x (numbers T)) e in
            tree_miss x U (in_trees x (set ts t T) or) (omega arith) ∙ ih ∙ ap (in_tree x T) (sym (tree_miss x U (in_trees x (set ts t []) or) (omega arith)))
        | isnt e ↦
            let y = leb-false 1 (count x (numbers T)) e in
            ap (in_tree x U) (ih ∙ tree_miss x T (in_trees x (set ts t []) or) (omega arith)) ∙ sym (tree_miss x T (in_tree x U (in_trees x (set ts t []) or)) (omega arith))
      ]

-- THE WORDS AFTERWARDS: tree t was T and is T'; what T' has no more is zero
pub pool_words : (ts : List Tree) (t : ℕ) (T T' : Tree) (st st' : Store) → t < length ts →
    ((x : ℕ) → st x ≡ node_words (set ts t T) x) → ((x : ℕ) → count x (numbers T) + count x (used (set ts t [])) ≤ 1) →
    HoldsTree st' T' → Keeps st st' (numbers T) → ((x : ℕ) → 1 ≤ count x (numbers T) → count x (numbers T') ≡ 0 → st' x ≡ pad 16 []) →
    ((x : ℕ) → count x (numbers T') ≤ count x (numbers T)) → (x : ℕ) → st' x ≡ node_words (set ts t T') x
pool_words ts t T T' st st' h before o holds keeps zeros sub x =
    let s = sub x in
    let one = o x in
    let new = apart x ts t T' (pad 16 []) h (omega arith) in
    elim (test (leb 1 (count x (numbers T')))) [
      | is e ↦ sym (new ∙ tree_finds st' x T' (in_trees x (set ts t []) (pad 16 [])) holds (leb-true _ _ e))
      | isnt e ↦
          let y = leb-false 1 (count x (numbers T')) e in
          let gone : in_trees x (set ts t T') (pad 16 []) ≡ in_trees x (set ts t []) (pad 16 []) = new ∙ tree_miss x T' (in_trees x (set ts t []) (pad 16 [])) (omega arith) in
          elim (test (leb 1 (count x (numbers T)))) [
            | is f ↦
                let z = leb-true 1 (count x (numbers T)) f in
                zeros x z (omega arith) ∙ sym (gone ∙ trees_miss x (set ts t []) (pad 16 []) (omega arith))
            | isnt f ↦
                let z = leb-false 1 (count x (numbers T)) f in
                keeps x (omega arith) ∙ before x ∙ apart x ts t T (pad 16 []) h one ∙ tree_miss x T (in_trees x (set ts t []) (pad 16 [])) (omega arith) ∙ sym gone
          ]
    ]

-- PROOFS. A store holds a tree: what the words of a pool hold, and the words that a number finds
use mathlib.Core.Path.{◌≡◌, refl, sym, ap, ◌∙◌}
use mathlib.Core.List.{List, [], ◌∷◌}
use Prim.Native.Nat.{ℕ, suc, ◌≤◌, ◌<◌}
use native.Mathlib.Omega.{arith}
use lib.ListN.{length}
use lib.Dec.{eqb}
use borrow.Author.Tests.{eqb-true}
use Rattle.forest.specs.Lists.{count}
use Rattle.forest.specs.Pairs.{Item}
use Rattle.forest.specs.Rows.{Row, Tree, nums, items_at}
use Rattle.forest.specs.Trees.{numbers}
use Rattle.forest.specs.Pools.{Pool, WellFormed, tree_of, leaf_words, inner_words, in_row, in_rows, in_tree, node_words}
use Rattle.forest.proofs.ListLaws.{is, isnt, test}
use Rattle.forest.proofs.WordLaws.{row_at, count-append, leaf_words_lem, inner_words_lem}
use Rattle.pool.specs.Stores.{Store, num_at, Holds, HoldsUp}

abbrev pub HoldsTree : Store → Tree → Type 0
HoldsTree st [] = Unit {0}
HoldsTree st (L ∷ Rs) = Holds leaf_words st L × HoldsUp st Rs

-- a store with the words of each node holds the row, and the rows
row_all : (enc : List Item → List ℕ) (st : Store) (R : Row) → ((j : ℕ) → j < length R → st (num_at R j) ≡ enc (items_at R j)) → Holds enc st R
row_all enc st [] h = tt
row_all enc st (n ∷ R) h = (h 0 (omega arith), row_all enc st R (λ j b. h (suc j) (omega arith)))

rows_all : (st : Store) (Rs : List Row) → ((h j : ℕ) → j < length (row_at Rs h) → st (num_at (row_at Rs h) j) ≡ inner_words (items_at (row_at Rs h) j)) → HoldsUp st Rs
rows_all st [] f = tt
rows_all st (S ∷ Ss) f = (row_all inner_words st S (f 0), rows_all st Ss (λ h. f (suc h)))

-- the words of a pool hold each of its trees
pub pool_holds : (m : ℕ) (p : Pool) → WellFormed m p → (t : ℕ) (x : Tree) → tree_of p t ≡ x → HoldsTree (node_words p.trees) x
pool_holds m p w t [] e = tt
pool_holds m p w t (L ∷ Rs) e = (
  row_all leaf_words (node_words p.trees) L (λ j b. leaf_words_lem m p w t L Rs j e b),
  rows_all (node_words p.trees) Rs (λ h j b. inner_words_lem m p w t L Rs h j e b),
)

-- a number of the tree finds its words there
module _ (st : Store) (x : ℕ) where
  row_finds : (enc : List Item → List ℕ) (R : Row) (or : List ℕ) → Holds enc st R → (count x (nums R) ≡ 0 → or ≡ st x) → in_row enc x R or ≡ st x
  row_finds enc [] or h o = o refl
  row_finds enc (n ∷ R) or h o = elim (test (eqb x n.num)) [
    | is e ↦ simp e (sym (ap st (eqb-true x n.num e) ∙ h.0))
    | isnt e ↦ simp e (row_finds enc R or h.1 (λ z. o (simp e (omega arith))))
  ]

  rows_find : (Rs : List Row) (or : List ℕ) → HoldsUp st Rs → (count x (numbers Rs) ≡ 0 → or ≡ st x) → in_rows x Rs or ≡ st x
  rows_find [] or h o = o refl
  rows_find (R ∷ Rs) or h o = row_finds inner_words R (in_rows x Rs or) h.0 (λ z. rows_find Rs or h.1 (λ y. o (omega (arith, count-append x (nums R) (numbers Rs)))))

  pub tree_finds : (T : Tree) (or : List ℕ) → HoldsTree st T → 1 ≤ count x (numbers T) → in_tree x T or ≡ st x
  tree_finds [] or h c = absurd (omega arith)
  tree_finds (L ∷ Rs) or h c =
      row_finds leaf_words L (in_rows x Rs or) h.0 (λ z. rows_find Rs or h.1 (λ y. absurd (omega (arith, count-append x (nums L) (numbers Rs)))))

-- two stores that hold a tree have the same words in its numbers
pub tree_agree : (st st' : Store) (T : Tree) (x : ℕ) → HoldsTree st T → HoldsTree st' T → 1 ≤ count x (numbers T) → st x ≡ st' x
tree_agree st st' T x a b c = sym (tree_finds st x T [] a c) ∙ tree_finds st' x T [] b c

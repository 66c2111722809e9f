-- PROOFS. A cursor and its path: a clean cursor is the cursor of its path, and `stands` computes `Stands`
use mathlib.Core.Path.{◌≡◌, refl, sym, ap, ◌∙◌}
use mathlib.Core.List.{List, [], ◌∷◌, map}
use mathlib.Core.Bool.{true, true≢false}
use Prim.Native.Nat.{ℕ, zero, suc, ◌+◌, ◌≤◌}
use native.Mathlib.Omega.{arith}
use lib.ListN.{length, drop, get_or}
use lib.Dec.{leb, eqb}
use borrow.Author.Tests.{le-leb, leb-true, eqb-true}
use Rattle.forest.specs.Sizes.{most_levels}
use Rattle.forest.specs.Lists.{pad, parent, offset}
use Rattle.forest.specs.Rows.{Row, Tree, Good, nums, sizes}
use Rattle.forest.specs.declared.Cursor.{Cursor}
use Rattle.forest.specs.Cursors.{Spot, off, on, leaves, Fits, Path, path_up, path_of, cursor_at, Stands, spot_of, runs, levels_of, path_in, all_zero, clean, stands}
use Rattle.forest.proofs.ListLaws.{is, isnt, test, cons_eq}
use Rattle.forest.proofs.CursorLaws.{runs_yes, runs-fits, runs_path}

abbrev nodes_of : Path → List ℕ
nodes_of path = map (λ (q : ℕ × ℕ). q.0) path

abbrev places_of : Path → List ℕ
places_of path = map (λ (q : ℕ × ℕ). q.1) path

-- the levels of a padded path are the path
levels-pad : (n : ℕ) (path : Path) → length path ≤ n → levels_of (length path) (pad n (nodes_of path)) (pad n (places_of path)) ≡ path
levels-pad n [] h = refl
levels-pad zero (q ∷ path) h = absurd (omega arith)
levels-pad (suc n) (q ∷ path) h = ap ((q.0, q.1) ∷◌) (levels-pad n path (omega arith))

pub path_in_lem : (t : ℕ) (path : Path) → length path ≤ most_levels → path_in (cursor_at t path) ≡ path
path_in_lem t path h = levels-pad most_levels path h

zero-pad : (n : ℕ) → all_zero (pad n []) ≡ true
zero-pad zero = refl
zero-pad (suc n) = zero-pad n

module _ (f : ℕ × ℕ → ℕ) where
  zero_rest : (n : ℕ) (path : Path) → all_zero (drop (length path) (pad n (map f path))) ≡ true
  zero_rest n [] = zero-pad n
  zero_rest zero (q ∷ path) = refl
  zero_rest (suc n) (q ∷ path) = zero_rest n path

pub clean_cursor : (t : ℕ) (path : Path) → length path ≤ most_levels → clean (cursor_at t path) ≡ true
unfolding clean
clean_cursor t path h =
    simp (le-leb (length path) most_levels h, zero_rest (λ q. q.0) most_levels path, zero_rest (λ q. q.1) most_levels path)

-- and zeros behind some levels are what a pad adds
zeros_are : (n : ℕ) (xs : List ℕ) → length xs ≡ n → all_zero xs ≡ true → pad n [] ≡ xs
zeros_are zero [] e z = refl
zeros_are zero (x ∷ xs) e z = absurd (omega arith)
zeros_are (suc n) [] e z = absurd (omega arith)
zeros_are (suc n) (x ∷ xs) e z = elim (test (eqb x 0)) [
  | is a ↦ cons_eq (sym (eqb-true x 0 a)) (zeros_are n xs (omega arith) (simp a at z))
  | isnt a ↦ absurd (true≢false (sym (simp a at z)))
]

nodes_back : (n s : ℕ) (ns ps : List ℕ) → length ns ≡ n → s ≤ n → all_zero (drop s ns) ≡ true → pad n (nodes_of (levels_of s ns ps)) ≡ ns
nodes_back n zero ns ps e h z = zeros_are n ns e z
nodes_back zero (suc s) ns ps e h z = absurd (omega arith)
nodes_back (suc n) (suc s) [] ps e h z = absurd (omega arith)
nodes_back (suc n) (suc s) (x ∷ ns) ps e h z = ap (x ∷◌) (nodes_back n s ns (drop 1 ps) (omega arith) (omega arith) z)

places_back : (n s : ℕ) (ns ps : List ℕ) → length ps ≡ n → s ≤ n → all_zero (drop s ps) ≡ true → pad n (places_of (levels_of s ns ps)) ≡ ps
places_back n zero ns ps e h z = zeros_are n ps e z
places_back zero (suc s) ns ps e h z = absurd (omega arith)
places_back (suc n) (suc s) ns [] e h z = absurd (omega arith)
places_back (suc n) (suc s) ns (x ∷ ps) e h z = ap (x ∷◌) (places_back n s (drop 1 ns) ps (omega arith) (omega arith) z)

length-levels : (s : ℕ) (ns ps : List ℕ) → length (levels_of s ns ps) ≡ s
length-levels zero ns ps = refl
length-levels (suc s) ns ps = ap suc (length-levels s (drop 1 ns) (drop 1 ps))

-- a cursor of 16 and 16 words that is clean
pub cursor_back : (c : Cursor) → length c.nodes ≡ most_levels → length c.places ≡ most_levels → clean c ≡ true → cursor_at c.tree (path_in c) ≡ c
unfolding clean
cursor_back c ln lp h = elim (test (leb c.size most_levels)) [
  | is a ↦ elim (test (all_zero (drop c.size c.nodes))) [
    | is b ↦
        let z = simp (a, b) at h in
        let l = leb-true c.size most_levels a in
        let e : length (path_in c) ≡ c.size = length-levels c.size c.nodes c.places in
        let f : pad most_levels (nodes_of (path_in c)) ≡ c.nodes = nodes_back most_levels c.size c.nodes c.places ln l b in
        let g : pad most_levels (places_of (path_in c)) ≡ c.places = places_back most_levels c.size c.nodes c.places lp l z in
        λ i. record { tree = c.tree; size = e i; nodes = f i; places = g i }
    | isnt b ↦ absurd (true≢false (sym (simp (a, b) at h)))
  ]
  | isnt a ↦ absurd (true≢false (sym (simp a at h)))
]

-- a path has a level for each row, or none
pub length-path_up : (i : ℕ) (Rs : List Row) (below : Path) → length (path_up i Rs below) ≡ length Rs + length below
length-path_up i [] below = omega arith
length-path_up i (S ∷ Ss) below = omega (arith, length-path_up (parent (sizes S) i) Ss ((get_or (nums S) (parent (sizes S) i) 0, offset (sizes S) i) ∷ below))

pub length_path : (t : Tree) (s : Spot) → length (path_of t s) ≤ length t
length_path t off = omega arith
length_path [] (on j e) = omega arith
length_path (L ∷ Rs) (on j e) = omega (arith, length-path_up j Rs ((get_or (nums L) j 0, e) ∷ []))

pub stands_parts : (t : Tree) (c : Cursor) → stands t c ≡ true → (clean c ≡ true) × (runs t (path_in c) ≡ true)
stands_parts t c h = elim (test (clean c)) [ is a ↦ (a, simp a at h) | isnt a ↦ absurd (true≢false (sym (simp a at h))) ]

pub stands-fits : (t : Tree) (c : Cursor) → stands t c ≡ true → Fits (leaves t) (spot_of t (path_in c))
stands-fits t c h = runs-fits t (path_in c) (stands_parts t c h).1

pub stands_yes : (m : ℕ) (t : Tree) (c : Cursor) → Good m 7 t → length t ≤ most_levels → Stands t c → stands t c ≡ true
stands_yes m t c g l s =
    let p = path_of t s.spot in
    let few : length (path_of t s.spot) ≤ most_levels = omega (arith, length_path t s.spot) in
    let e : path_in c ≡ path_of t s.spot = ap path_in (sym s.same) ∙ path_in_lem c.tree (path_of t s.spot) few in
    let k : clean c ≡ true = ap clean (sym s.same) ∙ clean_cursor c.tree (path_of t s.spot) few in
    rw (k, e) (runs_yes m t s.spot g s.fits)

pub yes_stands : (t : Tree) (c : Cursor) → length c.nodes ≡ most_levels → length c.places ≡ most_levels → stands t c ≡ true → Stands t c
yes_stands t c ln lp h =
    let q = stands_parts t c h in
    record {
      spot = spot_of t (path_in c);
      fits = runs-fits t (path_in c) q.1;
      same = ap (cursor_at c.tree) (runs_path t (path_in c) q.1) ∙ cursor_back c ln lp q.0;
    }

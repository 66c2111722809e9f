-- PROOFS. A cursor and its path: a level more, fewer levels, what a level holds
use mathlib.Core.Path.{◌≡◌, refl, sym, ap, ◌∙◌}
use mathlib.Core.List.{List, [], ◌∷◌, ◌++◌, map, append_assoc, append-nil}
use Prim.Native.Nat.{ℕ, zero, suc, ◌+◌, ◌≤◌, ◌<◌}
use native.Mathlib.Omega.{arith}
use lib.ListN.{length, take, get_or, set, length-append, length-map, get_or-map}
use lib.Seq.{length-take-le}
use Rattle.forest.specs.Sizes.{most_levels}
use Rattle.forest.specs.Lists.{pad}
use Rattle.forest.specs.declared.Cursor.{Cursor}
use Rattle.forest.specs.Cursors.{Path, cursor_at}
use Rattle.forest.proofs.ListLaws.{map-take}
use Rattle.path.specs.Levels.{pushed, extended, cut_at}
use Rattle.forest.proofs.CountLaws.{get_or-pad}

module _ (f : ℕ × ℕ → ℕ) where
  set-pad : (m : ℕ) (path : Path) (q : ℕ × ℕ) → length path < m → set (pad m (map f path)) (length path) (f q) ≡ pad m (map f (path ++ q ∷ []))
  set-pad zero path q h = absurd (omega arith)
  set-pad (suc m) [] q h = refl
  set-pad (suc m) (x ∷ path) q h = ap (f x ∷◌) (set-pad m path q (omega arith))

  cut_pad : (path : Path) (l : ℕ) → l ≤ length path → length path ≤ 16 → pad most_levels (take l (pad most_levels (map f path))) ≡ pad most_levels (map f (take l path))
  cut_pad path l h k = ap (pad most_levels) (take-pad most_levels (map f path) l (rw length-map h) (rw length-map k) ∙ sym (map-take f l path))
    where
      take-pad : (n : ℕ) (xs : List ℕ) (i : ℕ) → i ≤ length xs → length xs ≤ n → take i (pad n xs) ≡ take i xs
      take-pad n xs zero a b = refl
      take-pad n [] (suc i) a b = absurd (omega arith)
      take-pad zero (x ∷ xs) (suc i) a b = absurd (omega arith)
      take-pad (suc n) (x ∷ xs) (suc i) a b = ap (x ∷◌) (take-pad n xs i (omega arith) (omega arith))

pub push_at : (t : ℕ) (path : Path) (n p : ℕ) → length path < 16 → pushed (cursor_at t path) n p ≡ cursor_at t (path ++ (n, p) ∷ [])
unfolding pushed
push_at t path n p h =
    let e : length path + 1 ≡ length (path ++ (n, p) ∷ []) = sym (length-append path ((n, p) ∷ [])) in
    let f = set-pad (λ q. q.0) most_levels path (n, p) h in
    let g = set-pad (λ q. q.1) most_levels path (n, p) h in
    λ i. record { tree = t; size = e i; nodes = f i; places = g i }

pub cut_at_lem : (t : ℕ) (path : Path) (l : ℕ) → l ≤ length path → length path ≤ 16 → cut_at (cursor_at t path) l ≡ cursor_at t (take l path)
unfolding cut_at
cut_at_lem t path l h k =
    let e : l ≡ length (take l path) = sym (length-take-le l path h) in
    let f = cut_pad (λ q. q.0) path l h k in
    let g = cut_pad (λ q. q.1) path l h k in
    λ i. record { tree = t; size = e i; nodes = f i; places = g i }

-- what stands at a level
pub node_at_lem : (t : ℕ) (path : Path) (l : ℕ) → l < 16 → get_or (cursor_at t path).nodes l 0 ≡ (get_or path l (0, 0)).0
node_at_lem t path l h = get_or-pad most_levels (map (λ (q : ℕ × ℕ). q.0) path) l h ∙ get_or-map (λ (q : ℕ × ℕ). q.0) path l (0, 0)

pub place_at : (t : ℕ) (path : Path) (l : ℕ) → l < 16 → get_or (cursor_at t path).places l 0 ≡ (get_or path l (0, 0)).1
place_at t path l h = get_or-pad most_levels (map (λ (q : ℕ × ℕ). q.1) path) l h ∙ get_or-map (λ (q : ℕ × ℕ). q.1) path l (0, 0)

-- levels put below
pub extend_at : (t : ℕ) (path more : Path) → length path + length more ≤ 16 → extended (cursor_at t path) more ≡ cursor_at t (path ++ more)
unfolding extended
extend_at t path [] h = ap (cursor_at t) (sym (append-nil path))
extend_at t path (x ∷ more) h =
    ap (λ (d : Cursor). extended d more) (push_at t path x.0 x.1 (omega arith)) ∙
    extend_at t (path ++ x ∷ []) more (simp length-append (omega arith)) ∙
    ap (cursor_at t) (append_assoc path (x ∷ []) more)

pub pushed-size : (c : Cursor) (n p : ℕ) → (pushed c n p).size ≡ c.size + 1
unfolding pushed
pushed-size c n p = refl

pub cut_size : (c : Cursor) (l : ℕ) → (cut_at c l).size ≡ l
unfolding cut_at
cut_size c l = refl

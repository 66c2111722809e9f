-- PROOFS. The root of a tree in the words, and what going down from it gives
use mathlib.Core.Path.{◌≡◌, refl, sym, ap, ◌∙◌}
use mathlib.Core.List.{List, [], ◌∷◌}
use Prim.Native.Nat.{ℕ, suc, ◌+◌, ◌-◌, ◌≤◌, ◌<◌}
use native.Mathlib.Omega.{arith}
use lib.ListN.{length, get_or}
use Rattle.forest.specs.Sizes.{leaf_least}
use Rattle.forest.specs.Rows.{Row, Tree}
use Rattle.forest.specs.Pools.{Pool, tree_of, root, root_above}
use Rattle.forest.specs.Cursors.{Spot, off, leaves, path_of, cursor_at}
use Rattle.forest.specs.declared.Cursor.{Cursor}
use Rattle.forest.proofs.WordLaws.{first_word, root_word}
use Rattle.forest.proofs.PromiseLaws.{sound-T, sound_length}
use Rattle.path.specs.Ways.{descend, Deep}
use Rattle.path.specs.Levels.{extended}
use Rattle.path.specs.Cores.{Ready, Of, Goes, aim}
use Rattle.path.specs.declared.Way.{Way}
use Rattle.path.specs.declared.Way.TheVariants.{Key, First, Last}
use Rattle.path.proofs.CursorWords.{extend_at}
use Rattle.path.proofs.Steps.{length-descend}
use Rattle.path.proofs.Laid.{Laid, laid, tree_deep, deep_lies}
use Rattle.path.proofs.Downward.{seek_path, first_path, last_path}

module _ (ws : List ℕ) (t tree : ℕ) (y : Ready ws t tree) where
  pub trees_few : (1 ≤ t) × (t ≤ 32)
  trees_few = let k = sound-T leaf_least ws y.sound in (omega (arith, y.trees), omega (arith, y.trees))

  pub root-place : tree + 3 ≤ length ws
  root-place = omega (arith, sound_length leaf_least ws y.sound, y.trees, y.there)

  module _ (p : Pool) (o : Of ws p) where
    pub trees_are : t ≡ length p.trees
    trees_are = y.trees ∙ ap (λ (u : List ℕ). get_or u 0 0) (sym o.same) ∙ first_word p

    pub root_is : get_or ws (1 + tree) 0 ≡ root (tree_of p tree)
    root_is =
        let z : 1 + tree ≡ suc tree = omega arith in
        let h : tree < length p.trees = omega (arith, y.there, trees_are) in
        ap (λ (i : ℕ). get_or ws i 0) z ∙ ap (λ (u : List ℕ). get_or u (suc tree) 0) (sym o.same) ∙ root_word p tree h

    pub lies_there : (L : Row) (Rs : List Row) → tree_of p tree ≡ L ∷ Rs → Laid ws t L Rs
    lies_there L Rs e = rw (← o.same, trees_are) (laid p o.formed tree L Rs e)

    -- the root of a tree with leaves is no 0
    pub some_root : (L : Row) (Rs : List Row) → tree_of p tree ≡ L ∷ Rs → 1 ≤ root_above L Rs
    some_root L Rs e = (deep_lies ws t 1 (root_above L Rs) (omega arith) (tree_deep ws t L Rs (lies_there L Rs e) 1)).some

  pub the_pool : Of ws y.sound.pool
  the_pool = record { formed = y.sound.formed; same = y.sound.same }

  -- every way down from a root that is there
  pub root_below : (get_or ws (1 + tree) 0 ≡ 0 → ⊥) → (f : ℕ) → Deep f ws t (get_or ws (1 + tree) 0)
  root_below z f = go (tree_of y.sound.pool tree) refl
    where
      go : (x : Tree) → tree_of y.sound.pool tree ≡ x → Deep f ws t (get_or ws (1 + tree) 0)
      go [] e = absurd (z (root_is y.sound.pool the_pool ∙ ap root e))
      go (L ∷ Rs) e = rw (root_is y.sound.pool the_pool, e) (tree_deep ws t L Rs (lies_there y.sound.pool the_pool L Rs e) f)

  -- the path from the root, below no levels
  pub down_path : (way : Way) → extended (cursor_at tree []) (descend way 16 ws t (get_or ws (1 + tree) 0)) ≡ cursor_at tree (descend way 16 ws t (get_or ws (1 + tree) 0))
  down_path way = extend_at tree [] (descend way 16 ws t (get_or ws (1 + tree) 0)) (omega (arith, length-descend way 16 ws t (get_or ws (1 + tree) 0)))

  -- a spot of each leaf row, off the end in the empty tree
  module _ (f : Row → Spot) (none : f [] ≡ off) where
    pub goes_empty : (r : Cursor) → get_or ws (1 + tree) 0 ≡ 0 → r ≡ cursor_at tree [] → Goes f ws tree r
    goes_empty r z e = record { to = λ p o. e ∙ ap (cursor_at tree) (go p o (tree_of p tree) refl) }
      where
        go : (p : Pool) → Of ws p → (x : Tree) → tree_of p tree ≡ x → [] ≡ path_of (tree_of p tree) (f (leaves (tree_of p tree)))
        go p o [] q = rw (q, none)
        go p o (L ∷ Rs) q = absurd (let k = root_is p o ∙ ap root q in omega (arith, some_root p o L Rs q))

    pub goes_down : (way : Way) (c r : Cursor) → (get_or ws (1 + tree) 0 ≡ 0 → ⊥) →
        ((L : Row) (Rs : List Row) → Laid ws t L Rs → descend way (length Rs + suc (15 - length Rs)) ws t (root_above L Rs) ≡ path_of (L ∷ Rs) (f L)) →
        c ≡ cursor_at tree [] → r ≡ extended c (descend way 16 ws t (get_or ws (1 + tree) 0)) → Goes f ws tree r
    goes_down way c r z d e x = record { to = λ p o. go p o (tree_of p tree) refl }
      where
        go : (p : Pool) → Of ws p → (u : Tree) → tree_of p tree ≡ u → r ≡ cursor_at tree (path_of (tree_of p tree) (f (leaves (tree_of p tree))))
        go p o [] q = absurd (z (root_is p o ∙ ap root q))
        go p o (L ∷ Rs) q =
            let l = lies_there p o L Rs q in
            let k : length Rs + suc (15 - length Rs) ≡ 16 = omega (arith, l.few) in
            let g = rw k at (d L Rs l) in
            let path-is : descend way 16 ws t (get_or ws (1 + tree) 0) ≡ path_of (tree_of p tree) (f (leaves (tree_of p tree))) = rw (root_is p o, q) g in
            x ∙ ap (λ (b : Cursor). extended b (descend way 16 ws t (get_or ws (1 + tree) 0))) e ∙ down_path way ∙ ap (cursor_at tree) path-is

  pub goes_way : (way : Way) (c r : Cursor) → (get_or ws (1 + tree) 0 ≡ 0 → ⊥) → c ≡ cursor_at tree [] → r ≡ extended c (descend way 16 ws t (get_or ws (1 + tree) 0)) → Goes (aim way) ws tree r
  goes_way (Key k) c r z e x = goes_down (aim (Key k)) refl (Key k) c r z (λ L Rs l. seek_path ws t k (15 - length Rs) L Rs l) e x
  goes_way First c r z e x = goes_down (aim First) refl First c r z (λ L Rs l. first_path ws t (15 - length Rs) L Rs l) e x
  goes_way Last c r z e x = goes_down (aim Last) refl Last c r z (λ L Rs l. last_path ws t (15 - length Rs) L Rs l) e x

pub aim_none : (way : Way) → aim way [] ≡ off
aim_none (Key k) = refl
aim_none First = refl
aim_none Last = refl

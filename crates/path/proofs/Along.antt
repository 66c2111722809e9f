-- PROOFS. A way down, from turn to turn of the loops that go it: at each turn a node is next, with some levels left
use mathlib.Core.Path.{◌≡◌, refl, sym, ◌∙◌}
use mathlib.Core.List.{List}
use Prim.Native.Nat.{ℕ, suc, ◌+◌, ◌-◌, ◌≤◌, ◌<◌}
use native.Mathlib.Omega.{arith}
use lib.ListN.{length, get_or, set}
use Rattle.forest.specs.Sizes.{most_levels}
use Rattle.forest.specs.Slices.{KeysRise}
use Rattle.forest.specs.declared.Cursor.{Cursor}
use Rattle.path.specs.Ways.{base, block, keys_of, turn_of, land_of, descend, foot_of, Lies, Deep}
use Rattle.path.specs.Levels.{pushed, extended}
use Rattle.path.specs.declared.Way.{Way}
use Rattle.path.proofs.CursorWords.{pushed-size}
use Rattle.path.proofs.Steps.{leaf_bounds, inner_bounds, leaf_rise, inner_rise, lies_of, child_deep, down_none, down_leaf, down_inner}
use Rattle.path.proofs.Foots.{foot_end, foot_here, foot_on}

-- node n is next, with f levels left
pub record Along (ws : List ℕ) (t n f : ℕ) : Type 0 where
  pub deep : Deep f ws t n

module _ {ws : List ℕ} {t n f : ℕ} (a : Along ws t n f) (h : 0 < f) where
  pub here : Lies ws t n
  here = lies_of f ws t n (λ e. omega arith) a.deep

  -- a leaf, as `land` asks
  pub leaf_asks : 32 ≤ get_or ws (base t n) 0 → ((33 ≤ get_or ws (base t n) 0) × (get_or ws (base t n) 0 ≤ 39)) × KeysRise (keys_of 32 (block ws t n))
  leaf_asks w = (leaf_bounds ws t n here w, leaf_rise ws t n here w)

  module _ (w : get_or ws (base t n) 0 < 32) where
    -- an inner node, as `turn` asks
    pub inner_asks : ((16 ≤ get_or ws (base t n) 0) × (get_or ws (base t n) 0 ≤ 23)) × KeysRise (keys_of 16 (block ws t n))
    inner_asks = (inner_bounds ws t n here w, inner_rise ws t n here w)

    -- its child i
    pub child_few : (i : ℕ) → i ≤ get_or ws (base t n) 0 - 16 → (i < 8) × (base t n + 8 + i < length ws)
    child_few i k = (omega (arith, inner_asks.0.1), omega (arith, inner_asks.0.1, here.long))

    pub child : (i g : ℕ) → i ≤ get_or ws (base t n) 0 - 16 → f ≡ suc g → Along ws t (get_or ws (base t n + 8 + i) 0) g
    child i g k e =
        let z : f - 1 ≡ g = omega arith in
        record { deep = rw (← z) (child_deep f ws t n i (λ q. omega arith) a.deep w k) }

-- the level that `down` writes by hand is the one that `push` puts on
pub by_hand : (c : Cursor) (n i : ℕ) → record { tree = c.tree; size = c.size + 1; nodes = set c.nodes c.size n; places = set c.places c.size i } ≡ pushed c n i
unfolding pushed
by_hand c n i = refl

-- what `down` has done, out of c and `node` with `left` levels
pub record WentDown (way : Way) (ws : List ℕ) (t : ℕ) (c : Cursor) (node left : ℕ) (out : Cursor) (n f : ℕ) : Type 0 where
  pub along : Along ws t n f
  pub room : out.size + f ≤ most_levels
  pub same : extended out (descend way f ws t n) ≡ extended c (descend way left ws t node)

module _ {way : Way} {ws : List ℕ} {t : ℕ} {c : Cursor} {node left : ℕ} {out : Cursor} {n f : ℕ} (d : WentDown way ws t c node left out n f) where
  pub down_end : f ≡ 0 → out ≡ extended c (descend way left ws t node)
  down_end e = sym (down_none way ws t out n f e) ∙ d.same

  module _ (h : 0 < f) where
    pub down_ends : (e : ℕ) (r : Cursor) → 32 ≤ get_or ws (base t n) 0 → e ≡ land_of way (block ws t n) → r ≡ pushed out n e → r ≡ extended c (descend way left ws t node)
    down_ends e r w u q = q ∙ sym (down_leaf way ws t out n f e (λ z. omega arith) w u) ∙ d.same

    pub down_on : (i g : ℕ) (r : Cursor) → get_or ws (base t n) 0 < 32 → (i ≡ turn_of way (block ws t n)) × (i ≤ get_or ws (base t n) 0 - 16) → r ≡ pushed out n i → f ≡ suc g →
        WentDown way ws t c node left r (get_or ws (base t n + 8 + i) 0) g
    down_on i g r w u q e =
        let z : f - 1 ≡ g = omega arith in
        let k = child_few d.along h w i u.1 in
        record {
          along = child d.along h w i g u.1 e;
          room = rw (q, pushed-size) (omega (arith, d.room));
          same = rw (← z) (sym (down_inner way ws t out n f i r (λ y. omega arith) w k.0 u.0 q)) ∙ d.same;
        }

-- what `leaf_below` has done
pub record WentBelow (way : Way) (ws : List ℕ) (t node left n f : ℕ) : Type 0 where
  pub along : Along ws t n f
  pub same : foot_of way f ws t n ≡ foot_of way left ws t node

module _ {way : Way} {ws : List ℕ} {t node left n f : ℕ} (d : WentBelow way ws t node left n f) where
  pub foot_done : f ≡ 0 → n ≡ foot_of way left ws t node
  foot_done e = sym (foot_end way ws t f n e) ∙ d.same

  module _ (h : 0 < f) where
    pub foot_there : 32 ≤ get_or ws (base t n) 0 → n ≡ foot_of way left ws t node
    foot_there w = sym (foot_here way ws t f n (λ z. omega arith) w) ∙ d.same

    pub foot_goes : (i g : ℕ) → get_or ws (base t n) 0 < 32 → (i ≡ turn_of way (block ws t n)) × (i ≤ get_or ws (base t n) 0 - 16) → f ≡ suc g →
        WentBelow way ws t node left (get_or ws (base t n + 8 + i) 0) g
    foot_goes i g w u e =
        let z : f - 1 ≡ g = omega arith in
        let k = child_few d.along h w i u.1 in
        record {
          along = child d.along h w i g u.1 e;
          same = rw (← z) (sym (foot_on way ws t f n i (λ y. omega arith) w k.0 u.0)) ∙ d.same;
        }

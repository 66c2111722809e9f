-- PROOFS. The leaf where going down ends, with no cursor made: it is that of the cursor that going down would make
use mathlib.Core.Path.{◌≡◌, refl, sym, ap, ◌∙◌}
use mathlib.Core.List.{List, [], ◌∷◌}
use Prim.Native.Nat.{ℕ, zero, suc, ◌+◌, ◌-◌, ◌≤◌, ◌<◌}
use native.Mathlib.Omega.{arith}
use lib.ListN.{length, get_or}
use lib.Dec.{leb}
use borrow.Author.Tests.{le-leb, lt-leb}
use Rattle.forest.specs.Cursors.{Path, cursor_at, seek}
use Rattle.forest.specs.Slices.{KeysRise}
use Rattle.forest.specs.declared.Cursor.{Cursor}
use Rattle.forest.proofs.ListLaws.{is, isnt, test}
use Rattle.path.specs.Ways.{base, block, keys_of, turn_of, land_of, descend, foot_of}
use Rattle.path.specs.Cores.{Ready, Goes, Standing, LeafIn, look_in, Ends, Looks, look_of}
use Rattle.std.specs.Prelude.{None}
use Rattle.path.specs.declared.Way.{Way}
use Rattle.path.specs.declared.Way.TheVariants.{Key}
use Rattle.path.proofs.Steps.{first_word, link_word_at}
use Rattle.path.proofs.CursorWords.{node_at_lem, place_at}
use Rattle.path.proofs.Roots.{down_path, goes_way, goes_empty}
use Rattle.path.proofs.Seats.{Leafy, leafy, leaf_in, seat, looked, off_spot}
use Rattle.path.proofs.Made.{fits-seek, gone_standing}

-- the last level of a path
abbrev last_of : Path → ℕ × ℕ
last_of path = get_or path (length path - 1) (0, 0)

module _ (way : Way) (ws : List ℕ) (t : ℕ) where
  -- each return and each step
  pub foot_end : (f n : ℕ) → f ≡ 0 → foot_of way f ws t n ≡ n
  unfolding foot_of
  foot_end f n e = rw e

  pub foot_here : (f n : ℕ) → (f ≡ 0 → ⊥) → 32 ≤ get_or ws (base t n) 0 → foot_of way f ws t n ≡ n
  unfolding foot_of
  foot_here zero n z h = absurd (z refl)
  foot_here (suc f) n z h = rw (le-leb 32 (get_or (block ws t n) 0 0) (rw first_word h))

  pub foot_on : (f n i : ℕ) → (f ≡ 0 → ⊥) → get_or ws (base t n) 0 < 32 → i < 8 → i ≡ turn_of way (block ws t n) →
      foot_of way f ws t n ≡ foot_of way (f - 1) ws t (get_or ws (base t n + 8 + i) 0)
  unfolding foot_of
  foot_on zero n i z h k u = absurd (z refl)
  foot_on (suc f) n i z h k u =
      let y : suc f - 1 ≡ f = omega arith in
      rw (lt-leb 32 (get_or (block ws t n) 0 0) (rw first_word h), ← u, link_word_at ws (base t n) i k, y)

  -- a path that does not use up its levels ends there
  some_level : (f n : ℕ) → 1 ≤ length (descend way (suc f) ws t n)
  unfolding descend
  some_level f n = elim (test (leb 32 (get_or (block ws t n) 0 0))) [
    | is a ↦ rw a (omega arith)
    | isnt a ↦ rw a (omega arith)
  ]

  last_on : (q : ℕ × ℕ) (path : Path) → 1 ≤ length path → last_of (q ∷ path) ≡ last_of path
  last_on q [] h = absurd (omega arith)
  last_on q (x ∷ path) h =
      let z : suc (suc (length path)) - 1 ≡ suc (length path) = omega arith in
      let y : suc (length path) - 1 ≡ length path = omega arith in
      rw (z, y)

  pub foot_last : (f n : ℕ) → length (descend way f ws t n) < f → last_of (descend way f ws t n) ≡ (foot_of way f ws t n, land_of way (block ws t (foot_of way f ws t n)))
  unfolding descend foot_of
  foot_last zero n h = absurd (omega arith)
  foot_last (suc zero) n h = absurd (omega (arith, some_level 0 n))
  foot_last (suc (suc f)) n h = elim (test (leb 32 (get_or (block ws t n) 0 0))) [
    | is a ↦ simp a
    | isnt a ↦
        let m = get_or (block ws t n) (8 + turn_of way (block ws t n)) 0 in
        let k : length ((n, turn_of way (block ws t n)) ∷ descend way (suc f) ws t (get_or (block ws t n) (8 + turn_of way (block ws t n)) 0)) < suc (suc f) = simp a at h in
        let ih = foot_last (suc f) (get_or (block ws t n) (8 + turn_of way (block ws t n)) 0) (omega arith) in
        simp a (last_on (n, turn_of way (block ws t n)) (descend way (suc f) ws t (get_or (block ws t n) (8 + turn_of way (block ws t n)) 0)) (some_level f (get_or (block ws t n) (8 + turn_of way (block ws t n)) 0)) ∙ ih)
  ]

-- the cursor that is not made
module _ (ws : List ℕ) (t tree : ℕ) (y : Ready ws t tree) (k : ℕ) where
  -- in an empty tree
  pub looks_empty : get_or ws (1 + tree) 0 ≡ 0 → Looks k ws tree None
  looks_empty z = record {
    at = cursor_at tree [];
    goes = goes_empty ws t tree y (seek k) refl (cursor_at tree []) z refl;
    sees = record { sees = λ p s o q. ap look_of (sym (off_spot (cursor_at tree []) p s refl q)) };
  }

  module _ (z : get_or ws (1 + tree) 0 ≡ 0 → ⊥) where
    abbrev way_down : Path
    way_down = descend (Key k) 16 ws t (get_or ws (1 + tree) 0)

    abbrev made : Cursor
    made = cursor_at tree way_down

    made-goes : Goes (seek k) ws tree made
    made-goes = goes_way ws t tree y (Key k) (cursor_at tree []) made z refl (sym (down_path ws t tree y (Key k)))

    made-ready : Ready ws t made.tree
    made-ready = y

    made-standing : Standing ws made
    made-standing = gone_standing (seek k) (fits-seek k) ws t tree made y made-goes

    made_some : 1 ≤ length way_down
    made_some = some_level (Key k) ws t 15 (get_or ws (1 + tree) 0)

    made-leafy : Leafy ws t made
    made-leafy = leafy ws t made made-ready made-standing made_some

    made-last : last_of way_down ≡ (foot_of (Key k) 16 ws t (get_or ws (1 + tree) 0), land_of (Key k) (block ws t (foot_of (Key k) 16 ws t (get_or ws (1 + tree) 0))))
    made-last = foot_last (Key k) ws t 16 (get_or ws (1 + tree) 0) (omega (arith, made-leafy.deep))

    module _ (n : ℕ) (f : n ≡ foot_of (Key k) 16 ws t (get_or ws (1 + tree) 0)) where
      made-node : get_or made.nodes (made.size - 1) 0 ≡ n
      made-node = node_at_lem tree way_down (length way_down - 1) (omega (arith, made-leafy.deep)) ∙ ap (λ (q : ℕ × ℕ). q.0) made-last ∙ sym f

      made-place : get_or made.places (made.size - 1) 0 ≡ land_of (Key k) (block ws t n)
      made-place = place_at tree way_down (length way_down - 1) (omega (arith, made-leafy.deep)) ∙ ap (λ (q : ℕ × ℕ). q.1) made-last ∙ ap (λ (m : ℕ). land_of (Key k) (block ws t m)) (sym f)

      -- the leaf, as code that reads it needs it
      pub foot_in : LeafIn ws t n
      foot_in = rw (← made-node) (leaf_in ws t made made-leafy)

      pub foot_rises : KeysRise (keys_of 32 (block ws t n))
      foot_rises = rw (← made-node) made-leafy.rise

      pub foot_ends : (e : ℕ) → e ≡ land_of (Key k) (block ws t n) → Ends k ws tree n e
      foot_ends e g = record { path = way_down; goes = made-goes; some = made_some; node = made-node; place = made-place ∙ sym g }

  -- what the end of a path gives
  module _ (n e : ℕ) (d : Ends k ws tree n e) where
    abbrev ended : Cursor
    ended = cursor_at tree d.path

    ended-standing : Standing ws ended
    ended-standing = gone_standing (seek k) (fits-seek k) ws t tree ended y d.goes

    ended-leafy : Leafy ws t ended
    ended-leafy = leafy ws t ended y ended-standing d.some

    pub ends_in : LeafIn ws t n
    ends_in = rw (← d.node) (leaf_in ws t ended ended-leafy)

    pub ends-place : e + 32 ≤ get_or ws (base t n) 0
    ends-place = rw (← d.node, ← d.place) ended-leafy.place

    pub ends_looks : Looks k ws tree (look_in ws t n e)
    ends_looks = record {
      at = ended;
      goes = d.goes;
      sees = record { sees = λ p s o q. looked ws t ended p s (seat ws t ended y d.some p s o q) n e d.node d.place };
    }

-- PROOFS. Any public calls keep words sound; a promise settles its outcome
use mathlib.Core.Path.{◌≡◌, refl, sym, ap}
use mathlib.Core.List.{List}
use mathlib.Core.Bool.{Bool, true, false}
use Prim.Native.Nat.{ℕ, ◌≤◌}
use native.Mathlib.Omega.{arith}
use lib.ListN.{length}
use Rattle.forest.specs.Answers.{Reply}
use Rattle.forest.specs.Sizes.{leaf_least}
use Rattle.forest.specs.declared.Cursor.{Cursor}
use Rattle.forest.specs.Pools.{Sound, Call, call, formatted, format_words}
use Rattle.forest.specs.Cursors.{Move}
use Rattle.forest.specs.Promises.{Calls, Moves}
use Rattle.forest.proofs.ListLaws.{is, isnt, test}
use Rattle.forest.proofs.PoolLaws.{same_trees, same_count}
use Rattle.forest.proofs.CountLaws.{fresh_sound, encode-length}
use Rattle.forest.proofs.PromiseLaws.{calls_sound, moves_sound, one_outcome_sound, one_outcome_unsound, one_move_sound, one_move_unsound}
use Rattle.sound.specs.Exact.{Exact}
use Rattle.history.proofs.Deciding.{sound, unsound, decide}
use Rattle.history.specs.Histories.{AllSound, Event, Went, stays, formats, calls, moves, went_words}

-- Soundness after every call, refused or not, from sound words or from words just formatted
module _ (m : ℕ) (lo : 1 ≤ m) (hi : m ≤ 4) where
  format_sound : (T N : ℕ) (ws : List ℕ) → Sound m ws → Sound m (format_words T N ws)
  unfolding format_words
  format_sound T N ws s = elim (test (formatted T N (length ws))) [
    | is e ↦ simp e (fresh_sound m T N (length ws) e)
    | isnt e ↦ simp e s
  ]

  pub went_sound : {ds : List Event} {ws vs : List ℕ} {rs : List Reply} (h : Went m ds ws rs vs) → Sound m ws → AllSound m (went_words h) × Sound m vs
  went_sound stays s = (tt, s)
  went_sound (formats T N {ws = ws} {us = us} e a h) s =
      let u : Sound m us = rw e (format_sound T N ws s) in
      let g = went_sound h u in
      ((u, g.0), g.1)
  went_sound (calls {c = c} {ws = ws} {us = us} {r = r} k h) s =
      let u : Sound m us = calls_sound m lo hi c ws us r k s in
      let g = went_sound h u in
      ((u, g.0), g.1)
  went_sound (moves {v = v} {c = c} {d = d} {ws = ws} {us = us} {r = r} k h) s =
      let u : Sound m us = moves_sound m lo hi v c ws us r d k s in
      let g = went_sound h u in
      ((u, g.0), g.1)

-- A promise settles its outcome: two outcomes of the same call on the same words that keep it are the same, whatever the words
module _ (c : Call) (before x y : List ℕ) (r s : Reply) (a : Calls leaf_least c before x r) (b : Calls leaf_least c before y s) where
  pub one_outcome : (x ≡ y) × (r ≡ s)
  one_outcome = elim (decide before) [
    | sound o ↦ one_outcome_sound leaf_least c before x y r s a b o
    | unsound n ↦ one_outcome_unsound leaf_least c before x y r s a b n
  ]

-- and so does that of the check
pub one_check : (m : ℕ) (ws : List ℕ) (r s : Bool) → Exact m ws r → Exact m ws s → r ≡ s
one_check m ws true s a b = sym (b.every (a.yes refl))
one_check m ws false true a b = a.every (b.yes refl)
one_check m ws false false a b = refl

-- A call leaves as many words as there were
pub same_length : (c : Call) (before after : List ℕ) (r : Reply) → Calls leaf_least c before after r → length after ≡ length before
same_length c before after r k = elim (decide before) [
  | sound s ↦
      let p = s.pool in
      omega (
        arith,
        encode-length p,
        encode-length (call c p).pool,
        same_trees c p,
        same_count c p,
        ap length s.same,
        ap length (k.sound_words p s.formed s.same),
      )
  | unsound n ↦ ap length (k.unsound_words n)
]

module _ (v : Move) (c : Cursor) (before x y : List ℕ) (r s : Reply) (d e : Cursor)
    (a : Moves leaf_least v c before x r d) (b : Moves leaf_least v c before y s e) where
  pub one_move_outcome : (x ≡ y) × (r ≡ s) × (d ≡ e)
  one_move_outcome = elim (decide before) [
    | sound o ↦ one_move_sound leaf_least v c before x y r s d e a b o
    | unsound n ↦ one_move_unsound leaf_least v c before x y r s d e a b n
  ]

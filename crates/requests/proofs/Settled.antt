-- PROOFS. A numbered answer is settled, a turn settles its outcome, and so does the writing of what is said: two outcomes that keep the contract are the same
use mathlib.Core.Path.{◌≡◌, sym, ap, ◌∙◌}
use mathlib.Core.List.{List, ◌++◌}
use mathlib.Core.Option.{Option, none, some}
use Prim.Native.Nat.{ℕ, ◌+◌, ◌≤◌}
use native.Mathlib.Omega.{arith}
use lib.Dec.{ltb}
use lib.ListN.{length, take, drop, length-append, take-append-drop}
use lib.Seq.{length-take-le}
use borrow.Author.Tests.{ltb-true, ltb-false}
use Rattle.forest.specs.declared.Answer.{Answer}
use Rattle.forest.specs.declared.Cursor.{Cursor}
use Rattle.forest.specs.Answers.{answer_of}
use Rattle.forest.specs.Pools.{Call}
use Rattle.forest.specs.Cursors.{Move}
use Rattle.forest.proofs.ListLaws.{test, is, isnt}
use Rattle.history.proofs.Laws.{one_outcome, one_move_outcome}
use Rattle.map.specs.Numbers.{AnswersCall, AnswersMove}
use Rattle.requests.specs.declared.Stage.{Stage}
use Rattle.requests.specs.declared.Stage.TheVariants.{Kind, Sizes, Count, Request, Stopped}
use Rattle.std.specs.Prelude.{Some}
use Rattle.requests.specs.declared.Turn.{Turn}
use Rattle.requests.specs.Replay.{request}
use Rattle.requests.specs.Turns.{sized_by, wants_of, asking, Heeds, Judged, Turned}

-- a list is its first n and the others
parts : (n : ℕ) (x y : List ℕ) → take n x ≡ take n y → drop n x ≡ drop n y → x ≡ y
parts n x y e f = sym (take-append-drop n x) ∙ rw (e, f) (take-append-drop n y)

-- a call whose reply is handed out in numbers
pub one_answer : (c : Call) (before x y : List ℕ) (a b : Answer) → AnswersCall c before x a → AnswersCall c before y b → (x ≡ y) × (a ≡ b)
one_answer c before x y a b h k =
    let o = one_outcome c before x y h.reply k.reply h.promise k.promise in
    (o.0, h.numbered ∙ ap answer_of o.1 ∙ sym k.numbered)

pub one_move_answer : (v : Move) (c : Cursor) (before x y : List ℕ) (a b : Answer) (d e : Cursor) → AnswersMove v c before x a d → AnswersMove v c before y b e →
    (x ≡ y) × (a ≡ b) × (d ≡ e)
one_move_answer v c before x y a b d e h k =
    let o = one_move_outcome v c before x y h.reply k.reply d e h.promise k.promise in
    (o.0, h.numbered ∙ ap answer_of o.1 ∙ sym k.numbered, o.2)

one_heed : (o : Option Call) (before x y : List ℕ) (a b : Answer) → Heeds o before x a → Heeds o before y b → (x ≡ y) × (a ≡ b)
one_heed none before x y a b h k = (h.0 ∙ sym k.0, h.1 ∙ sym k.1)
one_heed (some c) before x y a b h k = one_answer c before x y a b h k

module _ (b before x y : List ℕ) (r q : Turn) where
  one_judged : (s : Stage) → Judged s b before x r → Judged s b before y q → (x ≡ y) × (r ≡ q)
  one_judged Kind h k = (h.1 ∙ sym k.1, h.0 ∙ sym k.0)
  one_judged Sizes h k = (parts (sized_by b) x y (h.words ∙ sym k.words) (h.others ∙ sym k.others), h.turn ∙ sym k.turn)
  one_judged (Count words) h k = (h.1 ∙ sym k.1, h.0 ∙ sym k.0)
  one_judged (Request words more) h k =
      let o = one_heed (request b) (take words before) (take words x) (take words y) h.answer k.answer h.heeds k.heeds in
      (parts words x y o.0 (h.others ∙ sym k.others), h.turn ∙ ap (λ a. record { stage = asking words more; said = Some a }) o.1 ∙ sym k.turn)
  one_judged Stopped h k = (h.1 ∙ sym k.1, h.0 ∙ sym k.0)

  pub one_turn : (s : Stage) → Turned s b before x r → Turned s b before y q → (x ≡ y) × (r ≡ q)
  one_turn s h k = elim (test (ltb (length b) (wants_of s))) [
    | is e ↦ let l = ltb-true _ _ e in (h.early_words l ∙ sym (k.early_words l), h.early_turn l ∙ sym (k.early_turn l))
    | isnt e ↦ let l = ltb-false _ _ e in one_judged s (h.whole l) (k.whole l)
  ]

-- `write_said`: l is the buffer before, x and y are what it became, r and q where the text starts
pub one_text : (l x y text : List ℕ) (r q : ℕ) → length l ≡ 24 → length x ≡ 24 → length y ≡ 24 → r ≤ 24 → q ≤ 24 →
    x ≡ take r l ++ text → y ≡ take q l ++ text → (x ≡ y) × (r ≡ q)
one_text l x y text r q n i j lo hi e f =
    let a : length x ≡ r + length text = rw (e, length-append, length-take-le r l (omega arith)) in
    let b : length y ≡ q + length text = rw (f, length-append, length-take-le q l (omega arith)) in
    let same : r ≡ q = omega arith in
    (e ∙ ap (λ (k : ℕ). take k l ++ text) same ∙ sym f, same)

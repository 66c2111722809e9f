-- PROOFS. Acts: what counts as an act does on words what the act does on their pool, so a history on words is the acts on the pool, sound after every step
use mathlib.Core.Path.{◌≡◌, refl, sym, ap, ◌∙◌}
use mathlib.Core.List.{List, [], ◌∷◌, map}
use mathlib.Core.Bool.{true, true≢false}
use mathlib.Core.Logic.{◌≢◌}
use mathlib.Core.Option.{none}
use Prim.Native.Nat.{ℕ, ◌≤◌, ◌<◌}
use native.Mathlib.Omega.{arith}
use lib.ListN.{length, get_elem?}
use lib.Dec.{leb}
use borrow.Author.Tests.{lt-ltb, le-ltb}
use Rattle.std.specs.Prelude.{Err}
use Rattle.forest.specs.Pairs.{Item}
use Rattle.forest.specs.Rows.{Node, Row, Tree}
use Rattle.forest.specs.declared.Cursor.{Cursor}
use Rattle.forest.specs.declared.Refusal.TheVariants.{Unsound}
use Rattle.forest.specs.Answers.{told, kept, Reply}
use Rattle.forest.specs.Runs.{finally, replies, own_calls, own_replies, AllKept}
use Rattle.forest.specs.Pools.{Pool, WellFormed, Sound, encode, get, refused, call, blank, shape, AllDone}
use Rattle.forest.specs.Cursors.{leaves, pair_at, first, cursor_at, Move, to_first, to_key, to_remove, blocked, move_from, move}
use Rattle.forest.specs.Promises.{Moves}
use Rattle.forest.proofs.ListLaws.{is, isnt, test, cons_eq}
use Rattle.forest.proofs.Reasons.{passes, stops, verdict, number}
use Rattle.forest.proofs.PoolLaws.{call_formed}
use Rattle.forest.proofs.CallLaws.{get_same}
use Rattle.forest.proofs.CursorCalls.{move-done, move-refused, move-reads}
use Rattle.forest.proofs.MoveLaws.{barred, move_free}
use Rattle.forest.proofs.RemoveLaws.{remove_goes}
use Rattle.forest.proofs.PromiseLaws.{calls_by, moves_by}
use Rattle.history.specs.Histories.{Act, ask, least, act_answer, act_pool, act_kind, Made, by_key, took, sought, led, Ran, no_calls, one, moved, unformatted, ran_words, AllSound, own_of, answers_of}
use Rattle.history.proofs.Spots.{done-kept}

-- first is refused for its tree number alone
pub first-kept : (t : ℕ) (p : Pool) → kept (act_answer (least t) p) ≡ true → blocked to_first (cursor_at t []) p ≡ none
first-kept t p k = elim (verdict (blocked to_first (cursor_at t []) p)) [
  | passes e ↦ e
  | stops x e ↦ absurd (true≢false (sym k ∙ ap (λ d. kept d.answer) (move-refused to_first (cursor_at t []) p x e)))
]

pub first_there : (t : ℕ) (p : Pool) → kept (act_answer (least t) p) ≡ true → t < length p.trees
first_there t p k = (barred to_first (cursor_at t []) p).there (λ z. omega (arith, ap number (sym (first-kept t p k) ∙ z)))

pub kept-first : (t : ℕ) (p : Pool) → t < length p.trees → kept (act_answer (least t) p) ≡ true
kept-first t p h = done-kept to_first (cursor_at t []) p (move_free to_first (cursor_at t []) p h (λ r. absurd (true≢false (sym r))))

-- and what it tells goes by the shape of its tree
leads : (n : Node) (R : Row) → pair_at (n ∷ R) (first (n ∷ R)) ≡ get_elem? n.items 0
leads n R = simp (lt-ltb 0 (length (n ∷ R)) (omega arith))

pub least_by : (x : Tree) → told (pair_at (leaves x) (first (leaves x))) ≡ told (pair_at (leaves (shape x)) (first (leaves (shape x))))
least_by [] = refl
least_by ([] ∷ Rs) = refl
least_by ((n ∷ R) ∷ Rs) = ap told (leads n R) ∙ in-front n.items ∙ ap told (sym (leads (blank (λ v. v) n) (map (blank (λ v. v)) R)))
  where
    in-front : (us : List Item) → told (get_elem? us 0) ≡ told (get_elem? (map (λ (y : Item). (y.0, y.1)) us) 0)
    in-front [] = refl
    in-front (u ∷ us) = refl

module _ (m : ℕ) (lo : 1 ≤ m) (hi : m ≤ 4) where
  -- a seek answers as a get of its key
  seek_get : (k : ℕ) (c : Cursor) (p : Pool) → (call (get c.tree k) p).answer ≡ (move (to_key k) c p).answer
  unfolding call refused move blocked move_from
  seek_get k c p = elim (test (leb (length p.trees) c.tree)) [
    | is e ↦ simp e
    | isnt e ↦ simp (e, le-ltb (length p.free) 0 (omega arith))
  ]

  -- and first as from any other cursor of its tree
  first-blocked : (c : Cursor) (p : Pool) → blocked to_first (cursor_at c.tree []) p ≡ blocked to_first c p
  unfolding blocked
  first-blocked c p = refl

  first-least : (c : Cursor) (p : Pool) → act_answer (least c.tree) p ≡ (move to_first c p).answer
  unfolding move_from
  first-least c p = elim (verdict (blocked to_first c p)) [
    | passes e ↦ ap (λ d. d.answer) (move-done to_first (cursor_at c.tree []) p (first-blocked c p ∙ e)) ∙ ap (λ d. d.answer) (sym (move-done to_first c p e))
    | stops x e ↦ ap (λ d. d.answer) (move-refused to_first (cursor_at c.tree []) p x (first-blocked c p ∙ e)) ∙ ap (λ d. d.answer) (sym (move-refused to_first c p x e))
  ]

  -- what counts as an act does to the words of a pool, and answers, what the act does and answers on the pool
  reads_same : {v : Move} {c d : Cursor} {ws us : List ℕ} {r : Reply} → v ≢ to_remove → Moves m v c ws us r d → (p : Pool) → WellFormed m p → encode p ≡ ws → encode p ≡ us
  reads_same {v = v} {c = c} n k p w e = ap encode (sym (move-reads m lo hi v c p n)) ∙ k.sound_words p w e

  pub made_words : {a : Act} {ws us : List ℕ} {r : Reply} → Made m a ws us r → (p : Pool) → WellFormed m p → encode p ≡ ws → encode (act_pool a p) ≡ us
  made_words (by_key k) p w e = k.sound_words p w e
  made_words (took {c = c} {y = y} k t) p w e = ap encode (sym (remove_goes m lo hi p w c y (t.free p w e) (t.pair p w e)).same_pool) ∙ k.sound_words p w e
  made_words (sought {k = x} {c = c} k) p w e = ap encode (get_same c.tree x p) ∙ reads_same (λ z. let y : ◌≡◌ {A = ℕ} 0 1 = cc in omega arith) k p w e
  made_words (led k) p w e = reads_same (λ z. let y : ◌≡◌ {A = ℕ} 0 1 = cc in omega arith) k p w e

  pub made_answer : {a : Act} {ws us : List ℕ} {r : Reply} → Made m a ws us r → (p : Pool) → WellFormed m p → encode p ≡ ws → act_answer a p ≡ r
  made_answer (by_key k) p w e = k.sound_answer p w e
  made_answer (took {c = c} {y = y} k t) p w e = sym (remove_goes m lo hi p w c y (t.free p w e) (t.pair p w e)).same_answer ∙ k.sound_answer p w e
  made_answer (sought {k = x} {c = c} k) p w e = seek_get x c p ∙ k.sound_answer p w e
  made_answer (led {c = c} k) p w e = first-least c p ∙ k.sound_answer p w e

  -- on words that are no pool it is refused for that, and changes nothing
  pub made_unsound : {a : Act} {ws us : List ℕ} {r : Reply} → Made m a ws us r → (Sound m ws → ⊥) → (us ≡ ws) × (r ≡ Err Unsound)
  made_unsound (by_key k) n = (k.unsound_words n, k.unsound_answer n)
  made_unsound (took k t) n = (k.unsound_words n, k.unsound_answer n)
  made_unsound (sought k) n = (k.unsound_words n, k.unsound_answer n)
  made_unsound (led k) n = (k.unsound_words n, k.unsound_answer n)

  act_formed : (a : Act) (p : Pool) → WellFormed m p → WellFormed m (act_pool a p)
  act_formed (ask c) p w = call_formed m lo hi c p w
  act_formed (least t) p w = w

  pub acts_formed : (cs : List Act) (p : Pool) → WellFormed m p → WellFormed m (finally act_kind cs p)
  acts_formed [] p w = w
  acts_formed (a ∷ cs) p w = acts_formed cs (act_pool a p) (act_formed a p w)

  -- a history on the words of a pool is the acts on the pool
  pub ran_words_lem : {cs : List Act} {ws vs : List ℕ} {rs : List Reply} → Ran m cs ws vs rs → (p : Pool) → WellFormed m p → encode p ≡ ws → encode (finally act_kind cs p) ≡ vs
  ran_words_lem no_calls p w e = e
  ran_words_lem (one {a = a} k h) p w e = ran_words_lem h (act_pool a p) (act_formed a p w) (made_words k p w e)
  ran_words_lem (moved k q h) p w e = ran_words_lem h p w (e ∙ sym q)
  ran_words_lem (unformatted T N q h) p w e = ran_words_lem h p w e

  pub ran_answers : {cs : List Act} {ws vs : List ℕ} {rs : List Reply} → Ran m cs ws vs rs → (p : Pool) → WellFormed m p → encode p ≡ ws → replies act_kind cs p ≡ rs
  ran_answers no_calls p w e = refl
  ran_answers (one {a = a} k h) p w e = cons_eq (made_answer k p w e) (ran_answers h (act_pool a p) (act_formed a p w) (made_words k p w e))
  ran_answers (moved k q h) p w e = ran_answers h p w (e ∙ sym q)
  ran_answers (unformatted T N q h) p w e = ran_answers h p w e

  -- after every step of a history the words are sound
  pub ran_sound : {cs : List Act} {ws vs : List ℕ} {rs : List Reply} (h : Ran m cs ws vs rs) → Sound m ws → AllSound m (ran_words h) × Sound m vs
  ran_sound no_calls s = (tt, s)
  ran_sound (one {a = a} {us = us} k h) s =
      let u : Sound m us = record { pool = act_pool a s.pool; formed = act_formed a s.pool s.formed; same = made_words k s.pool s.formed s.same } in
      let g = ran_sound h u in
      ((u, g.0), g.1)
  ran_sound (moved {us = us} k q h) s =
      let u : Sound m us = rw q s in
      let g = ran_sound h u in
      ((u, g.0), g.1)
  ran_sound (unformatted T N q h) s = let g = ran_sound h s in ((s, g.0), g.1)

  -- there is such a history, of any acts, by key and with first
  first_made : (t : ℕ) (p : Pool) → WellFormed m p → Made m (least t) (encode p) (encode p) (act_answer (least t) p)
  first_made t p w =
      led (moves_by m lo to_first (cursor_at t []) (encode p) (encode p) _ _ (record { pool = p; formed = w; same = refl })
      (ap encode (move-reads m lo hi to_first (cursor_at t []) p (λ z. let y : ◌≡◌ {A = ℕ} 0 1 = cc in omega arith))) refl refl)

  act_made : (a : Act) (p : Pool) → WellFormed m p → Made m a (encode p) (encode (act_pool a p)) (act_answer a p)
  act_made (ask c) p w = by_key (calls_by m lo c (encode p) (encode (call c p).pool) (call c p).answer (record { pool = p; formed = w; same = refl }) refl refl)
  act_made (least t) p w = first_made t p w

  pub ran : (cs : List Act) (p : Pool) → WellFormed m p → Ran m cs (encode p) (encode (finally act_kind cs p)) (replies act_kind cs p)
  ran [] p w = no_calls
  ran (a ∷ cs) p w = one (act_made a p w) (ran cs (act_pool a p) (act_formed a p w))

  -- struck out by the answers is struck out by the pool
  pub own_same : (t : ℕ) (cs : List Act) (p : Pool) → own_of t cs (replies act_kind cs p) ≡ own_calls act_kind t cs p
  own_same t [] p = refl
  own_same t (a ∷ cs) p = rw (own_same t cs (act_pool a p))

  pub answers_same : (t : ℕ) (cs : List Act) (p : Pool) → answers_of t cs (replies act_kind cs p) ≡ own_replies act_kind t cs p
  answers_same t [] p = refl
  answers_same t (a ∷ cs) p = rw (answers_same t cs (act_pool a p))

  pub kept-done : (cs : List Act) (p : Pool) → AllKept act_kind cs p → AllDone (replies act_kind cs p)
  kept-done [] p a = tt
  kept-done (c ∷ cs) p a = (a.0, kept-done cs (act_pool c p) a.1)

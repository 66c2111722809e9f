-- PROOFS. Any public calls on sound words, one after another, none of them a format that is done, are a history of the acts that they count as: a move counts as an act, or it changes no word
use mathlib.Core.Path.{◌≡◌, refl, sym, ap, ◌∙◌}
use mathlib.Core.List.{List}
use mathlib.Core.Bool.{false, true≢false}
use mathlib.Core.Logic.{◌≢◌}
use mathlib.Core.Option.{Option, none, some}
use Prim.Native.Nat.{ℕ, ◌≤◌}
use native.Mathlib.Omega.{arith}
use lib.ListN.{length}
use Rattle.forest.specs.Pairs.{Item}
use Rattle.forest.specs.declared.Cursor.{Cursor}
use Rattle.forest.specs.Answers.{kept, Reply}
use Rattle.forest.specs.Pools.{Pool, WellFormed, Sound, encode, fresh, call, formatted, format_words, format_answer}
use Rattle.forest.specs.Cursors.{pair_at, Move, to_first, to_key, to_next, to_prev, to_settled, to_remove, blocked, move_from, move}
use Rattle.forest.specs.Promises.{Moves}
use Rattle.forest.proofs.ListLaws.{is, isnt, test}
use Rattle.forest.proofs.Reasons.{Verdict, passes, stops, verdict}
use Rattle.forest.proofs.PoolLaws.{call_formed}
use Rattle.forest.proofs.CountLaws.{fresh_formed}
use Rattle.forest.proofs.CursorCalls.{move-done, move-refused, move-reads, move_formed}
use Rattle.forest.proofs.MoveLaws.{row, spot_in}
use Rattle.forest.proofs.UniqueLaws.{same_pool}
use Rattle.forest.proofs.PromiseLaws.{moves_same}
use Rattle.history.specs.Histories.{Takes, Act, by_key, took, sought, led, Ran, no_calls, one, moved, unformatted, Independent, Event, Went, stays, formats, calls, moves, Unformatted, move_act, count_in, acts_of, replies_of}
use Rattle.history.proofs.Independence.{independent}

-- a format that is refused changes no word
format_struck : (T N : ℕ) (ws : List ℕ) → kept (format_answer T N ws) ≡ false → (formatted T N (length ws) ≡ false) × (format_words T N ws ≡ ws)
unfolding format_answer format_words
format_struck T N ws k = elim (test (formatted T N (length ws))) [
  | is e ↦ absurd (true≢false (simp e at k))
  | isnt e ↦ (e, simp e)
]

module _ (m : ℕ) (lo : 1 ≤ m) (hi : m ≤ 4) where
  -- the pool of the words decides
  pub takes_by : (c : Cursor) (ws : List ℕ) (y : Item) (s : Sound m ws) → blocked to_remove c s.pool ≡ none → pair_at (row s.pool c) (spot_in s.pool c) ≡ some y → Takes m c ws y
  takes_by c ws y s e q = record {
    free = λ p w b. rw (same_pool m lo p s.pool w s.formed (b ∙ sym s.same)) e;
    pair = λ p w b. rw (same_pool m lo p s.pool w s.formed (b ∙ sym s.same)) q;
  }

  module _ {c d : Cursor} {ws us vs : List ℕ} {r : Reply} {cs : List Act} {rs : List Reply} (p : Pool) (w : WellFormed m p) (b : encode p ≡ ws) (h : Ran m cs us vs rs) where
    idle : {v : Move} → Moves m v c ws us r d → (move v c p).pool ≡ p → Ran m cs ws vs rs
    idle k e = moved k (moves_same m k (record { pool = p; formed = w; same = b }) e) h

    reads : {v : Move} → Moves m v c ws us r d → v ≢ to_remove → Ran m cs ws vs rs
    reads {v = v} k n = idle k (move-reads m lo hi v c p n)

    -- a remove at a cursor, by what it takes
    removes : Moves m to_remove c ws us r d → Verdict (blocked to_remove c p) → (o : Option Item) → pair_at (row p c) (spot_in p c) ≡ o →
        Ran m (count_in (move_act to_remove c p) (λ a. a) cs) ws vs (count_in (move_act to_remove c p) (λ a. r) rs)
    unfolding move_from
    removes k (stops x e) o q = rw e (idle k (ap (λ y. y.pool) (move-refused to_remove c p x e)))
    removes k (passes e) none q = rw (e, q) (idle k (rw (move-done to_remove c p e, q)))
    removes k (passes e) (some y) q = rw (e, q) (one (took k (takes_by c ws y (record { pool = p; formed = w; same = b }) e q)) h)

    move-counted : (v : Move) → Moves m v c ws us r d → Ran m (count_in (move_act v c p) (λ a. a) cs) ws vs (count_in (move_act v c p) (λ a. r) rs)
    move-counted to_first k = one (led k) h
    move-counted (to_key x) k = one (sought k) h
    move-counted to_next k = reads k (λ z. let y : ◌≡◌ {A = ℕ} 0 1 = cc in omega arith)
    move-counted to_prev k = reads k (λ z. let y : ◌≡◌ {A = ℕ} 0 1 = cc in omega arith)
    move-counted to_settled k = reads k (λ z. let y : ◌≡◌ {A = ℕ} 0 1 = cc in omega arith)
    move-counted to_remove k = removes k (verdict (blocked to_remove c p)) _ refl

  pub any_calls : {ds : List Event} {ws vs : List ℕ} {rs : List Reply} → Went m ds ws rs vs → Unformatted ds rs → (p : Pool) → WellFormed m p → encode p ≡ ws →
      Ran m (acts_of ds p) ws vs (replies_of ds rs p)
  any_calls stays u p w b = no_calls
  any_calls (formats T N {ws = ws} e a h) u p w b =
      let f = format_struck T N ws (ap kept (sym a) ∙ u.0) in
      let g : formatted T N (length (encode p)) ≡ false = ap (λ (x : List ℕ). formatted T N (length x)) b ∙ f.0 in
      rw g (unformatted T N f.0 (rw (e ∙ f.1) at (any_calls h u.1 p w (b ∙ sym (e ∙ f.1)))))
  any_calls (calls {c = c} k h) u p w b = one (by_key k) (any_calls h u (call c p).pool (call_formed m lo hi c p w) (k.sound_words p w b))
  any_calls (moves {v = v} {c = c} k h) u p w b =
      move-counted p w b (any_calls h u (move v c p).pool (move_formed m lo hi v c p w) (k.sound_words p w b)) v k

  -- DEMAND 3 of any public calls, from the words that formatting gives
  pub all_independent : (T N : ℕ) → 1 ≤ T → T ≤ 32 → N ≤ 512 → (t : ℕ) {ds : List Event} {vs : List ℕ} {rs : List Reply} →
      Went m ds (encode (fresh T N)) rs vs → Unformatted ds rs → Independent m t (encode (fresh T N)) (acts_of ds (fresh T N)) vs (replies_of ds rs (fresh T N))
  all_independent T N one_tree few_trees few_nodes t h u =
      independent m lo hi T N one_tree few_trees few_nodes t _ _ _ (any_calls h u (fresh T N) (fresh_formed m T N one_tree few_trees few_nodes) refl)

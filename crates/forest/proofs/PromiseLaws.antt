-- PROOFS. The promises: they keep words sound, settle the outcome, and follow from one pool
use mathlib.Core.Path.{◌≡◌, refl, sym, ap, ◌∙◌}
use mathlib.Core.List.{List}
use Prim.Native.Nat.{ℕ, suc, ◌+◌, ◌*◌, ◌≤◌}
use native.Mathlib.Omega.{arith}
use lib.ListN.{length, get_or}
use Rattle.std.specs.Prelude.{Err}
use Rattle.forest.specs.Answers.{Reply}
use Rattle.forest.specs.declared.Refusal.TheVariants.{Unsound}
use Rattle.forest.specs.declared.Cursor.{Cursor}
use Rattle.forest.specs.Pools.{Pool, Sound, encode, Call, call}
use Rattle.forest.specs.Cursors.{Move, move}
use Rattle.forest.specs.Promises.{Calls, Moves}
use Rattle.forest.proofs.PoolLaws.{call_formed}
use Rattle.forest.proofs.CursorCalls.{move_formed}
use Rattle.forest.proofs.CountLaws.{encode-length}
use Rattle.forest.proofs.WordLaws.{first_word, count_word}
use Rattle.forest.proofs.UniqueLaws.{same_pool}

module _ (m : ℕ) (lo : 1 ≤ m) where
  -- sound words stay sound
  pub calls_sound : m ≤ 4 → (c : Call) (before after : List ℕ) (r : Reply) → Calls m c before after r → Sound m before → Sound m after
  calls_sound hi c before after r k s = record {
    pool = (call c s.pool).pool;
    formed = call_formed m lo hi c s.pool s.formed;
    same = k.sound_words s.pool s.formed s.same;
  }

  pub moves_sound : m ≤ 4 → (v : Move) (c : Cursor) (before after : List ℕ) (r : Reply) (d : Cursor) → Moves m v c before after r d → Sound m before → Sound m after
  moves_sound hi v c before after r d k s = record {
    pool = (move v c s.pool).pool;
    formed = move_formed m lo hi v c s.pool s.formed;
    same = k.sound_words s.pool s.formed s.same;
  }

  -- one pool is enough to keep the promise: there is no other
  pub calls_by : (c : Call) (before after : List ℕ) (r : Reply) (s : Sound m before) → encode (call c s.pool).pool ≡ after → (call c s.pool).answer ≡ r → Calls m c before after r
  calls_by c before after r s e a = record {
    sound_words = λ p w b. ap (λ (q : Pool). encode (call c q).pool) (same_pool m lo p s.pool w s.formed (b ∙ sym s.same)) ∙ e;
    sound_answer = λ p w b. ap (λ (q : Pool). (call c q).answer) (same_pool m lo p s.pool w s.formed (b ∙ sym s.same)) ∙ a;
    unsound_words = λ n. absurd (n s);
    unsound_answer = λ n. absurd (n s);
  }

  pub calls_unsound : (c : Call) (before : List ℕ) → (Sound m before → ⊥) → Calls m c before before (Err Unsound)
  calls_unsound c before n = record {
    sound_words = λ p w b. absurd (n (record { pool = p; formed = w; same = b }));
    sound_answer = λ p w b. absurd (n (record { pool = p; formed = w; same = b }));
    unsound_words = λ k. refl;
    unsound_answer = λ k. refl;
  }

  -- the same of a cursor call
  pub moves_by : (v : Move) (c : Cursor) (before after : List ℕ) (r : Reply) (d : Cursor) (s : Sound m before) →
      encode (move v c s.pool).pool ≡ after → (move v c s.pool).answer ≡ r → (move v c s.pool).cursor ≡ d → Moves m v c before after r d
  moves_by v c before after r d s e a f = record {
    sound_words = λ p w b. ap (λ (q : Pool). encode (move v c q).pool) (same_pool m lo p s.pool w s.formed (b ∙ sym s.same)) ∙ e;
    sound_answer = λ p w b. ap (λ (q : Pool). (move v c q).answer) (same_pool m lo p s.pool w s.formed (b ∙ sym s.same)) ∙ a;
    sound_cursor = λ p w b. ap (λ (q : Pool). (move v c q).cursor) (same_pool m lo p s.pool w s.formed (b ∙ sym s.same)) ∙ f;
    unsound_words = λ n. absurd (n s);
    unsound_answer = λ n. absurd (n s);
    unsound_cursor = λ n. absurd (n s);
  }

  pub moves_unsound : (v : Move) (c : Cursor) (before : List ℕ) → (Sound m before → ⊥) → Moves m v c before before (Err Unsound) c
  moves_unsound v c before n = record {
    sound_words = λ p w b. absurd (n (record { pool = p; formed = w; same = b }));
    sound_answer = λ p w b. absurd (n (record { pool = p; formed = w; same = b }));
    sound_cursor = λ p w b. absurd (n (record { pool = p; formed = w; same = b }));
    unsound_words = λ k. refl;
    unsound_answer = λ k. refl;
    unsound_cursor = λ k. refl;
  }

-- a pool that is as it was, in words
pub calls_same : (m : ℕ) {c : Call} {ws us : List ℕ} {r : Reply} → Calls m c ws us r → (s : Sound m ws) → (call c s.pool).pool ≡ s.pool → us ≡ ws
calls_same m k s e = sym (k.sound_words s.pool s.formed s.same) ∙ ap encode e ∙ s.same

pub moves_same : (m : ℕ) {v : Move} {c d : Cursor} {ws us : List ℕ} {r : Reply} → Moves m v c ws us r d → (s : Sound m ws) → (move v c s.pool).pool ≡ s.pool → us ≡ ws
moves_same m k s e = sym (k.sound_words s.pool s.formed s.same) ∙ ap encode e ∙ s.same

-- two outcomes that keep the promise are the same, whether the words are sound or not
module _ (m : ℕ) (c : Call) (before x y : List ℕ) (r s : Reply) (a : Calls m c before x r) (b : Calls m c before y s) where
  pub one_outcome_sound : Sound m before → (x ≡ y) × (r ≡ s)
  one_outcome_sound o = (
    sym (a.sound_words o.pool o.formed o.same) ∙ b.sound_words o.pool o.formed o.same,
    sym (a.sound_answer o.pool o.formed o.same) ∙ b.sound_answer o.pool o.formed o.same,
  )

  pub one_outcome_unsound : (Sound m before → ⊥) → (x ≡ y) × (r ≡ s)
  one_outcome_unsound n = (a.unsound_words n ∙ sym (b.unsound_words n), a.unsound_answer n ∙ sym (b.unsound_answer n))

module _ (m : ℕ) (v : Move) (c : Cursor) (before x y : List ℕ) (r s : Reply) (d e : Cursor) (a : Moves m v c before x r d) (b : Moves m v c before y s e) where
  pub one_move_sound : Sound m before → (x ≡ y) × (r ≡ s) × (d ≡ e)
  one_move_sound o = (
    sym (a.sound_words o.pool o.formed o.same) ∙ b.sound_words o.pool o.formed o.same,
    sym (a.sound_answer o.pool o.formed o.same) ∙ b.sound_answer o.pool o.formed o.same,
    sym (a.sound_cursor o.pool o.formed o.same) ∙ b.sound_cursor o.pool o.formed o.same,
  )

  pub one_move_unsound : (Sound m before → ⊥) → (x ≡ y) × (r ≡ s) × (d ≡ e)
  one_move_unsound n = (
    a.unsound_words n ∙ sym (b.unsound_words n),
    a.unsound_answer n ∙ sym (b.unsound_answer n),
    a.unsound_cursor n ∙ sym (b.unsound_cursor n),
  )

-- the first word is the number of trees
pub trees_word : {m : ℕ} {ws : List ℕ} (s : Sound m ws) → get_or ws 0 0 ≡ length s.pool.trees
trees_word s = ap (λ (u : List ℕ). get_or u 0 0) (sym s.same) ∙ first_word s.pool

-- what a function on sound words needs for its indices
pub sound-T : (m : ℕ) (ws : List ℕ) → Sound m ws → (1 ≤ get_or ws 0 0) × (get_or ws 0 0 ≤ 32)
sound-T m ws s =
    let e = trees_word s in
    omega (arith, s.formed.some_trees, s.formed.few_trees)

pub sound-N : (m : ℕ) (ws : List ℕ) → Sound m ws → get_or ws (suc (get_or ws 0 0)) 0 ≤ 512
sound-N m ws s =
    let e = trees_word s in
    let f : get_or ws (suc (get_or ws 0 0)) 0 ≡ s.pool.count =
    ap (λ (i : ℕ). get_or ws (suc i) 0) e ∙ ap (λ (u : List ℕ). get_or u (suc (length s.pool.trees)) 0) (sym s.same) ∙ count_word s.pool in
    omega (arith, s.formed.few_nodes)

pub sound_length : (m : ℕ) (ws : List ℕ) → Sound m ws → length ws ≡ get_or ws 0 0 + 17 * get_or ws (suc (get_or ws 0 0)) 0 + 3
sound_length m ws s =
    let e = trees_word s in
    let f : get_or ws (suc (get_or ws 0 0)) 0 ≡ s.pool.count =
    ap (λ (i : ℕ). get_or ws (suc i) 0) e ∙ ap (λ (u : List ℕ). get_or u (suc (length s.pool.trees)) 0) (sym s.same) ∙ count_word s.pool in
    omega (arith, encode-length s.pool, ap length s.same)

-- PROOFS. Demand 2 on words, calls by key: the promise gives the call on the one pool of the words, and that does on its tree what the sorted list says
use mathlib.Core.Path.{◌≡◌, refl, sym, ap, subst, ◌∙◌}
use mathlib.Core.List.{List, [], ◌∷◌}
use mathlib.Core.Bool.{true, false, true≢false}
use mathlib.Core.Logic.{◌≢◌}
use mathlib.Core.Option.{none, some}
use Prim.Native.Nat.{ℕ, zero, suc, ◌≤◌, ◌<◌}
use native.Mathlib.Omega.{arith}
use lib.ListN.{length, get_or, replicate, length-replicate}
use lib.Dec.{ltb, eqb}
use borrow.Author.Tests.{ltb-true, ltb-false}
use Rattle.std.specs.Prelude.{Err}
use Rattle.forest.specs.Sizes.{leaf_cap, leaf_least}
use Rattle.forest.specs.Pairs.{Item, Rising, lookup, has}
use Rattle.forest.specs.Rows.{Tree}
use Rattle.forest.specs.Trees.{pairs, need}
use Rattle.forest.specs.declared.Refusal.{Refusal}
use Rattle.forest.specs.declared.Refusal.TheVariants.{NoTree, NoRoom}
use Rattle.forest.specs.Answers.{held, kept, Reply, value}
use Rattle.forest.specs.Pools.{Pool, Sound, Call, put, remove, get, target, tree_of, refused, call, acts, key_of, fresh, formatted, format_words}
use Rattle.forest.specs.Promises.{Calls}
use Rattle.forest.proofs.ListLaws.{is, isnt, test}
use Rattle.forest.proofs.Reasons.{passes, stops, verdict}
use Rattle.forest.proofs.TreeLaws.{pairs_get}
use Rattle.forest.proofs.PoolLaws.{good_at, call_free, call-refused, refused_two, refused_four, other_trees, same_trees, call_formed, call-pairs, call_answer, put-held, put_twice}
use Rattle.forest.proofs.CallLaws.{room_exactly, get_same, remove_absent}
use Rattle.forest.proofs.RunLaws.{kept_free, free_kept}
use Rattle.forest.proofs.CountLaws.{format_in, fresh_formed}
use Rattle.forest.proofs.PromiseLaws.{calls_same, trees_word}
use Rattle.forest.proofs.UniqueLaws.{sound_pool}
use Rattle.forest.proofs.Sentences.{keys_rise}
use Rattle.history.specs.Holdings.{HoldsPairs, Listed, Does, Filed, filed, no_room}
use Rattle.history.proofs.Deciding.{sound, unsound, decide}

-- The list

module _ (m : ℕ) (lo : 1 ≤ m) {ws : List ℕ} {t : ℕ} where
  -- words hold one list in a tree
  pub one_list : {xs ys : List Item} → HoldsPairs m ws t xs → HoldsPairs m ws t ys → xs ≡ ys
  one_list a b = sym a.same ∙ ap (λ (p : Pool). pairs (tree_of p t)) (sound_pool m ws lo a.sound b.sound) ∙ b.same

  -- its keys rise strictly
  pub holds_rising : {xs : List Item} → HoldsPairs m ws t xs → Rising xs
  holds_rising h = subst Rising h.same (keys_rise m h.sound.pool t h.sound.formed)

  -- there is one for every tree that is there
  pub some_list : Sound m ws → t < get_or ws 0 0 → Listed m ws t
  some_list s h =
      let e = trees_word s in
      record { list = pairs (tree_of s.pool t); holds = record { sound = s; there = omega arith; same = refl } }

-- after a format that is done each is empty
empty_tree : (T t : ℕ) → get_or {A = Tree} (replicate T []) t [] ≡ []
empty_tree zero t = refl
empty_tree (suc T) zero = refl
empty_tree (suc T) (suc t) = empty_tree T t

pub format_holds : (m T N t : ℕ) (ws : List ℕ) → formatted T N (length ws) ≡ true → t < T → HoldsPairs m (format_words T N ws) t []
unfolding format_words
format_holds m T N t ws e h =
    let i = format_in T N (length ws) e in
    rw e (record {
      sound = record { pool = fresh T N; formed = fresh_formed m T N i.0 i.1 i.2; same = refl };
      there = rw length-replicate h;
      same = ap pairs (empty_tree T t);
    })

-- Any call

module _ (m : ℕ) (lo : 1 ≤ m) (hi : m ≤ 4) {c : Call} {ws us : List ℕ} {r : Reply} (k : Calls m c ws us r) where
  -- the pool of the words afterwards
  abbrev after_call : Sound m ws → Sound m us
  after_call s = record {
    pool = (call c s.pool).pool;
    formed = call_formed m lo hi c s.pool s.formed;
    same = k.sound_words s.pool s.formed s.same;
  }

  -- and the answer
  answered : (s : Sound m ws) → (call c s.pool).answer ≡ r
  answered s = k.sound_answer s.pool s.formed s.same

  -- a call that the pool does not refuse, and one that it does
  pub does_by : {xs : List Item} (h : HoldsPairs m ws (target c) xs) → refused c h.sound.pool ≡ none → Does m c us r xs
  does_by h e =
      let p = h.sound.pool in
      record {
        answer = sym (answered h.sound) ∙ call_answer m lo c p h.sound.formed e ∙ ap (λ (ys : List Item). held (lookup (key_of c) ys)) h.same;
        holds = record {
          sound = after_call h.sound;
          there = rw (same_trees c p) h.there;
          same = call-pairs m lo c p h.sound.formed e ∙ ap (acts c) h.same;
        };
      }

  pub refused_by : (s : Sound m ws) (x : Refusal) → refused c s.pool ≡ some x → (r ≡ Err x) × (us ≡ ws)
  refused_by s x e =
      let d = call-refused c s.pool x e in
      (sym (answered s) ∙ ap (λ z. z.answer) d, calls_same m k s (ap (λ z. z.pool) d))

  -- DEMAND 2, on words: a call that is not refused answers the value held, and the words then hold the list that it makes
  pub call_holds : {xs : List Item} → HoldsPairs m ws (target c) xs → kept r ≡ true → Does m c us r xs
  call_holds h e = does_by h (free_kept c h.sound.pool (ap kept (answered h.sound) ∙ e))

  -- other trees keep their list, whatever it answers
  pub other_holds : {s : ℕ} {ys : List Item} → s ≢ target c → HoldsPairs m ws s ys → HoldsPairs m us s ys
  other_holds {s} n h = record {
    sound = after_call h.sound;
    there = rw (same_trees c h.sound.pool) h.there;
    same = ap pairs (other_trees c h.sound.pool s n) ∙ h.same;
  }

  -- a tree that is not there
  pub no_tree : Sound m ws → get_or ws 0 0 ≤ target c → (r ≡ Err NoTree) × (us ≡ ws)
  no_tree s h = let e = trees_word s in refused_by s NoTree (refused_two c s.pool (omega arith))

  -- a call that is refused changes no word
  pub struck_sound : Sound m ws → kept r ≡ false → us ≡ ws
  struck_sound s e = elim (verdict (refused c s.pool)) [
    | passes f ↦ absurd (true≢false (sym (kept_free c s.pool f) ∙ ap kept (answered s) ∙ e))
    | stops x f ↦ (refused_by s x f).1
  ]

-- refused for whatever reason, on any words
pub call_struck : {c : Call} {ws us : List ℕ} {r : Reply} → Calls leaf_least c ws us r → kept r ≡ false → us ≡ ws
call_struck {ws = ws} k e = elim (decide ws) [
  | sound s ↦ struck_sound leaf_least (omega arith) (omega arith) k s e
  | unsound n ↦ k.unsound_words n
]

-- a key with no value is not there
missing : (x : ℕ) (xs : List Item) → lookup x xs ≡ none → has x xs ≡ false
missing x [] e = refl
missing x (y ∷ ys) e = elim (test (eqb x y.0)) [
  | is f ↦ absurd (let z : some y.1 ≡ none = simp f at e in let w : ◌≡◌ {A = ℕ} 0 1 = cc in omega arith)
  | isnt f ↦ simp f (missing x ys (simp f at e))
]

module _ (m : ℕ) (lo : 1 ≤ m) (hi : m ≤ 4) {t x : ℕ} {ws us : List ℕ} {r : Reply} {xs : List Item} where
  -- get: done, and no word changes
  pub get_holds : Calls m (get t x) ws us r → HoldsPairs m ws t xs → Does m (get t x) us r xs × (us ≡ ws)
  get_holds k h = (
    does_by m lo hi k h (call_free (get t x) h.sound.pool (record { there = h.there; enough = omega arith })),
    calls_same m k h.sound (get_same t x h.sound.pool),
  )

  -- remove: done
  pub remove_holds : Calls m (remove t x) ws us r → HoldsPairs m ws t xs → Does m (remove t x) us r xs
  remove_holds k h = does_by m lo hi k h (call_free (remove t x) h.sound.pool (record { there = h.there; enough = omega arith }))

  -- of a key that is not there no word changes
  pub remove_missing : Calls m (remove t x) ws us r → HoldsPairs m ws t xs → lookup x xs ≡ none → us ≡ ws
  remove_missing k h e =
      let n : has x (pairs (tree_of h.sound.pool t)) ≡ false = ap (has x) h.same ∙ missing x xs e in
      calls_same m k h.sound (ap (λ z. z.pool) (remove_absent m lo t x h.sound.pool h.sound.formed h.there n))

  module _ {v : ℕ} (k : Calls m (put t x v) ws us r) (h : HoldsPairs m ws t xs) where
    -- put: done, or refused for room
    pub put_holds : Filed m t x v ws us r xs
    put_holds = elim (test (ltb (length h.sound.pool.free) (need leaf_cap x (tree_of h.sound.pool t)))) [
      | is e ↦
          let d = refused_by m lo hi k h.sound NoRoom (refused_four (put t x v) h.sound.pool h.there (ltb-true _ _ e)) in
          no_room d.0 d.1
      | isnt e ↦ filed (does_by m lo hi k h (call_free (put t x v) h.sound.pool (record { there = h.there; enough = ltb-false _ _ e })))
    ]

    -- for room exactly where it takes more nodes than are free
    pub put-room :
        (r ≡ Err NoRoom → length h.sound.pool.free < need leaf_cap x (tree_of h.sound.pool t)) ×
        (length h.sound.pool.free < need leaf_cap x (tree_of h.sound.pool t) → r ≡ Err NoRoom)
    put-room =
        let a = answered m lo hi k h.sound in
        let e = room_exactly t x v h.sound.pool h.there in
        (λ q. e.0 (a ∙ q), λ q. sym a ∙ e.1 q)

    -- of a value that is held: no word changes
    pub put_known : lookup x xs ≡ some v → (r ≡ value v) × (us ≡ ws)
    put_known e =
        let p = h.sound.pool in
        let w = h.sound.formed in
        let g = pairs_get m leaf_cap x lo (tree_of p t) (good_at m p.trees t w.good) ∙ ap (lookup x) h.same ∙ e in
        let d = put-held m lo t x v p w h.there g in
        (sym (answered m lo hi k h.sound) ∙ ap (λ z. z.answer) d, calls_same m k h.sound (ap (λ z. z.pool) d))

-- a put that was done, made again, changes no word, whatever the words
pub put_again : {t x v : ℕ} {ws us vs : List ℕ} {r s : Reply} → Calls leaf_least (put t x v) ws us r → kept r ≡ true → Calls leaf_least (put t x v) us vs s → (s ≡ value v) × (vs ≡ us)
put_again {t} {x} {v} {ws} k e l = elim (decide ws) [
  | sound o ↦
      let f : refused (put t x v) o.pool ≡ none = free_kept (put t x v) o.pool (ap kept (answered leaf_least (omega arith) (omega arith) k o) ∙ e) in
      let q = after_call leaf_least (omega arith) (omega arith) k o in
      let d = put_twice leaf_least (omega arith) (omega arith) t x v o.pool o.formed f in
      (sym (answered leaf_least (omega arith) (omega arith) l q) ∙ ap (λ z. z.answer) d, calls_same leaf_least l q (ap (λ z. z.pool) d))
  | unsound n ↦ absurd (true≢false (sym e ∙ ap kept (k.unsound_answer n)))
]

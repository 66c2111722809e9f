-- PROOFS. Demand 3 on words: acts go by the shape of their tree, so each tree does what its own acts alone would do
use mathlib.Core.Path.{◌≡◌, refl, sym, ap, subst, ◌∙◌}
use mathlib.Core.List.{List, []}
use mathlib.Core.Bool.{true, false}
use mathlib.Core.Logic.{◌≢◌}
use Prim.Native.Nat.{ℕ, ◌≤◌}
use native.Mathlib.Omega.{arith}
use Rattle.forest.specs.Rows.{Tree}
use Rattle.forest.specs.Answers.{told, kept, Reply}
use Rattle.forest.specs.Runs.{finally, replies, own_calls, own_replies}
use Rattle.forest.specs.Pools.{Pool, WellFormed, encode, fresh, tree_of, calls, shape, AllDone}
use Rattle.forest.specs.Cursors.{leaves, pair_at, first, cursor_at, to_first, move_from}
use Rattle.forest.proofs.KindLaws.{ByShape, alone}
use Rattle.forest.proofs.RunLaws.{Room, calls_by_shape, fresh-room}
use Rattle.forest.proofs.CountLaws.{fresh_formed}
use Rattle.forest.proofs.CursorCalls.{move-done}
use Rattle.history.specs.Histories.{Act, ask, least, act_tree, act_answer, act_pool, act_kind, Ran, own_of, answers_of, Independent}
use Rattle.history.proofs.Acts.{first-kept, first_there, kept-first, least_by, ran_words_lem, ran_answers, acts_formed, ran, own_same, answers_same, kept-done}

module _ (m : ℕ) (lo : 1 ≤ m) (hi : m ≤ 4) where
  by_calls : ByShape calls (λ p t. shape (tree_of p t)) (Room m lo hi)
  by_calls = calls_by_shape m lo hi

  -- what an act answers and makes of the shape of its tree
  abbrev act_says : Act → Tree → Reply
  act_says (ask c) x = by_calls.says c x
  act_says (least t) x = told (pair_at (leaves x) (first (leaves x)))

  abbrev act_makes : Act → Tree → Tree
  act_makes (ask c) x = by_calls.makes c x
  act_makes (least t) x = x

  answer_by : (a : Act) (p : Pool) → kept (act_answer a p) ≡ true → act_answer a p ≡ act_says a (shape (tree_of p (act_tree a)))
  unfolding move_from
  answer_by (ask c) p e = by_calls.answer_by c p e
  answer_by (least t) p e = ap (λ d. d.answer) (move-done to_first (cursor_at t []) p (first-kept t p e)) ∙ least_by (tree_of p t)

  shape_by : (a : Act) (p : Pool) → kept (act_answer a p) ≡ true → shape (tree_of (act_pool a p) (act_tree a)) ≡ act_makes a (shape (tree_of p (act_tree a)))
  shape_by (ask c) p e = by_calls.shape_by c p e
  shape_by (least t) p e = refl

  others : (a : Act) (p : Pool) (t : ℕ) → t ≢ act_tree a → shape (tree_of (act_pool a p) t) ≡ shape (tree_of p t)
  others (ask c) p t d = by_calls.others c p t d
  others (least s) p t d = refl

  struck : (a : Act) (p : Pool) (t : ℕ) → kept (act_answer a p) ≡ false → shape (tree_of (act_pool a p) t) ≡ shape (tree_of p t)
  struck (ask c) p t e = by_calls.struck c p t e
  struck (least s) p t e = refl

  keeps : (a : Act) (p q : Pool) → Room m lo hi (act_tree a) p q → shape (tree_of p (act_tree a)) ≡ shape (tree_of q (act_tree a)) →
      kept (act_answer a p) ≡ true → kept (act_answer a q) ≡ true
  keeps (ask c) p q w s e = by_calls.keeps c p q w s e
  keeps (least t) p q w s e = kept-first t q (omega (arith, first_there t p e, w.trees))

  room_own : (a : Act) (p q : Pool) → Room m lo hi (act_tree a) p q → shape (tree_of p (act_tree a)) ≡ shape (tree_of q (act_tree a)) →
      kept (act_answer a p) ≡ true → Room m lo hi (act_tree a) (act_pool a p) (act_pool a q)
  room_own (ask c) p q w s e = by_calls.room_own c p q w s e
  room_own (least t) p q w s e = w

  room_other : (a : Act) (t : ℕ) (p q : Pool) → Room m lo hi t p q → shape (tree_of (act_pool a p) t) ≡ shape (tree_of p t) → Room m lo hi t (act_pool a p) q
  room_other (ask c) t p q w e = by_calls.room_other c t p q w e
  room_other (least s) t p q w e = w

  pub acts_by_shape : ByShape act_kind (λ p t. shape (tree_of p t)) (Room m lo hi)
  acts_by_shape = record {
    says = act_says;
    makes = act_makes;
    answer_by = answer_by;
    shape_by = shape_by;
    others = others;
    struck = struck;
    keeps = keeps;
    room_own = room_own;
    room_other = room_other;
  }

  -- DEMAND 3: from the words that formatting gives, any acts on any trees
  pub independent : (T N : ℕ) → 1 ≤ T → T ≤ 32 → N ≤ 512 → (t : ℕ) (cs : List Act) (vs : List ℕ) (rs : List Reply) →
      Ran m cs (encode (fresh T N)) vs rs → Independent m t (encode (fresh T N)) cs vs rs
  independent T N one_tree few_trees few_nodes t cs vs rs h =
      let f : WellFormed m (fresh T N) = fresh_formed m T N one_tree few_trees few_nodes in
      let d = alone act_kind (λ p t. shape (tree_of p t)) (Room m lo hi) acts_by_shape t cs (fresh T N) (fresh T N) (fresh-room m lo hi T N one_tree few_trees few_nodes t) refl in
      let a : replies act_kind cs (fresh T N) ≡ rs = ran_answers m lo hi h (fresh T N) f refl in
      let o : own_of t cs rs ≡ own_calls act_kind t cs (fresh T N) = ap (own_of t cs) (sym a) ∙ own_same m lo hi t cs (fresh T N) in
      let b : answers_of t cs rs ≡ own_replies act_kind t cs (fresh T N) = ap (answers_of t cs) (sym a) ∙ answers_same m lo hi t cs (fresh T N) in
      record {
        words = encode (finally act_kind (own_calls act_kind t cs (fresh T N)) (fresh T N));
        answers = replies act_kind (own_calls act_kind t cs (fresh T N)) (fresh T N);
        alone = rw o (ran m lo hi (own_calls act_kind t cs (fresh T N)) (fresh T N) f);
        same_answers = λ us bs g. sym (ran_answers m lo hi (rw o at g) (fresh T N) f refl) ∙ d.same_replies ∙ sym b;
        all_done = λ us bs g. subst AllDone (ran_answers m lo hi (rw o at g) (fresh T N) f refl) (kept-done m lo hi (own_calls act_kind t cs (fresh T N)) (fresh T N) d.all_kept);
        same_tree = λ us bs g. record {
          left = record { pool = finally act_kind cs (fresh T N); formed = acts_formed m lo hi cs (fresh T N) f; same = ran_words_lem m lo hi h (fresh T N) f refl };
          right = record {
            pool = finally act_kind (own_calls act_kind t cs (fresh T N)) (fresh T N);
            formed = acts_formed m lo hi (own_calls act_kind t cs (fresh T N)) (fresh T N) f;
            same = ran_words_lem m lo hi (rw o at g) (fresh T N) f refl;
          };
          same = sym d.same_shape;
        };
      }

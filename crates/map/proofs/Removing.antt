-- PROOFS. Taking out keeps the promises of remove by key and remove at a cursor
use mathlib.Core.Path.{◌≡◌, refl, sym, ap, ◌∙◌, subst}
use mathlib.Core.List.{List, [], ◌∷◌}
use mathlib.Core.Bool.{false}
use mathlib.Core.Option.{Option, none, some}
use Prim.Native.Nat.{ℕ, ◌+◌, ◌≤◌, ◌<◌}
use native.Mathlib.Omega.{arith}
use lib.ListN.{length, get_or}
use Rattle.std.specs.Prelude.{Some, None}
use Rattle.std.proofs.lemmas.Option.{none-some, same_Some}
use Rattle.forest.specs.Sizes.{leaf_least, most_levels}
use lib.Dec.{eqb}
use Rattle.forest.specs.Pairs.{Item, has, lookup}
use Rattle.forest.specs.Trees.{pairs, get_tree}
use Rattle.forest.specs.Pools.{Pool, WellFormed, encode, tree_of, remove, call}
use Rattle.forest.specs.Cursors.{Spot, off, on, pair_at, leaves, seek, cursor_at, spot_of, path_in, to_remove, move}
use Rattle.forest.specs.Answers.{held, nothing, value}
use Rattle.forest.specs.Promises.{Calls, Moves}
use Rattle.forest.specs.declared.Cursor.{Cursor}
use Rattle.forest.proofs.ListLaws.{is, isnt, test}
use Rattle.forest.proofs.TreeLaws.{pairs_get}
use Rattle.forest.proofs.PoolLaws.{good_at}
use Rattle.forest.proofs.CallLaws.{remove_absent}
use Rattle.forest.proofs.RemoveLaws.{Removes as Gone, remove_goes, remove_none}
use Rattle.path.specs.Cores.{Ready, Of, At, Standing, Sees, Ends, Looks, look_in, look_of, Look}
use Rattle.path.proofs.Roots.{trees_are}
use Rattle.path.proofs.Made.{fits-seek, gone_tree, gone_standing, gone_ready}
use Rattle.path.proofs.Foots.{looks_empty, ends_in, ends-place, ends_looks}
use Rattle.remove.specs.Ends.{OnPair, AskRemove, Removes}
use Rattle.remove.specs.Keys.{AskKey, RemovesKey}
use Rattle.remove.proofs.KeyLaws.{same_cursor}
use Rattle.map.specs.Gates.{held_at}
use Rattle.map.proofs.Promising.{of, own_at, free_reads, tree_there, seek-held}

-- a look and the pair there
look_some : (o : Option Item) (k v : ℕ) → Some (k, v) ≡ look_of o → o ≡ some (k, v)
look_some none k v e = absurd (none-some (k, v) (sym e))
look_some (some y) k v e = ap some (sym (same_Some (k, v) y e))

look_none : (o : Option Item) → None ≡ look_of o → o ≡ none
look_none none e = refl
look_none (some y) e = absurd (none-some y e)

module _ (ws : List ℕ) (t : ℕ) (c : Cursor) (y : Ready ws t c.tree) (z : Standing ws c) (l : Look) (x : Sees ws c l) where
  -- the pair at the spot that the definition reads off the cursor
  pair_there : (k v : ℕ) → l ≡ Some (k, v) → (p : Pool) → Of ws p → pair_at (leaves (tree_of p c.tree)) (spot_of (tree_of p c.tree) (path_in c)) ≡ some (k, v)
  pair_there k v e p o =
      look_some (pair_at (leaves (tree_of p c.tree)) (spot_of (tree_of p c.tree) (path_in c))) k v
      (sym e ∙ x.sees p (spot_of (tree_of p c.tree) (path_in c)) o (own_at ws c z p o))

  none_there : l ≡ None → (p : Pool) → Of ws p → pair_at (leaves (tree_of p c.tree)) (spot_of (tree_of p c.tree) (path_in c)) ≡ none
  none_there e p o =
      look_none (pair_at (leaves (tree_of p c.tree)) (spot_of (tree_of p c.tree) (path_in c)))
      (sym e ∙ x.sees p (spot_of (tree_of p c.tree) (path_in c)) o (own_at ws c z p o))

  on_pair : (p : Pool) (s : Spot) (u : Item) → c.tree < length p.trees → At p c s → pair_at (leaves (tree_of p c.tree)) s ≡ some u → OnPair p c
  on_pair p off u h a e = absurd (let w : ◌≡◌ {A = ℕ} 0 1 = cc in omega arith)
  on_pair p (on j i) u h a e = record { there = h; leaf = j; entry = i; pair = u; fits = a.fits; same = a.same; holds = e }

  pub ask_remove : (k v : ℕ) → l ≡ Some (k, v) → AskRemove ws t c
  ask_remove k v e = record {
    sound = y.sound;
    trees = λ p w b. trees_are ws t c.tree y p (of ws p w b);
    stands = λ p w b.
        on_pair p (spot_of (tree_of p c.tree) (path_in c)) (k, v) (tree_there ws t c.tree y p (of ws p w b)) (own_at ws c z p (of ws p w b)) (pair_there k v e p (of ws p w b));
  }

  pub removed_moves : (k v : ℕ) → l ≡ Some (k, v) → (vs : List ℕ) (d : Cursor) → Removes ws vs c d → Moves leaf_least to_remove c ws vs (value v) d
  removed_moves k v e vs d r = record {
    sound_words = r.words;
    sound_answer = λ p w b.
        (remove_goes leaf_least (omega arith) (omega arith) p w c (k, v) (free_reads ws t c y z to_remove refl p (of ws p w b)) (pair_there k v e p (of ws p w b))).value;
    sound_cursor = r.cursor;
    unsound_words = λ n. absurd (n y.sound);
    unsound_answer = λ n. absurd (n y.sound);
    unsound_cursor = λ n. absurd (n y.sound);
  }

  pub nothing_moves : length c.nodes ≡ most_levels → length c.places ≡ most_levels → l ≡ None → Moves leaf_least to_remove c ws ws nothing c
  nothing_moves ln lp e =
      let r : (p : Pool) → Of ws p → move to_remove c p ≡ record { answer = nothing; cursor = c; pool = p } =
      λ p o. remove_none leaf_least (omega arith) (omega arith) p o.formed c ln lp (free_reads ws t c y z to_remove refl p o) (none_there e p o) in
      record {
        sound_words = λ p w b. ap (λ q. encode q.pool) (r p (of ws p w b)) ∙ b;
        sound_answer = λ p w b. ap (λ q. q.answer) (r p (of ws p w b));
        sound_cursor = λ p w b. ap (λ q. q.cursor) (r p (of ws p w b));
        unsound_words = λ n. absurd (n y.sound);
        unsound_answer = λ n. absurd (n y.sound);
        unsound_cursor = λ n. absurd (n y.sound);
      }

-- By key

pub held_nothing : (l : Look) (k : ℕ) → l ≡ None → held_at l k ≡ None
held_nothing l k e = rw e

has_none : (k : ℕ) (xs : List Item) → lookup k xs ≡ none → has k xs ≡ false
has_none k [] e = refl
has_none k (u ∷ xs) e = elim (test (eqb k u.0)) [
  | is f ↦ absurd (let z = simp f at e in let w : ◌≡◌ {A = ℕ} 0 1 = cc in omega arith)
  | isnt f ↦ simp f (has_none k xs (simp f at e))
]

held_none : (o : Option ℕ) → held o ≡ nothing → o ≡ none
held_none none e = refl
held_none (some v) e = absurd (let z : ◌≡◌ {A = ℕ} 0 1 = cc in omega arith)

module _ (ws : List ℕ) (t tree k : ℕ) (y : Ready ws t tree) (l : Look) (o : Looks k ws tree l) where
  abbrev d : Cursor
  d = o.at

  same_tree : d.tree ≡ tree
  same_tree = gone_tree (seek k) (fits-seek k) ws t tree d y o.goes

  ready_there : Ready ws t d.tree
  ready_there = gone_ready (seek k) (fits-seek k) ws t tree d y o.goes

  stands_there : Standing ws d
  stands_there = gone_standing (seek k) (fits-seek k) ws t tree d y o.goes

  ask_found : (h v : ℕ) → l ≡ Some (h, v) → AskRemove ws t d
  ask_found h v e = ask_remove ws t d ready_there stands_there l o.sees h v e

  pub removed-calls : (h v : ℕ) → l ≡ Some (h, v) → h ≡ k → (vs : List ℕ) → RemovesKey ws vs tree k → Calls leaf_least (remove tree k) ws vs (value v)
  removed-calls h v e i vs q =
      let e' : l ≡ Some (k, v) = e ∙ ap (λ (n : ℕ). Some (n, v)) i in
      let goes : (p : Pool) (w : WellFormed leaf_least p) → encode p ≡ ws → Gone p d (k, v) (move to_remove d p) =
      λ p w b. remove_goes leaf_least (omega arith) (omega arith) p w d (k, v) (free_reads ws t d ready_there stands_there to_remove refl p (of ws p w b))
      (pair_there ws t d ready_there stands_there l o.sees k v e' p (of ws p w b)) in
      record {
        sound_words = λ p w b. ap encode (sym ((goes p w b).same_pool ∙ ap (λ (n : ℕ). (call (remove n k) p).pool) same_tree)) ∙ q.words d o.goes p w b;
        sound_answer = λ p w b. sym ((goes p w b).same_answer ∙ ap (λ (n : ℕ). (call (remove n k) p).answer) same_tree) ∙ (goes p w b).value;
        unsound_words = λ n. absurd (n y.sound);
        unsound_answer = λ n. absurd (n y.sound);
      }

  absent : held_at l k ≡ None → (p : Pool) → Of ws p → call (remove tree k) p ≡ record { answer = nothing; pool = p }
  absent e p f =
      let good = good_at leaf_least p.trees tree f.formed.good in
      let a : get_tree k (tree_of p tree) ≡ none = held_none (get_tree k (tree_of p tree)) (seek-held ws t (cursor_at tree []) y k d l None o.goes o.sees (sym e) p f) in
      let b : lookup k (pairs (tree_of p tree)) ≡ none = sym (pairs_get leaf_least 7 k (omega arith) (tree_of p tree) good) ∙ a in
      remove_absent leaf_least (omega arith) tree k p f.formed (tree_there ws t tree y p f) (has_none k (pairs (tree_of p tree)) b)

  pub absent_calls : held_at l k ≡ None → Calls leaf_least (remove tree k) ws ws nothing
  absent_calls e = record {
    sound_words = λ p w b. ap (λ c. encode c.pool) (absent e p (of ws p w b)) ∙ b;
    sound_answer = λ p w b. ap (λ c. c.answer) (absent e p (of ws p w b));
    unsound_words = λ n. absurd (n y.sound);
    unsound_answer = λ n. absurd (n y.sound);
  }

-- r is the root word
module _ (ws : List ℕ) (t tree k r : ℕ) (y : Ready ws t tree) (w : r ≡ get_or ws (tree + 1) 0) where
  root_word : r ≡ get_or ws (1 + tree) 0
  root_word = let z : 1 + tree ≡ tree + 1 = omega arith in rw z w

  pub empty_calls : r ≡ 0 → Calls leaf_least (remove tree k) ws ws nothing
  empty_calls z = absent_calls ws t tree k y None (looks_empty ws t tree y k (sym root_word ∙ z)) refl

-- the leaf n where the path of the key ends, at place e, and the look l there
module _ (ws : List ℕ) (t tree k n e : ℕ) (y : Ready ws t tree) (d : Ends k ws tree n e) where
  pub place_few : e ≤ 7
  place_few = omega (arith, ends-place ws t tree y k n e d, (ends_in ws t tree y k n e d).most)

  pub ask_key : (h v : ℕ) → look_in ws t n e ≡ Some (h, v) → AskKey ws t tree k n e
  ask_key h v q =
      let o = ends_looks ws t tree y k n e d in
      record {
        ready = y;
        ends = d;
        asks = λ c g. subst (AskRemove ws t) (sym (same_cursor ws t tree k y c o.at g o.goes)) (ask_found ws t tree k y (look_in ws t n e) o h v q);
      }

-- PROOFS. Pools: a call keeps them well formed, does what it means, and leaves other trees alone
use mathlib.Core.Path.{◌≡◌, refl, sym, ap, ◌∙◌}
use mathlib.Core.List.{List, [], ◌∷◌}
use mathlib.Core.Logic.{◌≢◌}
use mathlib.Core.Option.{Option, none, some}
use Prim.Native.Nat.{ℕ, zero, suc, ◌+◌, ◌≤◌, ◌<◌}
use native.Mathlib.Omega.{arith}
use lib.ListN.{length, drop, get_or, set, length-set, length-append}
use lib.Seq.{get_or-set_same, get_or-set_other, set-get_or}
use lib.Dec.{ltb, eqb, leb}
use borrow.Author.Tests.{lt-ltb, le-ltb, ltb-false, le-leb, lt-leb, leb-false}
use Rattle.std.specs.Prelude.{Err}
use Rattle.forest.specs.Lists.{once, total}
use Rattle.forest.specs.Pairs.{lookup, has}
use Rattle.forest.specs.Rows.{Tree, Good}
use Rattle.forest.specs.Trees.{pairs, numbers, leaf_items, put_tree, need, get_tree}
use Rattle.forest.specs.declared.Refusal.{Refusal}
use Rattle.forest.specs.declared.Refusal.TheVariants.{NoTree, NoRoom}
use Rattle.forest.specs.Answers.{held}
use Rattle.forest.specs.Pools.{Pool, used, AllGood, WellFormed, tree_of, push_all, Call, put, remove, get, target, after, takes, frees, says, refused, done, call, acts, key_of}
use Rattle.forest.proofs.ListLaws.{is, isnt, test, total-append}
use Rattle.forest.proofs.Reasons.{passes, stops, verdict, number}
use Rattle.forest.proofs.PairLaws.{lookup-has, lookup-insert}
use Rattle.forest.proofs.TowerLaws.{weight}
use Rattle.forest.proofs.TreeLaws

-- lists of trees
pub good_at : (m : ℕ) (ts : List Tree) (t : ℕ) → AllGood m ts → Good m 7 (get_or ts t [])
good_at m [] t a = tt
good_at m (x ∷ ts) zero a = a.0
good_at m (x ∷ ts) (suc t) a = good_at m ts t a.1

good_set : (m : ℕ) (ts : List Tree) (t : ℕ) (x : Tree) → AllGood m ts → Good m 7 x → AllGood m (set ts t x)
good_set m [] t x a g = tt
good_set m (y ∷ ts) zero x a g = (g, a.1)
good_set m (y ∷ ts) (suc t) x a g = (a.0, good_set m ts t x a.1 g)

pub used-set : (w : ℕ → ℕ) (ts : List Tree) (t : ℕ) (x : Tree) → t < length ts → total w (used (set ts t x)) + weight w (get_or ts t []) ≡ total w (used ts) + weight w x
used-set w [] t x h = absurd (omega arith)
used-set w (y ∷ ts) zero x h = omega (arith, total-append w (numbers x) (used ts), total-append w (numbers y) (used ts))
used-set w (y ∷ ts) (suc t) x h = omega (arith, total-append w (numbers y) (used (set ts t x)), total-append w (numbers y) (used ts), used-set w ts t x (omega arith))

pub used-at : (ts : List Tree) (t : ℕ) → length (numbers (get_or ts t [])) ≤ length (used ts)
used-at [] t = omega arith
used-at (x ∷ ts) zero = omega (arith, length-append (numbers x) (used ts))
used-at (x ∷ ts) (suc t) = omega (arith, length-append (numbers x) (used ts), used-at ts t)

pub total_push : (w : ℕ → ℕ) (xs s : List ℕ) → total w (push_all xs s) ≡ total w xs + total w s
total_push w [] s = omega arith
total_push w (x ∷ xs) s = omega (arith, total_push w xs (x ∷ s))

-- what a call does to its tree
module _ (m : ℕ) (lo : 1 ≤ m) where
  pub good_after : m ≤ 4 → (c : Call) (new : List ℕ) (x : Tree) → Good m 7 x → Good m 7 (after c new x)
  good_after hi (put t k v) new x g = TreeLaws.good_put m 7 k lo (omega arith) (omega arith) v new x g
  good_after hi (remove t k) new x g = TreeLaws.good_remove m 7 k lo (omega arith) (omega arith) x g
  good_after hi (get t k) new x g = g

  pub weight_after : (w : ℕ → ℕ) (c : Call) (new : List ℕ) (x : Tree) → Good m 7 x → takes c x ≤ length new →
      weight w (after c new x) + total w (frees c x) + total w (drop (takes c x) new) ≡ weight w x + total w new
  weight_after w (put t k v) new x g h = omega (arith, TreeLaws.weight_put m 7 k lo w v new x g h)
  weight_after w (remove t k) new x g h = omega (arith, TreeLaws.weight_remove m 7 k lo w x g)
  weight_after w (get t k) new x g h = omega arith

  pub pairs-after : (c : Call) (new : List ℕ) (x : Tree) → Good m 7 x → pairs (after c new x) ≡ acts c (pairs x)
  pairs-after (put t k v) new x g = TreeLaws.pairs-put m 7 k lo v new x g
  pairs-after (remove t k) new x g = TreeLaws.pairs_remove m 7 k lo x g
  pairs-after (get t k) new x g = refl

  pub says-pairs : (c : Call) (x : Tree) → Good m 7 x → says c x ≡ held (lookup (key_of c) (pairs x))
  says-pairs (put t k v) x g = ap held (TreeLaws.pairs_get m 7 k lo x g)
  says-pairs (remove t k) x g = ap held (TreeLaws.pairs_get m 7 k lo x g)
  says-pairs (get t k) x g = ap held (TreeLaws.pairs_get m 7 k lo x g)

-- a call that is not refused
pub record Free (c : Call) (p : Pool) : Type 0 where
  pub there : target c < length p.trees
  pub enough : takes c (tree_of p (target c)) ≤ length p.free

pub free_call : (c : Call) (p : Pool) → refused c p ≡ none → Free c p
unfolding refused
free_call c p e = elim (test (leb (length p.trees) (target c))) [
  | is f ↦ absurd (let z = ap number (simp f at e) in omega arith)
  | isnt f ↦ elim (test (ltb (length p.free) (takes c (tree_of p (target c))))) [
    | is g ↦ absurd (let z = ap number (simp (f, g) at e) in omega arith)
    | isnt g ↦ record { there = leb-false _ _ f; enough = ltb-false _ _ g }
  ]
]

pub call_free : (c : Call) (p : Pool) → Free c p → refused c p ≡ none
unfolding refused
call_free c p f = simp (lt-leb (length p.trees) (target c) f.there, le-ltb (length p.free) (takes c (tree_of p (target c))) f.enough)

-- the two ways of a call
pub call-done : (c : Call) (p : Pool) → refused c p ≡ none → call c p ≡ record { answer = says c (tree_of p (target c)); pool = done c p }
unfolding call
call-done c p e = simp e

-- a call that is refused changes nothing, and answers with the reason
pub call-refused : (c : Call) (p : Pool) (x : Refusal) → refused c p ≡ some x → call c p ≡ record { answer = Err x; pool = p }
unfolding call
call-refused c p x e = simp e

-- the table: 2 for a tree that is not there, else 4 where the nodes do not suffice, else none
pub refused_two : (c : Call) (p : Pool) → length p.trees ≤ target c → refused c p ≡ some NoTree
unfolding refused
refused_two c p h = simp (le-leb (length p.trees) (target c) h)

pub refused_four : (c : Call) (p : Pool) → target c < length p.trees → length p.free < takes c (tree_of p (target c)) → refused c p ≡ some NoRoom
unfolding refused
refused_four c p h k = simp (lt-leb (length p.trees) (target c) h, lt-ltb (length p.free) (takes c (tree_of p (target c))) k)

-- other trees are untouched
pub other_trees : (c : Call) (p : Pool) (t : ℕ) → t ≢ target c → tree_of (call c p).pool t ≡ tree_of p t
unfolding call done
other_trees c p t h = elim (verdict (refused c p)) [
  | passes e ↦ simp e (get_or-set_other p.trees (target c) t (after c p.free (tree_of p (target c))) [] h)
  | stops x e ↦ simp e
]

pub same_trees : (c : Call) (p : Pool) → length (call c p).pool.trees ≡ length p.trees
unfolding call done
same_trees c p = elim (verdict (refused c p)) [
  | passes e ↦ simp (e, length-set)
  | stops x e ↦ simp e
]

pub same_count : (c : Call) (p : Pool) → (call c p).pool.count ≡ p.count
unfolding call done
same_count c p = elim (verdict (refused c p)) [ passes e ↦ simp e | stops x e ↦ simp e ]

pub own_tree : (c : Call) (p : Pool) → Free c p → tree_of (done c p) (target c) ≡ after c p.free (tree_of p (target c))
unfolding done
own_tree c p f = get_or-set_same p.trees (target c) (after c p.free (tree_of p (target c))) [] f.there

module _ (m : ℕ) (lo : 1 ≤ m) where
  -- what is in use and what is free, by any weight
  pub done_weight : (w : ℕ → ℕ) (c : Call) (p : Pool) → WellFormed m p → Free c p →
      total w (used (done c p).trees) + total w (done c p).free ≡ total w (used p.trees) + total w p.free
  unfolding done
  done_weight w c p h f =
      let x = tree_of p (target c) in
      let g : Good m 7 x = good_at m p.trees (target c) h.good in
      omega (
        arith,
        used-set w p.trees (target c) (after c p.free x) f.there,
        total_push w (frees c x) (drop (takes c x) p.free),
        weight_after m lo w c p.free x g f.enough,
      )

  module _ (hi : m ≤ 4) where
    pub done_formed : (c : Call) (p : Pool) → WellFormed m p → Free c p → WellFormed m (done c p)
    unfolding done
    done_formed c p h f = record {
      some_trees = rw length-set h.some_trees;
      few_trees = rw length-set h.few_trees;
      few_nodes = h.few_nodes;
      good = good_set m p.trees (target c) _ h.good (good_after m lo hi c p.free _ (good_at m p.trees (target c) h.good));
      each_once = λ n. done_weight (λ x. once (eqb n x)) c p h f ∙ h.each_once n;
    }

    -- a call keeps the pool well formed
    pub call_formed : (c : Call) (p : Pool) → WellFormed m p → WellFormed m (call c p).pool
    call_formed c p h = elim (verdict (refused c p)) [
      | passes e ↦ rw (call-done c p e) (done_formed c p h (free_call c p e))
      | stops x e ↦ rw (call-refused c p x e) h
    ]

  -- what a call that is not refused means
  pub call-pairs : (c : Call) (p : Pool) → WellFormed m p → refused c p ≡ none →
      pairs (tree_of (call c p).pool (target c)) ≡ acts c (pairs (tree_of p (target c)))
  call-pairs c p h e =
      rw (call-done c p e, own_tree c p (free_call c p e)) (pairs-after m lo c p.free (tree_of p (target c)) (good_at m p.trees (target c) h.good))

  pub call_answer : (c : Call) (p : Pool) → WellFormed m p → refused c p ≡ none →
      (call c p).answer ≡ held (lookup (key_of c) (pairs (tree_of p (target c))))
  call_answer c p h e = rw (call-done c p e) (says-pairs m lo c (tree_of p (target c)) (good_at m p.trees (target c) h.good))

  -- a value that is held, put again: nothing is taken and nothing changes
  need-held : (k v : ℕ) (x : Tree) → get_tree k x ≡ some v → need 7 k x ≡ 0
  unfolding need get_tree
  need-held k v [] h = absurd (let y : ◌≡◌ {A = ℕ} 0 1 = cc in omega arith)
  need-held k v (L ∷ Rs) h = elim (test (has k (leaf_items k L))) [
    | is e ↦ simp e
    | isnt e ↦ absurd (let z : ◌≡◌ {A = Option ℕ} none (some v) = sym (lookup-has k (leaf_items k L) e) ∙ h in let y : ◌≡◌ {A = ℕ} 0 1 = cc in omega arith)
  ]

  pub put-held : (t k v : ℕ) (p : Pool) → WellFormed m p → t < length p.trees → get_tree k (tree_of p t) ≡ some v →
      call (put t k v) p ≡ record { answer = held (some v); pool = p }
  unfolding done
  put-held t k v p h there e =
      let n : need 7 k (tree_of p t) ≡ 0 = need-held k v (tree_of p t) e in
      let f : Free (put t k v) p = record { there = there; enough = omega arith } in
      let s : put_tree 7 k v p.free (tree_of p t) ≡ tree_of p t = TreeLaws.put_same m 7 k lo v p.free (tree_of p t) (good_at m p.trees t h.good) e in
      rw (call-done (put t k v) p (call_free (put t k v) p f), e, s, n, set-get_or)

  pub put_twice : m ≤ 4 → (t k v : ℕ) (p : Pool) → WellFormed m p → refused (put t k v) p ≡ none →
      call (put t k v) (call (put t k v) p).pool ≡ record { answer = held (some v); pool = (call (put t k v) p).pool }
  put_twice hi t k v p h e =
      let q = (call (put t k v) p).pool in
      let f = free_call (put t k v) p e in
      let g : WellFormed m q = call_formed hi (put t k v) p h in
      put-held t k v q g (rw (same_trees (put t k v) p) f.there)
      (TreeLaws.pairs_get m 7 k lo (tree_of q t) (good_at m q.trees t g.good) ∙ ap (lookup k) (call-pairs (put t k v) p h e) ∙ lookup-insert k v (pairs (tree_of p t)))

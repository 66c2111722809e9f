-- PROOFS. For demand 3: what get, put and remove answer and make goes by the shape of their tree
use mathlib.Core.Path.{◌≡◌, refl, sym, ap, ◌∙◌}
use mathlib.Core.List.{List, [], ◌∷◌}
use mathlib.Core.Bool.{true, false, true≢false}
use mathlib.Core.Option.{none}
use Prim.Native.Nat.{ℕ, zero, suc, ◌≤◌}
use native.Mathlib.Omega.{arith}
use lib.ListN.{length, get_or, set, replicate}
use Rattle.forest.specs.Rows.{Tree}
use Rattle.forest.specs.Trees.{numbers, need, get_tree}
use Rattle.forest.specs.Answers.{held, kept}
use Rattle.forest.specs.Pools.{Pool, used, WellFormed, tree_of, Call, put, remove, get, target, after, takes, says, refused, done, call, calls, fresh, run, shape}
use Rattle.forest.proofs.ListLaws.{total-length}
use Rattle.forest.proofs.Reasons.{passes, stops, verdict}
use Rattle.forest.proofs.PoolLaws.{Free, free_call, call_free, call-done, call-refused, other_trees, same_trees, same_count, own_tree, call_formed, used-set, used-at}
use Rattle.forest.proofs.CountLaws.{nodes_all, fresh_formed}
use Rattle.forest.proofs.CallLaws.{held_kept}
use Rattle.forest.proofs.KindLaws.{ByShape}
use Rattle.forest.proofs.ShapeLaws.{shape-put, shape-need, shape_get, shape_remove, shape_nodes}

-- of a call, answer and new shape are those that the old shape gives
pub says_by : (c : Call) (x : Tree) → says c x ≡ says c (shape x)
says_by (put t k v) x = ap held (sym (shape_get k x))
says_by (remove t k) x = ap held (sym (shape_get k x))
says_by (get t k) x = ap held (sym (shape_get k x))

pub after_by : (c : Call) (new : List ℕ) (x : Tree) → shape (after c new x) ≡ after c [] (shape x)
after_by (put t k v) new x = shape-put 7 k v new x
after_by (remove t k) new x = shape_remove 7 k x
after_by (get t k) new x = refl

-- so what a call takes, answers and leaves is the same for trees of one shape
pub takes-shape : (c : Call) (x y : Tree) → shape x ≡ shape y → takes c x ≡ takes c y
takes-shape (put t k v) x y e = sym (shape-need 7 k x) ∙ ap (need 7 k) e ∙ shape-need 7 k y
takes-shape (remove t k) x y e = refl
takes-shape (get t k) x y e = refl

pub says-shape : (c : Call) (x y : Tree) → shape x ≡ shape y → says c x ≡ says c y
says-shape c x y e = says_by c x ∙ ap (says c) e ∙ sym (says_by c y)

pub after-shape : (c : Call) (f g : List ℕ) (x y : Tree) → shape x ≡ shape y → shape (after c f x) ≡ shape (after c g y)
after-shape c f g x y e = after_by c f x ∙ ap (after c []) e ∙ sym (after_by c g y)

says-done : (c : Call) (x : Tree) → kept (says c x) ≡ true
says-done (put t k v) x = held_kept (get_tree k x)
says-done (remove t k) x = held_kept (get_tree k x)
says-done (get t k) x = held_kept (get_tree k x)

-- a call is struck out exactly where it is refused
pub kept_free : (c : Call) (p : Pool) → refused c p ≡ none → kept (call c p).answer ≡ true
kept_free c p e = rw (call-done c p e) (says-done c (tree_of p (target c)))

pub free_kept : (c : Call) (p : Pool) → kept (call c p).answer ≡ true → refused c p ≡ none
free_kept c p k = elim (verdict (refused c p)) [
  | passes e ↦ e
  | stops x e ↦ absurd (true≢false (sym k ∙ ap (λ d. kept d.answer) (call-refused c p x e)))
]

struck_same : (c : Call) (p : Pool) → kept (call c p).answer ≡ false → (call c p).pool ≡ p
struck_same c p k = elim (verdict (refused c p)) [
  | passes e ↦ absurd (true≢false (sym (kept_free c p e) ∙ k))
  | stops x e ↦ ap (λ d. d.pool) (call-refused c p x e)
]

-- any calls keep a pool well formed
pub run_formed : (m : ℕ) → 1 ≤ m → m ≤ 4 → (cs : List Call) (p : Pool) → WellFormed m p → WellFormed m (run cs p)
run_formed m lo hi [] p h = h
run_formed m lo hi (c ∷ cs) p h = run_formed m lo hi cs (call c p).pool (call_formed m lo hi c p h)

module _ (m : ℕ) (lo : 1 ≤ m) (hi : m ≤ 4) where
  -- p is a pool in use, q one of the same size in which only tree t is used
  pub record Room (t : ℕ) (p q : Pool) : Type 0 where
    pub joint : WellFormed m p
    pub lone : WellFormed m q
    pub trees : length p.trees ≡ length q.trees
    pub nodes : p.count ≡ q.count
    pub only : length (used q.trees) ≡ length (numbers (tree_of q t))

  -- the pool of one tree has at least as many free nodes
  more_free : (t : ℕ) (p q : Pool) → Room t p q → shape (tree_of p t) ≡ shape (tree_of q t) → length p.free ≤ length q.free
  more_free t p q w a = omega (
    arith,
    nodes_all m p w.joint,
    nodes_all m q w.lone,
    w.nodes,
    w.only,
    used-at p.trees t,
    shape_nodes (tree_of p t),
    shape_nodes (tree_of q t),
    ap (λ (x : Tree). length (numbers x)) a,
  )

  free_too : (c : Call) (p q : Pool) → Room (target c) p q → shape (tree_of p (target c)) ≡ shape (tree_of q (target c)) → Free c p → Free c q
  free_too c p q w a f = record {
    there = omega (arith, f.there, w.trees);
    enough = omega (arith, f.enough, more_free (target c) p q w a, takes-shape c (tree_of p (target c)) (tree_of q (target c)) a);
  }

  only_done : (c : Call) (q : Pool) → Free c q → length (used q.trees) ≡ length (numbers (tree_of q (target c))) →
      length (used (done c q).trees) ≡ length (numbers (tree_of (done c q) (target c)))
  unfolding done
  only_done c q f e =
      let x = after c q.free (tree_of q (target c)) in
      rw (own_tree c q f) (omega (
        arith,
        used-set (λ n. 1) q.trees (target c) x f.there,
        total-length (used (set q.trees (target c) x)),
        total-length (used q.trees),
        total-length (numbers x),
        total-length (numbers (tree_of q (target c))),
      ))

  not-refused : (c : Call) (p : Pool) → kept (call c p).answer ≡ true → Free c p
  not-refused c p e = free_call c p (free_kept c p e)

  -- get, put and remove are such a kind of call
  pub calls_by_shape : ByShape calls (λ p t. shape (tree_of p t)) Room
  calls_by_shape = record {
    says = says;
    makes = λ c s. after c [] s;
    answer_by = λ c p e. rw (call-done c p (free_kept c p e)) (says_by c (tree_of p (target c)));
    shape_by = λ c p e. rw (call-done c p (free_kept c p e), own_tree c p (not-refused c p e)) (after_by c p.free (tree_of p (target c)));
    others = λ c p t d. ap shape (other_trees c p t d);
    struck = λ c p t e. ap (λ (q : Pool). shape (tree_of q t)) (struck_same c p e);
    keeps = λ c p q w a e. kept_free c q (call_free c q (free_too c p q w a (not-refused c p e)));
    room_own = λ c p q w a e.
        let f : Free c q = free_too c p q w a (not-refused c p e) in
        let z : (call c q).pool ≡ done c q = ap (λ d. d.pool) (call-done c q (call_free c q f)) in
        record {
          joint = call_formed m lo hi c p w.joint;
          lone = call_formed m lo hi c q w.lone;
          trees = same_trees c p ∙ w.trees ∙ sym (same_trees c q);
          nodes = same_count c p ∙ w.nodes ∙ sym (same_count c q);
          only = rw z (only_done c q f w.only);
        };
    room_other = λ c t p q w e. record {
      joint = call_formed m lo hi c p w.joint;
      lone = w.lone;
      trees = same_trees c p ∙ w.trees;
      nodes = same_count c p ∙ w.nodes;
      only = w.only;
    };
  }

  -- a fresh pool has as much room for each tree as another
  pub fresh-room : (T N : ℕ) → 1 ≤ T → T ≤ 32 → N ≤ 512 → (t : ℕ) → Room t (fresh T N) (fresh T N)
  fresh-room T N a b c t = let g = fresh_formed m T N a b c in record { joint = g; lone = g; trees = refl; nodes = refl; only = none-used T t }
    where
      none-used : (T t : ℕ) → length (used (replicate T [])) ≡ length (numbers (get_or (replicate T []) t []))
      none-used zero t = refl
      none-used (suc T) zero = none-used' T
        where
          none-used' : (T : ℕ) → length (used (replicate T [])) ≡ 0
          none-used' zero = refl
          none-used' (suc T) = none-used' T
      none-used (suc T) (suc t) = none-used T t

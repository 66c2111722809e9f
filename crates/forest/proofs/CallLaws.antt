-- PROOFS. A call on a pool: exactly when it is refused, when it changes nothing, what it takes and gives back, and what it leaves alone
use mathlib.Core.Path.{◌≡◌, refl, sym, ap, ◌∙◌}
use mathlib.Core.List.{List, [], ◌∷◌}
use mathlib.Core.Bool.{true, false, true≢false}
use mathlib.Core.Logic.{◌≢◌}
use mathlib.Core.Option.{Option, none, some}
use Prim.Native.Nat.{ℕ, zero, suc, ◌+◌, ◌≤◌, ◌<◌}
use native.Mathlib.Omega.{arith}
use lib.ListN.{length, drop, get_or, set, length-drop}
use lib.Seq.{set-get_or}
use lib.Dec.{ltb, leb}
use borrow.Author.Tests.{ltb-true, ltb-false, leb-true, leb-false}
use Rattle.std.specs.Prelude.{Err}
use Rattle.forest.specs.Lists.{count}
use Rattle.forest.specs.Pairs.{has}
use Rattle.forest.specs.Rows.{Tree, Good}
use Rattle.forest.specs.Trees.{pairs, numbers, leaf_items, need, remove_tree, freed, get_tree}
use Rattle.forest.specs.declared.Refusal.{Refusal}
use Rattle.forest.specs.declared.Refusal.TheVariants.{NoTree, NoRoom}
use Rattle.forest.specs.Answers.{held, kept, nothing}
use Rattle.forest.specs.Pools.{Pool, used, WellFormed, node_words, encode, root, tree_of, push_all, Call, put, remove, get, target, after, takes, frees, refused, done, call}
use Rattle.forest.proofs.ListLaws.{is, isnt, test, total-length}
use Rattle.forest.proofs.Reasons.{passes, stops, verdict, number}
use Rattle.forest.proofs.PairLaws.{lookup-has}
use Rattle.forest.proofs.TreeLaws.{lands}
use Rattle.forest.proofs.PoolLaws.{Free, free_call, call_free, call-done, call-refused, refused_two, refused_four, good_at, used-set, total_push, weight_after, other_trees, same_trees, own_tree, call_formed}
use Rattle.forest.proofs.WordLaws.{count-append, count_tree, used-once, other_words, root_word}

-- what is found, or not, is no refusal
pub held_kept : (o : Option ℕ) → kept (held o) ≡ true
held_kept none = refl
held_kept (some v) = refl

-- Refusals: the table, read backwards

-- what the reason against a call says
pub record Judged (c : Call) (p : Pool) (o : Option Refusal) : Type 0 where
  pub zero_free : o ≡ none → Free c p
  pub two_tree : o ≡ some NoTree → length p.trees ≤ target c
  pub four_there : o ≡ some NoRoom → target c < length p.trees
  pub four_above : o ≡ some NoRoom → length p.free < takes c (tree_of p (target c))

pub judged : (c : Call) (p : Pool) → Judged c p (refused c p)
unfolding refused
judged c p = elim (test (leb (length p.trees) (target c))) [
  | is e ↦ simp e (record {
    zero_free = λ z. absurd (omega (arith, ap number z));
    two_tree = λ z. leb-true _ _ e;
    four_there = λ z. absurd (omega (arith, ap number z));
    four_above = λ z. absurd (omega (arith, ap number z));
  })
  | isnt e ↦ elim (test (ltb (length p.free) (takes c (tree_of p (target c))))) [
    | is f ↦ simp (e, f) (record {
      zero_free = λ z. absurd (omega (arith, ap number z));
      two_tree = λ z. absurd (omega (arith, ap number z));
      four_there = λ z. leb-false _ _ e;
      four_above = λ z. ltb-true _ _ f;
    })
    | isnt f ↦ simp (e, f) (record {
      zero_free = λ z. record { there = leb-false _ _ e; enough = ltb-false _ _ f };
      two_tree = λ z. absurd (omega (arith, ap number z));
      four_there = λ z. absurd (omega (arith, ap number z));
      four_above = λ z. absurd (omega (arith, ap number z));
    })
  ]
]

-- 4 exactly when a put in a tree that is there needs more nodes than are free
pub four_exactly : (t k v : ℕ) (p : Pool) → t < length p.trees →
    (refused (put t k v) p ≡ some NoRoom → length p.free < need 7 k (tree_of p t)) × (length p.free < need 7 k (tree_of p t) → refused (put t k v) p ≡ some NoRoom)
four_exactly t k v p h = ((judged (put t k v) p).four_above, refused_four (put t k v) p h)

-- and the answer says so
pub room_exactly : (t k v : ℕ) (p : Pool) → t < length p.trees →
    ((call (put t k v) p).answer ≡ Err NoRoom → length p.free < need 7 k (tree_of p t)) ×
    (length p.free < need 7 k (tree_of p t) → (call (put t k v) p).answer ≡ Err NoRoom)
room_exactly t k v p h = (
  λ e. (four_exactly t k v p h).0 (told e),
  λ g. ap (λ d. d.answer) (call-refused (put t k v) p NoRoom ((four_exactly t k v p h).1 g)),
)
  where
    told : (call (put t k v) p).answer ≡ Err NoRoom → refused (put t k v) p ≡ some NoRoom
    told e = elim (verdict (refused (put t k v) p)) [
      | passes f ↦
          let d : held (get_tree k (tree_of p t)) ≡ Err NoRoom = ap (λ d. d.answer) (sym (call-done (put t k v) p f)) ∙ e in
          absurd (true≢false (sym (held_kept (get_tree k (tree_of p t))) ∙ ap kept d))
      | stops x f ↦
          let d : Err x ≡ Err NoRoom = ap (λ d. d.answer) (sym (call-refused (put t k v) p x f)) ∙ e in
          let y : x ≡ NoRoom = cc in
          f ∙ ap some y
    ]

-- 2 exactly when the tree number is T or above
pub two_exactly : (c : Call) (p : Pool) → (refused c p ≡ some NoTree → length p.trees ≤ target c) × (length p.trees ≤ target c → refused c p ≡ some NoTree)
two_exactly c p = ((judged c p).two_tree, refused_two c p)

-- and 0 exactly when the tree is there and the nodes suffice
pub zero_exactly : (c : Call) (p : Pool) → (refused c p ≡ none → Free c p) × (Free c p → refused c p ≡ none)
zero_exactly c p = ((judged c p).zero_free, call_free c p)

-- a get and a remove are never short of nodes
pub get_never_four : (t k : ℕ) (p : Pool) → refused (get t k) p ≢ some NoRoom
get_never_four t k p e = omega (arith, (judged (get t k) p).four_above e)

pub remove_never_four : (t k : ℕ) (p : Pool) → refused (remove t k) p ≢ some NoRoom
remove_never_four t k p e = omega (arith, (judged (remove t k) p).four_above e)

-- Calls that change nothing

pub get_same : (t k : ℕ) (p : Pool) → (call (get t k) p).pool ≡ p
unfolding done
get_same t k p = elim (verdict (refused (get t k) p)) [
  | passes e ↦ rw (call-done (get t k) p e, set-get_or)
  | stops x e ↦ rw (call-refused (get t k) p x e)
]

module _ (m : ℕ) (lo : 1 ≤ m) where
  absent_tree : (k : ℕ) (x : Tree) → Good m 7 x → has k (pairs x) ≡ false → (remove_tree 7 k x ≡ x) × (freed 7 k x ≡ []) × (get_tree k x ≡ none)
  unfolding remove_tree freed get_tree
  absent_tree k [] g h = (refl, refl, refl)
  absent_tree k (L ∷ Rs) g h =
      let e : has k (leaf_items k L) ≡ false = sym (lands m 7 k L Rs lo g).hases ∙ h in
      (simp e, simp e, lookup-has k (leaf_items k L) e)

  -- a remove of an absent key
  pub remove_absent : (t k : ℕ) (p : Pool) → WellFormed m p → t < length p.trees → has k (pairs (tree_of p t)) ≡ false →
      call (remove t k) p ≡ record { answer = nothing; pool = p }
  unfolding done
  remove_absent t k p h there e =
      let a = absent_tree k (tree_of p t) (good_at m p.trees t h.good) e in
      let f : Free (remove t k) p = record { there = there; enough = omega arith } in
      rw (call-done (remove t k) p (call_free (remove t k) p f), a.0, a.1, a.2, set-get_or)

-- Nodes: what a call takes and what it frees

-- the stack afterwards: so many are taken from the top, then the freed ones put on it, in order
pub call_stack : (c : Call) (p : Pool) → refused c p ≡ none →
    (call c p).pool.free ≡ push_all (frees c (tree_of p (target c))) (drop (takes c (tree_of p (target c))) p.free)
unfolding done
call_stack c p e = rw (call-done c p e)

pub length_push : (xs s : List ℕ) → length (push_all xs s) ≡ length xs + length s
length_push xs s = omega (arith, total_push (λ n. 1) xs s, total-length (push_all xs s), total-length xs, total-length s)

pub call_left : (c : Call) (p : Pool) → refused c p ≡ none →
    length (call c p).pool.free + takes c (tree_of p (target c)) ≡ length p.free + length (frees c (tree_of p (target c)))
call_left c p e =
    let x = tree_of p (target c) in
    rw (call_stack c p e) (omega (arith, length_push (frees c x) (drop (takes c x) p.free), length-drop (takes c x) p.free, (free_call c p e).enough))

module _ (m : ℕ) (lo : 1 ≤ m) where
  pub call_nodes : (c : Call) (p : Pool) → WellFormed m p → refused c p ≡ none →
      length (used (call c p).pool.trees) + length (frees c (tree_of p (target c))) ≡ length (used p.trees) + takes c (tree_of p (target c))
  unfolding done
  call_nodes c p h e =
      let x = tree_of p (target c) in
      let f = free_call c p e in
      let y = after c p.free x in
      rw (call-done c p e) (omega (
        arith,
        f.enough,
        used-set (λ n. 1) p.trees (target c) y f.there,
        weight_after m lo (λ n. 1) c p.free x (good_at m p.trees (target c) h.good) f.enough,
        total-length (used (set p.trees (target c) y)),
        total-length (used p.trees),
        total-length (frees c x),
        total-length p.free,
        total-length (drop (takes c x) p.free),
        length-drop (takes c x) p.free,
      ))

  -- nodes after a put = nodes before + need, and as many fewer are free
  pub put_nodes : (t k v : ℕ) (p : Pool) → WellFormed m p → refused (put t k v) p ≡ none →
      (length (used (call (put t k v) p).pool.trees) ≡ length (used p.trees) + need 7 k (tree_of p t)) ×
      (length (call (put t k v) p).pool.free + need 7 k (tree_of p t) ≡ length p.free)
  put_nodes t k v p h e = (omega (arith, call_nodes (put t k v) p h e), omega (arith, call_left (put t k v) p e))

  -- after a remove the freed numbers are the difference
  pub remove_nodes : (t k : ℕ) (p : Pool) → WellFormed m p → refused (remove t k) p ≡ none →
      (length (used (call (remove t k) p).pool.trees) + length (freed 7 k (tree_of p t)) ≡ length (used p.trees)) ×
      (length (call (remove t k) p).pool.free ≡ length p.free + length (freed 7 k (tree_of p t)))
  remove_nodes t k p h e = (omega (arith, call_nodes (remove t k) p h e), omega (arith, call_left (remove t k) p e))

-- Other trees

-- two trees have no node in common
pub two_trees : (n : ℕ) (us : List Tree) (s t : ℕ) → s ≢ t → count n (numbers (get_or us s [])) + count n (numbers (get_or us t [])) ≤ count n (used us)
two_trees n [] s t h = omega arith
two_trees n (u ∷ us) zero zero h = absurd (h refl)
two_trees n (u ∷ us) zero (suc t) h = omega (arith, count-append n (numbers u) (used us), count_tree n us t)
two_trees n (u ∷ us) (suc s) zero h = omega (arith, count-append n (numbers u) (used us), count_tree n us s)
two_trees n (u ∷ us) (suc s) (suc t) h = omega (arith, count-append n (numbers u) (used us), two_trees n us s t (λ e. h (ap suc e)))

-- the root word of another tree is the same
pub other_root : (c : Call) (p : Pool) (s : ℕ) → s ≢ target c → s < length p.trees → get_or (encode (call c p).pool) (suc s) 0 ≡ get_or (encode p) (suc s) 0
other_root c p s h there =
    root_word (call c p).pool s (omega (arith, same_trees c p)) ∙ ap root (other_trees c p s h) ∙ sym (root_word p s there)

module _ (m : ℕ) (lo : 1 ≤ m) (hi : m ≤ 4) where
  -- and so are the words of its nodes
  pub other_nodes : (c : Call) (p : Pool) (s n : ℕ) → WellFormed m p → s ≢ target c → 1 ≤ count n (numbers (tree_of p s)) →
      node_words (call c p).pool.trees n ≡ node_words p.trees n
  unfolding done
  other_nodes c p s n h d k = elim (verdict (refused c p)) [
    | passes r ↦
        let q = (call c p).pool in
        let g : WellFormed m q = call_formed m lo hi c p h in
        let a = two_trees n p.trees s (target c) d in
        let b = two_trees n q.trees s (target c) d in
        let o : count n (numbers (tree_of q s)) ≡ count n (numbers (tree_of p s)) = ap (λ (x : Tree). count n (numbers x)) (other_trees c p s d) in
        let y = after c p.free (tree_of p (target c)) in
        let z : count n (numbers (tree_of q (target c))) ≡ 0 = omega (arith, used-once m q g n) in
        let own : tree_of q (target c) ≡ y = ap (λ (w : Pool). tree_of w (target c)) (ap (λ w. w.pool) (call-done c p r)) ∙ own_tree c p (free_call c p r) in
        rw (call-done c p r) (other_words p.trees (target c) y n (omega (arith, used-once m p h n)) (ap (λ (x : Tree). count n (numbers x)) (sym own) ∙ z))
    | stops x e ↦ rw (call-refused c p x e)
  ]

-- PROOFS. Each return of the gates
use mathlib.Core.Path.{◌≡◌, refl, sym, ap, subst, ◌∙◌}
use mathlib.Core.List.{List}
use mathlib.Core.Bool.{Bool, true, false, true≢false}
use mathlib.Core.Option.{Option, none, some}
use Prim.Native.Nat.{ℕ, ◌≤◌}
use native.Mathlib.Omega.{arith}
use lib.ListN.{length, get_or}
use borrow.Author.Tests.{ne_eqb, le-leb}
use Rattle.std.specs.Prelude.{⊤, Result, Ok, Err, is_ok, Some, None}
use Rattle.forest.specs.Sizes.{leaf_least}
use Rattle.forest.specs.Pairs.{Item}
use Rattle.forest.specs.declared.Cursor.{Cursor}
use Rattle.forest.specs.declared.Refusal.{Refusal}
use Rattle.forest.specs.declared.Refusal.TheVariants.{NoTree, NoPlace}
use Rattle.forest.specs.Answers.{told, kept}
use Rattle.forest.specs.Pools.{Pool, Sound, tree_of}
use Rattle.forest.specs.Cursors.{leaves, pair_at, next, spot_of, path_in, Move, to_next, reads, blocked, move_from}
use Rattle.forest.proofs.PromiseLaws.{sound_length}
use Rattle.forest.proofs.CursorCalls.{move-refused, move-done}
use Rattle.path.specs.Cores.{Ready, Of, Look}
use Rattle.path.specs.declared.Tree.{Tree}
use Rattle.path.proofs.Trees.{tree_ready}
use Rattle.stand.specs.Runs.{Tells}
use Rattle.map.specs.Gates.{Gates, Admits, Allows, Stood, Told, held_at}
use Rattle.map.proofs.Promising.{of, trees_of, refused_moves, blocked-place, tree_there, free_reads, stands-standing}

pub some_words : (ws : List ℕ) → Sound leaf_least ws → 1 ≤ length ws
some_words ws s = omega (arith, sound_length leaf_least ws s)

module _ (ws : List ℕ) (tree t : ℕ) (s : Sound leaf_least ws) (e : t ≡ get_or ws 0 0) where
  pub gate_tree : t ≤ tree → Gates ws tree (Err NoTree)
  gate_tree h = record {
    passes = λ u q. absurd (let z : ◌≡◌ {A = ℕ} 0 1 = cc in omega arith);
    shut = λ x q p o rest. let z : NoTree ≡ x = cc in rw (le-leb (length p.trees) tree (omega (arith, e, trees_of ws p o))) (ap some z);
  }

-- the tree that passes
pub gate_open : (ws : List ℕ) (tree : ℕ) (x : Tree) → x.words.now ≡ ws → x.number ≡ tree → Gates ws tree (Ok x)
gate_open ws tree x a b = record {
  passes = λ u q. let z : x ≡ u = cc in rw (← z) (a, b);
  shut = λ w q. absurd (let z : ◌≡◌ {A = ℕ} 0 1 = cc in omega arith);
}

-- what is said of other words, and of a tree or a cursor of theirs, is said of these
pub of_tree : {ws vs : List ℕ} {tree n : ℕ} (P : List ℕ → ℕ → Type 0) → (vs ≡ ws) × (n ≡ tree) → P vs n → P ws tree
of_tree {vs = vs} {tree = tree} P e q = subst (λ (u : List ℕ). P u tree) e.0 (subst (λ (n : ℕ). P vs n) e.1 q)

pub of_cursor : {ws vs : List ℕ} {at d : Cursor} (P : List ℕ → Cursor → Type 0) → (vs ≡ ws) × (d ≡ at) → P vs d → P ws at
of_cursor {vs = vs} {at = at} P e q = subst (λ (u : List ℕ). P u at) e.0 (subst (λ (d : Cursor). P vs d) e.1 q)

pub gate_ready : {ws : List ℕ} {tree : ℕ} {r : Result Tree Refusal} → Gates ws tree r → (x : Tree) → r ≡ Ok x → Ready ws x.trees tree
gate_ready g x e = of_tree (λ u n. Ready u x.trees n) (g.passes x e) (tree_ready x)

shut_admits : (ws : List ℕ) (c : Cursor) (y : Refusal) → ((p : Pool) → Of ws p → (v : Move) → reads v ≡ true → blocked v c p ≡ some y) → Admits ws c (Err y)
shut_admits ws c y b = record {
  stood = λ e. absurd (true≢false (sym e));
  shut = λ x e. let q : y ≡ x = cc in rw (← q) b;
}

module _ (ws : List ℕ) (c : Cursor) (g : Result Tree Refusal) (x : Gates ws c.tree g) where
  pub admit_shut : (y : Refusal) → g ≡ Err y → Admits ws c (Err y)
  unfolding blocked
  admit_shut y e = shut_admits ws c y (λ p o v q. x.shut y e p o _)

  module _ (t : Tree) (e : g ≡ Ok t) (r : Bool) (z : Tells ws c r) where
    pub admit_open : length c.nodes ≡ 16 → length c.places ≡ 16 → r ≡ true → Admits ws c (Ok tt)
    admit_open ln lp q =
        let y = gate_ready x t e in
        record {
          stood = λ k. record { sound = y.sound; there = rw (← y.trees) y.there; standing = stands-standing ws c r ln lp z q };
          shut = λ u k. absurd (let w : ◌≡◌ {A = ℕ} 0 1 = cc in omega arith);
        }

    pub admit_place : r ≡ false → Admits ws c (Err NoPlace)
    admit_place q = shut_admits ws c NoPlace (λ p o v k. blocked-place v c p (tree_there ws t.trees c.tree (gate_ready x t e) p o) k (sym (z.tells p o) ∙ q))

-- the gate for a cursor, of words that are sound
pub admitted_allows : (ws : List ℕ) (c : Cursor) (r : Result ⊤ Refusal) → Sound leaf_least ws → Admits ws c r → Allows ws c r
admitted_allows ws c r s a = record {
  stood = a.stood;
  shut = λ x e v b. refused_moves v c ws x s (λ p o. a.shut x e p o v b);
}

told-kept : (o : Option Item) → true ≡ kept (told o)
told-kept none = refl
told-kept (some u) = refl

-- a cursor that stands
module _ (ws : List ℕ) (c : Cursor) where
  pub stood_ready : (t : ℕ) → Stood ws c → t ≡ get_or ws 0 0 → Ready ws t c.tree
  stood_ready t z e = record { sound = z.sound; trees = e; there = rw e z.there }

  told_yes : Stood ws c → Told ws c true
  unfolding move_from
  told_yes z = record {
    tells = λ p w b.
        rw (move-done to_next c p (free_reads ws (get_or ws 0 0) c (stood_ready (get_or ws 0 0) z refl) z.standing to_next refl p (of ws p w b)))
        (told-kept (pair_at (leaves (tree_of p c.tree)) (next (leaves (tree_of p c.tree)) (spot_of (tree_of p c.tree) (path_in c)))));
    yes = λ q. z;
  }

  told_no : (y : Refusal) → Admits ws c (Err y) → Told ws c false
  told_no y x = record {
    tells = λ p w b. rw (move-refused to_next c p y (x.shut y refl p (of ws p w b) to_next refl));
    yes = λ q. absurd (true≢false (sym q));
  }

  -- whether the gate lets it through
  pub told_ok : (g : Result ⊤ Refusal) → Admits ws c g → Told ws c (is_ok g)
  told_ok (Ok v) x = told_yes (x.stood refl)
  told_ok (Err y) x = told_no y x

-- the value of a key
pub held_other : (l : Look) (k v key : ℕ) → l ≡ Some (k, v) → (k ≡ key → ⊥) → None ≡ held_at l key
held_other l k v key e q = rw (e, ne_eqb k key q)

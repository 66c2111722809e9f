-- DEFINITIONS AND PROOF. The trials of document 01 that are marked P, and its two whole pools, as one list under one claim, computed
use mathlib.Core.Path.{◌≡◌, refl, sym}
use mathlib.Core.List.{List, [], ◌∷◌, ◌++◌, map, reverse}
use mathlib.Core.Bool.{Bool, true, false, cond, true≢false}
use Prim.Native.Nat.{ℕ, zero, suc}
use lib.ListN.{length, get_or, drop, replicate}
use lib.Dec.{eqb}
use borrow.Author.Tests.{eqb-true}
use Rattle.forest.specs.Lists.{once}
use Rattle.forest.specs.Pairs.{Item}
use Rattle.forest.specs.Rows.{Row, Tree, keeps, put_node, alone, heal}
use Rattle.forest.specs.Trees.{put_tree, need, remove_tree, freed, get_tree, put_leaf, drop_leaf, drop_above}
use Rattle.forest.specs.declared.Answer.{Answer}
use Rattle.forest.specs.declared.Cursor.{Cursor}
use Rattle.forest.specs.Answers.{answer_of, Reply}
use Rattle.forest.specs.Pools.{Pool, Call, put, remove, get, call, refused, done, encode, fresh, root, run, answers, formatted, format_answer}
use Rattle.forest.specs.Cursors.{Moved, path_in, cursor_at, clean, to_key, to_next, to_prev, to_remove, move, move_from, blocked, leaves}

-- what is seen, and what the document says, as lists of numbers
pub record Trial : Type 0 where
  pub seen : List (List ℕ)
  pub said : List (List ℕ)

abbrev pub AllHold : List Trial → Type 0
AllHold [] = Unit {0}
AllHold (t ∷ ts) = (t.seen ≡ t.said) × AllHold ts

-- the keys of items
abbrev keys : List Item → List ℕ
keys xs = map (λ (x : Item). x.0) xs

-- the keys of each leaf
abbrev leaf_keys : Row → List (List ℕ)
leaf_keys L = map (λ n. keys n.items) L

-- the separators of each inner node
abbrev separators : List Row → List (List ℕ)
separators [] = []
separators (S ∷ Ss) = map (λ n. keys (drop 1 n.items)) S ++ separators Ss

abbrev above : Tree → List Row
above [] = []
above (L ∷ Rs) = Rs

abbrev tree : Pool → Tree
tree p = get_or p.trees 0 []

-- leaves, separators, and at last the stack, its top last
abbrev view : Pool → List (List ℕ)
view p = leaf_keys (leaves (tree p)) ++ (separators (above (tree p)) ++ (reverse p.free ∷ []))

abbrev fields : Answer → List ℕ
fields a = a.number ∷ once a.found ∷ a.key ∷ a.value ∷ []

-- an answer in document 01's numbers: number, found, key, value
abbrev pub answer : Reply → List ℕ
answer r = fields (answer_of r)

-- nodes and places, root first
abbrev pub flat : List (ℕ × ℕ) → List ℕ
flat [] = []
flat (p ∷ ps) = p.0 ∷ p.1 ∷ flat ps

abbrev pub path : Cursor → List ℕ
path c = flat (path_in c)

-- tree A in N nodes; B
abbrev A : ℕ → Pool
A N = run (put 0 10 1 ∷ put 0 20 2 ∷ put 0 30 3 ∷ put 0 40 4 ∷ put 0 50 5 ∷ put 0 60 6 ∷ put 0 70 7 ∷ []) (fresh 1 N)

abbrev B : ℕ → Pool
B N = run (put 0 35 9 ∷ []) (A N)

-- remove at a cursor that sought k, and what is seen: the pool, the answer, the cursor
abbrev sought : ℕ → Pool → Moved
sought k p = move (to_key k) (cursor_at 0 []) p

abbrev removed : ℕ → Pool → Moved
removed k p = move to_remove (sought k p).cursor p

abbrev seen_moved : Moved → List (List ℕ)
seen_moved m = view m.pool ++ (answer m.answer ∷ path m.cursor ∷ [])

-- the same, as a test: it computes well
abbrev pub same_list : List ℕ → List ℕ → Bool
same_list [] [] = true
same_list [] (y ∷ ys) = false
same_list (x ∷ xs) [] = false
same_list (x ∷ xs) (y ∷ ys) = cond (eqb x y) (same_list xs ys) false

abbrev pub same_lists : List (List ℕ) → List (List ℕ) → Bool
same_lists [] [] = true
same_lists [] (y ∷ ys) = false
same_lists (x ∷ xs) [] = false
same_lists (x ∷ xs) (y ∷ ys) = cond (same_list x y) (same_lists xs ys) false

abbrev pub agree : Trial → Bool
agree t = same_lists t.seen t.said

-- what agrees is the same
both : {A : Type 0} (b : Bool) (x y : A) (xs ys : List A) (rest : Bool) → (b ≡ true → x ≡ y) → (rest ≡ true → xs ≡ ys) → cond b rest false ≡ true → x ∷ xs ≡ y ∷ ys
both true x y xs ys rest f g e = let p = f refl in let q = g e in λ i. p i ∷ q i
both false x y xs ys rest f g e = absurd (true≢false (sym e))

list_same : (xs ys : List ℕ) → same_list xs ys ≡ true → xs ≡ ys
list_same [] [] e = refl
list_same [] (y ∷ ys) e = absurd (true≢false (sym e))
list_same (x ∷ xs) [] e = absurd (true≢false (sym e))
list_same (x ∷ xs) (y ∷ ys) e = both (eqb x y) x y xs ys (same_list xs ys) (eqb-true x y) (list_same xs ys) e

lists_same : (xs ys : List (List ℕ)) → same_lists xs ys ≡ true → xs ≡ ys
lists_same [] [] e = refl
lists_same [] (y ∷ ys) e = absurd (true≢false (sym e))
lists_same (x ∷ xs) [] e = absurd (true≢false (sym e))
lists_same (x ∷ xs) (y ∷ ys) e = both (same_list x y) x y xs ys (same_lists xs ys) (list_same x y) (lists_same xs ys) e

-- the definitions that the trials compute with
unfoldable pub steps : Unit {0}
unfolding call refused done put_tree need remove_tree freed get_tree put_leaf drop_leaf drop_above keeps put_node alone heal encode formatted format_answer move move_from blocked clean
steps = tt

-- the two whole pools
pub fresh_pool : Trial
fresh_pool = record { seen = encode (fresh 1 2) ∷ []; said = (1 ∷ 0 ∷ 2 ∷ replicate 32 0 ++ (2 ∷ 2 ∷ 1 ∷ [])) ∷ [] }

fresh_pool_agrees : agree fresh_pool ≡ true
unfolding steps fresh_pool
fresh_pool_agrees = refl

pub one_put : Trial
one_put = record {
  seen = encode (run (put 0 9 100 ∷ []) (fresh 1 2)) ∷ [];
  said = (1 ∷ 1 ∷ 2 ∷ 33 ∷ 9 ∷ replicate 6 0 ++ (100 ∷ replicate 7 0) ++ replicate 16 0 ++ (1 ∷ 2 ∷ 0 ∷ [])) ∷ [];
}

one_put_agrees : agree one_put ≡ true
unfolding steps one_put
one_put_agrees = refl

-- P1
pub p1 : Trial
p1 = record { seen = view (B 3); said = (10 ∷ 20 ∷ 30 ∷ 35 ∷ []) ∷ (40 ∷ 50 ∷ 60 ∷ 70 ∷ []) ∷ (40 ∷ []) ∷ [] ∷ [] }

p1_agrees : agree p1 ≡ true
unfolding steps p1
p1_agrees = refl

-- P2
pub p2 : Trial
p2 = record { seen = view (run (put 0 45 9 ∷ []) (A 3)); said = (10 ∷ 20 ∷ 30 ∷ 40 ∷ []) ∷ (45 ∷ 50 ∷ 60 ∷ 70 ∷ []) ∷ (45 ∷ []) ∷ [] ∷ [] }

p2_agrees : agree p2 ≡ true
unfolding steps p2
p2_agrees = refl

-- P3: number 4, and the pool as it was
pub p3 : Trial
p3 = record { seen = answer (call (put 0 35 9) (A 2)).answer ∷ view (call (put 0 35 9) (A 2)).pool; said = (4 ∷ 0 ∷ 0 ∷ 0 ∷ []) ∷ view (A 2) }

p3_agrees : agree p3 ≡ true
unfolding steps p3
p3_agrees = refl

-- P4: done, F is 0, and done again
pub p4 : Trial
p4 = record {
  seen = answer (call (put 0 35 9) (A 3)).answer ∷ (length (B 3).free ∷ []) ∷ answer (call (put 0 35 9) (B 3)).answer ∷ [];
  said = (0 ∷ 0 ∷ 0 ∷ 0 ∷ []) ∷ (0 ∷ []) ∷ (0 ∷ 1 ∷ 0 ∷ 9 ∷ []) ∷ [];
}

p4_agrees : agree p4 ≡ true
unfolding steps p4
p4_agrees = refl

-- P5: one leaf of seven, stack 1, 3; the value 1; the cursor on node 2, place 0; the root is node 2
pub p5 : Trial
p5 = record {
  seen = seen_moved (removed 10 (B 3)) ++ ((root (tree (removed 10 (B 3)).pool) ∷ []) ∷ []);
  said = (20 ∷ 30 ∷ 35 ∷ 40 ∷ 50 ∷ 60 ∷ 70 ∷ []) ∷ (1 ∷ 3 ∷ []) ∷ (0 ∷ 1 ∷ 0 ∷ 1 ∷ []) ∷ (2 ∷ 0 ∷ []) ∷ (2 ∷ []) ∷ [];
}

p5_agrees : agree p5 ≡ true
unfolding steps p5
p5_agrees = refl

-- P6: size 0
pub p6 : Trial
p6 = record {
  seen = seen_moved (removed 70 (B 3));
  said = (10 ∷ 20 ∷ 30 ∷ 35 ∷ []) ∷ (40 ∷ 50 ∷ 60 ∷ []) ∷ (40 ∷ []) ∷ [] ∷ (0 ∷ 1 ∷ 0 ∷ 7 ∷ []) ∷ [] ∷ [];
}

p6_agrees : agree p6 ≡ true
unfolding steps p6
p6_agrees = refl

-- P7: root 3, its child 1 (from 0); leaf 2, place 0, the key 50
pub p7 : Trial
p7 = record {
  seen = seen_moved (removed 40 (B 3));
  said = (10 ∷ 20 ∷ 30 ∷ 35 ∷ []) ∷ (50 ∷ 60 ∷ 70 ∷ []) ∷ (50 ∷ []) ∷ [] ∷ (0 ∷ 1 ∷ 0 ∷ 4 ∷ []) ∷ (3 ∷ 1 ∷ 2 ∷ 0 ∷ []) ∷ [];
}

p7_agrees : agree p7 ≡ true
unfolding steps p7
p7_agrees = refl

-- P8: the cursor on leaf 1, place 1, the key 30
pub p8 : Trial
p8 = record {
  seen = seen_moved (removed 20 (run (put 0 80 8 ∷ []) (B 3)));
  said = (10 ∷ 30 ∷ 35 ∷ 40 ∷ []) ∷ (50 ∷ 60 ∷ 70 ∷ 80 ∷ []) ∷ (50 ∷ []) ∷ [] ∷ (0 ∷ 1 ∷ 0 ∷ 2 ∷ []) ∷ (3 ∷ 0 ∷ 1 ∷ 1 ∷ []) ∷ [];
}

p8_agrees : agree p8 ≡ true
unfolding steps p8
p8_agrees = refl

-- P9: left leaf, place 4, not found; next gives 40
pub p9 : Trial
p9 = record {
  seen = answer (sought 38 (B 3)).answer ∷ path (sought 38 (B 3)).cursor ∷ answer (move to_next (sought 38 (B 3)).cursor (B 3)).answer ∷ [];
  said = (0 ∷ 0 ∷ 0 ∷ 0 ∷ []) ∷ (3 ∷ 0 ∷ 1 ∷ 4 ∷ []) ∷ (0 ∷ 1 ∷ 40 ∷ 4 ∷ []) ∷ [];
}

p9_agrees : agree p9 ≡ true
unfolding steps p9
p9_agrees = refl

-- B, 38 sought and removed there: one past the last entry of a leaf is no pair, and nothing changes
pub no_pair : Trial
no_pair = record {
  seen = seen_moved (removed 38 (B 3));
  said = (10 ∷ 20 ∷ 30 ∷ 35 ∷ []) ∷ (40 ∷ 50 ∷ 60 ∷ 70 ∷ []) ∷ (40 ∷ []) ∷ [] ∷ (0 ∷ 0 ∷ 0 ∷ 0 ∷ []) ∷ (3 ∷ 0 ∷ 1 ∷ 4 ∷ []) ∷ [];
}

no_pair_agrees : agree no_pair ≡ true
unfolding steps no_pair
no_pair_agrees = refl

-- P10: no leaf, root 0, F = N
pub p10 : Trial
p10 = record {
  seen = (root (tree (run (put 0 9 100 ∷ remove 0 9 ∷ []) (fresh 1 2))) ∷ []) ∷ view (run (put 0 9 100 ∷ remove 0 9 ∷ []) (fresh 1 2));
  said = (0 ∷ []) ∷ (2 ∷ 1 ∷ []) ∷ [];
}

p10_agrees : agree p10 ≡ true
unfolding steps p10
p10_agrees = refl

-- N = 0: the first put gives 4
pub no_nodes : Trial
no_nodes = record { seen = answer (call (put 0 9 100) (fresh 1 0)).answer ∷ []; said = (4 ∷ 0 ∷ 0 ∷ 0 ∷ []) ∷ [] }

no_nodes_agrees : agree no_nodes ≡ true
unfolding steps no_nodes
no_nodes_agrees = refl

-- tree T - 1 done, tree T gives 2
pub last_tree : Trial
last_tree = record {
  seen = answer (call (put 1 9 100) (fresh 2 2)).answer ∷ answer (call (put 2 9 100) (fresh 2 2)).answer ∷ [];
  said = (0 ∷ 0 ∷ 0 ∷ 0 ∷ []) ∷ (2 ∷ 0 ∷ 0 ∷ 0 ∷ []) ∷ [];
}

last_tree_agrees : agree last_tree ≡ true
unfolding steps last_tree
last_tree_agrees = refl

-- keys 0 and 4,294,967,295 are ordinary
pub end_keys : Trial
end_keys = record { seen = view (run (put 0 4_294_967_295 1 ∷ put 0 0 2 ∷ []) (fresh 1 1)); said = (0 ∷ 4_294_967_295 ∷ []) ∷ [] ∷ [] }

end_keys_agrees : agree end_keys ≡ true
unfolding steps end_keys
end_keys_agrees = refl

-- formatting len words
abbrev asked : ℕ → ℕ → ℕ → Reply
asked T N len = format_answer T N (replicate len 0)

-- T = 0, T = 33, N = 513, another length: 5
pub formats : Trial
formats = record {
  seen = map answer (asked 0 2 37 ∷ asked 33 2 70 ∷ asked 1 513 8725 ∷ asked 1 2 39 ∷ asked 1 2 38 ∷ asked 32 512 8739 ∷ []);
  said = map (λ (n : ℕ). n ∷ 0 ∷ 0 ∷ 0 ∷ []) (5 ∷ 5 ∷ 5 ∷ 5 ∷ 0 ∷ 0 ∷ []);
}

formats_agrees : agree formats ≡ true
unfolding steps formats
formats_agrees = refl

-- in A, seek 35 stands on 40 and next gives 50
pub after-seek : Trial
after-seek = record {
  seen = path (sought 35 (A 1)).cursor ∷ answer (move to_next (sought 35 (A 1)).cursor (A 1)).answer ∷ [];
  said = (1 ∷ 3 ∷ []) ∷ (0 ∷ 1 ∷ 50 ∷ 5 ∷ []) ∷ [];
}

after-seek_agrees : agree after-seek ≡ true
unfolding steps after-seek
after-seek_agrees = refl

-- the five calls of the replay program
pub replayed : Trial
replayed = record {
  seen = map answer (answers (put 0 9 100 ∷ put 0 9 100 ∷ get 0 9 ∷ remove 0 9 ∷ get 0 9 ∷ []) (fresh 1 2));
  said = (0 ∷ 0 ∷ 0 ∷ 0 ∷ []) ∷ (0 ∷ 1 ∷ 0 ∷ 100 ∷ []) ∷ (0 ∷ 1 ∷ 0 ∷ 100 ∷ []) ∷ (0 ∷ 1 ∷ 0 ∷ 100 ∷ []) ∷ (0 ∷ 0 ∷ 0 ∷ 0 ∷ []) ∷ [];
}

replayed_agrees : agree replayed ≡ true
unfolding steps replayed
replayed_agrees = refl

-- nine entries shared: the left gets five
pub odd_share : Trial
odd_share = record {
  seen = view (run (put 0 75 1 ∷ put 0 80 2 ∷ remove 0 20 ∷ []) (B 3));
  said = (10 ∷ 30 ∷ 35 ∷ 40 ∷ 50 ∷ []) ∷ (60 ∷ 70 ∷ 75 ∷ 80 ∷ []) ∷ (60 ∷ []) ∷ [] ∷ [];
}

odd_share_agrees : agree odd_share ≡ true
unfolding steps odd_share
odd_share_agrees = refl

-- keys k, .., k + n - 1 put in order
abbrev put_all : ℕ → ℕ → List Call
put_all k zero = []
put_all k (suc n) = put 0 k k ∷ put_all (suc k) n

-- 1 to 36 put in 12 nodes, 13 removed at a cursor: freed are 5, 3, 12 in that order, leaf, parent, root; the root is 11
pub three_freed : Trial
three_freed = record {
  seen =
      freed 7 13 (tree (run (put_all 1 36) (fresh 1 12))) ∷ (root (tree (removed 13 (run (put_all 1 36) (fresh 1 12))).pool) ∷ []) ∷
      path (removed 13 (run (put_all 1 36) (fresh 1 12))).cursor ∷ separators (above (tree (removed 13 (run (put_all 1 36) (fresh 1 12))).pool));
  said = (5 ∷ 3 ∷ 12 ∷ []) ∷ (11 ∷ []) ∷ (11 ∷ 3 ∷ 6 ∷ 0 ∷ []) ∷ (5 ∷ 9 ∷ 14 ∷ 21 ∷ 25 ∷ 29 ∷ 33 ∷ []) ∷ [];
}

three_freed_agrees : agree three_freed ≡ true
unfolding steps three_freed
three_freed_agrees = refl

-- B with 36 put, 36 removed at a cursor: the last of its leaf, so the cursor is on 40, the first of the next
pub next_leaf_lem : Trial
next_leaf_lem = record {
  seen = path (removed 36 (run (put 0 36 8 ∷ []) (B 3))).cursor ∷ answer (move to_prev (removed 36 (run (put 0 36 8 ∷ []) (B 3))).cursor (B 3)).answer ∷ [];
  said = (3 ∷ 1 ∷ 2 ∷ 0 ∷ []) ∷ (0 ∷ 1 ∷ 35 ∷ 9 ∷ []) ∷ [];
}

next_leaf_agrees : agree next_leaf_lem ≡ true
unfolding steps next_leaf_lem
next_leaf_agrees = refl

-- the claim
abbrev pub trials : List Trial
trials = fresh_pool ∷ one_put ∷ p1 ∷ p2 ∷ p3 ∷ p4 ∷ p5 ∷ p6 ∷ p7 ∷ p8 ∷ p9 ∷ p10 ∷ no_pair ∷
    no_nodes ∷ last_tree ∷ end_keys ∷ formats ∷ after-seek ∷ replayed ∷ odd_share ∷ three_freed ∷ next_leaf_lem ∷ []

pub holds : (t : Trial) → agree t ≡ true → t.seen ≡ t.said
holds t e = lists_same t.seen t.said e

pub trials_hold : AllHold trials
trials_hold = (holds fresh_pool fresh_pool_agrees, (holds one_put one_put_agrees, (holds p1 p1_agrees, (holds p2 p2_agrees, (holds p3 p3_agrees, (holds p4 p4_agrees, (holds p5 p5_agrees, (holds p6 p6_agrees, (holds p7 p7_agrees, (holds p8 p8_agrees, (holds p9 p9_agrees, (holds p10 p10_agrees, (holds no_pair no_pair_agrees, (holds no_nodes no_nodes_agrees, (holds last_tree last_tree_agrees, (holds end_keys end_keys_agrees, (holds formats formats_agrees, (holds after-seek after-seek_agrees, (holds replayed replayed_agrees, (holds odd_share odd_share_agrees, (holds three_freed three_freed_agrees, (holds next_leaf_lem next_leaf_agrees, tt))))))))))))))))))))))

-- PROOFS. Where the check says yes the words are those of a well formed pool
use mathlib.Core.Path.{◌≡◌, refl, sym, ap, ◌∙◌, subst}
use mathlib.Core.List.{List, [], ◌∷◌, ◌++◌, append-nil, map, reverse, reverse-reverse}
use mathlib.Core.Bool.{Bool, true, false, cond, true≢false, ◌&&◌}
use Prim.Native.Nat.{ℕ, zero, suc, ◌+◌, ◌-◌, ◌*◌, ◌≤◌}
use native.Mathlib.Omega.{arith}
use lib.ListN.{length, get_or, length-append, length-map, length-reverse}
use lib.Dec.{leb, eqb}
use borrow.Author.Tests.{eqb-true, eqb-false, le-leb, leb-true, leb-false}
use Rattle.forest.specs.Lists.{once, total, count, pad}
use Rattle.forest.specs.Rows.{Tree, Good}
use Rattle.forest.specs.Trees.{numbers}
use Rattle.forest.specs.Pools.{Pool, WellFormed, AllGood, used, root, node_words, nodes_from, encode, Sound}
use Rattle.forest.proofs.ListLaws.{is, isnt, test, both, four, total-append}
use Rattle.walk.specs.declared.Walked.{Walked}
use Rattle.std.specs.Option.{option_map_or}
use Rattle.std.proofs.Common.{Option, Some, None, option_map}
use Rattle.std.proofs.lemmas.Option.{none-some, option_and_then_some}
use Rattle.walk.specs.Marks.{has, mark}
use Rattle.walk.proofs.MarkLaws.{mark_all, Small, marks_count, clean, has-clean}
use Rattle.walk.proofs.Subtree.{flat, rows_of, pairs_of, nums_of, Each, HeldTree, Fresh}
use Rattle.walk.proofs.Towers.{each_join, Wide, one_good, held_rows, root_rows, numbers_rows}
use Rattle.walk.specs.Walks.{zeros, place, meets, others, walk}
use Rattle.walk.proofs.WalkLaws.{span, length_span, zeros-pad, pad_span, length-items}
use Rattle.walk.proofs.WalkExact.{store, Ranged, sub, num_sub, subs, length_subs, walk_yes, meets_yes, fresh_join, marks_append, cond_bad}
use Rattle.sound.specs.Checks.{levels, wide, tree_walk, trees, free_walk, all_marked, framed, stacked, filled, checked}
use Rattle.sound.proofs.CheckLaws.{climbs_rising, layout, trees_find, nodes_join, total-reverse}
use Rattle.forest.proofs.WordLaws.{count-append}

-- a test of what is there says yes
pub answered : {A P : Type 0} (f : A → Bool) (o : Option A) → option_map_or f o false ≡ true → ((x : A) → o ≡ Some x → f x ≡ true → P) → P
answered f None e g = absurd (true≢false (sym e))
answered f (Some x) e g = g x refl e

-- Lists of numbers
pub each_at : (P : ℕ → Type 0) (n : ℕ) (ns : List ℕ) → Each P ns → 1 ≤ count n ns → P n
each_at P n [] e c = absurd (omega arith)
each_at P n (k ∷ ns) e c = elim (test (eqb n k)) [
  | is f ↦ subst P (sym (eqb-true n k f)) e.0
  | isnt f ↦ each_at P n ns e.1 (omega (arith, ap once f))
]

pub each_none : (P : ℕ → Type 0) (n : ℕ) (ns : List ℕ) → Each P ns → (P n → ⊥) → count n ns ≡ 0
each_none P n ns e f = elim (test (leb 1 (count n ns))) [
  | is h ↦ absurd (f (each_at P n ns e (leb-true 1 (count n ns) h)))
  | isnt h ↦ let g = leb-false 1 (count n ns) h in omega arith
]

-- numbers from 1 to N have a place among the marks
pub all_small : (N : ℕ) (ns : List ℕ) → N ≤ 512 → Each (λ k. (1 ≤ k) × (k ≤ N)) ns → Each Small ns
all_small N [] h e = tt
all_small N (n ∷ ns) h e = ((e.0.0, omega arith), all_small N ns h e.1)

pub marked_yes : (ms : List ℕ) (n : ℕ) → all_marked ms n ≡ true → (k : ℕ) → 1 ≤ k → k ≤ n → has ms k ≡ true
marked_yes ms zero a k g h = absurd (omega arith)
marked_yes ms (suc n) a k g h =
    let b = both (has ms (suc n)) (all_marked ms n) a in
    elim (test (eqb k (suc n))) [
      | is e ↦ rw (eqb-true k (suc n) e) b.0
      | isnt e ↦ let d = eqb-false k (suc n) e in marked_yes ms n b.1 k g (omega arith)
    ]

pub marked_does : (ms : List ℕ) (n : ℕ) → ((k : ℕ) → 1 ≤ k → k ≤ n → has ms k ≡ true) → all_marked ms n ≡ true
marked_does ms zero h = refl
marked_does ms (suc n) h = rw (h (suc n) (omega arith) (omega arith)) (marked_does ms n (λ k a b. h k a (omega arith)))

module _ (ws : List ℕ) (T N m : ℕ) where
  abbrev st : ℕ → List ℕ
  st = store ws T N m

  abbrev pub InN : ℕ → Type 0
  InN = Ranged ws T N m

  abbrev pub high : ℕ → ℕ
  high n = levels ws T N 5 n

  -- the tree with root n, and its numbers as the walk meets them
  abbrev pub tree_of : ℕ → Tree
  tree_of n = cond (eqb n 0) [] (rows_of (high n) (sub ws T N m (high n) n ∷ []) [])

  abbrev pub walked : ℕ → List ℕ
  walked n = cond (eqb n 0) [] (nums_of (high n) (sub ws T N m (high n) n))

  pub record TreeYes (t : Tree) (us : List ℕ) (n : ℕ) (ms x : List ℕ) : Type 0 where
    pub good : Good m 7 t
    pub held : HeldTree st t
    pub rooted : root t ≡ n
    pub numbered : (w : ℕ → ℕ) → total w (numbers t) ≡ total w us
    pub ranged : Each InN us
    pub fresh : Fresh ms us
    pub out : x ≡ mark_all ms us

  wide-sub : (h n : ℕ) → wide h (get_or ws (place T n) 0) ≡ true → Wide h (sub ws T N m h n ∷ [])
  wide-sub zero n w = tt
  wide-sub (suc h) n w =
      (omega (
        arith,
        length-append (subs (sub ws T N m h) (others ws (place T n))) [],
        leb-true 17 (get_or ws (place T n) 0) w,
        length_subs (sub ws T N m h) (others ws (place T n)),
        length-items ws (place T n + 1) (place T n + 9) (get_or ws (place T n) 0 - 16),
      ))

  walked_yes : (h n : ℕ) (ms : List ℕ) (x : Walked) → wide h (get_or ws (place T n) 0) ≡ true → walk ws T N m h true n ms 0 ≡ Some x →
      TreeYes (rows_of h (sub ws T N m h n ∷ []) []) (nums_of h (sub ws T N m h n)) n ms x.marks
  walked_yes h n ms x w r =
      let y = walk_yes ws T N m h true n ms 0 x r in
      let t = sub ws T N m h n in
      record {
        good = one_good m 7 h t y.fit.filled (wide-sub h n w) (climbs_rising 0 (pairs_of h t) y.fit.rising);
        held = held_rows st h (t ∷ []) [] (y.fit.held, tt) tt;
        rooted = root_rows h (t ∷ []) [] ∙ num_sub ws T N m h n;
        numbered = λ v. numbers_rows v h (t ∷ []) [] ∙ rw append-nil (omega arith);
        ranged = y.fit.ranged;
        fresh = y.fit.fresh;
        out = ap (λ (x : Walked). x.marks) y.out;
      }

  tree_yes : (n : ℕ) (ms x : List ℕ) → tree_walk ws T N m n ms ≡ Some x → TreeYes (tree_of n) (walked n) n ms x
  unfolding tree_walk
  tree_yes n ms x r = elim (test (eqb n 0)) [
    | is e ↦
        let o : Some ms ≡ Some x = simp e at r in
        simp e (record {
          good = tt;
          held = tt;
          rooted = sym (eqb-true n 0 e);
          numbered = λ w. refl;
          ranged = tt;
          fresh = tt;
          out = cc;
        })
    | isnt e ↦
        let c = cond_bad (wide (high n) (get_or ws (place T n) 0)) _ x (simp e at r) in
        simp e (mapped (walk ws T N m (high n) true n ms 0) x c.1 (λ y w. walked_yes (high n) n ms y c.0 w))
  ]
    where
      mapped : (o : Option Walked) (x : List ℕ) → option_map (λ y. y.marks) o ≡ Some x →
          ((y : Walked) → o ≡ Some y → TreeYes (rows_of (high n) (sub ws T N m (high n) n ∷ []) []) (nums_of (high n) (sub ws T N m (high n) n)) n ms y.marks) →
          TreeYes (rows_of (high n) (sub ws T N m (high n) n ∷ []) []) (nums_of (high n) (sub ws T N m (high n) n)) n ms x
      mapped None x e f = absurd (none-some x e)
      mapped (Some y) x e f = let d : y.marks ≡ x = cc in subst (TreeYes (rows_of (high n) (sub ws T N m (high n) n ∷ []) []) (nums_of (high n) (sub ws T N m (high n) n)) n ms) d (f y refl)

  pub record TreesYes (ts : List Tree) (us rs ms x : List ℕ) : Type 0 where
    pub good : AllGood m ts
    pub held : Each (HeldTree st) ts
    pub rooted : map root ts ≡ rs
    pub numbered : (w : ℕ → ℕ) → total w (used ts) ≡ total w us
    pub ranged : Each InN us
    pub fresh : Fresh ms us
    pub out : x ≡ mark_all ms us

  trees_step : (t : Tree) (ts : List Tree) (u us : List ℕ) (n : ℕ) (rs ms x y : List ℕ) → TreeYes t u n ms x → TreesYes ts us rs x y → TreesYes (t ∷ ts) (u ++ us) (n ∷ rs) ms y
  trees_step t ts u us n rs ms x y a b = record {
    good = (a.good, b.good);
    held = (a.held, b.held);
    rooted = rw (a.rooted, b.rooted);
    numbered = λ w. total-append w (numbers t) (used ts) ∙ rw (a.numbered w, b.numbered w, total-append w u us);
    ranged = each_join InN u us a.ranged b.ranged;
    fresh = fresh_join ms u us a.fresh (subst (λ (l : List ℕ). Fresh l us) a.out b.fresh);
    out = b.out ∙ rw (a.out, marks_append ms u us);
  }

  pub trees_yes : (r i : ℕ) (ms x : List ℕ) → trees ws T N m r i ms ≡ Some x →
      TreesYes (map tree_of (span ws i r)) (flat walked (span ws i r)) (span ws i r) ms x
  trees_yes zero i ms x r = record { good = tt; held = tt; rooted = refl; numbered = λ w. refl; ranged = tt; fresh = tt; out = cc }
  trees_yes (suc k) i ms x r = option_and_then_some (trees ws T N m k (suc i)) (tree_walk ws T N m (get_or ws i 0) ms) x r (λ y w s.
      trees_step (tree_of (get_or ws i 0)) (map tree_of (span ws (suc i) k)) (walked (get_or ws i 0)) (flat walked (span ws (suc i) k)) (get_or ws i 0) (span ws (suc i) k) ms y x
      (tree_yes (get_or ws i 0) ms y w) (trees_yes k (suc i) y x s))

  pub record FreesYes (us ms x : List ℕ) : Type 0 where
    pub ranged : Each InN us
    pub fresh : Fresh ms us
    pub blank : Each (λ n. st n ≡ pad 16 []) us
    pub out : x ≡ mark_all ms us

  pub frees_yes : (r i : ℕ) (ms x : List ℕ) → free_walk ws T N r i ms ≡ Some x → FreesYes (span ws i r) ms x
  frees_yes zero i ms x r = record { ranged = tt; fresh = tt; blank = tt; out = cc }
  frees_yes (suc k) i ms x r =
      let c = cond_bad (meets N ms (get_or ws i 0) && zeros ws (place T (get_or ws i 0)) 16) _ x r in
      let b = both (meets N ms (get_or ws i 0)) (zeros ws (place T (get_or ws i 0)) 16) c.0 in
      let a = meets_yes ws T N m ms (get_or ws i 0) b.0 in
      let y = frees_yes k (suc i) (mark ms (get_or ws i 0)) x c.1 in
      record {
        ranged = ((a.0, a.1), y.ranged);
        fresh = (a.2, y.fresh);
        blank = (sym (zeros-pad ws 16 (place T (get_or ws i 0)) b.1), y.blank);
        out = y.out;
      }

  -- each number once
  module _ (few : N ≤ 512) (us : List ℕ) (ranged : Each InN us) (fresh : Fresh clean us) (full : all_marked (mark_all clean us) N ≡ true) where
    marks-are : (k : ℕ) → once (has (mark_all clean us) k) ≡ count k us
    marks-are k = marks_count clean us refl (all_small N us few ranged) fresh k ∙ rw (has-clean k) (omega arith)

    pub once_each : (k : ℕ) → count k us ≡ once (leb 1 k && leb k N)
    once_each k = elim (test (leb 1 k)) [
      | isnt a ↦ simp a (each_none InN k us ranged (λ z. let b = leb-false 1 k a in omega arith))
      | is a ↦ elim (test (leb k N)) [
        | isnt b ↦ simp (a, b) (each_none InN k us ranged (λ z. let d = leb-false k N b in omega arith))
        | is b ↦ simp (a, b) (sym (marks-are k) ∙ ap once (marked_yes (mark_all clean us) N full k (leb-true 1 k a) (leb-true k N b)))
      ]
    ]

  -- the pool
  module _ (framed-ok : framed ws T N ≡ true) (filled_ok : filled ws m T N ≡ true) (t_same : get_or ws 0 0 ≡ T) (n_same : get_or ws (T + 1) 0 ≡ N) where
    abbrev F : ℕ
    F = get_or ws (T + 2 + 16 * N) 0

    abbrev S : ℕ
    S = T + 3 + 16 * N

    abbrev ts : List Tree
    ts = map tree_of (span ws 1 T)

    abbrev us : List ℕ
    us = flat walked (span ws 1 T)

    abbrev pool : Pool
    pool = record { trees = ts; count = N; free = reverse (span ws S F) }

    pub record Frame : Type 0 where
      pub some_trees : 1 ≤ T
      pub few_trees : T ≤ 32
      pub few_nodes : N ≤ 512
      pub long : length ws ≡ T + 17 * N + 3
      pub few_free : F ≤ N

    frame : Frame
    unfolding framed
    frame =
        let a = both (leb 1 T) (leb T 32 && (leb N 512 && (eqb (length ws) (T + 17 * N + 3) && leb F N))) framed-ok in
        let b = four (leb T 32) (leb N 512) (eqb (length ws) (T + 17 * N + 3)) (leb F N) a.1 in
        record {
          some_trees = leb-true 1 T a.0;
          few_trees = leb-true T 32 b.0;
          few_nodes = leb-true N 512 b.1;
          long = eqb-true (length ws) (T + 17 * N + 3) b.2;
          few_free = leb-true F N b.3;
        }

    -- the marks that the trees leave
    pub record Left : Type 0 where
      pub yes : TreesYes ts us (span ws 1 T) clean (mark_all clean us)
      pub behind : stacked ws T N F (mark_all clean us) ≡ true

    left : Left
    unfolding filled
    left = answered (stacked ws T N F) (trees ws T N m T 1 clean) filled_ok (λ x w s.
        let y = trees_yes T 1 clean x w in
        subst (λ (l : List ℕ). TreesYes ts us (span ws 1 T) clean l × (stacked ws T N F l ≡ true) → Left) (sym y.out) (λ p. record { yes = p.0; behind = p.1 }) (y, s))

    abbrev walked-trees : TreesYes ts us (span ws 1 T) clean (mark_all clean us)
    walked-trees = left.yes

    pub record Rest : Type 0 where
      pub frees_ok : FreesYes (span ws S F) (mark_all clean us) (mark_all clean (us ++ span ws S F))
      pub empty : zeros ws (S + F) (N - F) ≡ true
      pub full : all_marked (mark_all clean (us ++ span ws S F)) N ≡ true

    the_rest : Rest
    unfolding stacked
    the_rest = answered (λ all. zeros ws (S + F) (N - F) && all_marked all N) (free_walk ws T N F S (mark_all clean us)) left.behind (λ x w s.
        let f = frees_yes F S (mark_all clean us) x w in
        let o : x ≡ mark_all clean (us ++ span ws S F) = f.out ∙ sym (marks_append clean us (span ws S F)) in
        let b = both (zeros ws (S + F) (N - F)) (all_marked x N) s in
        record {
          frees_ok = subst (FreesYes (span ws S F) (mark_all clean us)) o f;
          empty = b.0;
          full = subst (λ (l : List ℕ). all_marked l N ≡ true) o b.1;
        })

    each_once : (k : ℕ) → count k (used ts) + count k (reverse (span ws S F)) ≡ once (leb 1 k && leb k N)
    each_once k =
        rw (walked-trees.numbered (λ x. once (eqb k x)), total-reverse (λ x. once (eqb k x)) (span ws S F))
        (sym (count-append k us (span ws S F)) ∙
        once_each frame.few_nodes (us ++ span ws S F) (each_join InN us (span ws S F) walked-trees.ranged the_rest.frees_ok.ranged)
        (fresh_join clean us (span ws S F) walked-trees.fresh the_rest.frees_ok.fresh) the_rest.full k)

    node-same : (k : ℕ) → 1 ≤ k → k ≤ N → span ws (place T k) 16 ≡ node_words ts k
    node-same k a b =
        sym (trees_find st k ts (pad 16 []) walked-trees.held (λ z. sym (each_at (λ n. st n ≡ pad 16 []) k (span ws S F) the_rest.frees_ok.blank
        (let e = rw (le-leb 1 k a, le-leb k N b, total-reverse (λ x. once (eqb k x)) (span ws S F)) at (each_once k) in omega arith))))

    formed : WellFormed m pool
    formed =
        let l : length ts ≡ T = length-map (span ws 1 T) tree_of ∙ length_span ws 1 T in
        record {
          some_trees = rw l frame.some_trees;
          few_trees = rw l frame.few_trees;
          few_nodes = frame.few_nodes;
          good = walked-trees.good;
          each_once = each_once;
        }

    same_words : encode pool ≡ ws
    unfolding encode
    same_words =
        let l : length ts ≡ T = length-map (span ws 1 T) tree_of ∙ length_span ws 1 T in
        let f : length (reverse (span ws S F)) ≡ F = length-reverse (span ws S F) ∙ length_span ws S F in
        let p : place T 1 ≡ T + 2 = omega arith in
        let n : span ws (T + 2) (16 * N) ≡ nodes_from (node_words ts) 1 N = rw p at (nodes_join ws T ts 1 N (omega arith) (λ k a b. node-same k a (omega arith))) in
        rw (l, walked-trees.rooted, ← n, f, reverse-reverse (span ws S F), pad_span ws N F S frame.few_free the_rest.empty)
        (sym (layout ws T N frame.long ∙ rw (t_same, n_same)))

    pub sound_of : Sound m ws
    sound_of = record { pool = pool; formed = formed; same = same_words }

-- the check says yes: the words are sound
pub check_yes : (ws : List ℕ) (m : ℕ) → checked ws m ≡ true → Sound m ws
unfolding checked
check_yes ws m c =
    let T = get_or ws 0 0 in
    let N = get_or ws (get_or ws 0 0 + 1) 0 in
    let b = both (framed ws T N) (filled ws m T N) c in
    sound_of ws T N m b.0 b.1 refl refl

-- PROOFS. And back: of the words of a well formed pool the check says yes
use mathlib.Core.Path.{◌≡◌, refl, sym, ap, ◌∙◌, subst}
use mathlib.Core.List.{List, [], ◌∷◌, ◌++◌, append-nil, map, reverse}
use mathlib.Core.Bool.{Bool, true, false, ◌&&◌}
use Prim.Native.Nat.{ℕ, zero, suc, ◌+◌, ◌-◌, ◌*◌, ◌≤◌, ◌<◌}
use native.Mathlib.Omega.{arith}
use lib.ListN.{length, get_or, length-append, length-map, length-reverse}
use lib.Dec.{leb, eqb}
use borrow.Author.Tests.{eq-eqb, ne_eqb, le-leb, lt-leb, leb-true, leb-false}
use Rattle.forest.proofs.CountLaws.{small, in_range, few_numbers, encode-length, node-length, nodes_length}
use Rattle.forest.proofs.WordLaws.{trees_miss, count-append}
use Rattle.forest.specs.Lists.{once, total, count, pad}
use Rattle.forest.specs.Pairs.{Item, Rising}
use Rattle.forest.specs.Rows.{Tree, Good, line}
use Rattle.forest.specs.Trees.{pairs, numbers}
use Rattle.forest.specs.Pools.{Pool, WellFormed, AllGood, used, root, leaf_words, inner_words, node_words, nodes_from, encode, Sound}
use Rattle.forest.proofs.ListLaws.{is, isnt, test, total-append}
use Rattle.std.proofs.Common.{Some}
use Rattle.walk.specs.Marks.{mark}
use Rattle.walk.proofs.MarkLaws.{mark_all, marks_count, fresh-once, clean, has-clean}
use Rattle.walk.proofs.Subtree.{Sub, crown, flat, rows_of, pairs_of, nums_of, Flagged, Each, Filled, Held, HeldTree, Fresh}
use Rattle.walk.proofs.Towers.{tops, each_left, each_right, Wide, tree_one, rows_held, root_rows, numbers_rows, pairs_rows}
use Rattle.walk.specs.Walks.{lastly, zeros, place}
use Rattle.walk.proofs.WalkLaws.{span, lower_some, span_pad, pad-zeros, inner_does}
use Rattle.walk.proofs.WalkExact.{store, Ranged, walk_does, meets_does, low_of, fresh_left, fresh_right, marks_append}
use Rattle.sound.specs.Checks.{levels, wide, tree_walk, trees, free_walk, all_marked, framed, stacked, filled, checked}
use Rattle.sound.proofs.CheckLaws.{rising_climbs, Parts, parts, trees-held, nodes_part, total-reverse}
use Rattle.sound.proofs.CheckYes.{all_small, marked_does}
use Rattle.forest.proofs.RowLaws.{length-line}

-- Six levels at most: a subtree of h inner levels that is not on the right edge has this many nodes
abbrev pub many : ℕ → ℕ
many zero = 1
many (suc h) = suc (4 * many h)

many_some : (h : ℕ) → 1 ≤ many h
many_some zero = omega arith
many_some (suc h) = omega arith

many_big : (h : ℕ) → 5 ≤ h → 1365 ≤ many h
many_big zero g = absurd (omega arith)
many_big (suc zero) g = absurd (omega arith)
many_big (suc (suc zero)) g = absurd (omega arith)
many_big (suc (suc (suc zero))) g = absurd (omega arith)
many_big (suc (suc (suc (suc zero)))) g = absurd (omega arith)
many_big (suc (suc (suc (suc (suc k))))) g = omega (arith, many_some k)

lastly-false : {A : Type 0} (xs : List A) → lastly false xs ≡ false
lastly-false [] = refl
lastly-false (x ∷ xs) = refl

four_kids : (m h : ℕ) (each : (t : Sub h) → Filled m 7 h false t → many h ≤ length (nums_of h t)) (ts : List (Sub h)) → 4 ≤ length ts → Flagged (Filled m 7 h) false ts →
    many (suc h) ≤ suc (length (flat (nums_of h) ts))
four_kids m h each [] g k = absurd (omega arith)
four_kids m h each (a ∷ []) g k = absurd (omega arith)
four_kids m h each (a ∷ b ∷ []) g k = absurd (omega arith)
four_kids m h each (a ∷ b ∷ c ∷ []) g k = absurd (omega arith)
four_kids m h each (a ∷ b ∷ c ∷ d ∷ ts) g k =
    let w : Filled m 7 h false d = subst (λ (e : Bool). Filled m 7 h e d) (lastly-false ts) k.1.1.1.0 in
    omega (
      arith,
      each a k.0,
      each b k.1.0,
      each c k.1.1.0,
      each d w,
      length-append (nums_of h a) (nums_of h b ++ (nums_of h c ++ (nums_of h d ++ flat (nums_of h) ts))),
      length-append (nums_of h b) (nums_of h c ++ (nums_of h d ++ flat (nums_of h) ts)),
      length-append (nums_of h c) (nums_of h d ++ flat (nums_of h) ts),
      length-append (nums_of h d) (flat (nums_of h) ts),
    )

pub many_nodes : (m h : ℕ) (t : Sub h) → Filled m 7 h false t → many h ≤ length (nums_of h t)
many_nodes m zero t f = omega arith
many_nodes m (suc h) t f = four_kids m h (many_nodes m h) t.1 f.0 f.2

two_kids : (m h : ℕ) (ts : List (Sub h)) → 2 ≤ length ts → Flagged (Filled m 7 h) true ts → many h ≤ length (flat (nums_of h) ts)
two_kids m h [] g k = absurd (omega arith)
two_kids m h (a ∷ []) g k = absurd (omega arith)
two_kids m h (a ∷ b ∷ ts) g k = omega (arith, many_nodes m h a k.0, length-append (nums_of h a) (nums_of h b ++ flat (nums_of h) ts))

-- with fewer than 1365 nodes
pub few_levels : (m h : ℕ) (t : Sub h) → Filled m 7 h true t → Wide h (t ∷ []) → length (nums_of h t) < 1365 → h ≤ 5
few_levels m zero t f w l = omega arith
few_levels m (suc h) t f w l = elim (test (leb 5 h)) [
  | is e ↦ absurd (omega (
    arith,
    many_big h (leb-true 5 h e),
    two_kids m h t.1 (omega (arith, length-append t.1 [])) f.2,
  ))
  | isnt e ↦ let g = leb-false 5 h e in omega arith
]

-- Numbers that are counted once at most, and none but those from 1 to N
module _ (N : ℕ) where
  abbrev pub Counted : List ℕ → Type 0
  Counted us = (k : ℕ) → count k us ≤ once (leb 1 k && leb k N)

  pub counted_range : (us : List ℕ) → Counted us → Each (λ k. (1 ≤ k) × (k ≤ N)) us
  counted_range [] c = tt
  counted_range (u ∷ us) c =
      let o : once (eqb u u) ≡ 1 = ap once (eq-eqb u u refl) in
      (in_range u N (omega (arith, c u)), counted_range us (λ k. omega (arith, c k)))

leaf_word : (ws : List ℕ) (b : ℕ) (xs : List Item) → span ws b 16 ≡ leaf_words xs → get_or ws b 0 ≡ 32 + length xs
leaf_word ws b xs e = ap (λ (l : List ℕ). get_or l 0 0) e

inner_word : (ws : List ℕ) (b : ℕ) (xs : List Item) → span ws b 16 ≡ inner_words xs → get_or ws b 0 ≡ 16 + (length xs - 1)
inner_word ws b xs e = ap (λ (l : List ℕ). get_or l 0 0) e

module _ (ws : List ℕ) (T N m : ℕ) where
  abbrev st : ℕ → List ℕ
  st = store ws T N m

  abbrev InN : ℕ → Type 0
  InN = Ranged ws T N m

  -- the way down by first children ends at the leaves
  first_level : (f h n : ℕ) (e : Bool) (ts : List (Sub h)) → Each InN (n ∷ flat (nums_of h) ts) → Filled m 7 (suc h) e (n, ts) → Held st (suc h) (n, ts) →
      ((e : Bool) (t : Sub h) → Each InN (nums_of h t) → Filled m 7 h e t → Held st h t → levels ws T N f (crown h t).num ≡ h) → levels ws T N (suc f) n ≡ suc h
  first_level f h n e [] r i d go = absurd (omega (arith, lower_some e 4 (omega arith), i.0))
  first_level f h n e (t ∷ ts) r i d go =
      let k : length (line (tops h ts)) ≡ length ts = length-line (tops h ts) ∙ length-map ts (crown h) in
      let x = inner_does ws (place T n) e (low_of h t, (crown h t).num) (line (tops h ts)) d.0 (rw k i.0) (rw k i.1) in
      let p = inner_word ws (place T n) (crown (suc h) (n, t ∷ ts)).items d.0 in
      let w : get_or ws (place T n) 0 < 32 = omega (arith, p, k, i.1) in
      rw (le-leb 1 n r.0.0, le-leb n N r.0.1, lt-leb 32 (get_or ws (place T n) 0) w, x.first)
      (ap suc (go (lastly e ts) t (each_left InN (nums_of h t) (flat (nums_of h) ts) r.1) i.2.0 d.1.0))

  levels_are : (f h : ℕ) (e : Bool) (t : Sub h) → h ≤ f → Each InN (nums_of h t) → Filled m 7 h e t → Held st h t → levels ws T N f (crown h t).num ≡ h
  levels_are zero zero e t g r i d = refl
  levels_are zero (suc h) e t g r i d = absurd (omega arith)
  levels_are (suc f) zero e t g r i d =
      let p = leaf_word ws (place T t.num) t.items d in
      rw (le-leb 1 t.num r.0.0, le-leb t.num N r.0.1, le-leb 32 (get_or ws (place T t.num) 0) (omega (arith, p)))
  levels_are (suc f) (suc h) e t g r i d = first_level f h t.0 e t.1 r i d (λ e' u r' i' d'. levels_are f h e' u (omega arith) r' i' d')

  wide_is : (h : ℕ) (t : Sub h) → Filled m 7 h true t → Held st h t → Wide h (t ∷ []) → wide h (get_or ws (place T (crown h t).num) 0) ≡ true
  wide_is zero t i d w = refl
  wide_is (suc h) t i d w =
      let k : length (line (tops h t.1)) ≡ length t.1 = length-line (tops h t.1) ∙ length-map t.1 (crown h) in
      let p = inner_word ws (place T t.0) (crown (suc h) t).items d.0 in
      le-leb 17 (get_or ws (place T t.0) 0) (omega (arith, p, k, length-append t.1 []))

  -- one tree
  pub record TreeDoes (x : Tree) : Type 0 where
    pub us : List ℕ
    pub numbered : (w : ℕ → ℕ) → total w (numbers x) ≡ total w us
    pub does : (ms : List ℕ) → length us < 1365 → Each InN us → Fresh ms us → tree_walk ws T N m (root x) ms ≡ Some (mark_all ms us)

  sub_does : (h : ℕ) (t : Sub h) → Filled m 7 h true t → Wide h (t ∷ []) → Held st h t → Rising (pairs_of h t) → TreeDoes (rows_of h (t ∷ []) [])
  unfolding tree_walk
  sub_does h t i w d s = record {
    us = nums_of h t;
    numbered = λ v. numbers_rows v h (t ∷ []) [] ∙ rw append-nil (omega arith);
    does = λ ms l r f.
        let n = (crown h t).num in
        let z : root (rows_of h (t ∷ []) []) ≡ (crown h t).num = root_rows h (t ∷ []) [] in
        let q : (crown h t).num ≡ 0 → ⊥ = λ e. first-in h t r e in
        let x = walk_does ws T N m h true t ms 0 (record { ranged = r; fresh = f; rising = rising_climbs (pairs_of h t) s; filled = i; held = d }) in
        rw (z, ne_eqb (crown h t).num 0 q, levels_are 5 h true t (few_levels m h t i w l) r i d, wide_is h t i d w, x);
  }
    where
      first-in : (h : ℕ) (t : Sub h) → Each InN (nums_of h t) → (crown h t).num ≡ 0 → ⊥
      first-in zero t r e = omega arith
      first-in (suc h) t r e = omega arith

  tree_does : (x : Tree) → Good m 7 x → HeldTree st x → TreeDoes x
  unfolding tree_walk
  tree_does [] g d = record { us = []; numbered = λ w. refl; does = λ ms l r f. refl }
  tree_does (L ∷ Rs) g d =
      let o = tree_one m 7 L Rs g in
      let e = o.same in
      let r : Rising (flat (pairs_of o.high) (o.sub ∷ [])) = subst Rising (sym (ap pairs e) ∙ pairs_rows o.high (o.sub ∷ []) []) g.0 in
      let k = rows_held st o.high (o.sub ∷ []) [] (subst (HeldTree st) (sym e) d) in
      subst TreeDoes e (sub_does o.high o.sub o.filled o.wide k.0.0 (rw append-nil at r))

  -- all trees
  pub record TreesDoes (xs : List Tree) : Type 0 where
    pub us : List ℕ
    pub numbered : (w : ℕ → ℕ) → total w (used xs) ≡ total w us
    pub does : (r i : ℕ) (ms : List ℕ) → length us < 1365 → Each InN us → Fresh ms us → span ws i r ≡ map root xs → trees ws T N m r i ms ≡ Some (mark_all ms us)

  trees_none : (r i : ℕ) (ms : List ℕ) → span ws i r ≡ [] → trees ws T N m r i ms ≡ Some ms
  trees_none zero i ms e = refl
  trees_none (suc r) i ms e = absurd (omega (arith, ap length e))

  trees-more : (x : Tree) (xs : List Tree) (us vs : List ℕ) (r i : ℕ) (ms : List ℕ) → span ws i r ≡ root x ∷ map root xs →
      tree_walk ws T N m (root x) ms ≡ Some (mark_all ms us) →
      ((r i : ℕ) → span ws i r ≡ map root xs → trees ws T N m r i (mark_all ms us) ≡ Some (mark_all (mark_all ms us) vs)) →
      trees ws T N m r i ms ≡ Some (mark_all ms (us ++ vs))
  trees-more x xs us vs zero i ms e a b = absurd (omega (arith, ap length e))
  trees-more x xs us vs (suc r) i ms e a b =
      let p : get_or ws i 0 ≡ root x = cc in
      let q : span ws (suc i) r ≡ map root xs = cc in
      rw (p, a) (b r (suc i) q ∙ rw (marks_append ms us vs))

  pub trees_do : (xs : List Tree) → AllGood m xs → Each (HeldTree st) xs → TreesDoes xs
  trees_do [] g d = record { us = []; numbered = λ w. refl; does = λ r i ms l n f e. trees_none r i ms e }
  trees_do (x ∷ xs) g d =
      let a = tree_does x g.0 d.0 in
      let b = trees_do xs g.1 d.1 in
      record {
        us = a.us ++ b.us;
        numbered = λ w. total-append w (numbers x) (used xs) ∙ rw (a.numbered w, b.numbered w, total-append w a.us b.us);
        does = λ r i ms l n f e. trees-more x xs a.us b.us r i ms e
            (a.does ms (omega (arith, length-append a.us b.us)) (each_left InN a.us b.us n) (fresh_left ms a.us b.us f))
            (λ r' i' e'. b.does r' i' (mark_all ms a.us) (omega (arith, length-append a.us b.us)) (each_right InN a.us b.us n)
            (fresh_right ms a.us b.us f) e');
      }

  -- the free numbers
  pub frees_do : (us : List ℕ) (r i : ℕ) (ms : List ℕ) → Each InN us → Fresh ms us → Each (λ n. st n ≡ pad 16 []) us → span ws i r ≡ us → free_walk ws T N r i ms ≡ Some (mark_all ms us)
  frees_do [] zero i ms n f z e = refl
  frees_do [] (suc r) i ms n f z e = absurd (omega (arith, ap length e))
  frees_do (u ∷ us) zero i ms n f z e = absurd (omega (arith, ap length e))
  frees_do (u ∷ us) (suc r) i ms n f z e =
      let p : get_or ws i 0 ≡ u = cc in
      let q : span ws (suc i) r ≡ us = cc in
      rw (p, meets_does ws T N m ms u n.0.0 n.0.1 f.0, pad-zeros ws 16 (place T u) z.0) (frees_do us r (suc i) (mark ms u) n.1 f.1 z.1 q)

  -- a well formed pool
  module _ (ts : List Tree) (free : List ℕ) (good : AllGood m ts) (some_trees : 1 ≤ length ts) (few_trees : length ts ≤ 32) (few : N ≤ 512)
      (each_once : (n : ℕ) → count n (used ts) + count n free ≡ once (leb 1 n && leb n N))
      (t-len : length ts ≡ T) (long : length ws ≡ T + 17 * N + 3)
      (p : Parts ws T N long T (map root ts) N (nodes_from (node_words ts) 1 N) (length free) (pad N (reverse free))) where
    abbrev S : ℕ
    S = T + 3 + 16 * N

    node-is : (k : ℕ) → 1 ≤ k → k ≤ N → st k ≡ node_words ts k
    node-is k a b =
        let e : T + 2 ≡ place T 1 = omega arith in
        nodes_part ws T ts 1 N (omega arith) (rw e at p.nodes_same) k a (omega arith)

    trees-once : (k : ℕ) → count k (used ts) ≤ once (leb 1 k && leb k N)
    trees-once k = omega (arith, each_once k)

    held : Each (HeldTree st) ts
    held =
        trees-held st ts (λ n. pad 16 []) (λ n. omega (arith, trees-once n, small (leb 1 n && leb n N)))
        (λ n c. let r = in_range n N (omega (arith, trees-once n)) in node-is n r.0 r.1)

    the-trees : TreesDoes ts
    the-trees = trees_do ts good held

    abbrev us : List ℕ
    us = the-trees.us

    abbrev vs : List ℕ
    vs = reverse free

    all_once : (k : ℕ) → count k (us ++ vs) ≡ once (leb 1 k && leb k N)
    all_once k =
        count-append k us vs ∙
        rw (← (the-trees.numbered (λ x. once (eqb k x))), total-reverse (λ x. once (eqb k x)) free) (each_once k)

    counted : Counted N (us ++ vs)
    counted k = omega (arith, all_once k)

    ranged : Each InN (us ++ vs)
    ranged = counted_range N (us ++ vs) counted

    fresh : Fresh clean (us ++ vs)
    fresh =
        fresh-once clean (us ++ vs) refl (all_small N (us ++ vs) few ranged)
        (λ k. omega (arith, all_once k, small (leb 1 k && leb k N), ap once (has-clean k)))

    number : length (us ++ vs) ≤ N
    number = few_numbers N (us ++ vs) counted

    blank : (ns : List ℕ) → ((k : ℕ) → count k ns ≤ count k free) → Each InN ns → Each (λ n. st n ≡ pad 16 []) ns
    blank [] c r = tt
    blank (n ∷ ns) c r =
        let o : once (eqb n n) ≡ 1 = ap once (eq-eqb n n refl) in (
          node-is n r.0.0 r.0.1 ∙ trees_miss n ts (pad 16 []) (omega (arith, each_once n, c n, small (leb 1 n && leb n N))),
          blank ns (λ k. omega (arith, c k)) r.1,
        )

    full : all_marked (mark_all clean (us ++ vs)) N ≡ true
    full = marked_does (mark_all clean (us ++ vs)) N (λ k a b. once-true _
        (marks_count clean (us ++ vs) refl (all_small N (us ++ vs) few ranged) fresh k ∙ rw (all_once k, has-clean k, le-leb 1 k a, le-leb k N b)))
      where
        once-true : (b : Bool) → once b ≡ 1 → b ≡ true
        once-true true e = refl
        once-true false e = absurd (omega arith)

    few_free : length free ≤ N
    few_free = omega (arith, number, length-append us vs, length-reverse free)

    stack_is : (span ws S (length free) ≡ vs) × (zeros ws (S + length free) (N - length free) ≡ true)
    stack_is =
        let l = length-reverse free in
        let s = span_pad ws N S vs (omega (arith, few_free)) p.stack_same in
        (rw l at s.0, rw l at s.1)

    filled_is : filled ws m T N ≡ true
    unfolding filled stacked
    filled_is =
        let x : trees ws T N m T 1 clean ≡ Some (mark_all clean us) =
        the-trees.does T 1 clean (omega (arith, number, length-append us vs)) (each_left InN us vs ranged) (fresh_left clean us vs fresh) p.roots_same in
        let y : free_walk ws T N (length free) S (mark_all clean us) ≡ Some (mark_all (mark_all clean us) vs) =
        frees_do vs (length free) S (mark_all clean us) (each_right InN us vs ranged) (fresh_right clean us vs fresh)
        (blank vs (λ k. omega (arith, total-reverse (λ z. once (eqb k z)) free)) (each_right InN us vs ranged)) stack_is.0 in
        rw (x, p.f_same, y, stack_is.1, ← (marks_append clean us vs)) full

    framed_is : framed ws T N ≡ true
    unfolding framed
    framed_is = rw (
      le-leb 1 T (omega arith),
      le-leb T 32 (omega arith),
      le-leb N 512 few,
      eq-eqb (length ws) (T + 17 * N + 3) long,
      p.f_same,
      le-leb (length free) N few_free,
    )

encode-checked : (ws : List ℕ) (m : ℕ) (p : Pool) → WellFormed m p → encode p ≡ ws → checked ws m ≡ true
unfolding encode checked
encode-checked ws m p w e =
    let T = length p.trees in
    let N = p.count in
    let l : length ws ≡ length p.trees + 17 * p.count + 3 = ap length (sym e) ∙ encode-length p in
    let q = parts ws T N l T (map root p.trees) N (nodes_from (node_words p.trees) 1 N) (length p.free) (pad N (reverse p.free)) (length-map p.trees root) (nodes_length (node_words p.trees) 1 N (node-length p.trees)) e in
    rw (
      q.t_same,
      q.n_same,
      framed_is ws T N m p.trees p.free w.good w.some_trees w.few_trees w.few_nodes w.each_once refl l q,
      filled_is ws T N m p.trees p.free w.good w.some_trees w.few_trees w.few_nodes w.each_once refl l q,
    )

-- the words are sound: the check says yes
pub check_does : (ws : List ℕ) (m : ℕ) → Sound m ws → checked ws m ≡ true
check_does ws m s = encode-checked ws m s.pool s.formed s.same

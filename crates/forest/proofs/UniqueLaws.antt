-- PROOFS. Words determine the pool: two well formed pools with the same words are the same
use mathlib.Core.Path.{◌≡◌, refl, sym, ap, ◌∙◌}
use mathlib.Core.List.{List, [], ◌∷◌, map, reverse, reverse_aux, reverse-reverse}
use Prim.Native.Nat.{ℕ, zero, suc, ◌+◌, ◌-◌, ◌*◌, ◌≤◌, ◌<◌}
use native.Mathlib.Omega.{arith}
use lib.ListN.{length, take, drop, get_or, length-map, length-reverse}
use lib.Seq.{ext_get_or}
use Rattle.forest.specs.Lists.{count, pad}
use Rattle.forest.specs.Pairs.{Item}
use Rattle.forest.specs.Rows.{Row, Tree, node, size, nums, sizes, joined, line, items_at, Fill, Tower, Good}
use Rattle.forest.specs.Trees.{numbers}
use Rattle.forest.specs.Pools.{Pool, used, WellFormed, tree_of, leaf_words, inner_words, node_words, root_above, root, encode, Sound}
use Rattle.forest.proofs.ListLaws.{cons_eq, map-append, append_parts}
use Rattle.forest.proofs.TowerLaws.{tower_some}
use Rattle.forest.proofs.PoolLaws.{good_at}
use Rattle.forest.proofs.CountLaws.{nodes_all, length-pad}
use Rattle.forest.proofs.Sentences.{names_node}
use Rattle.forest.proofs.WordLaws.{count-append, count_at, count_row, count_tree, row_at, leaf_words_lem, inner_words_lem, first_word, root_word, node_window, free_part, count_word}

-- Words of a node
module _ {A : Type 0} where
  tail_eq : (x y : A) (xs ys : List A) → x ∷ xs ≡ y ∷ ys → xs ≡ ys
  tail_eq x y xs ys e = ap (drop 1) e

  front_eq : (d x y : A) (xs ys : List A) → x ∷ xs ≡ y ∷ ys → x ≡ y
  front_eq d x y xs ys e = ap (λ (l : List A). get_or l 0 d) e

pad_eq : (n : ℕ) (xs ys : List ℕ) → length xs ≡ length ys → length xs ≤ n → pad n xs ≡ pad n ys → xs ≡ ys
pad_eq n [] [] h k e = refl
pad_eq n [] (y ∷ ys) h k e = absurd (omega arith)
pad_eq n (x ∷ xs) [] h k e = absurd (omega arith)
pad_eq zero (x ∷ xs) (y ∷ ys) h k e = absurd (omega arith)
pad_eq (suc n) (x ∷ xs) (y ∷ ys) h k e =
    cons_eq (front_eq 0 x y (pad n xs) (pad n ys) e) (pad_eq n xs ys (omega arith) (omega arith) (tail_eq x y (pad n xs) (pad n ys) e))

abbrev firsts : List Item → List ℕ
firsts xs = map (λ (x : Item). x.0) xs

abbrev seconds : List Item → List ℕ
seconds xs = map (λ (x : Item). x.1) xs

items_eq : (xs ys : List Item) → firsts xs ≡ firsts ys → seconds xs ≡ seconds ys → xs ≡ ys
items_eq [] [] a b = refl
items_eq [] (y ∷ ys) a b = absurd (omega (arith, ap length a))
items_eq (x ∷ xs) [] a b = absurd (omega (arith, ap length a))
items_eq (x ∷ xs) (y ∷ ys) a b =
    let k = front_eq 0 x.0 y.0 (firsts xs) (firsts ys) a in
    let v = front_eq 0 x.1 y.1 (seconds xs) (seconds ys) b in
    cons_eq (λ i. (k i, v i)) (items_eq xs ys (tail_eq x.0 y.0 (firsts xs) (firsts ys) a) (tail_eq x.1 y.1 (seconds xs) (seconds ys) b))

word_0 : (a b : ℕ) (xs ys : List ℕ) → a ∷ xs ≡ b ∷ ys → a ≡ b
word_0 a b xs ys e = front_eq 0 a b xs ys e

leaf_eq : (xs ys : List Item) → length xs ≤ 7 → leaf_words xs ≡ leaf_words ys → xs ≡ ys
leaf_eq xs ys h e =
    let n : length xs ≡ length ys = omega (arith, word_0 (32 + length xs) (32 + length ys) _ _ e) in
    let b = tail_eq (32 + length xs) (32 + length ys) _ _ e in
    let kv = append_parts (pad 7 (firsts xs)) (pad 7 (firsts ys)) (pad 8 (seconds xs)) (pad 8 (seconds ys)) (length-pad 7 (firsts xs) ∙ sym (length-pad 7 (firsts ys))) b in
    let a1 = length-map xs (λ (x : Item). x.0) in
    let a2 = length-map ys (λ (x : Item). x.0) in
    let b1 = length-map xs (λ (x : Item). x.1) in
    let b2 = length-map ys (λ (x : Item). x.1) in
    items_eq xs ys (pad_eq 7 (firsts xs) (firsts ys) (omega arith) (omega arith) kv.0) (pad_eq 8 (seconds xs) (seconds ys) (omega arith) (omega arith) kv.1)

inner_eq : (xs ys : List Item) → 1 ≤ length xs → length xs ≤ 8 → 1 ≤ length ys → inner_words xs ≡ inner_words ys → (length xs ≡ length ys) × (seconds xs ≡ seconds ys)
inner_eq xs ys l h k e =
    let n : length xs ≡ length ys = omega (arith, word_0 (16 + (length xs - 1)) (16 + (length ys - 1)) _ _ e) in
    let b = tail_eq (16 + (length xs - 1)) (16 + (length ys - 1)) _ _ e in
    let kv = append_parts (pad 7 (firsts (drop 1 xs))) (pad 7 (firsts (drop 1 ys))) (pad 8 (seconds xs)) (pad 8 (seconds ys)) (length-pad 7 (firsts (drop 1 xs)) ∙ sym (length-pad 7 (firsts (drop 1 ys)))) b in
    let b1 = length-map xs (λ (x : Item). x.1) in
    let b2 = length-map ys (λ (x : Item). x.1) in
    (n, pad_eq 8 (seconds xs) (seconds ys) (omega arith) (omega arith) kv.1)

kinds : (xs ys : List Item) → length ys ≤ 8 → leaf_words xs ≡ inner_words ys → ⊥
kinds xs ys h e = omega (arith, word_0 (32 + length xs) (16 + (length ys - 1)) _ _ e)

-- Rows
abbrev Fit : ℕ → Row → Type 0
Fit c [] = Unit {0}
Fit c (n ∷ R) = (1 ≤ size n) × (size n ≤ c) × Fit c R

fit : (lo c : ℕ) (R : Row) → 1 ≤ lo → Fill lo c (sizes R) → Fit c R
fit lo c [] h f = tt
fit lo c (n ∷ []) h f = (f.0, f.1, tt)
fit lo c (n ∷ m ∷ R) h f = (omega arith, f.1, fit lo c (m ∷ R) h f.2)

fit_at : (c : ℕ) (R : Row) → Fit c R → 1 ≤ length R → (1 ≤ length (items_at R 0)) × (length (items_at R 0) ≤ c)
fit_at c [] f h = absurd (omega arith)
fit_at c (n ∷ R) f h = (f.0, f.1)

pub nums-length : (A B : Row) → nums A ≡ nums B → length A ≡ length B
nums-length A B e = sym (length-map A (λ n. n.num)) ∙ ap length e ∙ length-map B (λ n. n.num)

row_eq : (A B : Row) → nums A ≡ nums B → sizes A ≡ sizes B → joined A ≡ joined B → A ≡ B
row_eq [] [] a b c = refl
row_eq [] (m ∷ B) a b c = absurd (omega (arith, nums-length [] (m ∷ B) a))
row_eq (n ∷ A) [] a b c = absurd (omega (arith, nums-length (n ∷ A) [] a))
row_eq (n ∷ A) (m ∷ B) a b c =
    let s = front_eq 0 (size n) (size m) (sizes A) (sizes B) b in
    let xy = append_parts n.items m.items (joined A) (joined B) s c in
    let k = front_eq 0 n.num m.num (nums A) (nums B) a in
    cons_eq (λ i. node (k i) (xy.0 i)) (row_eq A B (tail_eq n.num m.num (nums A) (nums B) a) (tail_eq (size n) (size m) (sizes A) (sizes B) b) xy.1)

leaf_row_eq : (A B : Row) → nums A ≡ nums B → Fit 7 A → ((j : ℕ) → j < length A → leaf_words (items_at A j) ≡ leaf_words (items_at B j)) → A ≡ B
leaf_row_eq [] [] a f h = refl
leaf_row_eq [] (m ∷ B) a f h = absurd (omega (arith, nums-length [] (m ∷ B) a))
leaf_row_eq (n ∷ A) [] a f h = absurd (omega (arith, nums-length (n ∷ A) [] a))
leaf_row_eq (n ∷ A) (m ∷ B) a f h =
    let k = front_eq 0 n.num m.num (nums A) (nums B) a in
    let x = leaf_eq n.items m.items f.1 (h 0 (omega arith)) in
    cons_eq (λ i. node (k i) (x i)) (leaf_row_eq A B (tail_eq n.num m.num (nums A) (nums B) a) f.2 (λ j u. h (suc j) (omega arith)))

inner_row_eq : (A B : Row) → nums A ≡ nums B → Fit 8 A → Fit 8 B → ((j : ℕ) → j < length A → inner_words (items_at A j) ≡ inner_words (items_at B j)) →
    (sizes A ≡ sizes B) × (seconds (joined A) ≡ seconds (joined B))
inner_row_eq [] [] a f g h = (refl, refl)
inner_row_eq [] (m ∷ B) a f g h = absurd (omega (arith, nums-length [] (m ∷ B) a))
inner_row_eq (n ∷ A) [] a f g h = absurd (omega (arith, nums-length (n ∷ A) [] a))
inner_row_eq (n ∷ A) (m ∷ B) a f g h =
    let x = inner_eq n.items m.items f.0 f.1 g.0 (h 0 (omega arith)) in
    let r = inner_row_eq A B (tail_eq n.num m.num (nums A) (nums B) a) f.2 g.2 (λ j u. h (suc j) (omega arith)) in
    (cons_eq x.0 r.0, rw (map-append (λ (z : Item). z.1) n.items (joined A), map-append (λ (z : Item). z.1) m.items (joined B), x.1, r.1))

seconds_line : (R : Row) → seconds (line R) ≡ nums R
seconds_line [] = refl
seconds_line (n ∷ R) = ap (n.num ∷◌) (seconds_line R)

-- Trees, from the top: f gives the words of a number
module _ (f : ℕ → List ℕ) where
  abbrev Says : (List Item → List ℕ) → Row → Type 0
  Says enc R = (j : ℕ) → j < length R → f (get_or (nums R) j 0) ≡ enc (items_at R j)

  abbrev Chain : Row → List Row → Type 0
  Chain A [] = Says leaf_words A × Fit 7 A × (1 ≤ length A)
  Chain A (B ∷ Bs) = Says inner_words A × Fit 8 A × (1 ≤ length A) × (joined A ≡ line B) × Chain B Bs

  says_eq : (enc enc' : List Item → List ℕ) (A B : Row) → Says enc A → Says enc' B → nums A ≡ nums B → (j : ℕ) → j < length A → enc (items_at A j) ≡ enc' (items_at B j)
  says_eq enc enc' A B a b e j h = sym (a j h) ∙ ap (λ (xs : List ℕ). f (get_or xs j 0)) e ∙ b j (omega (arith, nums-length A B e))

  same_down : (A : Row) (As : List Row) (B : Row) (Bs : List Row) → Chain A As → Chain B Bs → nums A ≡ nums B → A ∷ As ≡ B ∷ Bs
  same_down A [] B [] a b e = ap (◌∷ []) (leaf_row_eq A B e a.1 (says_eq leaf_words leaf_words A B a.0 b.0 e))
  same_down A [] B (C ∷ Bs) a b e = absurd (kinds (items_at A 0) (items_at B 0) (fit_at 8 B b.1 b.2).1 (says_eq leaf_words inner_words A B a.0 b.0 e 0 a.2))
  same_down A (D ∷ As) B [] a b e = absurd (kinds (items_at B 0) (items_at A 0) (fit_at 8 A a.1 a.2).1 (sym (says_eq inner_words leaf_words A B a.0 b.0 e 0 a.2)))
  same_down A (D ∷ As) B (C ∷ Bs) a b e =
      let r = inner_row_eq A B e a.1 b.1 (says_eq inner_words inner_words A B a.0 b.0 e) in
      let n : nums D ≡ nums C = sym (ap seconds a.3 ∙ seconds_line D) ∙ r.1 ∙ ap seconds b.3 ∙ seconds_line C in
      let below : D ∷ As ≡ C ∷ Bs = same_down D As C Bs a.4 b.4 n in
      let same : D ≡ C = ap (λ (Rs : List Row). get_or Rs 0 []) below in
      cons_eq (row_eq A B e r.0 (a.3 ∙ ap line same ∙ sym b.3)) below

  abbrev top_row : Row → List Row → Row
  top_row R [] = R
  top_row R (S ∷ Ss) = top_row S Ss

  abbrev under : Row → List Row → List Row → List Row
  under R [] acc = acc
  under R (S ∷ Ss) acc = under S Ss (R ∷ acc)

  turned : (R : Row) (Rs acc : List Row) → top_row R Rs ∷ under R Rs acc ≡ reverse_aux (R ∷ Rs) acc
  turned R [] acc = refl
  turned R (S ∷ Ss) acc = turned S Ss (R ∷ acc)

  chain : (R : Row) (Rs acc : List Row) → Tower R Rs → ((h : ℕ) → Says inner_words (row_at Rs h)) → Chain R acc → Chain (top_row R Rs) (under R Rs acc)
  chain R [] acc w s c = c
  chain R (S ∷ Ss) acc w s c = chain S Ss (R ∷ acc) w.3 (λ h. s (suc h)) (s 0, fit 4 8 S (omega arith) w.2, tower_some S Ss w.3, w.1, c)

  top_nums : (R : Row) (Rs : List Row) → Tower R Rs → nums (top_row R Rs) ≡ root_above R Rs ∷ []
  top_nums [] [] w = absurd (omega arith)
  top_nums (n ∷ []) [] w = refl
  top_nums (n ∷ m ∷ R) [] w = absurd (omega arith)
  top_nums R (S ∷ Ss) w = top_nums S Ss w.3

  -- a tree is found from its root
  tree_eq : (m : ℕ) (L L' : Row) (Rs Rs' : List Row) → 1 ≤ m → Good m 7 (L ∷ Rs) → Good m 7 (L' ∷ Rs') →
      Says leaf_words L → Says leaf_words L' → ((h : ℕ) → Says inner_words (row_at Rs h)) → ((h : ℕ) → Says inner_words (row_at Rs' h)) →
      root_above L Rs ≡ root_above L' Rs' → L ∷ Rs ≡ L' ∷ Rs'
  tree_eq m L L' Rs Rs' lo g g' a a' b b' e =
      let c = chain L Rs [] g.2 b (a, fit m 7 L lo g.1, tower_some L Rs g.2) in
      let c' = chain L' Rs' [] g'.2 b' (a', fit m 7 L' lo g'.1, tower_some L' Rs' g'.2) in
      let s = same_down (top_row L Rs) (under L Rs []) (top_row L' Rs') (under L' Rs' []) c c' (top_nums L Rs g.2 ∙ ap (◌∷ []) e ∙ sym (top_nums L' Rs' g'.2)) in
      sym (reverse-reverse (L ∷ Rs)) ∙ ap reverse (sym (turned L Rs []) ∙ s ∙ turned L' Rs' []) ∙ reverse-reverse (L' ∷ Rs')

-- Pools

-- a number in use is that of a node
pub inside : (m : ℕ) (p : Pool) → WellFormed m p → (n : ℕ) → 1 ≤ count n (used p.trees) → (1 ≤ n) × (n ≤ p.count)
inside m p w n h = names_node m p n w (omega arith)

leaf_used : (p : Pool) (t : ℕ) (L : Row) (Rs : List Row) (j : ℕ) → tree_of p t ≡ L ∷ Rs → j < length L → 1 ≤ count (get_or (nums L) j 0) (used p.trees)
leaf_used p t L Rs j e h =
    let n = get_or (nums L) j 0 in
    omega (arith, count_at L j h, count-append n (nums L) (numbers Rs), ap (λ (x : Tree). count n (numbers x)) e, count_tree n p.trees t)

inner_used : (p : Pool) (t : ℕ) (L : Row) (Rs : List Row) (h j : ℕ) → tree_of p t ≡ L ∷ Rs → j < length (row_at Rs h) → 1 ≤ count (get_or (nums (row_at Rs h)) j 0) (used p.trees)
inner_used p t L Rs h j e k =
    let n = get_or (nums (row_at Rs h)) j 0 in
    omega (arith, count_at (row_at Rs h) j k, count_row n Rs h, count-append n (nums L) (numbers Rs), ap (λ (x : Tree). count n (numbers x)) e, count_tree n p.trees t)

-- the root of a tree is in use
pub root-used : (p : Pool) (t : ℕ) (L : Row) (Rs : List Row) → tree_of p t ≡ L ∷ Rs → Tower L Rs → 1 ≤ count (root_above L Rs) (used p.trees)
root-used p t L Rs e w = omega (arith, go L Rs w, ap (λ (x : Tree). count (root_above L Rs) (numbers x)) e, count_tree (root_above L Rs) p.trees t)
  where
    go : (R : Row) (Ss : List Row) → Tower R Ss → 1 ≤ count (root_above R Ss) (numbers (R ∷ Ss))
    go R [] w = omega (arith, count-append (get_or (nums R) 0 0) (nums R) [], count_at R 0 (tower_some R [] w))
    go R (S ∷ Ss) w = omega (arith, count-append (root_above S Ss) (nums R) (numbers (S ∷ Ss)), go S Ss w.3)

module _ (m : ℕ) (lo : 1 ≤ m) (p q : Pool) (w : WellFormed m p) (v : WellFormed m q) (e : encode p ≡ encode q) where
  same-T : length p.trees ≡ length q.trees
  same-T = sym (first_word p) ∙ ap (λ (ws : List ℕ). get_or ws 0 0) e ∙ first_word q

  same-N : p.count ≡ q.count
  same-N = sym (count_word p) ∙ ap (λ (ws : List ℕ). get_or ws (suc (length p.trees)) 0) e ∙ ap (λ (i : ℕ). get_or (encode q) (suc i) 0) same-T ∙ count_word q

  same_words : (n : ℕ) → 1 ≤ n → n ≤ p.count → node_words q.trees n ≡ node_words p.trees n
  same_words zero h k = absurd (omega arith)
  same_words (suc i) h k =
      sym (node_window q i (omega (arith, same-N))) ∙
      ap (λ (a : ℕ). take 16 (drop (a + 2 + 16 * i) (encode q))) (sym same-T) ∙
      ap (λ (ws : List ℕ). take 16 (drop (length p.trees + 2 + 16 * i) ws)) (sym e) ∙ node_window p i (omega arith)

  same_tree : (t : ℕ) (x y : Tree) → t < length p.trees → tree_of p t ≡ x → tree_of q t ≡ y → root x ≡ root y → Good m 7 x → Good m 7 y → x ≡ y
  same_tree t [] [] h a b r g g' = refl
  same_tree t [] (L ∷ Rs) h a b r g g' = absurd (omega (arith, inside m q v (root_above L Rs) (root-used q t L Rs b g'.2)))
  same_tree t (L ∷ Rs) [] h a b r g g' = absurd (omega (arith, inside m p w (root_above L Rs) (root-used p t L Rs a g.2)))
  same_tree t (L ∷ Rs) (L' ∷ Rs') h a b r g g' =
      tree_eq (node_words p.trees) m L L' Rs Rs' lo g g'
      (λ j u. leaf_words_lem m p w t L Rs j a u)
      (λ j u. let i = inside m q v (get_or (nums L') j 0) (leaf_used q t L' Rs' j b u) in sym (same_words (get_or (nums L') j 0) i.0 (omega (arith, same-N))) ∙ leaf_words_lem m q v t L' Rs' j b u)
      (λ k j u. inner_words_lem m p w t L Rs k j a u)
      (λ k j u. let i = inside m q v (get_or (nums (row_at Rs' k)) j 0) (inner_used q t L' Rs' k j b u) in sym (same_words (get_or (nums (row_at Rs' k)) j 0) i.0 (omega (arith, same-N))) ∙ inner_words_lem m q v t L' Rs' k j b u)
      r

  same_trees : p.trees ≡ q.trees
  same_trees = ext_get_or [] p.trees q.trees same-T (λ t h.
      same_tree t (tree_of p t) (tree_of q t) h refl refl
      (sym (root_word p t h) ∙ ap (λ (ws : List ℕ). get_or ws (suc t) 0) e ∙ root_word q t (omega (arith, same-T)))
      (good_at m p.trees t w.good) (good_at m q.trees t v.good))

  same_part : length p.free ∷ pad p.count (reverse p.free) ≡ length q.free ∷ pad q.count (reverse q.free)
  same_part =
      let z : length p.trees + 2 + 16 * p.count ≡ length q.trees + 2 + 16 * q.count = omega (arith, same-T, same-N) in
      sym (free_part p) ∙ ap (drop (length p.trees + 2 + 16 * p.count)) e ∙ ap (λ (i : ℕ). drop i (encode q)) z ∙ free_part q

  same_free : p.free ≡ q.free
  same_free =
      let n : length p.free ≡ length q.free = word_0 (length p.free) (length q.free) _ _ same_part in
      let b = tail_eq (length p.free) (length q.free) _ _ same_part ∙ ap (λ (c : ℕ). pad c (reverse q.free)) (sym same-N) in
      let r = pad_eq p.count (reverse p.free) (reverse q.free) (omega (arith, length-reverse p.free, length-reverse q.free)) (omega (arith, length-reverse p.free, nodes_all m p w)) b in
      sym (reverse-reverse p.free) ∙ ap reverse r ∙ reverse-reverse q.free

  pub same_pool : p ≡ q
  same_pool = λ i. record { trees = same_trees i; count = same-N i; free = same_free i }

-- so sound words have one pool
pub sound_pool : (m : ℕ) (ws : List ℕ) → 1 ≤ m → (a b : Sound m ws) → a.pool ≡ b.pool
sound_pool m ws lo a b = same_pool m lo a.pool b.pool a.formed b.formed (a.same ∙ sym b.same)

-- PROOFS. The walk says yes exactly where the words hold a subtree, and what it hands back then
use mathlib.Core.Path.{◌≡◌, refl, sym, ap, ◌∙◌, subst}
use mathlib.Core.List.{List, [], ◌∷◌, ◌++◌}
use mathlib.Core.Bool.{Bool, true, false, cond, ◌&&◌, not}
use Prim.Native.Nat.{ℕ, zero, suc, ◌+◌, ◌≤◌}
use native.Mathlib.Omega.{arith}
use lib.ListN.{length, get_or, length-map}
use lib.Dec.{leb, eqb}
use borrow.Author.Tests.{eqb-true, eq-eqb, le-leb, leb-true, not-true}
use Rattle.forest.specs.Pairs.{Item}
use Rattle.forest.specs.Rows.{node, front, line}
use Rattle.forest.proofs.ListLaws.{both}
use Rattle.walk.specs.declared.Walked.{Walked}
use Rattle.std.proofs.Common.{Option, Some, None}
use Rattle.std.proofs.lemmas.Option.{none-some, cond_some, option_and_then_some}
use Rattle.walk.specs.Marks.{has, mark}
use Rattle.walk.proofs.Subtree.{Sub, crown, flat, pairs_of, nums_of, Flagged, Each, Filled, Held, Fresh}
use Rattle.walk.specs.Walks.{lastly}
use Rattle.walk.proofs.MarkLaws.{mark_all}
use Rattle.walk.proofs.Towers.{tops, each_join, each_left, each_right}
use Rattle.walk.specs.Walks.{climbs, ends, place, meets, leaf_fits, leaf_items, leaf_walk, inner_fits, rest, others, inner_walk, walk}
use Rattle.walk.proofs.WalkLaws.{span, lower_some, leaf_yes, leaf_does, inner_yes, inner_does}
use Rattle.forest.proofs.RowLaws.{length-line}

-- what a test before an answer says of it
pub cond_bad : {A : Type 0} (b : Bool) (o : Option A) (x : A) → cond b o None ≡ Some x → (b ≡ true) × (o ≡ Some x)
cond_bad true o x e = (refl, e)
cond_bad false o x e = absurd (none-some x e)

-- Appended lists
and_assoc : (a b c : Bool) → (a && b) && c ≡ a && (b && c)
and_assoc true b c = refl
and_assoc false b c = refl

pub climbs-append : (q : ℕ) (xs ys : List Item) → climbs q (xs ++ ys) ≡ climbs q xs && climbs (ends q xs) ys
climbs-append q [] ys = refl
climbs-append q (x ∷ xs) ys = ap (leb q x.0 &&◌) (climbs-append (suc x.0) xs ys) ∙ sym (and_assoc (leb q x.0) (climbs (suc x.0) xs) (climbs (ends (suc x.0) xs) ys))

pub ends-append : (q : ℕ) (xs ys : List Item) → ends q (xs ++ ys) ≡ ends (ends q xs) ys
ends-append q [] ys = refl
ends-append q (x ∷ xs) ys = ends-append (suc x.0) xs ys

pub marks_append : (ms xs ys : List ℕ) → mark_all ms (xs ++ ys) ≡ mark_all (mark_all ms xs) ys
marks_append ms [] ys = refl
marks_append ms (x ∷ xs) ys = marks_append (mark ms x) xs ys

pub fresh_join : (ms xs ys : List ℕ) → Fresh ms xs → Fresh (mark_all ms xs) ys → Fresh ms (xs ++ ys)
fresh_join ms [] ys f g = g
fresh_join ms (x ∷ xs) ys f g = (f.0, fresh_join (mark ms x) xs ys f.1 g)

pub fresh_left : (ms xs ys : List ℕ) → Fresh ms (xs ++ ys) → Fresh ms xs
fresh_left ms [] ys f = tt
fresh_left ms (x ∷ xs) ys f = (f.0, fresh_left (mark ms x) xs ys f.1)

pub fresh_right : (ms xs ys : List ℕ) → Fresh ms (xs ++ ys) → Fresh (mark_all ms xs) ys
fresh_right ms [] ys f = f
fresh_right ms (x ∷ xs) ys f = fresh_right (mark ms x) xs ys f.1

-- the subtrees of some children
abbrev pub subs : {A : Type 0} → (ℕ → A) → List Item → List A
subs f [] = []
subs f (x ∷ xs) = f x.1 ∷ subs f xs

pub length_subs : {A : Type 0} (f : ℕ → A) (xs : List Item) → length (subs f xs) ≡ length xs
length_subs f [] = refl
length_subs f (x ∷ xs) = ap suc (length_subs f xs)

lastly_subs : {A : Type 0} (f : ℕ → A) (e : Bool) (xs : List Item) → lastly e (subs f xs) ≡ lastly e xs
lastly_subs f e [] = refl
lastly_subs f e (x ∷ xs) = refl

lastly-line : (h : ℕ) (e : Bool) (ts : List (Sub h)) → lastly e (line (tops h ts)) ≡ lastly e ts
lastly-line h e [] = refl
lastly-line h e (t ∷ ts) = refl

-- what the walks hand back that have met the subtrees ts
abbrev pub met : (h : ℕ) → List (Sub h) → ℕ → List ℕ → ℕ → Walked
met h ts low ms q = record { marks = mark_all ms (flat (nums_of h) ts); low = low; next = ends q (flat (pairs_of h) ts) }

abbrev pub low_of : (h : ℕ) → Sub h → ℕ
low_of h t = front (crown h t).items

abbrev pub met1 : (h : ℕ) → Sub h → List ℕ → ℕ → Walked
met1 h t ms q = record { marks = mark_all ms (nums_of h t); low = low_of h t; next = ends q (pairs_of h t) }

module _ (ws : List ℕ) (T N m : ℕ) where
  abbrev pub store : ℕ → List ℕ
  store n = span ws (place T n) 16

  abbrev pub Ranged : ℕ → Type 0
  Ranged n = (1 ≤ n) × (n ≤ N)

  -- the words hold the subtree t, from the marks ms and the key q on
  pub record Fit (h : ℕ) (e : Bool) (t : Sub h) (ms : List ℕ) (q : ℕ) : Type 0 where
    pub ranged : Each Ranged (nums_of h t)
    pub fresh : Fresh ms (nums_of h t)
    pub rising : climbs q (pairs_of h t) ≡ true
    pub filled : Filled m 7 h e t
    pub held : Held store h t

  pub record Fits (h : ℕ) (e : Bool) (ts : List (Sub h)) (ms : List ℕ) (q : ℕ) : Type 0 where
    pub ranged : Each Ranged (flat (nums_of h) ts)
    pub fresh : Fresh ms (flat (nums_of h) ts)
    pub rising : climbs q (flat (pairs_of h) ts) ≡ true
    pub filled : Flagged (Filled m 7 h) e ts
    pub held : Each (Held store h) ts

  module _ (h : ℕ) (e : Bool) (t : Sub h) (ts : List (Sub h)) (ms : List ℕ) (q : ℕ) where
    fits-cons : Fit h (lastly e ts) t ms q → Fits h e ts (mark_all ms (nums_of h t)) (ends q (pairs_of h t)) → Fits h e (t ∷ ts) ms q
    fits-cons f g = record {
      ranged = each_join Ranged (nums_of h t) (flat (nums_of h) ts) f.ranged g.ranged;
      fresh = fresh_join ms (nums_of h t) (flat (nums_of h) ts) f.fresh g.fresh;
      rising = rw (climbs-append q (pairs_of h t) (flat (pairs_of h) ts), f.rising) g.rising;
      filled = (f.filled, g.filled);
      held = (f.held, g.held);
    }

    fits-parts : Fits h e (t ∷ ts) ms q → Fit h (lastly e ts) t ms q × Fits h e ts (mark_all ms (nums_of h t)) (ends q (pairs_of h t))
    fits-parts g =
        let b = both (climbs q (pairs_of h t)) (climbs (ends q (pairs_of h t)) (flat (pairs_of h) ts)) (sym (climbs-append q (pairs_of h t) (flat (pairs_of h) ts)) ∙ g.rising) in (
          record {
            ranged = each_left Ranged (nums_of h t) (flat (nums_of h) ts) g.ranged;
            fresh = fresh_left ms (nums_of h t) (flat (nums_of h) ts) g.fresh;
            rising = b.0;
            filled = g.filled.0;
            held = g.held.0;
          },
          record {
            ranged = each_right Ranged (nums_of h t) (flat (nums_of h) ts) g.ranged;
            fresh = fresh_right ms (nums_of h t) (flat (nums_of h) ts) g.fresh;
            rising = b.1;
            filled = g.filled.1;
            held = g.held.1;
          },
        )

    met-cons : (low : ℕ) → met h ts low (mark_all ms (nums_of h t)) (ends q (pairs_of h t)) ≡ met h (t ∷ ts) low ms q
    met-cons low = rw (marks_append ms (nums_of h t) (flat (nums_of h) ts), ends-append q (pairs_of h t) (flat (pairs_of h) ts))

  -- the subtree that the words would hold
  abbrev pub sub : (h : ℕ) → ℕ → Sub h
  sub zero n = node n (leaf_items ws (place T n))
  sub (suc h) n = (n, sub h (get_or ws (place T n + 8) 0) ∷ subs (sub h) (others ws (place T n)))

  pub num_sub : (h n : ℕ) → (crown h (sub h n)).num ≡ n
  num_sub zero n = refl
  num_sub (suc h) n = refl

  pub record Yes (h : ℕ) (e : Bool) (t : Sub h) (ms : List ℕ) (q : ℕ) (x : Walked) : Type 0 where
    pub fit : Fit h e t ms q
    pub out : x ≡ met1 h t ms q

  -- yes: the children
  module _ (h : ℕ) (f : Bool → ℕ → List ℕ → ℕ → Option Walked) (g : ℕ → Sub h)
      (yes : (e : Bool) (n : ℕ) (ms : List ℕ) (q : ℕ) (x : Walked) → f e n ms q ≡ Some x → Yes h e (g n) ms q x)
      (num : (n : ℕ) → (crown h (g n)).num ≡ n) where
    pub record RestYes (e : Bool) (xs : List Item) (low : ℕ) (ms : List ℕ) (q : ℕ) (x : Walked) : Type 0 where
      pub fits : Fits h e (subs g xs) ms q
      pub same : line (tops h (subs g xs)) ≡ xs
      pub out : x ≡ met h (subs g xs) low ms q

    rest-step : (e : Bool) (y : Item) (xs : List Item) (low : ℕ) (ms : List ℕ) (q : ℕ) (x : Walked) → Fit h (lastly e xs) (g y.1) ms q → low_of h (g y.1) ≡ y.0 →
        RestYes e xs low (mark_all ms (nums_of h (g y.1))) (ends q (pairs_of h (g y.1))) x → RestYes e (y ∷ xs) low ms q x
    rest-step e y xs low ms q x t l r = record {
      fits = fits-cons h e (g y.1) (subs g xs) ms q (rw (lastly_subs g e xs) t) r.fits;
      same = rw (l, num y.1, r.same);
      out = r.out ∙ met-cons h e (g y.1) (subs g xs) ms q low;
    }

    rest-yes : (e : Bool) (xs : List Item) (low : ℕ) (ms : List ℕ) (q : ℕ) (x : Walked) → rest f e xs (record { marks = ms; low = low; next = q }) ≡ Some x → RestYes e xs low ms q x
    rest-yes e [] low ms q x r = record { fits = record { ranged = tt; fresh = tt; rising = refl; filled = tt; held = tt }; same = refl; out = cc }
    rest-yes e (y ∷ xs) low ms q x r = option_and_then_some _ (f (lastly e xs) y.1 ms q) x r (λ z w s.
        let c = cond_bad (eqb z.low y.0) _ x s in
        let t = yes (lastly e xs) y.1 ms q z w in
        let l : z.low ≡ y.0 = eqb-true z.low y.0 c.0 in
        let i = rest-yes e xs low z.marks z.next x c.1 in
        rest-step e y xs low ms q x t.fit (sym (ap (λ (w : Walked). w.low) t.out) ∙ l) (subst (λ (w : Walked). RestYes e xs low w.marks w.next x) t.out i))

  -- a node may be met
  pub meets_yes : (ms : List ℕ) (n : ℕ) → meets N ms n ≡ true → (1 ≤ n) × (n ≤ N) × (has ms n ≡ false)
  unfolding meets
  meets_yes ms n e =
      let a = both (leb 1 n) (leb n N && not (has ms n)) e in
      let b = both (leb n N) (not (has ms n)) a.1 in
      (leb-true 1 n a.0, leb-true n N b.0, not-true (has ms n) b.1)

  pub meets_does : (ms : List ℕ) (n : ℕ) → 1 ≤ n → n ≤ N → has ms n ≡ false → meets N ms n ≡ true
  unfolding meets
  meets_does ms n a b c = rw (le-leb 1 n a, le-leb n N b, c)

  module _ (h : ℕ) (e : Bool) (n : ℕ) (ms : List ℕ) (q : ℕ) (a : 1 ≤ n) (b : n ≤ N) (c : has ms n ≡ false) where
    abbrev p : ℕ
    p = place T n

    -- an inner node over children that are met
    inner-fit : (t : Sub h) (ts : List (Sub h)) (i : inner_fits ws p e ≡ true) → length ts ≡ length (others ws p) → line (tops h ts) ≡ others ws p → (crown h t).num ≡ get_or ws (p + 8) 0 →
        Fits h e (t ∷ ts) (mark ms n) q → Fit (suc h) e (n, t ∷ ts) ms q
    inner-fit t ts i l s u f =
        let y = inner_yes ws p e i (lower_some e 4 (omega arith)) in
        record {
          ranged = ((a, b), f.ranged);
          fresh = (c, f.fresh);
          rising = f.rising;
          filled = (rw l y.enough, rw l y.most, f.filled);
          held = (rw (s, u) (y.words (low_of h t)), f.held);
        }

    inner_out : (t : Sub h) (ts : List (Sub h)) (x r : Walked) → inner_fits ws p e ≡ true → length ts ≡ length (others ws p) → line (tops h ts) ≡ others ws p →
        (crown h t).num ≡ get_or ws (p + 8) 0 → Fit h (lastly e ts) t (mark ms n) q → x ≡ met1 h t (mark ms n) q → Fits h e ts x.marks x.next →
        r ≡ met h ts x.low x.marks x.next → Yes (suc h) e (n, t ∷ ts) ms q r
    inner_out t ts x r i l s u f o g z = record {
      fit = inner-fit t ts i l s u (fits-cons h e t ts (mark ms n) q f (subst (λ (w : Walked). Fits h e ts w.marks w.next) o g));
      out = z ∙ ap (λ (w : Walked). met h ts w.low w.marks w.next) o ∙ met-cons h e t ts (mark ms n) q (low_of h t);
    }

  pub walk_yes : (h : ℕ) (e : Bool) (n : ℕ) (ms : List ℕ) (q : ℕ) (x : Walked) → walk ws T N m h e n ms q ≡ Some x → Yes h e (sub h n) ms q x
  unfolding leaf_walk inner_walk
  walk_yes zero e n ms q x r =
      let c = cond_bad (meets N ms n) _ x r in
      let a = meets_yes ms n c.0 in
      let d = cond_some (leaf_fits ws m (place T n) e && climbs q (leaf_items ws (place T n))) _ x c.1 in
      let l = both (leaf_fits ws m (place T n) e) (climbs q (leaf_items ws (place T n))) d.0 in
      let y = leaf_yes ws (place T n) m e l.0 in
      record {
        fit = record {
          ranged = ((a.0, a.1), tt);
          fresh = (a.2, tt);
          rising = l.1;
          filled = (y.enough, y.most);
          held = y.words;
        };
        out = sym d.1;
      }
  walk_yes (suc h) e n ms q x r =
      let c = cond_bad (meets N ms n) _ x r in
      let a = meets_yes ms n c.0 in
      let p = place T n in
      let i = cond_bad (inner_fits ws p e) _ x c.1 in
      option_and_then_some _ (walk ws T N m h (lastly e (others ws p)) (get_or ws (p + 8) 0) (mark ms n) q) x i.1 (λ z w s.
      let y = walk_yes h (lastly e (others ws p)) (get_or ws (p + 8) 0) (mark ms n) q z w in
      let j = rest-yes h (walk ws T N m h) (sub h) (walk_yes h) (num_sub h) e (others ws p) z.low z.marks z.next x s in
      inner_out h e n ms q a.0 a.1 a.2 (sub h (get_or ws (p + 8) 0)) (subs (sub h) (others ws p)) z x i.0 (length_subs (sub h) (others ws p))
      j.same (num_sub h (get_or ws (p + 8) 0)) (rw (lastly_subs (sub h) e (others ws p)) y.fit) y.out j.fits j.out)

  -- And back: where the words hold a subtree, the walk meets it
  rest_does : (h : ℕ) (f : Bool → ℕ → List ℕ → ℕ → Option Walked)
      (does : (e : Bool) (t : Sub h) (ms : List ℕ) (q : ℕ) → Fit h e t ms q → f e (crown h t).num ms q ≡ Some (met1 h t ms q))
      (e : Bool) (ts : List (Sub h)) (low : ℕ) (ms : List ℕ) (q : ℕ) → Fits h e ts ms q → rest f e (line (tops h ts)) (record { marks = ms; low = low; next = q }) ≡ Some (met h ts low ms q)
  rest_does h f does e [] low ms q g = refl
  rest_does h f does e (t ∷ ts) low ms q g =
      let p = fits-parts h e t ts ms q g in
      let d : f (lastly e (line (tops h ts))) (crown h t).num ms q ≡ Some (met1 h t ms q) = rw (lastly-line h e ts) (does (lastly e ts) t ms q p.0) in
      rw (d, eq-eqb (low_of h t) (low_of h t) refl)
      (rest_does h f does e ts low (mark_all ms (nums_of h t)) (ends q (pairs_of h t)) p.1 ∙ ap Some (met-cons h e t ts ms q low))

  inner_met : (h : ℕ) (f : Bool → ℕ → List ℕ → ℕ → Option Walked)
      (does : (e : Bool) (t : Sub h) (ms : List ℕ) (q : ℕ) → Fit h e t ms q → f e (crown h t).num ms q ≡ Some (met1 h t ms q))
      (e : Bool) (n : ℕ) (ts : List (Sub h)) (ms : List ℕ) (q : ℕ) → Fit (suc h) e (n, ts) ms q →
      cond (meets N ms n) (inner_walk f ws (place T n) e (mark ms n) q) None ≡ Some (met1 (suc h) (n, ts) ms q)
  unfolding inner_walk
  inner_met h f does e n [] ms q g = absurd (omega (arith, lower_some e 4 (omega arith), g.filled.0))
  inner_met h f does e n (t ∷ ts) ms q g =
      let k : length (line (tops h ts)) ≡ length ts = length-line (tops h ts) ∙ length-map ts (crown h) in
      let i = inner_does ws (place T n) e (low_of h t, (crown h t).num) (line (tops h ts)) g.held.0 (rw k g.filled.0) (rw k g.filled.1) in
      let p = fits-parts h e t ts (mark ms n) q (record { ranged = g.ranged.1; fresh = g.fresh.1; rising = g.rising; filled = g.filled.2; held = g.held.1 }) in
      let d : f (lastly e (line (tops h ts))) (crown h t).num (mark ms n) q ≡ Some (met1 h t (mark ms n) q) =
      rw (lastly-line h e ts) (does (lastly e ts) t (mark ms n) q p.0) in
      rw (meets_does ms n g.ranged.0.0 g.ranged.0.1 g.fresh.0, i.fits, i.same, i.first, d)
      (rest_does h f does e ts (low_of h t) (mark_all (mark ms n) (nums_of h t)) (ends q (pairs_of h t)) p.1 ∙ ap Some (met-cons h e t ts (mark ms n) q (low_of h t)))

  pub walk_does : (h : ℕ) (e : Bool) (t : Sub h) (ms : List ℕ) (q : ℕ) → Fit h e t ms q → walk ws T N m h e (crown h t).num ms q ≡ Some (met1 h t ms q)
  unfolding leaf_walk inner_walk
  walk_does zero e t ms q f =
      let d = leaf_does ws (place T t.num) m e t.items f.held f.filled.0 f.filled.1 in
      rw (meets_does ms t.num f.ranged.0.0 f.ranged.0.1 f.fresh.0, d.0, d.1, f.rising)
  walk_does (suc h) e t ms q f = inner_met h (walk ws T N m h) (walk_does h) e t.0 t.1 ms q f

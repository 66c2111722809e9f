-- PROOFS. The words of a node in those of a pool; what the loops of slice_insert and slice_shift make, turn by turn; what a search passes
use mathlib.Core.Path.{◌≡◌, refl, sym, ap, ◌∙◌}
use mathlib.Core.List.{List, [], ◌∷◌, ◌++◌, append-nil}
use mathlib.Core.Bool.{false}
use Prim.Native.Nat.{ℕ, zero, suc, ◌+◌, ◌-◌, ◌≤◌, ◌<◌}
use native.Mathlib.Numerals.{add-one}
use native.Mathlib.Omega.{arith}
use lib.ListN.{length, take, drop, set, get_or, length-drop, take-append-drop, get_or-append}
use lib.Seq.{drop-drop, take-suc, drop-cons, drop-length, set_at, length-take-le, get_or-take, get_or-drop, append_snoc, take_all, get_or-append-add}
use lib.Dec.{ltb}
use borrow.Author.Tests.{lt-ltb, le-ltb, eq-eqb, ne_eqb}
use Rattle.std.specs.Prelude.{cond, Result, Ok, Err}
use Rattle.forest.specs.Lists.{insert_at}
use Rattle.forest.specs.Slices.{block_at, inserted, shifted, KeysAbove, KeysRise, key_place, has_key, searched}
use Rattle.forest.proofs.ListLaws.{is, isnt, test, tests}

-- a word of a node that starts at place b
pub at_block : (ws : List ℕ) (b i : ℕ) → i < 16 → get_or (block_at ws b) i 0 ≡ get_or ws (b + i) 0
unfolding block_at
at_block ws b i h = get_or-take 16 (drop b ws) i 0 h ∙ get_or-drop b ws i 0

-- its first
pub first_block : (ws : List ℕ) (b : ℕ) → get_or (block_at ws b) 0 0 ≡ get_or ws b 0
first_block ws b = let z : b + 0 ≡ b = omega arith in at_block ws b 0 (omega arith) ∙ ap (λ (x : ℕ). get_or ws x 0) z

-- the words around it
pub around_block : (ws : List ℕ) (b : ℕ) → ws ≡ take b ws ++ (block_at ws b ++ drop (b + 16) ws)
unfolding block_at
around_block ws b =
    sym (ap (take b ws ++◌) (ap (take 16 (drop b ws) ++◌) (sym (drop-drop 16 b ws)) ∙ take-append-drop 16 (drop b ws)) ∙ take-append-drop b ws)

-- l with the places above j filled by what stood one before
abbrev pub moved : List ℕ → ℕ → List ℕ
moved l j = take (suc j) l ++ take (length l - suc j) (drop j l)

-- the same, with place j by itself
moved_split : (l : List ℕ) (j : ℕ) → j < length l → moved l j ≡ take j l ++ (get_or l j 0 ∷ take (length l - suc j) (drop j l))
moved_split l j h = rw (take-suc l j 0, append_snoc)

pub moved_start : (l : List ℕ) (j : ℕ) → suc j ≡ length l → l ≡ moved l j
moved_start l j h =
    let e : length l - suc j ≡ 0 = omega arith in
    rw (take_all (suc j) l (omega arith), e) (sym (append-nil l))

moved_step : (l : List ℕ) (j : ℕ) → suc j < length l → set (moved l (suc j)) (suc j) (get_or (moved l (suc j)) j 0) ≡ moved l j
moved_step l j h =
    let e : length l - suc j ≡ suc (length l - suc (suc j)) = omega arith in
    let v : get_or (moved l (suc j)) j 0 ≡ get_or l j 0 =
    get_or-append (take (suc (suc j)) l) _ 0 j (rw (length-take-le (suc (suc j)) l (omega arith)) (omega arith))
    ∙ get_or-take (suc (suc j)) l j 0 (omega arith) in
    ap (λ (m : List ℕ). set m (suc j) (get_or (moved l (suc j)) j 0)) (moved_split l (suc j) h)
    ∙ set_at (take (suc j) l) _ _ _ (suc j) (length-take-le (suc j) l (omega arith))
    ∙ rw (v, e, drop-cons l j 0 (omega arith))

-- the turn of the loop, which steps from j to j - 1: m is the list at the loop's head
pub moved_down : (l m : List ℕ) (j : ℕ) → m ≡ moved l j → 0 < j → j < length l → set m j (get_or m (j - 1) 0) ≡ moved l (j - 1)
moved_down l m zero e p h = absurd (omega arith)
moved_down l m (suc k) e p h =
    let q : suc k - 1 ≡ k = omega arith in
    rw (e, q) (moved_step l k h)

-- x between what stood before place i and what stood from there on, the last gone
insert_parts : (l : List ℕ) (i x : ℕ) → i < length l → take i l ++ (x ∷ take (length l - suc i) (drop i l)) ≡ take (length l) (insert_at i x l)
insert_parts [] i x h = absurd (omega arith)
insert_parts (y ∷ l) zero x h = let e : suc (length l) - 1 ≡ length l = omega arith in rw e
insert_parts (y ∷ l) (suc i) x h = let e : suc (length l) - suc (suc i) ≡ length l - suc i = omega arith in rw e (ap (y ∷◌) (insert_parts l i x (omega arith)))

pub moved_end : (l m : List ℕ) (i j x : ℕ) → m ≡ moved l j → j ≡ i → i < length l → set m i x ≡ inserted l i x
unfolding inserted
moved_end l m i j x e q h =
    ap (λ (k : List ℕ). set k i x) (e ∙ ap (moved l) q ∙ moved_split l i h)
    ∙ set_at (take i l) _ _ x i (length-take-le i l (omega arith))
    ∙ insert_parts l i x h

-- l with its first j places filled by what stood n later
abbrev pub shifting : List ℕ → ℕ → ℕ → List ℕ
shifting l n j = take j (drop n l) ++ drop j l

pub shifting_step : (l m : List ℕ) (n j : ℕ) → m ≡ shifting l n j → j + n < length l → set m j (get_or m (j + n) 0) ≡ shifting l n (j + 1)
shifting_step l m n j e h =
    let t : length (take j (drop n l)) ≡ j = length-take-le j (drop n l) (simp length-drop (omega arith)) in
    let v : get_or (shifting l n j) (j + n) 0 ≡ get_or (drop n l) j 0 =
    ap (λ (k : ℕ). get_or (shifting l n j) (k + n) 0) (sym t)
    ∙ get_or-append-add (take j (drop n l)) (drop j l) n 0 ∙ get_or-drop j l n 0
    ∙ ap (λ (k : ℕ). get_or l k 0) (omega arith) ∙ sym (get_or-drop n l j 0) in
    rw (e, v, add-one)
    (ap (λ (r : List ℕ). set (take j (drop n l) ++ r) j (get_or (drop n l) j 0)) (drop-cons l j 0 (omega arith))
    ∙ set_at (take j (drop n l)) _ _ _ j t
    ∙ rw (take-suc (drop n l) j 0 (simp length-drop (omega arith)), append_snoc))

pub shifting_end : (l : List ℕ) (n j : ℕ) → j ≡ length l - n → n ≤ length l → shifting l n j ≡ shifted l n
unfolding shifted
shifting_end l n j q h = ap (shifting l n) q ∙ rw (take_all (length l - n) (drop n l) (simp length-drop (omega arith)))

-- a key below all of some keys is not among them
none_above : (k f : ℕ) (fs : List ℕ) → k ≤ f → KeysAbove f fs → has_key k fs ≡ false
none_above k f [] h a = refl
none_above k f (g ∷ fs) h a = simp (ne_eqb k g (omega arith)) (none_above k f fs h a.1)

-- what a search for k finds among the keys fs, the first of which stands at place i
abbrev pub met : ℕ → ℕ → List ℕ → Result ℕ ℕ
met i k fs = cond (has_key k fs) (Ok (i + key_place k fs)) (Err (i + key_place k fs))

met_here : (i k f : ℕ) (fs : List ℕ) → f ≡ k → Ok i ≡ met i k (f ∷ fs)
met_here i k f fs e = simp (eq-eqb k f (sym e), le-ltb f k (omega arith)) (ap Ok (omega arith))

met_above : (i k f : ℕ) (fs : List ℕ) → k < f → KeysAbove f fs → Err i ≡ met i k (f ∷ fs)
met_above i k f fs g a = simp (ne_eqb k f (omega arith), none_above k f fs (omega arith) a, le-ltb f k (omega arith)) (ap Err (omega arith))

met_below : (i k f : ℕ) (fs : List ℕ) → f < k → met (suc i) k fs ≡ met i k (f ∷ fs)
met_below i k f fs g =
    let e : suc i + key_place k fs ≡ i + suc (key_place k fs) = omega arith in
    simp (ne_eqb k f (omega arith), lt-ltb f k g) (rw e refl)

rise_drop : (fs : List ℕ) (i : ℕ) → KeysRise fs → KeysRise (drop i fs)
rise_drop fs zero r = r
rise_drop [] (suc i) r = tt
rise_drop (f ∷ fs) (suc i) r = rise_drop fs i r.1

-- at the head of the loop: of the first n of l those from place i on have been asked
pub record Searching (k : ℕ) (l : List ℕ) (n i : ℕ) (found : Result ℕ ℕ) : Type 0 where
  pub past : n ≤ i → found ≡ Err n
  pub asked : i ≤ n → found ≡ met i k (drop i (take n l))

module _ (k : ℕ) (l : List ℕ) (n : ℕ) (h : n ≤ length l) where
  key_there : (i : ℕ) → i < n → drop i (take n l) ≡ get_or l i 0 ∷ drop (suc i) (take n l)
  key_there i b =
      let z : length (take n l) ≡ n = length-take-le n l h in
      drop-cons (take n l) i 0 (omega arith) ∙ ap (λ (x : ℕ). x ∷ drop (suc i) (take n l)) (get_or-take n l i 0 b)

  asked_none : (i : ℕ) → i ≡ n → Err n ≡ met i k (drop i (take n l))
  asked_none i e =
      let d : drop i (take n l) ≡ [] = ap (λ (i : ℕ). drop i (take n l)) (e ∙ sym (length-take-le n l h)) ∙ drop-length (take n l) in
      rw (d, e) (ap Err (omega arith))

  pub search_begins : (i : ℕ) → n ≤ i → Searching k l n i (Err n)
  search_begins i b = record { past = λ c. refl; asked = λ c. asked_none i (omega arith) }

  -- each turn of the loop, which steps from i to j
  module _ (i j : ℕ) (z : suc j ≡ i) (found : Result ℕ ℕ) (s : Searching k l n i found) where
    -- the place is not one of the first n
    pub search_skips : n ≤ j → Searching k l n j found
    search_skips b = rw (s.past (omega arith)) (search_begins j b)

    -- the key itself
    pub search_hits : j < n → get_or l j 0 ≡ k → Searching k l n j (Ok j)
    search_hits b e = record {
      past = λ c. absurd (omega arith);
      asked = λ c. rw (key_there j b) (met_here j k _ _ e);
    }

    -- a key above it
    pub search_stops : j < n → KeysRise (take n l) → k < get_or l j 0 → Searching k l n j (Err j)
    search_stops b r g =
        let u : KeysRise (get_or l j 0 ∷ drop (suc j) (take n l)) = rw (key_there j b) at (rise_drop (take n l) j r) in
        record {
          past = λ c. absurd (omega arith);
          asked = λ c. rw (key_there j b) (met_above j k _ _ g u.0);
        }

    -- a key below it
    pub search_passes : get_or l j 0 < k → Searching k l n j found
    search_passes g = elim (test (ltb j n)) [
      | is e ↦
          let b : j < n = omega tests in
          record {
            past = λ c. absurd (omega arith);
            asked = λ c.
                s.asked (omega arith) ∙ ap (λ (m : ℕ). met m k (drop m (take n l))) (sym z)
                ∙ rw (key_there j b) (met_below j k (get_or l j 0) (drop (suc j) (take n l)) g);
          }
      | isnt e ↦ search_skips (omega tests)
    ]

  -- at its end
  pub search_ends : (i : ℕ) (found : Result ℕ ℕ) → i ≡ 0 → Searching k l n i found → found ≡ searched k (take n l)
  unfolding searched
  search_ends i found z s =
      let e : 0 + key_place k (take n l) ≡ key_place k (take n l) = omega arith in
      s.asked (omega arith) ∙ rw (z, e) refl

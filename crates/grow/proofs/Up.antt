-- PROOFS. One node more in a row: the store of the rows above, upward, and that it holds the rows of the definition
use mathlib.Core.Path.{subst, ◌≡◌, refl, sym, ap, ◌∙◌}
use mathlib.Core.List.{List, [], ◌∷◌}
use mathlib.Core.Bool.{true, false}
use Prim.Native.Nat.{ℕ, zero, suc, ◌+◌, ◌≤◌, ◌<◌}
use native.Mathlib.Omega.{arith}
use lib.ListN.{length, take, drop, get_or}
use lib.Dec.{eqb}
use borrow.Author.Tests.{eq-eqb}
use Rattle.forest.specs.Sizes.{inner_cap}
use Rattle.forest.specs.Lists.{insert_at, sum, once, count, parent, offset}
use Rattle.forest.specs.Pairs.{Item}
use Rattle.forest.specs.Rows.{Row, node, front, nums, sizes, joined, line, items_at, keeps, put_row, full, rekey, refresh, Tower}
use Rattle.forest.specs.Trees.{numbers, seat, grow_up, need_up}
use Rattle.forest.specs.Pools.{inner_words, root_above}
use Rattle.forest.proofs.ListLaws.{is, isnt, test, total-insert_at, offset_lt, parent_start}
use Rattle.forest.proofs.RowLaws.{sum-sizes, length-line, length-items, put_row-joined, put_row-room, put_row-full, put_row_fill, keeps-fits, parent_there}
use Rattle.forest.proofs.TreeLaws.{NoneEmpty, none_empty}
use Rattle.forest.proofs.TowerLaws
use Rattle.pool.specs.Stores.{Store, put}
use Rattle.pool.proofs.Spell.{put_same, put_other}
use Rattle.grow.specs.Grows.{num_at, Holds, HoldsUp, left_part, right_part, cut_store, up_store, up_root}
use Rattle.grow.proofs.Lead
use Rattle.grow.proofs.Change
use Rattle.grow.proofs.Mem
use Rattle.forest.proofs.FrameLaws.{root-refresh}

abbrev left_of : ℕ → Item → List Item → List Item
left_of o x ys = left_part 8 (suc o) x ys

abbrev right_of : ℕ → Item → List Item → List Item
right_of o x ys = right_part 8 (suc o) x ys

-- The first key of the row below changes: no word of the rows above does
pub up_lead : (f : ℕ) (R R' : Row) (Rs : List Row) (st : Store) → Tower R Rs → line R' ≡ Lead.lead f (line R) → HoldsUp st Rs → HoldsUp st (refresh R' Rs)
up_lead f R R' [] st w e s = tt
up_lead f R R' (S ∷ Ss) st w e s =
    let some : NoneEmpty S = none_empty 4 8 S (omega arith) w.2 in
    let a : joined (Lead.lead_row f S) ≡ line R' = Lead.lead_joined f S some ∙ ap (Lead.lead f) w.1 ∙ sym e in
    let b : rekey (line R') S ≡ Lead.lead_row f S = ap (λ (xs : List Item). rekey xs S) (sym a) ∙ Lead.rekey_like (Lead.lead_row f S) S (sym (Lead.lead_sizes f S)) (sym (Lead.lead_nums f S)) in
    rw b (Mem.holds_lead f st S s.0, up_lead f S (Lead.lead_row f S) Ss st w.3 (Lead.lead_line f S some) s.1)

-- one row: the item x comes right of the i-th, and the seats of the definition are filled in from the row below
module _ (f : ℕ) (R R' S : Row) (Ss : List Row) (i : ℕ) (x : Item) (new : ℕ) (w : Tower R (S ∷ Ss)) (b : i < length R)
    (e : line R' ≡ insert_at (suc i) x (Lead.lead f (line R))) where
  abbrev par : ℕ
  par = parent (sizes S) i

  abbrev off : ℕ
  off = offset (sizes S) i

  pub in_sum : i < sum (sizes S)
  in_sum = omega (arith, sum-sizes S, ap length w.1, length-line R)

  pub par_in : par < length S
  par_in = parent_there S i in_sum

  pub off_in : off < get_or (sizes S) par 0
  off_in = offset_lt (sizes S) i in_sum

  pub some : NoneEmpty S
  some = none_empty 4 8 S (omega arith) w.2

  put-nums : (y : Item) → nums (put_row 8 par (suc off) y new S) ≡ nums (put_row 8 par (suc off) x new S)
  put-nums y = elim (test (full 8 par S)) [
    | is q ↦ put_row-full 8 par (suc off) y new S par_in q ∙ sym (put_row-full 8 par (suc off) x new S par_in q)
    | isnt q ↦ put_row-room 8 par (suc off) y new S q ∙ sym (put_row-room 8 par (suc off) x new S q)
  ]

  abbrev pub S' : Row
  S' = put_row 8 par (suc off) x new S

  pub some' : NoneEmpty S'
  some' = none_empty 4 8 S' (omega arith) (put_row_fill 8 4 par (suc off) x new S (omega arith) (omega arith) (omega arith) w.2)

  -- the row of the definition
  pub seated : rekey (line R') (put_row 8 par (suc off) seat new S) ≡ Lead.lead_row f S'
  seated =
      let start = parent_start (sizes S) i in_sum in
      let z : sum (take par (sizes S)) + suc off ≡ suc i = omega arith in
      let j : joined S' ≡ insert_at (suc i) x (line R) = put_row-joined 8 par (suc off) x new S par_in off_in ∙ rw (z, w.1) in
      let l : joined (Lead.lead_row f S') ≡ line R' = Lead.lead_joined f S' some' ∙ ap (Lead.lead f) j ∙ Lead.lead_insert f i x (line R) (rw (length-line R) (omega arith)) ∙ sym e in
      ap (λ (xs : List Item). rekey xs (put_row 8 par (suc off) seat new S)) (sym l) ∙
      Lead.rekey_like (Lead.lead_row f S') (put_row 8 par (suc off) seat new S) (Change.put-sizes 8 par (suc off) seat x new S ∙ sym (Lead.lead_sizes f S')) (put-nums seat ∙ sym (Lead.lead_nums f S'))

  some_at : 1 ≤ length (items_at S par)
  some_at = rw (length-items S par) (omega (arith, off_in))

  pub room_row : full 8 par S ≡ false → S' ≡ Change.upd par (insert_at (suc off) x) S
  room_row q = Change.put_with_room 8 par (suc off) x new S q

  pub room-line : full 8 par S ≡ false → line (Lead.lead_row f S') ≡ Lead.lead f (line S)
  room-line q =
      Lead.lead_line f S' some' ∙
      ap (λ (T : Row). Lead.lead f (line T)) (room_row q) ∙
      ap (Lead.lead f) (Change.line_same par (insert_at (suc off) x) S (Change.front-insert off x (items_at S par) some_at))

  pub full_row : full 8 par S ≡ true → S' ≡ insert_at (suc par) (node new (right_of off x (items_at S par))) (Change.upd par (left_of off x) S)
  full_row q = Change.put_cuts 8 par (suc off) x new S par_in q

  pub full-line : full 8 par S ≡ true → line (Lead.lead_row f S') ≡ insert_at (suc par) (front (right_of off x (items_at S par)), new) (Lead.lead f (line S))
  full-line q =
      let k = keeps-fits 8 4 (suc off) (omega arith) (omega arith) in
      let a : front (left_of off x (items_at S par)) ≡ front (items_at S par) =
      Change.front-take (keeps 8 (suc off)) (insert_at (suc off) x (items_at S par)) (omega (arith, k.0)) ∙ Change.front-insert off x (items_at S par) some_at in
      Lead.lead_line f S' some' ∙
      ap (λ (T : Row). Lead.lead f (line T)) (full_row q) ∙
      ap (Lead.lead f) (Change.line-insert (suc par) (node new (right_of off x (items_at S par))) (Change.upd par (left_of off x) S)) ∙
      ap (λ (xs : List Item). Lead.lead f (insert_at (suc par) (front (right_of off x (items_at S par)), new) xs)) (Change.line_same par (left_of off x) S a) ∙
      Lead.lead_insert f par (front (right_of off x (items_at S par)), new) (line S) (rw (length-line S) (omega (arith, par_in)))

-- a cut node and its new neighbour, in any row
pub cut_holds : (enc : List Item → List ℕ) (st : Store) (S : Row) (j new : ℕ) (g : List Item → List Item) (rs : List Item) → j < length S →
    ((y : ℕ) → count y (nums S) ≤ 1) → count new (nums S) ≡ 0 → Holds enc st S →
    Holds enc (cut_store enc (num_at S j) (g (items_at S j)) new rs st) (insert_at (suc j) (node new rs) (Change.upd j g S))
cut_holds enc st S j new g rs h o z s =
    Mem.holds_insert enc _ (Change.upd j g S) (suc j) (node new rs) (put_same (put st (num_at S j) (enc (g (items_at S j)))) new (enc rs))
    (Mem.frame enc (put st (num_at S j) (enc (g (items_at S j)))) new (enc rs) (Change.upd j g S) (rw (Change.upd-nums j g S) z) (Mem.holds_upd enc st S j g _ h o refl s))

-- it changes nothing but the two
pub cut_keeps : (enc : List Item → List ℕ) (st : Store) (a : ℕ) (ls : List Item) (b : ℕ) (rs : List Item) (y : ℕ) → (y ≡ a → ⊥) → (y ≡ b → ⊥) → cut_store enc a ls b rs st y ≡ st y
cut_keeps enc st a ls b rs y p q = put_other (put st a (enc ls)) b (enc rs) y q ∙ put_other st a (enc ls) y p

-- Only numbers of the rows, and those taken, change
module _ (r i : ℕ) (x : Item) (n : ℕ) (S : Row) (Ss : List Row) (b : i < n) (l : TowerLaws.Levels n (S ∷ Ss)) (y : ℕ) where
  level_at : parent (sizes S) i < length S
  level_at = parent_there S i (omega arith)

  not_at : count y (numbers (S ∷ Ss)) ≡ 0 → y ≡ num_at S (parent (sizes S) i) → ⊥
  not_at c = Mem.apart (nums S) y (num_at S (parent (sizes S) i)) (omega (arith, Mem.parts y S Ss)) (Mem.num_at-counts S (parent (sizes S) i) level_at)

pub up_keeps : (r i : ℕ) (x : Item) (new : List ℕ) (n : ℕ) (Rs : List Row) (st : Store) → i < n → TowerLaws.Levels n Rs → need_up i Rs ≤ length new →
    (y : ℕ) → count y (numbers Rs) + count y (take (need_up i Rs) new) ≡ 0 → up_store r i x new Rs st y ≡ st y
up_keeps r i x [] n [] st b l k y c = absurd (omega arith)
up_keeps r i x (a ∷ new) n [] st b l k y c = put_other st a (inner_words ((0, r) ∷ x ∷ [])) y (λ q. let z = simp (eq-eqb y a q) at c in omega arith)
up_keeps r i x [] n (S ∷ Ss) st b l k y c = elim (test (full 8 (parent (sizes S) i) S)) [
  | is e ↦ absurd (let z = simp e at k in omega arith)
  | isnt e ↦ simp e (put_other st (num_at S (parent (sizes S) i)) _ y (not_at r i x n S Ss b l y (omega arith)))
]
up_keeps r i x (a ∷ new) n (S ∷ Ss) st b l k y c = elim (test (full 8 (parent (sizes S) i) S)) [
  | is e ↦
      let d = simp e at c in
      let h = simp e at k in
      let p = Mem.parts y S Ss in
      simp e
      (up_keeps r (parent (sizes S) i) _ new (length S) Ss _ (level_at r i x n S Ss b l y) l.3 (omega arith) y (omega arith) ∙
      cut_keeps inner_words st (num_at S (parent (sizes S) i)) (left_of (offset (sizes S) i) x (items_at S (parent (sizes S) i))) a (right_of (offset (sizes S) i) x (items_at S (parent (sizes S) i))) y (not_at r i x n S Ss b l y (omega arith)) (λ q. let z = simp (eq-eqb y a q) at d in omega arith))
  | isnt e ↦ simp e (put_other st (num_at S (parent (sizes S) i)) _ y (not_at r i x n S Ss b l y (omega arith)))
]

pub count-take : (y n : ℕ) (xs : List ℕ) → count y (take n xs) ≤ count y xs
count-take y zero xs = omega arith
count-take y (suc n) [] = omega arith
count-take y (suc n) (x ∷ xs) = omega (arith, count-take y n xs)

-- one row, with room or cut
module _ (f : ℕ) (R R' S : Row) (Ss : List Row) (i : ℕ) (x : Item) (new : ℕ) (w : Tower R (S ∷ Ss)) (b : i < length R)
    (e : line R' ≡ insert_at (suc i) x (Lead.lead f (line R))) (st : Store) (s : HoldsUp st (S ∷ Ss)) where
  abbrev p : ℕ
  p = parent (sizes S) i

  abbrev o : ℕ
  o = offset (sizes S) i

  at : p < length S
  at = par_in f R R' S Ss i x new w b e

  abbrev T : Row
  T = S' f R R' S Ss i x new w b e

  room_holds : full 8 p S ≡ false → ((y : ℕ) → count y (nums S) + count y (numbers Ss) ≤ 1) →
      HoldsUp (put st (num_at S p) (inner_words (insert_at (suc o) x (items_at S p)))) (refresh R' (put_row 8 p (suc o) seat new S ∷ Ss))
  room_holds q once =
      let st' = put st (num_at S p) (inner_words (insert_at (suc o) x (items_at S p))) in
      let one = Mem.num_at-counts S p at in
      rw (seated f R R' S Ss i x new w b e) (
        Mem.holds_lead f _ T (rw (room_row f R R' S Ss i x new w b e q) (Mem.holds_upd inner_words st S p (insert_at (suc o) x) _ at (λ y. omega (arith, once y)) refl s.0)),
        up_lead f S (Lead.lead_row f T) Ss _ w.3 (room-line f R R' S Ss i x new w b e q)
            (Mem.up_keeps st _ Ss (λ y h. put_other st (num_at S p) _ y (λ z. let u = rw z at h in omega (arith, once (num_at S p)))) s.1),
      )

  abbrev cut : Store
  cut = cut_store inner_words (num_at S p) (left_of o x (items_at S p)) new (right_of o x (items_at S p)) st

  full_holds : full 8 p S ≡ true → ((y : ℕ) → count y (nums S) + count y (numbers Ss) + once (eqb y new) ≤ 1) → Holds inner_words cut (Lead.lead_row f T)
  full_holds q each =
      let z = simp (eq-eqb new new refl) at (each new) in
      Mem.holds_lead f cut T (rw (full_row f R R' S Ss i x new w b e q)
      (cut_holds inner_words st S p new (left_of o x) (right_of o x (items_at S p)) at (λ y. omega (arith, each y)) (omega arith) s.0))

  full_above : ((y : ℕ) → count y (nums S) + count y (numbers Ss) + once (eqb y new) ≤ 1) → HoldsUp cut Ss
  full_above each =
      let one = Mem.num_at-counts S p at in
      Mem.up_keeps st cut Ss (λ y h. cut_keeps inner_words st (num_at S p) (left_of o x (items_at S p)) new (right_of o x (items_at S p)) y
      (λ z. let u = rw z at h in omega (arith, each (num_at S p)))
      (λ z. let u = simp (eq-eqb y new z) at (each y) in omega arith)) s.1

  full-counts : full 8 p S ≡ true → (y : ℕ) → count y (nums (Lead.lead_row f T)) ≡ once (eqb y new) + count y (nums S)
  full-counts q y = rw (Lead.lead_nums f T, put_row-full 8 p (suc o) x new S at q) (total-insert_at (λ z. once (eqb y z)) (suc p) new (nums S))

-- THE ROWS ABOVE, in the store
pub up_holds : (f : ℕ) (R R' : Row) (Rs : List Row) (r i : ℕ) (x : Item) (new : List ℕ) (st : Store) → Tower R Rs → i < length R →
    line R' ≡ insert_at (suc i) x (Lead.lead f (line R)) → r ≡ root_above R Rs → need_up i Rs ≤ length new → ((y : ℕ) → count y (numbers Rs) + count y new ≤ 1) →
    HoldsUp st Rs → HoldsUp (up_store r i x new Rs st) (refresh R' (grow_up i new Rs))
up_holds f [] R' [] r i x new st w b e q k o s = absurd (omega arith)
up_holds f (m ∷ n ∷ R) R' [] r i x new st w b e q k o s = absurd (omega arith)
up_holds f (m ∷ []) R' [] r zero x new st w b e q k o s = rw (e, q) ((put_same st (get_or new 0 0) _, tt), tt)
up_holds f (m ∷ []) R' [] r (suc i) x new st w b e q k o s = absurd (omega arith)
up_holds f R R' (S ∷ Ss) r i x [] st w b e q k o s = elim (test (full 8 (parent (sizes S) i) S)) [
  | is c ↦ absurd (let z = simp c at k in omega arith)
  | isnt c ↦
      let v : up_store r i x [] (S ∷ Ss) st ≡ put st (num_at S (parent (sizes S) i)) (inner_words (insert_at (suc (offset (sizes S) i)) x (items_at S (parent (sizes S) i)))) = simp c refl in
      subst (λ (z : Store). HoldsUp z (refresh R' (grow_up i [] (S ∷ Ss)))) (sym v) (simp c (room_holds f R R' S Ss i x 0 w b e st s c (λ y. omega (arith, Mem.parts y S Ss, o y))))
]
up_holds f R R' (S ∷ Ss) r i x (a ∷ new) st w b e q k o s = elim (test (full 8 (parent (sizes S) i) S)) [
  | is c ↦
      let h : suc (need_up (parent (sizes S) i) Ss) ≤ suc (length new) = simp c at k in
      let each : (y : ℕ) → count y (nums S) + count y (numbers Ss) + once (eqb y a) ≤ 1 = λ y. omega (arith, Mem.parts y S Ss, o y) in
      let l = TowerLaws.tower_levels R (S ∷ Ss) w in
      let in_row = par_in f R R' S Ss i x a w b e in
      let v : up_store r i x (a ∷ new) (S ∷ Ss) st ≡ up_store r (parent (sizes S) i)
      (front (right_part inner_cap (suc (offset (sizes S) i)) x (items_at S (parent (sizes S) i))), a) new Ss
      (cut_store inner_words (num_at S (parent (sizes S) i)) (left_part inner_cap (suc (offset (sizes S) i)) x (items_at S (parent (sizes S) i)))
      a (right_part inner_cap (suc (offset (sizes S) i)) x (items_at S (parent (sizes S) i))) st) = simp c refl in
      subst (λ (z : Store). HoldsUp z (refresh R' (grow_up i (a ∷ new) (S ∷ Ss)))) (sym v) (simp c (rw (seated f R R' S Ss i x a w b e) (
        Mem.holds_keeps inner_words (cut f R R' S Ss i x a w b e st s) _ (Lead.lead_row f (T f R R' S Ss i x a w b e st s))
            (λ y g. up_keeps r (parent (sizes S) i) _ new (length S) Ss _ in_row l.3 (omega arith) y
            (omega (arith, count-take y (need_up (parent (sizes S) i) Ss) new, Mem.parts y S Ss, o y, full-counts f R R' S Ss i x a w b e st s c y)))
            (full_holds f R R' S Ss i x a w b e st s c each),
        up_holds f S (Lead.lead_row f (T f R R' S Ss i x a w b e st s)) Ss r (parent (sizes S) i) _ new _ w.3 in_row
            (full-line f R R' S Ss i x a w b e c) q (omega arith) (λ y. omega (arith, Mem.parts y S Ss, o y)) (full_above f R R' S Ss i x a w b e st s each),
      )))
  | isnt c ↦
      let v : up_store r i x (a ∷ new) (S ∷ Ss) st ≡ put st (num_at S (parent (sizes S) i)) (inner_words (insert_at (suc (offset (sizes S) i)) x (items_at S (parent (sizes S) i)))) = simp c refl in
      subst (λ (z : Store). HoldsUp z (refresh R' (grow_up i (a ∷ new) (S ∷ Ss)))) (sym v) (simp c (room_holds f R R' S Ss i x a w b e st s c (λ y. omega (arith, Mem.parts y S Ss, o y))))
]

-- and the root
pub up_root_lem : (f : ℕ) (R R' : Row) (Rs : List Row) (r i : ℕ) (x : Item) (new : List ℕ) → Tower R Rs → i < length R →
    line R' ≡ insert_at (suc i) x (Lead.lead f (line R)) → r ≡ root_above R Rs → root_above R' (refresh R' (grow_up i new Rs)) ≡ up_root r i new Rs
up_root_lem f R R' [] r i x new w b e q = refl
up_root_lem f R R' (S ∷ Ss) r i x new w b e q = elim (test (full 8 (parent (sizes S) i) S)) [
  | is c ↦ simp c (rw (seated f R R' S Ss i x (get_or new 0 0) w b e)
      (up_root_lem f S (Lead.lead_row f (S' f R R' S Ss i x (get_or new 0 0) w b e)) Ss r (parent (sizes S) i) _ (drop 1 new) w.3 (par_in f R R' S Ss i x (get_or new 0 0) w b e)
      (full-line f R R' S Ss i x (get_or new 0 0) w b e c) q))
  | isnt c ↦ simp c (rw (seated f R R' S Ss i x (get_or new 0 0) w b e)
      (root-refresh S (Lead.lead_row f (S' f R R' S Ss i x (get_or new 0 0) w b e)) Ss
      (Lead.lead_nums f (S' f R R' S Ss i x (get_or new 0 0) w b e) ∙ put_row-room 8 (parent (sizes S) i) (suc (offset (sizes S) i)) x (get_or new 0 0) S c) ∙ sym q))
]

-- PROOFS. The rows above the leaves: they stay stacked and filled, and no number is lost or doubled
use mathlib.Core.Path.{◌≡◌, refl, sym, ap, ◌∙◌}
use mathlib.Core.List.{List, [], ◌∷◌}
use mathlib.Core.Bool.{Bool, true, false, cond}
use Prim.Native.Nat.{ℕ, suc, ◌+◌, ◌≤◌, ◌<◌}
use native.Mathlib.Omega.{arith}
use lib.ListN.{length, take, drop, get_or, length-drop, length-map}
use lib.Dec.{ltb}
use borrow.Author.Tests.{le-ltb, ltb-true, ltb-false}
use Rattle.forest.specs.Lists.{remove_at, sum, total, parent, offset}
use Rattle.forest.specs.Pairs.{Item}
use Rattle.forest.specs.Rows.{Row, nums, sizes, joined, line, Fill, Tower, put_row, full, rekey, refresh}
use Rattle.forest.specs.Trees.{numbers, seat, grow_up, need_up, drop_at, lost, drop_up, freed_up, trim, from_top, trimmed}
use Rattle.forest.proofs.ListLaws.{is, isnt, test, tests, length-insert_at, length-remove_at, offset_lt, parent_start, total-append, total-insert_at, total-remove_at, total_head, drop_one}
use Rattle.forest.proofs.RowLaws.{sum-sizes, length-line, put_row-joined, put_row-room, put_row-full, put_row_fill, drop_row_joined, drop_row_kept, drop_row_lost, drop_row_length, drop_row_fill, rekey-nums, rekey-sizes, rekey-joined, rekey-length, parent_there}

-- the counts of the rows above n nodes
abbrev pub Levels : ℕ → List Row → Type 0
Levels n [] = n ≡ 1
Levels n (S ∷ Ss) = (2 ≤ n) × (sum (sizes S) ≡ n) × Fill 4 8 (sizes S) × Levels (length S) Ss

-- the same but for the root's rule
abbrev pub Stack : ℕ → List Row → Type 0
Stack n [] = n ≡ 1
Stack n (S ∷ Ss) = (1 ≤ n) × (sum (sizes S) ≡ n) × Fill 4 8 (sizes S) × Stack (length S) Ss

pub tower_some : (R : Row) (Rs : List Row) → Tower R Rs → 1 ≤ length R
tower_some R [] w = omega arith
tower_some R (S ∷ Ss) w = omega arith

pub tower_levels : (R : Row) (Rs : List Row) → Tower R Rs → Levels (length R) Rs
tower_levels R [] w = w
tower_levels R (S ∷ Ss) w = (w.0, sum-sizes S ∙ ap length w.1 ∙ length-line R, w.2, tower_levels S Ss w.3)

-- what is brought up to date is stacked
pub refresh_tower : (R : Row) (Rs : List Row) → Levels (length R) Rs → Tower R (refresh R Rs)
refresh_tower R [] w = w
refresh_tower R (S ∷ Ss) w =
    let z : sum (sizes S) ≡ length (line R) = w.1 ∙ sym (length-line R) in
    (w.0, rekey-joined (line R) S z, rw (rekey-sizes (line R) S z) w.2, refresh_tower (rekey (line R) S) Ss (rw (rekey-length (line R) S) w.3))

-- a tower stands as well on a row with the same line
pub tower_line : (R R' : Row) (Rs : List Row) → line R' ≡ line R → Tower R Rs → Tower R' Rs
tower_line R R' [] e w = sym (length-line R') ∙ ap length e ∙ length-line R ∙ w
tower_line R R' (S ∷ Ss) e w =
    let z : length R' ≡ length R = sym (length-line R') ∙ ap length e ∙ length-line R in
    (omega arith, w.1 ∙ sym e, w.2, w.3)

length-nums : (R : Row) → length (nums R) ≡ length R
length-nums R = length-map R (λ n. n.num)

pub put_row-length-room : (c j p : ℕ) (x : Item) (new : ℕ) (R : Row) → full c j R ≡ false → length (put_row c j p x new R) ≡ length R
put_row-length-room c j p x new R e = sym (length-nums (put_row c j p x new R)) ∙ ap length (put_row-room c j p x new R e) ∙ length-nums R

pub put_row-length-full : (c j p : ℕ) (x : Item) (new : ℕ) (R : Row) → j < length R → full c j R ≡ true → length (put_row c j p x new R) ≡ suc (length R)
put_row-length-full c j p x new R h e =
    sym (length-nums (put_row c j p x new R)) ∙ ap length (put_row-full c j p x new R h e) ∙ length-insert_at (suc j) new (nums R) ∙ ap suc (length-nums R)

-- one node more in the row below
module _ (i new : ℕ) (S : Row) (h : i < sum (sizes S)) where
  abbrev grown : Row
  grown = put_row 8 (parent (sizes S) i) (suc (offset (sizes S) i)) seat new S

  up_lt : parent (sizes S) i < length S
  up_lt = parent_there S i h

  up_sum : sum (sizes grown) ≡ suc (sum (sizes S))
  up_sum =
      sum-sizes grown ∙
      ap length (put_row-joined 8 (parent (sizes S) i) (suc (offset (sizes S) i)) seat new S up_lt (offset_lt (sizes S) i h)) ∙
      length-insert_at (sum (take (parent (sizes S) i) (sizes S)) + suc (offset (sizes S) i)) seat (joined S) ∙ ap suc (sym (sum-sizes S))

  up_fill : Fill 4 8 (sizes S) → Fill 4 8 (sizes grown)
  up_fill f = put_row_fill 8 4 (parent (sizes S) i) (suc (offset (sizes S) i)) seat new S (omega arith) (omega arith) (omega arith) f

pub grow_levels : (n : ℕ) (Rs : List Row) (i : ℕ) (new : List ℕ) → i < n → Levels n Rs → Levels (suc n) (grow_up i new Rs)
grow_levels n [] i new h w = (omega arith, omega arith, (omega arith, omega arith, tt), refl)
grow_levels n (S ∷ Ss) i new h w =
    let b : i < sum (sizes S) = omega arith in
    let x = get_or new 0 0 in
    let u = up_sum i x S b in
    elim (test (full 8 (parent (sizes S) i) S)) [
      | is e ↦ simp e (
        omega arith,
        omega arith,
        up_fill i x S b w.2,
        rw (put_row-length-full 8 (parent (sizes S) i) (suc (offset (sizes S) i)) seat x S (up_lt i x S b) e)
            (grow_levels (length S) Ss (parent (sizes S) i) (drop 1 new) (up_lt i x S b) w.3),
      )
      | isnt e ↦ simp e (
        omega arith,
        omega arith,
        up_fill i x S b w.2,
        rw (put_row-length-room 8 (parent (sizes S) i) (suc (offset (sizes S) i)) seat x S e) w.3,
      )
    ]

-- one node less in the row below
pub levels_stack : (n : ℕ) (Rs : List Row) → Levels n Rs → Stack n Rs
levels_stack n [] w = w
levels_stack n (S ∷ Ss) w = (omega arith, w.1, w.2, levels_stack (length S) Ss w.3)

module _ (i : ℕ) (S : Row) (h : i < sum (sizes S)) where
  down_lt : parent (sizes S) i < length S
  down_lt = parent_there S i h

  down-joined : joined (drop_at i S) ≡ remove_at i (joined S)
  down-joined =
      rw (drop_row_joined 8 (parent (sizes S) i) (offset (sizes S) i) S down_lt (offset_lt (sizes S) i h), parent_start (sizes S) i h)

  down-sum : suc (sum (sizes (drop_at i S))) ≡ sum (sizes S)
  down-sum =
      let a : i < length (joined S) = omega (arith, sum-sizes S) in
      let b : sum (sizes (drop_at i S)) ≡ length (remove_at i (joined S)) = sum-sizes (drop_at i S) ∙ ap length down-joined in
      omega (arith, sum-sizes S, length-remove_at i (joined S) a)

  down_fill : Fill 4 8 (sizes S) → Fill 4 8 (sizes (drop_at i S))
  down_fill f = drop_row_fill 8 4 (omega arith) (omega arith) (parent (sizes S) i) (offset (sizes S) i) S (offset_lt (sizes S) i h) f

  down-length : (length (drop_at i S) ≤ length S) × (length S ≤ suc (length (drop_at i S)))
  down-length = drop_row_length 8 (parent (sizes S) i) (offset (sizes S) i) S

  down-kept : lost (drop_at i S) S ≡ false → nums (drop_at i S) ≡ nums S
  down-kept e = drop_row_kept 8 (parent (sizes S) i) (offset (sizes S) i) S (ltb-false _ _ e)

  down-lost : lost (drop_at i S) S ≡ true → nums (drop_at i S) ≡ remove_at (parent (sizes S) i) (nums S)
  down-lost e = drop_row_lost 8 (parent (sizes S) i) (offset (sizes S) i) S (ltb-true _ _ e)

pub some_length : (S : Row) → 1 ≤ sum (sizes S) → 1 ≤ length S
some_length [] h = h
some_length (n ∷ S) h = omega arith

pub drop_up-length : (i : ℕ) (Rs : List Row) → length (drop_up i Rs) ≡ length Rs
drop_up-length i [] = refl
drop_up-length i (S ∷ Ss) = elim (test (lost (drop_at i S) S)) [ is e ↦ simp e (ap suc (drop_up-length (parent (sizes S) i) Ss)) | isnt e ↦ simp e ]

pub went_length : (b : Bool) (i : ℕ) (Rs : List Row) → length (cond b (drop_up i Rs) Rs) ≡ length Rs
went_length true i Rs = drop_up-length i Rs
went_length false i Rs = refl

pub drop-levels : (n : ℕ) (Rs : List Row) (i : ℕ) → 1 ≤ n → i < suc n → Levels (suc n) Rs → Stack n (drop_up i Rs)
drop-levels n [] i g h w = absurd (omega arith)
drop-levels n (S ∷ Ss) i g h w =
    let b : i < sum (sizes S) = omega arith in
    let t = down-sum i S b in
    let z = down-length i S b in
    let s = some_length (drop_at i S) (omega arith) in
    elim (test (lost (drop_at i S) S)) [
      | is e ↦
          let q : length S ≡ suc (length (drop_at i S)) = omega tests in
          simp e (g, omega arith, down_fill i S b w.2, drop-levels (length (drop_at i S)) Ss (parent (sizes S) i) s (rw q at (down_lt i S b)) (rw q at w.3))
      | isnt e ↦
          let q : length (drop_at i S) ≡ length S = omega tests in
          simp e (g, omega arith, down_fill i S b w.2, rw q (levels_stack (length S) Ss w.3))
    ]

pub trim_levels : (R : Row) (Rs : List Row) → Stack (length R) Rs → Levels (length R) (trim R Rs)
trim_levels R [] w = w
trim_levels R (S ∷ Ss) w = elim (test (ltb (length R) 2)) [
  | is e ↦ simp e (omega tests)
  | isnt e ↦ simp e (omega tests, w.1, w.2, trim_levels S Ss w.3)
]

-- Numbers, by any weight: what a row gains the list loses, and the other way round
pub refresh-numbers : (R : Row) (Rs : List Row) → numbers (refresh R Rs) ≡ numbers Rs
refresh-numbers R [] = refl
refresh-numbers R (S ∷ Ss) = rw (rekey-nums (line R) S, refresh-numbers (rekey (line R) S) Ss)

module _ (w : ℕ → ℕ) where
  abbrev pub weight : List Row → ℕ
  weight Rs = total w (numbers Rs)

  pub grow_weight : (n : ℕ) (Rs : List Row) (i : ℕ) (new : List ℕ) → i < n → Levels n Rs → need_up i Rs ≤ length new →
      weight (grow_up i new Rs) + total w (drop (need_up i Rs) new) ≡ weight Rs + total w new
  grow_weight n [] i new h l k = omega (arith, total_head w new k)
  grow_weight n (S ∷ Ss) i new h l k =
      let b : i < sum (sizes S) = omega arith in
      let x = get_or new 0 0 in
      let j = parent (sizes S) i in
      elim (test (full 8 (parent (sizes S) i) S)) [
        | is e ↦
            let c : suc (need_up (parent (sizes S) i) Ss) ≤ length new = simp e at k in
            simp (e, put_row-full 8 (parent (sizes S) i) (suc (offset (sizes S) i)) seat (get_or new 0 0) S (up_lt i (get_or new 0 0) S b) e, total-append)
            (omega (
              arith,
              total-insert_at w (suc (parent (sizes S) i)) (get_or new 0 0) (nums S),
              total_head w new (omega arith),
              ap (total w) (drop_one (need_up (parent (sizes S) i) Ss) new),
              grow_weight (length S) Ss (parent (sizes S) i) (drop 1 new) (up_lt i x S b) l.3 (rw length-drop (omega arith)),
            ))
        | isnt e ↦ simp (e, put_row-room 8 (parent (sizes S) i) (suc (offset (sizes S) i)) seat (get_or new 0 0) S e)
      ]

  pub drop_weight : (n : ℕ) (Rs : List Row) (i : ℕ) → i < n → Levels n Rs → weight (drop_up i Rs) + total w (freed_up i Rs) ≡ weight Rs
  drop_weight n [] i h l = refl
  drop_weight n (S ∷ Ss) i h l =
      let b : i < sum (sizes S) = omega arith in
      elim (test (lost (drop_at i S) S)) [
        | is e ↦ simp (e, down-lost i S b e, total-append) (omega (
          arith,
          total-remove_at w (parent (sizes S) i) (nums S) (rw (length-nums S) (down_lt i S b)),
          drop_weight (length S) Ss (parent (sizes S) i) (down_lt i S b) l.3,
        ))
        | isnt e ↦ simp (e, down-kept i S b e) (omega arith)
      ]

  pub top_weight : (Rs : List Row) → total w (from_top Rs) ≡ weight Rs
  top_weight [] = refl
  top_weight (S ∷ Ss) = simp total-append (omega (arith, top_weight Ss))

  pub trim_weight : (R : Row) (Rs : List Row) → weight (trim R Rs) + total w (trimmed R Rs) ≡ weight Rs
  trim_weight R [] = refl
  trim_weight R (S ∷ Ss) = elim (test (ltb (length R) 2)) [
    | is e ↦ simp e (omega (arith, top_weight (S ∷ Ss)))
    | isnt e ↦ simp (e, total-append) (omega (arith, trim_weight S Ss))
  ]

-- a tower that stands is not trimmed
pub levels-trimmed : (R : Row) (Rs : List Row) → Levels (length R) Rs → trimmed R Rs ≡ []
levels-trimmed R [] w = refl
levels-trimmed R (S ∷ Ss) w = simp (le-ltb (length R) 2 w.0) (levels-trimmed S Ss w.3)

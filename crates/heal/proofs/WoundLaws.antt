-- PROOFS. The words of a wounded node and of its right neighbour; storing them leaves the way as it is
use mathlib.Core.Path.{◌≡◌, sym, ap, ◌∙◌}
use mathlib.Core.List.{List, [], ◌++◌}
use Rattle.std.specs.Prelude.{Some}
use Prim.Native.Nat.{ℕ, suc, ◌≤◌, ◌<◌}
use native.Mathlib.Omega.{arith}
use lib.ListN.{length, get_or, length-map}
use lib.Dec.{ltb}
use borrow.Author.Tests.{ltb-true, ltb-false}
use Rattle.forest.specs.Lists.{remove_at, count, parent, offset}
use Rattle.forest.specs.Pairs.{Item}
use Rattle.forest.specs.Rows.{Row, size, nums, sizes, items_at, front}
use Rattle.forest.specs.Trees.{numbers}
use Rattle.forest.proofs.ListLaws.{is, isnt, test, length-remove_at}
use Rattle.forest.proofs.RowLaws.{length-items, fill_at}
use Rattle.pool.specs.Stores.{Store}
use Rattle.crit.specs.States.{State, right_sibling}
use Rattle.crit.specs.Paths.{num_at}
use Rattle.heal.specs.Steps.{Ops}
use Rattle.heal.specs.Wounds.{Wounded, alive, dead, cut_row}
use Rattle.crit.proofs.HealRows
use Rattle.crit.proofs.HealStack
use Rattle.crit.proofs.HealMem
use Rattle.crit.proofs.HealPath
use Rattle.heal.proofs.HealUp.{Lawful}
use Rattle.heal.proofs.HealReady.{par_in, len-C, path_c, off_in}
use Rattle.heal.proofs.FreeLaws.{within_named}
use Rattle.forest.proofs.WordLaws.{count-append}

-- a node of a row, with its words
pub record Held (enc : List Item → List ℕ) (cap N : ℕ) (R : Row) (st : Store) (n : ℕ) : Type 0 where
  pub some : 1 ≤ n
  pub few : n ≤ N
  pub inside : 1 ≤ count n (nums R)
  pub items : List Item
  pub words : st n ≡ enc items
  pub one : 1 ≤ length items
  pub room : length items ≤ cap

module _ {enc : List Item → List ℕ} {cap low : ℕ} {o : Ops} (law : Lawful o enc cap low) (N l : ℕ) (s : State) (w : Wounded enc cap low N l s) where
  abbrev par : ℕ
  par = parent (sizes w.row) w.at

  abbrev C : Row
  C = cut_row w.at w.row

  nums-C : nums C ≡ nums w.row
  nums-C = HealRows.upd-nums (parent (sizes w.row) w.at) (remove_at (offset (sizes w.row) w.at)) w.row

  held : HealMem.Holds enc s.st C → (j : ℕ) → j < length C → 1 ≤ length (items_at C j) → length (items_at C j) ≤ cap → Held enc cap N w.row s.st (num_at C j)
  held row j h one few =
      let c = HealMem.num_at-counts C j h in
      let c2 : 1 ≤ count (num_at C j) (nums w.row) = rw (← nums-C) c in
      let k = within_named N (nums w.row ++ numbers w.rows) s.free w.within (num_at C j) (omega (arith, count-append (num_at C j) (nums w.row) (numbers w.rows))) in
      record { some = k.0; few = k.1; inside = c2; items = items_at C j; words = HealMem.holds_at enc s.st C j h row; one = one; room = few }

  xs_is : items_at C par ≡ remove_at (offset (sizes w.row) w.at) (items_at w.row (parent (sizes w.row) w.at))
  xs_is = HealRows.upd_same (parent (sizes w.row) w.at) (remove_at (offset (sizes w.row) w.at)) w.row (par_in law N l s w)

  none_here : length (items_at w.row (parent (sizes w.row) w.at)) ≡ 1 → s.st (s.ns (length w.rows)) ≡ Rattle.forest.specs.Lists.pad 16 [] → 1 ≤ o.entries (s.st (s.ns l)) → ⊥
  none_here one zeros h = let z : o.entries (s.st (s.ns l)) ≡ 0 = rw (← w.level) (ap o.entries zeros ∙ law.entries_none) in omega arith

  -- the node itself
  pub held_here : 1 ≤ o.entries (s.st (s.ns l)) → Held enc cap N w.row s.st (s.ns l)
  held_here h = elim w.left [
    | dead one st big zeros rest ↦ absurd (none_here one zeros h)
    | alive more st row ↦
        let lx = length-remove_at (offset (sizes w.row) w.at) (items_at w.row (parent (sizes w.row) w.at)) (off_in law N l s w) in
        let z = ap length xs_is in
        let f : length (items_at w.row (parent (sizes w.row) w.at)) ≤ cap = rw (length-items w.row (parent (sizes w.row) w.at)) (fill_at low cap (sizes w.row) (parent (sizes w.row) w.at) w.fill) in
        let n : s.ns l ≡ num_at C (parent (sizes w.row) w.at) = rw (← w.level) (HealPath.path_node C (parent (sizes w.row) w.at) w.rows s.ns s.ps (path_c law N l s w)) in
        rw n (held row (parent (sizes w.row) w.at) (rw (len-C law N l s w) (par_in law N l s w)) (omega arith) (omega arith))
  ]

  -- its right neighbour
  pub held_mate : (x : Item) → 1 ≤ o.entries (s.st (s.ns l)) → right_sibling s.st s.ns s.ps l ≡ Some x → Held enc cap N w.row s.st x.1
  held_mate x h r = elim w.left [
    | dead one st big zeros rest ↦ absurd (none_here one zeros h)
    | alive more st row ↦
        let r2 : right_sibling s.st s.ns s.ps (length w.rows) ≡ Some x = rw w.level r in
        elim (test (ltb (suc (parent (sizes w.row) w.at)) (length C))) [
          | is e ↦
              let b = ltb-true (suc (parent (sizes w.row) w.at)) (length C) e in
              let q = HealPath.right_is s.st s.ns s.ps C (parent (sizes w.row) w.at) w.rows b st w.up (path_c law N l s w) ∙ ap Some (HealRows.line_at (0, 0) C (suc (parent (sizes w.row) w.at)) b) in
              let i : ◌≡◌ {A = Item} (front (items_at C (suc (parent (sizes w.row) w.at))), num_at C (suc (parent (sizes w.row) w.at))) x = cc (q, r2) in
              let n : x.1 ≡ num_at C (suc (parent (sizes w.row) w.at)) = ap (λ (y : Item). y.1) (sym i) in
              let ly : length (items_at C (suc (parent (sizes w.row) w.at))) ≡ get_or (sizes w.row) (suc (parent (sizes w.row) w.at)) 0 =
              ap length (HealRows.upd-next (parent (sizes w.row) w.at) (remove_at (offset (sizes w.row) w.at)) w.row) ∙ length-items w.row (suc (parent (sizes w.row) w.at)) in
              let some-ys = HealStack.some_at (sizes w.row) (suc (parent (sizes w.row) w.at)) (HealStack.fill_some low cap (sizes w.row) (omega (arith, law.least_two)) w.fill) (rw (length-map w.row size) (omega (arith, len-C law N l s w))) in
              let few-ys = fill_at low cap (sizes w.row) (suc (parent (sizes w.row) w.at)) w.fill in
              rw n (held row (suc (parent (sizes w.row) w.at)) b (omega arith) (omega arith))
          | isnt e ↦
              let z = ltb-false (suc (parent (sizes w.row) w.at)) (length C) e in
              let q = HealPath.right_none s.st s.ns s.ps C (parent (sizes w.row) w.at) w.rows (omega (arith, len-C law N l s w, par_in law N l s w)) st w.up (path_c law N l s w) in
              absurd (let k : ◌≡◌ {A = ℕ} 0 1 = cc (q, r2) in omega arith)
        ]
  ]

-- PROOFS. Each call inside the cycle finds the state it asks for
use mathlib.Core.Path.{◌≡◌, refl, sym, ap, ◌∙◌, subst}
use mathlib.Core.List.{List, [], ◌∷◌, ◌++◌}
use mathlib.Core.Bool.{◌&&◌}
use Rattle.std.specs.Prelude.{Some}
use Prim.Native.Nat.{ℕ, suc, ◌+◌, ◌≤◌, ◌<◌}
use native.Mathlib.Omega.{arith}
use lib.ListN.{length, get_or, length-map}
use lib.Dec.{ltb, leb}
use borrow.Author.Tests.{ltb-true, ltb-false}
use Rattle.forest.specs.Lists.{remove_at, parent, offset}
use Rattle.forest.specs.Pairs.{Item}
use Rattle.forest.specs.Rows.{Row, size, front, nums, sizes, items_at}
use Rattle.forest.specs.Trees.{numbers}
use Rattle.forest.specs.Pools.{inner_words}
use Rattle.forest.proofs.ListLaws.{is, isnt, test}
use Rattle.forest.proofs.RowLaws.{length-items, parent_there, offset_there}
use Rattle.crit.specs.States.{State, stored}
use Rattle.heal.specs.Steps.{Ops, free_node, parent_cut, empty_node}
use Rattle.heal.specs.Wounds.{Emptied, Wounded, alive, dead, Within}
use Rattle.crit.proofs.HealRows
use Rattle.crit.proofs.HealStack
use Rattle.crit.proofs.HealMem
use Rattle.crit.proofs.HealPath
use Rattle.crit.proofs.HealNext
use Rattle.heal.proofs.HealMend
use Rattle.heal.proofs.HealStep
use Rattle.forest.proofs.CountLaws.{small}
use Rattle.heal.proofs.HealCut.{cut_length, cut_name, cut_path, cut_left, alone_gap, alone_two}
use Rattle.heal.proofs.HealUp.{Lawful, empty_up, wounded}
use Rattle.forest.proofs.WordLaws.{count-append}

-- a number that stands once among those in use and the free ones
pub within_once : (N : ℕ) (xs free : List ℕ) → Within N xs free → HealMem.Once xs
within_once N xs free w x = omega (arith, w x, small (leb 1 x && leb x N))

-- empty_node calls heal_level
pub ready_cut : {o : Ops} (law : Lawful o inner_words 8 4) (N l : ℕ) (s : State) → Emptied N (suc l) s → Wounded inner_words 8 4 N l (parent_cut o (free_node s (s.ns (suc l))) l)
ready_cut {o} law N l s e = from e.rows e.level e.stacked e.within e.up e.path
  where
    from : (rows : List Row) → length rows ≡ suc l → HealStack.Stacked e.row rows → Within N (HealRows.num_at e.row e.at ∷ numbers rows) s.free → HealMem.HoldsUp s.st rows →
        HealPath.Leads e.row e.at rows s.ns s.ps → Wounded inner_words 8 4 N l (parent_cut o (free_node s (s.ns (suc l))) l)
    from [] q st within up p = absurd (omega arith)
    from (S ∷ Ss) q st within up p =
        let q' : length Ss ≡ l = omega arith in
        subst (λ (l : ℕ). Wounded inner_words 8 4 N l (parent_cut o (free_node s (s.ns (suc l))) l)) q'
        (subst (λ (n : ℕ). Wounded inner_words 8 4 N (length Ss) (parent_cut o (free_node s n) (length Ss))) (sym p.0)
        (wounded law (empty_node o (length Ss)) e.row e.below e.at S Ss (empty_up law (length Ss)) s e.gap e.inside e.two st (within_once N (HealRows.num_at e.row e.at ∷ numbers (S ∷ Ss)) s.free within) up p N within))

module _ {enc : List Item → List ℕ} {cap low : ℕ} {o : Ops} (law : Lawful o enc cap low) (N l : ℕ) (s : State) (w : Wounded enc cap low N l s) where
  abbrev S : Row
  S = w.row

  abbrev par : ℕ
  par = parent (sizes w.row) w.at

  abbrev C : Row
  C = HealStep.cut_row w.at w.row

  pub par_in : parent (sizes w.row) w.at < length w.row
  par_in = parent_there w.row w.at w.inside

  pub off_in : offset (sizes w.row) w.at < length (items_at w.row (parent (sizes w.row) w.at))
  off_in = offset_there w.row w.at w.inside

  pub once_row : HealMem.Once (nums w.row ++ numbers w.rows)
  once_row = within_once N (nums w.row ++ numbers w.rows) s.free w.within

  apart : HealMem.Apart (nums w.row) (numbers w.rows)
  apart = HealMem.once-append (nums w.row) (numbers w.rows) once_row

  pub len-C : length C ≡ length w.row
  len-C = cut_length w.at w.row

  pub path_c : HealPath.Leads C (parent (sizes w.row) w.at) w.rows s.ns s.ps
  path_c = cut_path w.at w.row w.rows s.ns s.ps w.path

  -- heal_level calls empty_node
  pub ready_none : o.entries (s.st (s.ns l)) ≡ 0 → Emptied N l s
  ready_none z = elim w.left [
    | alive more st row ↦
        let xs : items_at C (parent (sizes w.row) w.at) ≡ remove_at (offset (sizes w.row) w.at) (items_at w.row (parent (sizes w.row) w.at)) =
        HealRows.upd_same (parent (sizes w.row) w.at) (remove_at (offset (sizes w.row) w.at)) w.row par_in in
        let lx = cut_left w.at w.row w.inside in
        let some-xs : 1 ≤ length (items_at C (parent (sizes w.row) w.at)) = omega (arith, ap length xs) in
        let a : s.st (s.ns (length w.rows)) ≡ enc (items_at C (parent (sizes w.row) w.at)) =
        ap s.st (HealPath.path_node C (parent (sizes w.row) w.at) w.rows s.ns s.ps path_c) ∙ HealMem.holds_at enc s.st C (parent (sizes w.row) w.at) (omega (arith, len-C, par_in)) row in
        let b : o.entries (s.st (s.ns (length w.rows))) ≡ length (items_at C (parent (sizes w.row) w.at)) = ap o.entries a ∙ law.entries_is (items_at C (parent (sizes w.row) w.at)) some-xs in
        let c = rw w.level at b in
        absurd (omega arith)
    | dead one st big zeros rest ↦
        record {
          row = w.row;
          below = remove_at (parent (sizes w.row) w.at) w.row;
          at = parent (sizes w.row) w.at;
          rows = w.rows;
          level = w.level;
          gap = alone_gap w.at w.row w.inside low cap law.least_two w.fill one;
          inside = par_in;
          two = alone_two w.at w.row w.inside low cap law.least_two w.fill one big;
          stacked = st;
          within = λ x. omega (arith, HealMem.gone_count w.row (parent (sizes w.row) w.at) x par_in, w.within x, count-append x (nums w.row) (numbers w.rows));
          up = w.up;
          path = w.path;
        }
  ]

  -- underflowed_node calls empty_node
  abbrev L : ℕ
  L = length w.rows

  abbrev xs : List Item
  xs = items_at C (parent (sizes w.row) w.at)

  abbrev ys : List Item
  ys = items_at C (suc (parent (sizes w.row) w.at))

  abbrev mate : ℕ
  mate = HealRows.num_at C (suc (parent (sizes w.row) w.at))

  once_c : HealMem.Once (nums C ++ numbers w.rows)
  once_c = rw (HealRows.upd-nums (parent (sizes w.row) w.at) (remove_at (offset (sizes w.row) w.at)) w.row) once_row

  emptied : (st' : HealMem.Store) → HealStep.Merged enc C (parent (sizes w.row) w.at) w.rows s.st st' → suc (parent (sizes w.row) w.at) < length C → Emptied N L (stored s st')
  emptied st' m h = record {
    row = m.ghost;
    below = HealMend.merge_at (parent (sizes w.row) w.at) C;
    at = parent (sizes w.row) w.at;
    rows = m.rows;
    level = HealNext.shape-length m.shape;
    gap = m.gap;
    inside = rw m.len (omega arith);
    two = rw m.len (omega arith);
    stacked = m.stacked;
    within = λ x. rw (m.name ∙ cut_name w.at w.row, HealNext.shape-numbers m.shape) (omega (arith, HealMem.gone_count w.row (parent (sizes w.row) w.at) x par_in, w.within x, count-append x (nums w.row) (numbers w.rows)));
    up = m.up;
    path = HealNext.path_shape C m.ghost (parent (sizes w.row) w.at) s.ns s.ps (sym m.name) (HealStack.same_sym m.shape) path_c;
  }

  merge_here : 2 ≤ length (items_at w.row (parent (sizes w.row) w.at)) → HealStack.Stacked C w.rows → HealMem.Holds enc s.st C → suc (parent (sizes w.row) w.at) < length C →
      o.entries (s.st (s.ns L)) + o.entries (s.st mate) ≤ cap →
      Emptied N L (stored s (HealStep.hand_key (HealMem.put s.st mate (o.gather (s.st (s.ns L)) (s.st mate) (front ys))) s.ns s.ps L))
  merge_here more st row h fits =
      let xe : xs ≡ remove_at (offset (sizes w.row) w.at) (items_at w.row (parent (sizes w.row) w.at)) =
      HealRows.upd_same (parent (sizes w.row) w.at) (remove_at (offset (sizes w.row) w.at)) w.row par_in in
      let lx = cut_left w.at w.row w.inside in
      let some-xs : 1 ≤ length xs = omega (arith, ap length xe) in
      let ly : length ys ≡ get_or (sizes w.row) (suc (parent (sizes w.row) w.at)) 0 =
      ap length (HealRows.upd-next (parent (sizes w.row) w.at) (remove_at (offset (sizes w.row) w.at)) w.row) ∙ length-items w.row (suc (parent (sizes w.row) w.at)) in
      let some-ys : 1 ≤ length ys = rw ly (HealStack.some_at (sizes w.row) (suc (parent (sizes w.row) w.at)) (HealStack.fill_some low cap (sizes w.row) (omega (arith, law.least_two)) w.fill) (rw (length-map w.row size) (omega (arith, len-C)))) in
      let a : s.st (s.ns L) ≡ enc xs = ap s.st (HealPath.path_node C (parent (sizes w.row) w.at) w.rows s.ns s.ps path_c) ∙ HealMem.holds_at enc s.st C (parent (sizes w.row) w.at) (omega arith) row in
      let b : s.st mate ≡ enc ys = HealMem.holds_at enc s.st C (suc (parent (sizes w.row) w.at)) h row in
      let few : length xs + length ys ≤ cap = rw (← (law.entries_is xs some-xs), ← (law.entries_is ys some-ys), ← a, ← b) fits in
      let ga : o.gather (s.st (s.ns L)) (s.st mate) (front ys) ≡ enc (xs ++ ys) = rw (a, b) (law.gather_is xs ys some-xs some-ys few) in
      subst (λ (v : List ℕ). Emptied N L (stored s (HealStep.hand_key (HealMem.put s.st mate v) s.ns s.ps L))) (sym ga)
      (emptied _ (HealStep.merge_ready enc C (parent (sizes w.row) w.at) w.rows s.st s.ns s.ps st h some-xs once_c row w.up path_c (enc (xs ++ ys)) refl) h)

  pub ready_merge : (x : Item) → 1 ≤ o.entries (s.st (s.ns l)) → HealPath.right_sibling s.st s.ns s.ps l ≡ Some x →
      o.entries (s.st (s.ns l)) + o.entries (s.st x.1) ≤ cap →
      Emptied N l (stored s (HealStep.hand_key (HealMem.put s.st x.1 (o.gather (s.st (s.ns l)) (s.st x.1) x.0)) s.ns s.ps l))
  ready_merge x = subst (λ (l : ℕ). 1 ≤ o.entries (s.st (s.ns l)) → HealPath.right_sibling s.st s.ns s.ps l ≡ Some x →
      o.entries (s.st (s.ns l)) + o.entries (s.st x.1) ≤ cap →
      Emptied N l (stored s (HealStep.hand_key (HealMem.put s.st x.1 (o.gather (s.st (s.ns l)) (s.st x.1) x.0)) s.ns s.ps l))) w.level (at_rows x)
    where
      at_rows : (x : Item) → 1 ≤ o.entries (s.st (s.ns L)) → HealPath.right_sibling s.st s.ns s.ps L ≡ Some x →
          o.entries (s.st (s.ns L)) + o.entries (s.st x.1) ≤ cap →
          Emptied N L (stored s (HealStep.hand_key (HealMem.put s.st x.1 (o.gather (s.st (s.ns L)) (s.st x.1) x.0)) s.ns s.ps L))
      at_rows x some_left right fits = elim w.left [
        | dead one st big zeros rest ↦ absurd (let z : o.entries (s.st (s.ns L)) ≡ 0 = ap o.entries zeros ∙ law.entries_none in omega arith)
        | alive more st row ↦ elim (test (ltb (suc (parent (sizes w.row) w.at)) (length C))) [
          | is e ↦
              let h = ltb-true (suc (parent (sizes w.row) w.at)) (length C) e in
              let r = HealPath.right_is s.st s.ns s.ps C (parent (sizes w.row) w.at) w.rows h st w.up path_c ∙ ap Some (HealRows.line_at (0, 0) C (suc (parent (sizes w.row) w.at)) h) in
              let q : ◌≡◌ {A = Item} (front ys, mate) x = cc (r, right) in
              subst (λ (x : Item). o.entries (s.st (s.ns L)) + o.entries (s.st x.1) ≤ cap →
              Emptied N L (stored s (HealStep.hand_key (HealMem.put s.st x.1 (o.gather (s.st (s.ns L)) (s.st x.1) x.0)) s.ns s.ps L))) q
              (λ f. merge_here more st row h f) fits
          | isnt e ↦
              let y = ltb-false (suc (parent (sizes w.row) w.at)) (length C) e in
              let r = HealPath.right_none s.st s.ns s.ps C (parent (sizes w.row) w.at) w.rows (omega (arith, len-C, par_in)) st w.up path_c in
              absurd (let z : ◌≡◌ {A = ℕ} 0 1 = cc (r, right) in omega arith)
        ]
      ]

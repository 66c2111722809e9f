-- PROOFS. On a way: the nodes above a level are inner nodes of the pool, and the right neighbour is one too
use mathlib.Core.Path.{◌≡◌, sym, ap, ◌∙◌}
use mathlib.Core.List.{List, [], ◌∷◌}
use Rattle.std.specs.Prelude.{Some}
use Prim.Native.Nat.{ℕ, suc, ◌-◌, ◌≤◌, ◌<◌}
use native.Mathlib.Omega.{arith}
use lib.ListN.{length, get_or}
use lib.Dec.{ltb, eqb}
use borrow.Author.Tests.{ltb-true, ltb-false, eqb-true, eqb-false}
use Rattle.forest.specs.Lists.{count, sum, parent}
use Rattle.forest.specs.Pairs.{Item}
use Rattle.forest.specs.Rows.{Row, nums, sizes, items_at, front}
use Rattle.forest.specs.Trees.{numbers}
use Rattle.forest.specs.Pools.{inner_words}
use Rattle.forest.specs.declared.Cursor.{Cursor}
use Rattle.forest.proofs.ListLaws.{is, isnt, test}
use Rattle.pool.specs.Stores.{Store, block, Placed}
use Rattle.crit.specs.States.{right_sibling}
use Rattle.crit.specs.Paths.{num_at, Stacked, HoldsUp, Leads}
use Rattle.crit.specs.Asks.{Mem, Spelt, Route}
use Rattle.crit.proofs.HealStack
use Rattle.crit.proofs.HealMem
use Rattle.crit.proofs.HealRows
use Rattle.crit.proofs.HealPath
use Rattle.crit.proofs.SpeltLaws.{spelt_block, spelt_placed, same_count}
use Rattle.forest.proofs.WordLaws.{count-append}
use Rattle.forest.proofs.RowLaws.{parent_there}

-- what the words of the node at a level above are
pub record Inside (st : Store) (N n p : ℕ) : Type 0 where
  pub some : 1 ≤ n
  pub few : n ≤ N
  pub items : List Item
  pub words : st n ≡ inner_words items
  pub place : p < length items
  pub room : length items ≤ 8

-- the neighbour of a row
pub named_row : (N : ℕ) (R : Row) (Rs : List Row) → ((x : ℕ) → 1 ≤ count x (numbers (R ∷ Rs)) → (1 ≤ x) × (x ≤ N)) → (j : ℕ) → j < length R → (1 ≤ num_at R j) × (num_at R j ≤ N)
named_row N R Rs nm j h =
    nm (num_at R j) (omega (arith, count-append (num_at R j) (nums R) (numbers Rs), HealMem.num_at-counts R j h))

pub named_rest : (N : ℕ) (R : Row) (Rs : List Row) → ((x : ℕ) → 1 ≤ count x (numbers (R ∷ Rs)) → (1 ≤ x) × (x ≤ N)) → (x : ℕ) → 1 ≤ count x (numbers Rs) → (1 ≤ x) × (x ≤ N)
named_rest N R Rs nm x h = nm x (omega (arith, count-append x (nums R) (numbers Rs)))

pub path_inside : (N : ℕ) (st : Store) (R : Row) (j : ℕ) (Ss : List Row) (ns ps : ℕ → ℕ) → j < length R → Stacked R Ss → ((x : ℕ) → 1 ≤ count x (numbers Ss) → (1 ≤ x) × (x ≤ N)) → HoldsUp st Ss → Leads R j Ss ns ps →
    (l : ℕ) → l < length Ss → Inside st N (ns l) (ps l)
path_inside N st R j [] ns ps h s nm hu p l b = absurd (omega arith)
path_inside N st R j (S ∷ Ss) ns ps h s nm hu p l b =
    let u : sum (sizes S) ≡ length R = HealStack.stacked-sum R S s.0 in
    let r = HealPath.here st ns ps S Ss j (omega arith) s.1 hu.0 p.1 p.2 in
    elim (test (eqb l (length Ss))) [
      | is e ↦
          let q : l ≡ length Ss = eqb-true l (length Ss) e in
          let n : ns (length Ss) ≡ num_at S (parent (sizes S) j) = HealPath.path_node S (parent (sizes S) j) Ss ns ps p.2 in
          let k = named_row N S Ss nm (parent (sizes S) j) r.par in
          rw q (record {
            some = omega arith;
            few = omega arith;
            items = items_at S (parent (sizes S) j);
            words = r.words;
            place = rw r.place r.off;
            room = r.few;
          })
      | isnt e ↦
          let q = eqb-false l (length Ss) e in
          path_inside N st S (parent (sizes S) j) Ss ns ps r.par s.2 (named_rest N S Ss nm) hu.1 p.2 l (omega arith)
    ]

-- a right neighbour below the rows is one of the row's numbers
pub right_inside : (N : ℕ) (st : Store) (R : Row) (j : ℕ) (Ss : List Row) (ns ps : ℕ → ℕ) → j < length R → Stacked R Ss → ((i : ℕ) → i < length R → (1 ≤ num_at R i) × (num_at R i ≤ N)) → HoldsUp st Ss → Leads R j Ss ns ps →
    (x : Item) → right_sibling st ns ps (length Ss) ≡ Some x → (1 ≤ x.1) × (x.1 ≤ N)
right_inside N st R j Ss ns ps h s nm hu p x e = elim (test (ltb (suc j) (length R))) [
  | is f ↦
      let b = ltb-true (suc j) (length R) f in
      let r = HealPath.right_is st ns ps R j Ss b s hu p ∙ ap Some (HealRows.line_at (0, 0) R (suc j) b) in
      let q : ◌≡◌ {A = Item} (front (items_at R (suc j)), num_at R (suc j)) x = cc (r, e) in
      let n : num_at R (suc j) ≡ x.1 = ap (λ (y : Item). y.1) q in
      let k = nm (suc j) b in
      (omega arith, omega arith)
  | isnt f ↦
      let r = HealPath.right_none st ns ps R j Ss (let z = ltb-false (suc j) (length R) f in omega arith) s hu p in
      absurd (let z : ◌≡◌ {A = ℕ} 0 1 = cc (r, e) in omega arith)
]

module _ {ws : List ℕ} {t : ℕ} {c : Cursor} {level : ℕ} (y : Route ws t c level) where
  -- the node at a level above, for every state that the words spell
  pub way_at : (m : Mem) → Spelt ws t c m → (l : ℕ) → l < level → Inside m.s.st m.count (m.s.ns l) (m.s.ps l)
  way_at m sp l h =
      let i = path_inside y.mem.count y.mem.s.st y.row y.at y.rows y.mem.s.ns y.mem.s.ps y.inside y.stacked y.named y.up y.path l (rw y.levels h) in
      let d : l < 16 = omega (arith, y.deep) in
      let n : y.mem.s.ns l ≡ m.s.ns l = sym (y.spelt.nodes l d) ∙ sp.nodes l d in
      let p : y.mem.s.ps l ≡ m.s.ps l = sym (y.spelt.places l d) ∙ sp.places l d in
      let k = same_count y.spelt sp in
      let b : y.mem.s.st (m.s.ns l) ≡ m.s.st (m.s.ns l) =
      sym (spelt_block y.spelt (m.s.ns l) (rw n at i.some) (rw n at i.few)) ∙ spelt_block sp (m.s.ns l) (rw n at i.some) (rw (n, k) at i.few) in
      record {
        some = rw n at i.some;
        few = rw (n, k) at i.few;
        items = i.items;
        words = sym b ∙ rw n at i.words;
        place = rw p at i.place;
        room = i.room;
      }

  -- and by the cursor
  pub way_here : (l : ℕ) → l < level → Inside y.mem.s.st y.mem.count (get_or c.nodes l 0) (get_or c.places l 0)
  way_here l h =
      let d : l < 16 = omega (arith, y.deep) in
      rw (y.spelt.nodes l d, y.spelt.places l d) (way_at y.mem y.spelt l h)

  pub way_placed : (l : ℕ) → l < level → Placed ws t (get_or c.nodes l 0)
  way_placed l h = let i = way_here l h in spelt_placed y.spelt (get_or c.nodes l 0) i.some i.few

  pub way_block : (m : Mem) → Spelt ws t c m → (l : ℕ) → l < level → block ws t (get_or c.nodes l 0) ≡ m.s.st (m.s.ns l)
  way_block m sp l h =
      let d : l < 16 = omega (arith, y.deep) in
      let i = way_at m sp l h in
      rw (sp.nodes l d) (spelt_block sp (m.s.ns l) i.some i.few)

  pub way_few : (l : ℕ) → l < level → get_or (block ws t (get_or c.nodes l 0)) 0 0 ≤ 23
  way_few l h =
      let i = way_at y.mem y.spelt l h in
      rw (way_block y.mem y.spelt l h, i.words) (omega (arith, i.room, i.place))

  pub way_small : (l : ℕ) → l < level → get_or c.places l 0 < 8
  way_small l h = let i = way_here l h in omega (arith, i.place, i.room)

  -- one level up
  pub way_up : (l : ℕ) → suc l ≡ level → Route ws t c l
  way_up l e = from y.rows y.levels y.stacked y.named y.up y.path
    where
      from : (rows : List Row) → length rows ≡ level → Stacked y.row rows → ((x : ℕ) → 1 ≤ count x (numbers rows) → (1 ≤ x) × (x ≤ y.mem.count)) → HoldsUp y.mem.s.st rows →
          Leads y.row y.at rows y.mem.s.ns y.mem.s.ps → Route ws t c l
      from [] q s nm u p = absurd (omega arith)
      from (S ∷ Ss) q s nm u p =
          let b : sum (sizes S) ≡ length y.row = HealStack.stacked-sum y.row S s.0 in
          record {
            deep = omega (arith, y.deep);
            mem = y.mem;
            spelt = y.spelt;
            row = S;
            at = parent (sizes S) y.at;
            rows = Ss;
            levels = omega arith;
            inside = parent_there S y.at (omega (arith, y.inside));
            stacked = s.2;
            named = named_rest y.mem.count S Ss nm;
            up = u.1;
            path = p.2;
          }

  -- the right neighbour one level up
  pub way_right : (l : ℕ) → suc l ≡ level → (x : Item) → right_sibling y.mem.s.st y.mem.s.ns y.mem.s.ps l ≡ Some x → (1 ≤ x.1) × (x.1 ≤ y.mem.count)
  way_right l e x r = from y.rows y.levels y.stacked y.named y.up y.path
    where
      from : (rows : List Row) → length rows ≡ level → Stacked y.row rows → ((x : ℕ) → 1 ≤ count x (numbers rows) → (1 ≤ x) × (x ≤ y.mem.count)) → HoldsUp y.mem.s.st rows →
          Leads y.row y.at rows y.mem.s.ns y.mem.s.ps → (1 ≤ x.1) × (x.1 ≤ y.mem.count)
      from [] q s nm u p = absurd (omega arith)
      from (S ∷ Ss) q s nm u p =
          let b : sum (sizes S) ≡ length y.row = HealStack.stacked-sum y.row S s.0 in
          let z : l ≡ length Ss = omega arith in
          right_inside y.mem.count y.mem.s.st S (parent (sizes S) y.at) Ss y.mem.s.ns y.mem.s.ps
          (parent_there S y.at (omega (arith, y.inside))) s.2 (named_row y.mem.count S Ss nm) u.1 p.2 x (rw (← z) r)

  pub way_word : (l : ℕ) → l < level → (w : List ℕ) → w ≡ block ws t (get_or c.nodes l 0) → get_or w 0 0 ≤ 23
  way_word l h w e = rw e (way_few l h)

-- there is a level above
pub above : {level l : ℕ} → (1 ≤ level) × (l ≡ level - 1) → suc l ≡ level
above h = omega (arith, h)

pub less : {level l : ℕ} → (1 ≤ level) × (l ≡ level - 1) → l < level
less h = omega (arith, h)

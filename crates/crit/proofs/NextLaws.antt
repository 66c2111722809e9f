-- PROOFS. The path to the right neighbour, next_node, and the end of empty_node
use mathlib.Core.Path.{◌≡◌, refl, sym, ap, ◌∙◌, subst}
use mathlib.Core.List.{List, [], ◌∷◌}
use Rattle.std.specs.Prelude.{true, false, Option, Some, None, is_some}
use Rattle.std.proofs.lemmas.Option.{none-some, same_Some}
use Prim.Native.Nat.{ℕ, suc, ◌+◌, ◌≤◌, ◌<◌}
use native.Mathlib.Omega.{arith}
use lib.ListN.{length, get_or, set, length-set}
use lib.Seq.{get_or-set_same, get_or-set_other}
use lib.Dec.{ltb, eqb}
use borrow.Author.Tests.{ltb-true, ltb-false, eqb-true, eqb-false}
use Rattle.forest.specs.Lists.{sum, count, parent, offset}
use Rattle.forest.specs.Rows.{Row, size, sizes}
use Rattle.forest.specs.Trees.{numbers}
use Rattle.forest.specs.Pairs.{Item}
use Rattle.forest.specs.declared.Cursor.{Cursor}
use Rattle.forest.proofs.ListLaws.{is, isnt, test}
use Rattle.pool.specs.Stores.{Store, block, Placed}
use Rattle.crit.specs.States.{State, at, more, first_child, right_sibling, next_at, next_path, next_node, next_with, lives}
use Rattle.crit.specs.Paths.{num_at, Stacked, HoldsUp, Leads}
use Rattle.crit.specs.Asks.{Mem, moved, Spelt, Route, Leaves, Nexts, off_end}
use Rattle.crit.proofs.HealStack
use Rattle.crit.proofs.HealPath
use Rattle.crit.proofs.HealNext
use Rattle.crit.proofs.SpeltLaws.{spelt_block, spelt_placed, same_count}
use Rattle.crit.proofs.WayLaws.{way_block, named_row}
use Rattle.crit.proofs.RightLaws.{more_yes, more_no, right_here}
use Rattle.forest.proofs.RowLaws.{parent_there}

-- one number of a list changes
pub set_at : (xs : List ℕ) (f : ℕ → ℕ) (i v : ℕ) → length xs ≡ 16 → i < 16 → ((l : ℕ) → l < 16 → get_or xs l 0 ≡ f l) → (l : ℕ) → l < 16 → get_or (set xs i v) l 0 ≡ at f i v l
set_at xs f i v n b h l d = elim (test (eqb l i)) [
  | is q ↦ simp q (rw (eqb-true l i q) (get_or-set_same xs i v 0 (omega arith)))
  | isnt q ↦ simp q (get_or-set_other xs i l v 0 (eqb-false l i q) ∙ h l d)
]

-- the cursor changes: other nodes and places
pub spelt_path : {ws : List ℕ} {t : ℕ} {c d : Cursor} {m : Mem} → Spelt ws t c m → (s : State) → s.st ≡ m.s.st → s.free ≡ m.s.free → s.live ≡ m.s.live →
    ((l : ℕ) → l < 16 → get_or d.nodes l 0 ≡ s.ns l) → ((l : ℕ) → l < 16 → get_or d.places l 0 ≡ s.ps l) → length d.nodes ≡ 16 → length d.places ≡ 16 → d.tree ≡ c.tree → d.size ≡ c.size → Spelt ws t d (moved m s)
spelt_path sp s a b l ns ps nl pl tr sz = record {
  words = rw (a, b) sp.words;
  trees = sp.trees;
  few = sp.few;
  sixteen = rw a sp.sixteen;
  nodes = ns;
  places = ps;
  long = nl;
  wide = pl;
  tree = tr ∙ sp.tree;
  size = rw l (sz ∙ sp.size);
}

-- off the end
pub spelt_off : {ws : List ℕ} {t : ℕ} {c d : Cursor} {m : Mem} → Spelt ws t c m → d ≡ off_end c → Spelt ws t d (moved m (lives m.s false))
spelt_off sp e = rw e (record {
  words = sp.words;
  trees = sp.trees;
  few = sp.few;
  sixteen = sp.sixteen;
  nodes = sp.nodes;
  places = sp.places;
  long = sp.long;
  wide = sp.wide;
  tree = sp.tree;
  size = refl;
})

-- a way with a node to the right
pub record RightRoute (ws : List ℕ) (t : ℕ) (c : Cursor) (level : ℕ) : Type 0 where
  pub way : Route ws t c level
  pub more : suc way.at < length way.row

module _ {ws : List ℕ} {t : ℕ} {c : Cursor} {level : ℕ} (g : RightRoute ws t c level) (l : ℕ) (e : suc l ≡ level) where
  -- the next node is to the right in the same parent
  pub path_here : (w : List ℕ) (p : ℕ) (d : Cursor) → w ≡ block ws t (get_or c.nodes l 0) → p ≡ get_or c.places l 0 → p + 16 < get_or w 0 0 →
      d.nodes ≡ set c.nodes level (get_or w (9 + p) 0) → d.places ≡ set c.places l (p + 1) → d.tree ≡ c.tree → d.size ≡ c.size → Leaves (next_path level) ws ws t c d
  path_here w p d q a h ns ps tr sz = record {
    run = λ m sp.
        let y = g.way in
        let k : l < 16 = omega (arith, g.way.deep) in
        let b : w ≡ m.s.st (m.s.ns l) = q ∙ way_block g.way m sp l (omega arith) in
        let a2 : p ≡ m.s.ps l = a ∙ sp.places l k in
        let mo = more_yes g.way l e m sp (rw (q, a) at h) in
        let n2 : d.nodes ≡ set c.nodes (suc l) (get_or (m.s.st (m.s.ns l)) (8 + suc (m.s.ps l)) 0) = ns ∙ rw (b, a2, ← e) (ap (λ (i : ℕ). set c.nodes (suc l) (get_or (m.s.st (m.s.ns l)) i 0)) (omega arith)) in
        let p2 : d.places ≡ set c.places l (suc (m.s.ps l)) = ps ∙ ap (set c.places l) (omega arith) in
        subst (λ (z : ℕ). Spelt ws t d (moved m (next_path z m.s))) e (
        spelt_path sp (next_path (suc l) m.s) refl refl refl
        (simp mo (λ i x. rw n2 (set_at c.nodes m.s.ns (suc l) (get_or (m.s.st (m.s.ns l)) (8 + suc (m.s.ps l)) 0) sp.long (omega (arith, g.way.deep)) sp.nodes i x)))
        (simp mo (λ i x. rw p2 (set_at c.places m.s.ps l (suc (m.s.ps l)) sp.wide k sp.places i x)))
        (ap length n2 ∙ length-set c.nodes (suc l) (get_or (m.s.st (m.s.ns l)) (8 + suc (m.s.ps l)) 0) ∙ sp.long) (ap length p2 ∙ length-set c.places l (suc (m.s.ps l)) ∙ sp.wide) tr sz);
  }

  -- it is under another parent
  none_right : (w : List ℕ) (p : ℕ) → w ≡ block ws t (get_or c.nodes l 0) → p ≡ get_or c.places l 0 → get_or w 0 0 ≤ p + 16 → more g.way.mem.s.st g.way.mem.s.ns g.way.mem.s.ps l ≡ false
  none_right w p q a h = more_no g.way l e g.way.mem g.way.spelt (rw (q, a) at h)

  crossed : (S : Row) (Ss : List Row) → l ≡ length Ss → Stacked g.way.row (S ∷ Ss) → HoldsUp g.way.mem.s.st (S ∷ Ss) → Leads g.way.row g.way.at (S ∷ Ss) g.way.mem.s.ns g.way.mem.s.ps →
      more g.way.mem.s.st g.way.mem.s.ns g.way.mem.s.ps l ≡ false → suc (parent (sizes S) g.way.at) < length S
  crossed S Ss z s u p mo =
      let b : sum (sizes S) ≡ length g.way.row = HealStack.stacked-sum g.way.row S s.0 in
      let r = HealPath.here g.way.mem.s.st g.way.mem.s.ns g.way.mem.s.ps S Ss g.way.at (omega (arith, g.way.inside)) s.1 u.0 p.1 p.2 in
      let mi = HealPath.more_is g.way.mem.s.st g.way.mem.s.ns g.way.mem.s.ps r in
      let big = HealStack.fill_some 4 8 (sizes S) (omega arith) s.1 in
      let mo2 = rw z at mo in
      elim (HealStack.next (sizes S) g.way.at big (omega (arith, g.more))) [
        | HealStack.within x v w ↦
            let f : ltb (suc (offset (sizes S) g.way.at)) (length (Rattle.forest.specs.Rows.items_at S (parent (sizes S) g.way.at))) ≡ false = sym mi ∙ mo2 in
            let k = ltb-false (suc (offset (sizes S) g.way.at)) (length (Rattle.forest.specs.Rows.items_at S (parent (sizes S) g.way.at))) f in
            absurd (omega (arith, r.wide))
        | HealStack.across x v w ↦ rw v at (parent_there S (suc g.way.at) (omega (arith, g.more)))
      ]

  -- the node above that the path goes on through
  next_inside : (d : Cursor) → more g.way.mem.s.st g.way.mem.s.ns g.way.mem.s.ps l ≡ false → Leaves (next_path l) ws ws t c d → (1 ≤ get_or d.nodes l 0) × (get_or d.nodes l 0 ≤ g.way.mem.count)
  next_inside d mo f = from g.way.rows g.way.levels g.way.stacked g.way.named g.way.up g.way.path
    where
      from : (rows : List Row) → length rows ≡ level → Stacked g.way.row rows → ((x : ℕ) → 1 ≤ count x (numbers rows) → (1 ≤ x) × (x ≤ g.way.mem.count)) → HoldsUp g.way.mem.s.st rows →
          Leads g.way.row g.way.at rows g.way.mem.s.ns g.way.mem.s.ps → (1 ≤ get_or d.nodes l 0) × (get_or d.nodes l 0 ≤ g.way.mem.count)
      from [] z s nm u r = absurd (omega arith)
      from (S ∷ Ss) z s nm u r =
          let q : l ≡ length Ss = omega arith in
          let n2 = crossed S Ss q s u r mo in
          let np = HealNext.next_path_lem g.way.mem.s.st g.way.mem.s.ns g.way.mem.s.ps S (parent (sizes S) g.way.at) Ss n2 s.2 u.1 r.2 in
          let k : (next_at g.way.mem.s.st g.way.mem.s.ns g.way.mem.s.ps (length Ss)).0 (length Ss) ≡ num_at S (suc (parent (sizes S) g.way.at)) =
          HealPath.path_node S (suc (parent (sizes S) g.way.at)) Ss (next_at g.way.mem.s.st g.way.mem.s.ns g.way.mem.s.ps (length Ss)).0 (next_at g.way.mem.s.st g.way.mem.s.ns g.way.mem.s.ps (length Ss)).1 np in
          let x : get_or d.nodes l 0 ≡ num_at S (suc (parent (sizes S) g.way.at)) = (f.run g.way.mem g.way.spelt).nodes l (omega (arith, g.way.deep)) ∙ rw q k in
          let y = named_row g.way.mem.count S Ss nm (suc (parent (sizes S) g.way.at)) n2 in
          (omega arith, omega arith)

  pub path_placed : (w : List ℕ) (p : ℕ) (d : Cursor) → w ≡ block ws t (get_or c.nodes l 0) → p ≡ get_or c.places l 0 → get_or w 0 0 ≤ p + 16 → Leaves (next_path l) ws ws t c d → Placed ws t (get_or d.nodes l 0)
  path_placed w p d q a h f = let i = next_inside d (none_right w p q a h) f in spelt_placed g.way.spelt (get_or d.nodes l 0) i.0 i.1

  pub path_up_lem : (w : List ℕ) (p : ℕ) (v : List ℕ) (d r : Cursor) → w ≡ block ws t (get_or c.nodes l 0) → p ≡ get_or c.places l 0 → get_or w 0 0 ≤ p + 16 → Leaves (next_path l) ws ws t c d → v ≡ block ws t (get_or d.nodes l 0) →
      r.nodes ≡ set d.nodes level (get_or v 8 0) → r.places ≡ set d.places l 0 → r.tree ≡ d.tree → r.size ≡ d.size → Leaves (next_path level) ws ws t c r
  path_up_lem w p v d r q a h f b ns ps tr sz = record {
    run = λ m sp.
        let k : l < 16 = omega (arith, g.way.deep) in
        let mo = more_no g.way l e m sp (rw (q, a) at h) in
        let o = f.run m sp in
        let i = next_inside d (none_right w p q a h) f in
        let cn : g.way.mem.count ≡ m.count = same_count g.way.spelt sp in
        let vb : v ≡ m.s.st ((next_at m.s.st m.s.ns m.s.ps l).0 l) = b ∙ spelt_block sp (get_or d.nodes l 0) i.0 (omega arith) ∙ ap m.s.st (o.nodes l k) in
        let n2 : r.nodes ≡ set d.nodes (suc l) (get_or (m.s.st ((next_at m.s.st m.s.ns m.s.ps l).0 l)) 8 0) = ns ∙ rw (vb, ← e) in
        subst (λ (z : ℕ). Spelt ws t r (moved m (next_path z m.s))) e (
        spelt_path o (next_path (suc l) m.s) refl refl refl
        (simp mo (λ i x. rw n2 (set_at d.nodes (next_at m.s.st m.s.ns m.s.ps l).0 (suc l) (get_or (m.s.st ((next_at m.s.st m.s.ns m.s.ps l).0 l)) 8 0) o.long (omega (arith, g.way.deep)) o.nodes i x)))
        (simp mo (λ i x. rw ps (set_at d.places (next_at m.s.st m.s.ns m.s.ps l).1 l 0 o.wide k o.places i x)))
        (ap length n2 ∙ length-set d.nodes (suc l) (get_or (m.s.st ((next_at m.s.st m.s.ns m.s.ps l).0 l)) 8 0) ∙ o.long) (ap length ps ∙ length-set d.places l 0 ∙ o.wide) tr sz);
  }

goes_right : {ws : List ℕ} {t : ℕ} {c : Cursor} {level : ℕ} (y : Route ws t c level) → is_some (right_sibling y.mem.s.st y.mem.s.ns y.mem.s.ps level) ≡ true → RightRoute ws t c level
goes_right {level} y x = elim (test (ltb (suc y.at) (length y.row))) [
  | is e ↦ record { way = y; more = ltb-true _ _ e }
  | isnt e ↦
      let z : suc y.at ≡ length y.row = (let k = ltb-false (suc y.at) (length y.row) e in omega (arith, y.inside)) in
      let r = HealPath.right_none y.mem.s.st y.mem.s.ns y.mem.s.ps y.row y.at y.rows z y.stacked y.up y.path in
      let r2 : right_sibling y.mem.s.st y.mem.s.ns y.mem.s.ps level ≡ None = rw y.levels at r in
      absurd (grind (arith, r2, x))
]

child_some : (st : Store) (o : Option Item) → is_some (first_child st (λ x. 0) (λ x. 0) o) ≡ is_some o
child_some st None = refl
child_some st (Some x) = refl

-- next_path
module _ {ws : List ℕ} {t : ℕ} {c : Cursor} {level : ℕ} (y : Route ws t c level) (l : ℕ) (e : suc l ≡ level) (w : List ℕ) (p : ℕ) (q : w ≡ block ws t (get_or c.nodes l 0)) (a : p ≡ get_or c.places l 0) where
  pub nexts_here : (d : Cursor) → p + 16 < get_or w 0 0 → d.nodes ≡ set c.nodes level (get_or w (9 + p) 0) → d.places ≡ set c.places l (p + 1) → d.tree ≡ c.tree → d.size ≡ c.size → Nexts ws t c level (Some d)
  nexts_here d h ns ps tr sz =
      let f = right_here y l e w p q a h in
      record {
        found = λ m sp. ap is_some (f.run m sp);
        leads = λ r x. subst (Leaves (next_path level) ws ws t c) (same_Some d r x) (path_here (goes_right y (ap is_some (sym (f.run y.mem y.spelt)))) l e w p d q a h ns ps tr sz);
      }

  module _ (h : get_or w 0 0 ≤ p + 16) {r : Option Cursor} (f : Nexts ws t c l r) where
    up_found : (m : Mem) → Spelt ws t c m → is_some r ≡ is_some (right_sibling m.s.st m.s.ns m.s.ps level)
    up_found m sp =
        let mo = more_no y l e m sp (rw (q, a) at h) in
        subst (λ (z : ℕ). is_some r ≡ is_some (right_sibling m.s.st m.s.ns m.s.ps z)) e (simp mo (f.found m sp ∙ sym (child_some m.s.st (right_sibling m.s.st m.s.ns m.s.ps l))))

    pub nexts_off : r ≡ None → Nexts ws t c level None
    nexts_off x = record { found = λ m sp. ap is_some (sym x) ∙ up_found m sp; leads = λ d z. absurd (none-some d z) }

    module _ (d : Cursor) (x : r ≡ Some d) where
      up_route : RightRoute ws t c level
      up_route = goes_right y (sym (up_found y.mem y.spelt) ∙ ap is_some x)

      pub nexts_placed : Placed ws t (get_or d.nodes l 0)
      nexts_placed = path_placed up_route l e w p d q a h (f.leads d x)

      pub nexts_up : (v : List ℕ) (s : Cursor) → v ≡ block ws t (get_or d.nodes l 0) →
          s.nodes ≡ set d.nodes level (get_or v 8 0) → s.places ≡ set d.places l 0 → s.tree ≡ d.tree → s.size ≡ d.size → Nexts ws t c level (Some s)
      nexts_up v s b ns ps tr sz = record {
        found = λ m sp. ap is_some (sym x) ∙ up_found m sp;
        leads = λ z k. subst (Leaves (next_path level) ws ws t c) (same_Some s z k) (path_up_lem up_route l e w p v d s q a h (f.leads d x) b ns ps tr sz);
      }

-- next_node
next_with_some : (o : Option Item) (l : ℕ) (s : State) → is_some o ≡ true → next_with o l s ≡ next_with (Some (0, 0)) l s
next_with_some None l s e = absurd (grind (arith, e))
next_with_some (Some x) l s e = refl

pub next_some : {ws : List ℕ} {t : ℕ} {c d s : Cursor} {level : ℕ} (r : Option Cursor) → level < 16 → Nexts ws t c level r → r ≡ Some d → s.nodes ≡ d.nodes → s.places ≡ set d.places level 0 → s.tree ≡ d.tree → s.size ≡ d.size → Leaves (next_node level) ws ws t c s
next_some {ws} {t} {c} {d} {s} {level} r b f x ns ps tr sz = record {
  run = λ m sp.
      let q = (f.leads d x).run m sp in
      rw (next_with_some (right_sibling m.s.st m.s.ns m.s.ps level) level m.s (sym (f.found m sp) ∙ ap is_some x)) (
      spelt_path q (next_with (Some (0, 0)) level m.s) refl refl refl
      (λ i h. rw ns (q.nodes i h)) (λ i h. rw ps (set_at d.places (next_at m.s.st m.s.ns m.s.ps level).1 level 0 q.wide b q.places i h))
      (ap length ns ∙ q.long) (ap length ps ∙ length-set d.places level 0 ∙ q.wide) tr sz);
}

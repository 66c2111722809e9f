-- PROOFS. The key before a node: read, set, handed to the right neighbour
use mathlib.Core.Path.{◌≡◌, sym, ◌∙◌, subst}
use mathlib.Core.List.{List}
use mathlib.Core.Bool.{false}
use Rattle.std.specs.Prelude.{Option, Some, None}
use Prim.Native.Nat.{ℕ, zero, suc, ◌≤◌, ◌<◌}
use native.Mathlib.Omega.{arith}
use lib.ListN.{get_or, set, length-set}
use lib.Dec.{eqb}
use borrow.Author.Tests.{ne_eqb}
use Rattle.forest.specs.declared.Cursor.{Cursor}
use Rattle.pool.specs.Stores.{block, with_block}
use Rattle.crit.specs.States.{stored, right_set, left_set, crit_key, hand_key}
use Rattle.crit.specs.Asks.{Mem, moved, Spelt, Route, Leaves, Crits}
use Rattle.crit.proofs.SpeltLaws.{spelt_store}
use Rattle.crit.proofs.WayLaws.{way_at, way_block}

module _ {ws : List ℕ} {t : ℕ} {c : Cursor} {level : ℕ} (y : Route ws t c level) (l : ℕ) (e : suc l ≡ level) where
  first_no : (m : Mem) → Spelt ws t c m → (get_or c.places l 0 ≡ 0 → ⊥) → eqb (m.s.ps l) 0 ≡ false
  first_no m sp h = ne_eqb (m.s.ps l) 0 (λ q. h (sp.places l (omega (arith, y.deep)) ∙ q))

  -- current_crit_key
  pub crit_here : (w : List ℕ) (p : ℕ) → w ≡ block ws t (get_or c.nodes l 0) → p ≡ get_or c.places l 0 → (p ≡ 0 → ⊥) → Crits ws t c level (Some (get_or w p 0))
  crit_here w p q a h = record {
    run = λ m sp.
        let b : w ≡ m.s.st (m.s.ns l) = q ∙ way_block y m sp l (omega arith) in
        let a2 : p ≡ m.s.ps l = a ∙ sp.places l (omega (arith, y.deep)) in
        let f = first_no m sp (λ z. h (a ∙ z)) in
        subst (λ (z : ℕ). Some (get_or w p 0) ≡ crit_key m.s.st m.s.ns m.s.ps z) e (simp f (rw (b, a2)));
  }

  -- update_crit_key
  pub left_here : (w vs : List ℕ) (p k : ℕ) → w ≡ block ws t (get_or c.nodes l 0) → p ≡ get_or c.places l 0 → (p ≡ 0 → ⊥) → vs ≡ with_block ws t (get_or c.nodes l 0) (set w p k) →
      Leaves (λ s. stored s (left_set s.st s.ns s.ps level k)) ws vs t c c
  left_here w vs p k q a h v = record {
    run = λ m sp.
        let d : l < 16 = omega (arith, y.deep) in
        let i = way_at y m sp l (omega arith) in
        let b : w ≡ m.s.st (m.s.ns l) = q ∙ way_block y m sp l (omega arith) in
        let a2 : p ≡ m.s.ps l = a ∙ sp.places l d in
        let f = first_no m sp (λ z. h (a ∙ z)) in
        let n : get_or c.nodes l 0 ≡ m.s.ns l = sp.nodes l d in
        let v2 : vs ≡ with_block ws t (m.s.ns l) (set (m.s.st (m.s.ns l)) (m.s.ps l) k) = v ∙ rw (n, b, a2) in
        let sp2 = spelt_store sp (m.s.ns l) i.some i.few (set (m.s.st (m.s.ns l)) (m.s.ps l) k) (length-set (m.s.st (m.s.ns l)) (m.s.ps l) k ∙ sp.sixteen (m.s.ns l)) in
        subst (λ (z : ℕ). Spelt vs t c (moved m (stored m.s (left_set m.s.st m.s.ns m.s.ps z k)))) e (rw v2 (simp f sp2));
  }

pub left_root : {ws : List ℕ} {t : ℕ} {c : Cursor} (k level : ℕ) → level ≤ 0 → Leaves (λ s. stored s (left_set s.st s.ns s.ps level k)) ws ws t c c
left_root k zero h = record { run = λ m sp. sp }
left_root k (suc l) h = absurd (omega arith)

-- hand_crit_key
pub hand_some : {ws vs : List ℕ} {t : ℕ} {c : Cursor} {level : ℕ} (r : Option ℕ) (k : ℕ) → Crits ws t c level r → r ≡ Some k → Leaves (λ s. stored s (right_set s.st s.ns s.ps level k)) ws vs t c c →
    Leaves (λ s. stored s (hand_key s.st s.ns s.ps level)) ws vs t c c
hand_some {ws} {vs} {t} {c} {level} r k g x f = record { run = λ m sp. rw (sym (g.run m sp) ∙ x) (f.run m sp) }

pub hand_none : {ws : List ℕ} {t : ℕ} {c : Cursor} {level : ℕ} (r : Option ℕ) → Crits ws t c level r → r ≡ None → Leaves (λ s. stored s (hand_key s.st s.ns s.ps level)) ws ws t c c
hand_none {ws} {t} {c} {level} r g x = record { run = λ m sp. rw (sym (g.run m sp) ∙ x) sp }

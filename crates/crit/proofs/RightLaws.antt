-- PROOFS. Each return of right_sibling, and of the setting of a key, is one step of its definition
use mathlib.Core.Path.{◌≡◌, sym, ap, ◌∙◌, subst}
use mathlib.Core.List.{List}
use mathlib.Core.Bool.{true, false}
use Rattle.std.specs.Prelude.{Option, Some, None}
use Prim.Native.Nat.{ℕ, zero, suc, ◌+◌, ◌-◌, ◌≤◌, ◌<◌}
use native.Mathlib.Omega.{arith}
use lib.ListN.{get_or, set, length-set}
use borrow.Author.Tests.{lt-ltb, le-ltb}
use Rattle.forest.specs.Pairs.{Item}
use Rattle.forest.specs.declared.Cursor.{Cursor}
use Rattle.pool.specs.Stores.{block, with_block, Placed}
use Rattle.crit.specs.States.{stored, more, right_sibling, right_set}
use Rattle.crit.specs.Asks.{Mem, moved, Spelt, Route, Leaves, Finds}
use Rattle.crit.proofs.SpeltLaws.{spelt_block, spelt_placed, spelt_store, same_count}
use Rattle.crit.proofs.WayLaws.{way_at, way_block, way_right}

module _ {ws : List ℕ} {t : ℕ} {c : Cursor} {level : ℕ} (y : Route ws t c level) (l : ℕ) (e : suc l ≡ level) where
  -- is there more to the right, by the words
  pub more_yes : (m : Mem) → Spelt ws t c m → get_or c.places l 0 + 16 < get_or (block ws t (get_or c.nodes l 0)) 0 0 → more m.s.st m.s.ns m.s.ps l ≡ true
  more_yes m sp h =
      let d : l < 16 = omega (arith, y.deep) in
      let b = way_block y m sp l (omega arith) in
      let h2 = rw (b, sp.places l d) at h in
      lt-ltb (m.s.ps l) (get_or (m.s.st (m.s.ns l)) 0 0 - 16) (omega arith)

  pub more_no : (m : Mem) → Spelt ws t c m → get_or (block ws t (get_or c.nodes l 0)) 0 0 ≤ get_or c.places l 0 + 16 → more m.s.st m.s.ns m.s.ps l ≡ false
  more_no m sp h =
      let d : l < 16 = omega (arith, y.deep) in
      let b = way_block y m sp l (omega arith) in
      let h2 = rw (b, sp.places l d) at h in
      le-ltb (m.s.ps l) (get_or (m.s.st (m.s.ns l)) 0 0 - 16) (omega arith)

  -- right_sibling
  pub right_here : (w : List ℕ) (p : ℕ) → w ≡ block ws t (get_or c.nodes l 0) → p ≡ get_or c.places l 0 → p + 16 < get_or w 0 0 → Finds ws t c level (Some (get_or w (1 + p) 0, get_or w (9 + p) 0))
  right_here w p q a h = record {
    run = λ m sp.
        let d : l < 16 = omega (arith, y.deep) in
        let b : w ≡ m.s.st (m.s.ns l) = q ∙ way_block y m sp l (omega arith) in
        let a2 : p ≡ m.s.ps l = a ∙ sp.places l d in
        let mo = more_yes m sp (rw (q, a) at h) in
        let k2 : get_or w (1 + p) 0 ≡ get_or (m.s.st (m.s.ns l)) (suc (m.s.ps l)) 0 = rw (b, a2) (ap (λ (i : ℕ). get_or (m.s.st (m.s.ns l)) i 0) (omega arith)) in
        let n2 : get_or w (9 + p) 0 ≡ get_or (m.s.st (m.s.ns l)) (8 + suc (m.s.ps l)) 0 = rw (b, a2) (ap (λ (i : ℕ). get_or (m.s.st (m.s.ns l)) i 0) (omega arith)) in
        subst (λ (z : ℕ). Some (get_or w (1 + p) 0, get_or w (9 + p) 0) ≡ right_sibling m.s.st m.s.ns m.s.ps z) e (simp mo (rw (k2, n2)));
  }

  pub right_up : (w : List ℕ) (p : ℕ) (v : List ℕ) (near : Option Item) (k n : ℕ) → w ≡ block ws t (get_or c.nodes l 0) → p ≡ get_or c.places l 0 → get_or w 0 0 ≤ p + 16 → Finds ws t c l near → near ≡ Some (k, n) →
      v ≡ block ws t n → Finds ws t c level (Some (k, get_or v 8 0))
  right_up w p v near k n q a h f x g = record {
    run = λ m sp.
        let r = way_right y l e (k, n) (sym (f.run y.mem y.spelt) ∙ x) in
        let cn : y.mem.count ≡ m.count = same_count y.spelt sp in
        let b : v ≡ m.s.st n = g ∙ spelt_block sp n r.0 (omega arith) in
        let mo = more_no m sp (rw (q, a) at h) in
        let rs : right_sibling m.s.st m.s.ns m.s.ps l ≡ Some (k, n) = sym (f.run m sp) ∙ x in
        subst (λ (z : ℕ). Some (k, get_or v 8 0) ≡ right_sibling m.s.st m.s.ns m.s.ps z) e (simp (mo, rs) (rw b));
  }

  pub right_off : (w : List ℕ) (p : ℕ) (near : Option Item) → w ≡ block ws t (get_or c.nodes l 0) → p ≡ get_or c.places l 0 → get_or w 0 0 ≤ p + 16 → Finds ws t c l near → near ≡ None → Finds ws t c level None
  right_off w p near q a h f x = record {
    run = λ m sp.
        let mo = more_no m sp (rw (q, a) at h) in
        let rs : right_sibling m.s.st m.s.ns m.s.ps l ≡ None = sym (f.run m sp) ∙ x in
        subst (λ (z : ℕ). None ≡ right_sibling m.s.st m.s.ns m.s.ps z) e (simp (mo, rs));
  }

  -- the neighbour is a node of the pool
  pub right_placed : (near : Option Item) (k n : ℕ) → Finds ws t c l near → near ≡ Some (k, n) → Placed ws t n
  right_placed near k n f x =
      let r = way_right y l e (k, n) (sym (f.run y.mem y.spelt) ∙ x) in
      spelt_placed y.spelt n r.0 r.1

  -- update_right_crit_key
  pub key_here : (w vs : List ℕ) (p k : ℕ) → w ≡ block ws t (get_or c.nodes l 0) → p ≡ get_or c.places l 0 → p + 16 < get_or w 0 0 → vs ≡ with_block ws t (get_or c.nodes l 0) (set w (1 + p) k) →
      Leaves (λ s. stored s (right_set s.st s.ns s.ps level k)) ws vs t c c
  key_here w vs p k q a h v = record {
    run = λ m sp.
        let d : l < 16 = omega (arith, y.deep) in
        let i = way_at y m sp l (omega arith) in
        let b : w ≡ m.s.st (m.s.ns l) = q ∙ way_block y m sp l (omega arith) in
        let a2 : 1 + p ≡ suc (m.s.ps l) = (let z = a ∙ sp.places l d in omega arith) in
        let mo = more_yes m sp (rw (q, a) at h) in
        let n : get_or c.nodes l 0 ≡ m.s.ns l = sp.nodes l d in
        let v2 : vs ≡ with_block ws t (m.s.ns l) (set (m.s.st (m.s.ns l)) (suc (m.s.ps l)) k) = v ∙ rw (n, b, a2) in
        let sp2 = spelt_store sp (m.s.ns l) i.some i.few (set (m.s.st (m.s.ns l)) (suc (m.s.ps l)) k) (length-set (m.s.st (m.s.ns l)) (suc (m.s.ps l)) k ∙ sp.sixteen (m.s.ns l)) in
        subst (λ (z : ℕ). Spelt vs t c (moved m (stored m.s (right_set m.s.st m.s.ns m.s.ps z k)))) e (rw v2 (simp mo sp2));
  }

  pub key_up : (w vs : List ℕ) (p k : ℕ) → w ≡ block ws t (get_or c.nodes l 0) → p ≡ get_or c.places l 0 → get_or w 0 0 ≤ p + 16 → Leaves (λ s. stored s (right_set s.st s.ns s.ps l k)) ws vs t c c →
      Leaves (λ s. stored s (right_set s.st s.ns s.ps level k)) ws vs t c c
  key_up w vs p k q a h f = record {
    run = λ m sp.
        let mo = more_no m sp (rw (q, a) at h) in
        subst (λ (z : ℕ). Spelt vs t c (moved m (stored m.s (right_set m.s.st m.s.ns m.s.ps z k)))) e (simp mo (f.run m sp));
  }

pub key_root : {ws : List ℕ} {t : ℕ} {c : Cursor} (k level : ℕ) → level ≤ 0 → Leaves (λ s. stored s (right_set s.st s.ns s.ps level k)) ws ws t c c
key_root k zero h = record { run = λ m sp. sp }
key_root k (suc l) h = absurd (omega arith)

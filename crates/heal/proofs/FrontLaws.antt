-- PROOFS. The front key of a cut leaf, and remove_pair as a whole
use mathlib.Core.Path.{◌≡◌, sym, ap, ◌∙◌, subst}
use mathlib.Core.List.{List, ◌++◌}
use mathlib.Core.Bool.{true, false}
use Prim.Native.Nat.{ℕ, ◌-◌, ◌≤◌, ◌<◌}
use native.Mathlib.Omega.{arith}
use lib.ListN.{length, get_or}
use lib.Dec.{eqb}
use borrow.Author.Tests.{eq-eqb, ne_eqb}
use Rattle.forest.specs.Rows.{nums}
use Rattle.forest.specs.Trees.{numbers}
use Rattle.forest.specs.Pools.{leaf_words}
use Rattle.forest.specs.declared.Cursor.{Cursor}
use Rattle.pool.specs.Stores.{block, Placed}
use Rattle.node.specs.Nodes.{status_of}
use Rattle.node.specs.declared.Removed.{Removed}
use Rattle.crit.specs.States.{State, left_set, stored}
use Rattle.crit.specs.Asks.{Mem, moved, Spelt, Leaves}
use Rattle.heal.specs.Steps.{leaf_ops, inner_ops, leaf_front, fronted, parent_cut, taken}
use Rattle.heal.specs.Wounds.{Wounded}
use Rattle.heal.specs.Cycle.{Kind, leaf_kind, left, standing, healed, AskFront, AskHeal, Cuts, Mends, AskPair}
use Rattle.crit.proofs.SpeltLaws.{spelt_placed, spelt_level, same_count}
use Rattle.heal.proofs.HealTree.{front_wounded, front_words, front_path}
use Rattle.heal.proofs.HealReady.{within_once}
use Rattle.heal.specs.KindLaws.{leaf_heals, inner_law}
use Rattle.node.proofs.Words.{leaf_front_lem}
use Rattle.heal.proofs.LeafLaws.{leaf_named}

-- update_front
module _ {ws : List ℕ} {t : ℕ} {c : Cursor} {level : ℕ} (a : AskFront ws t c level) where
  pub front_placed : Placed ws t (get_or c.nodes level 0)
  front_placed = spelt_placed a.way.spelt (get_or c.nodes level 0) a.some a.few

  front-block : (m : Mem) → Spelt ws t c m → block ws t (get_or c.nodes level 0) ≡ m.s.st (m.s.ns level)
  front-block m sp = spelt_level sp level a.way.deep a.some (rw (← (same_count a.way.spelt sp)) a.few)

  module _ (w : List ℕ) (e : w ≡ block ws t (get_or c.nodes level 0)) where
    pub fronts_none : get_or w 0 0 ≤ 32 → Leaves (λ s. fronted leaf_ops 7 inner_ops leaf_front s level) ws ws t c c
    fronts_none h = record {
      run = λ m sp.
          let z : eqb (get_or (m.s.st (m.s.ns level)) 0 0 - 32) 0 ≡ true = rw (← (e ∙ front-block m sp)) (eq-eqb (get_or w 0 0 - 32) 0 (omega arith)) in
          simp z sp;
    }

    pub fronts_later : 32 < get_or w 0 0 → (get_or c.places level 0 ≡ 0 → ⊥) → Leaves (λ s. fronted leaf_ops 7 inner_ops leaf_front s level) ws ws t c c
    fronts_later h p = record {
      run = λ m sp.
          let z : eqb (get_or (m.s.st (m.s.ns level)) 0 0 - 32) 0 ≡ false = rw (← (e ∙ front-block m sp)) (ne_eqb (get_or w 0 0 - 32) 0 (omega arith)) in
          let y : eqb (m.s.ps level) 0 ≡ false = ne_eqb (m.s.ps level) 0 (λ q. p (sp.places level a.way.deep ∙ q)) in
          simp (z, y) sp;
    }

    pub fronts-first : {vs : List ℕ} → 32 < get_or w 0 0 → get_or c.places level 0 ≡ 0 → Leaves (λ s. stored s (left_set s.st s.ns s.ps level (get_or w 1 0))) ws vs t c c →
        Leaves (λ s. fronted leaf_ops 7 inner_ops leaf_front s level) ws vs t c c
    fronts-first {vs} h p f = record {
      run = λ m sp.
          let q : w ≡ m.s.st (m.s.ns level) = e ∙ front-block m sp in
          let z : eqb (get_or (m.s.st (m.s.ns level)) 0 0 - 32) 0 ≡ false = rw (← q) (ne_eqb (get_or w 0 0 - 32) 0 (omega arith)) in
          let y : eqb (m.s.ps level) 0 ≡ true = eq-eqb (m.s.ps level) 0 (sym (sp.places level a.way.deep) ∙ p) in
          simp (z, y) (subst (λ (v : List ℕ). Spelt vs t c (moved m (stored m.s (left_set m.s.st m.s.ns m.s.ps level (get_or v 1 0))))) q (f.run m sp));
    }

-- how a node stands is read off the words
standing_same : (k : Kind) {ws : List ℕ} {t : ℕ} {c : Cursor} {m m' : Mem} (level : ℕ) → Spelt ws t c m → Spelt ws t c m' → level < 16 → 1 ≤ get_or c.nodes level 0 → get_or c.nodes level 0 ≤ m.count → standing k m.s level ≡ standing k m'.s level
standing_same k {ws} {t} {c} {m} {m'} level sp sp' d lo hi =
    let a : m.s.st (m.s.ns level) ≡ m'.s.st (m'.s.ns level) =
    sym (spelt_level sp level d lo hi) ∙ spelt_level sp' level d lo (rw (← (same_count sp sp')) hi) in
    ap (λ (p : ℕ). status_of k.cap p (left k m.s level)) (sym (sp.places level d) ∙ sp'.places level d) ∙ ap (λ (w : List ℕ). status_of k.cap (m'.s.ps level) (k.ops.entries w)) a

-- remove_pair
module _ {ws vs us : List ℕ} {t : ℕ} {c : Cursor} {level : ℕ} {status : Removed} (a : AskPair ws t c level) (k : Cuts leaf_kind ws vs t c level status) (f : Leaves (λ s. fronted leaf_ops 7 inner_ops leaf_front s level) vs us t c c) where
  abbrev s : State
  s = a.mem.s

  abbrev s_b : State
  s_b = parent_cut leaf_ops s level

  abbrev s_f : State
  s_f = fronted leaf_ops 7 inner_ops leaf_front s_b level

  sp1 : Spelt vs t c (moved a.mem s_b)
  sp1 = k.leaves a.mem a.spelt

  sp2 : Spelt us t c (moved a.mem s_f)
  sp2 = f.run (moved a.mem s_b) sp1

  once : Rattle.crit.proofs.HealMem.Once (nums a.row ++ numbers a.rows)
  once = within_once a.mem.count (nums a.row ++ numbers a.rows) a.mem.s.free a.within

  at_level : (P : ℕ → Type 0) → P (length a.rows) → P level
  at_level P h = subst P a.levels h

  ready : Wounded leaf_words 7 3 a.mem.count level s_f
  ready = at_level (λ l. Wounded leaf_words 7 3 a.mem.count l (fronted leaf_ops 7 inner_ops leaf_front (parent_cut leaf_ops s l) l))
      (front_wounded leaf_heals.lawful inner_law leaf_front (λ xs h. leaf_front_lem xs) a.row a.rows a.at s a.inside a.fill a.stacked once a.holds a.up a.place a.path a.two a.mem.count a.within)

  same_words : s_f.st (s.ns level) ≡ s_b.st (s.ns level)
  same_words = at_level (λ l. (fronted leaf_ops 7 inner_ops leaf_front (parent_cut leaf_ops s l) l).st (s.ns l) ≡ (parent_cut leaf_ops s l).st (s.ns l))
      (front_words leaf_heals.lawful inner_law leaf_front (λ xs h. leaf_front_lem xs) a.row a.rows a.at s a.inside a.fill a.stacked once a.holds a.up a.place a.path)

  same_path_lem : (s_f.ns ≡ s.ns) × (s_f.ps ≡ s.ps)
  same_path_lem = at_level (λ l. ((fronted leaf_ops 7 inner_ops leaf_front (parent_cut leaf_ops s l) l).ns ≡ s.ns) × ((fronted leaf_ops 7 inner_ops leaf_front (parent_cut leaf_ops s l) l).ps ≡ s.ps))
      (front_path leaf_heals.lawful inner_law leaf_front (λ xs h. leaf_front_lem xs) a.row a.rows a.at s a.inside a.fill a.stacked once a.holds a.up a.place a.path)

  says : status ≡ standing leaf_kind s_f level
  says =
      k.says (moved a.mem s_b) sp1 ∙
      ap (λ (w : List ℕ). status_of 7 (s.ps level) (leaf_ops.entries w)) (sym same_words ∙ ap s_f.st (ap (λ (g : ℕ → ℕ). g level) (sym same_path_lem.0))) ∙
      ap (λ (g : ℕ → ℕ). status_of 7 (g level) (left leaf_kind s_f level)) (sym same_path_lem.1)

  pub ask_heal : AskHeal leaf_kind us t c status level
  ask_heal = record { deep = a.deep; mem = moved a.mem s_f; spelt = sp2; ready = ready; says = says }

  pub takes : {xs : List ℕ} {r : Cursor} → Mends leaf_kind us xs t c r status level → Leaves (taken level) ws xs t c r
  unfolding healed
  takes g = record {
    run = λ m sp.
        let m1 = k.leaves m sp in
        let m2 = f.run (moved m (parent_cut leaf_ops m.s level)) m1 in
        g.run (moved m (fronted leaf_ops 7 inner_ops leaf_front (parent_cut leaf_ops m.s level) level))
        (says ∙ standing_same leaf_kind level sp2 m2 a.deep (leaf_named a).0 (leaf_named a).1) m2;
  }

-- PROOFS. Healing upward: each call finds what it asks, and each return is a step of its definition
use mathlib.Core.Path.{◌≡◌, refl, sym, ◌∙◌, subst}
use mathlib.Core.List.{List, [], ◌∷◌, ◌++◌}
use mathlib.Core.Bool.{Bool, true, false, ◌&&◌}
use Rattle.std.specs.Prelude.{Option, Some, None}
use Rattle.std.proofs.lemmas.Option.{none-some, same_Some}
use Prim.Native.Nat.{ℕ, suc, ◌*◌, ◌≤◌, ◌<◌}
use native.Mathlib.Omega.{arith}
use lib.ListN.{length, get_or}
use lib.Dec.{ltb, leb, eqb}
use borrow.Author.Tests.{ltb-true, ltb-false, leb-true, eq-eqb, ne_eqb}
use Rattle.forest.specs.Lists.{count, parent}
use Rattle.forest.specs.Pairs.{Item}
use Rattle.forest.specs.Rows.{nums, sizes}
use Rattle.forest.specs.Trees.{numbers}
use Rattle.forest.specs.declared.Cursor.{Cursor}
use Rattle.forest.proofs.ListLaws.{is, isnt, test}
use Rattle.pool.specs.Stores.{Store, put, freed_words, no_words, Freeable}
use Rattle.node.specs.Nodes.{status_of}
use Rattle.node.specs.declared.Removed.{Removed}
use Rattle.node.specs.declared.Removed.TheVariants.{Healthy, Rightmost, Underflow, Empty}
use Rattle.crit.specs.States.{State, right_sibling, next_node, through_right, stored}
use Rattle.crit.specs.Paths.{num_at}
use Rattle.crit.specs.Asks.{Mem, moved, Spelt, Route, Leaves, Finds, Passes}
use Rattle.heal.specs.Steps.{inner_ops, heal_level, under_with, empty_node, empty_from, parent_cut, free_node}
use Rattle.heal.specs.Wounds.{Wounded, alive, dead, cut_row}
use Rattle.heal.specs.Cycle.{Kind, inner_kind, emptied, left, standing, fits, gathered, stayed, healed, under, AskEmpty, AskHeal, Joined, Cuts, Mends, Settles}
use Rattle.crit.proofs.HealMem
use Rattle.crit.proofs.HealPath
use Rattle.crit.proofs.SpeltLaws.{same_count}
use Rattle.heal.proofs.HealUp.{Lawful}
use Rattle.heal.proofs.HealReady.{ready_cut, ready_none, ready_merge, par_in, len-C, path_c, once_row}
use Rattle.heal.specs.KindLaws.{inner_law}
use Rattle.heal.proofs.FreeLaws.{spelt_freeable, spelt_freed, same_free, room, within_named}
use Rattle.forest.proofs.WordLaws.{count-append}
use Rattle.forest.proofs.CountLaws.{small}

clash : ◌≡◌ {A = ℕ} 0 1 → ⊥
clash z = omega arith

-- a node that stays, a node that goes, and what follows of what it settled as
pub settled : {P : List ℕ → Cursor → Type 0} {vs : List ℕ} {t : ℕ} {c r : Cursor} {level : ℕ} → P vs r → Settles P vs t c level (Some r)
settled {P} {vs} {r} h = record {
  stays = λ d e. subst (P vs) (same_Some r d e) h;
  asks = λ e. absurd (none-some r (sym e));
  goes = λ e us d f. absurd (none-some r (sym e));
}

pub goes_then : {P : List ℕ → Cursor → Type 0} {vs : List ℕ} {t : ℕ} {c : Cursor} {level : ℕ} → AskEmpty vs t c level → ((us : List ℕ) (d : Cursor) → Leaves (emptied level) vs us t c d → P us d) → Settles P vs t c level None
goes_then a h = record { stays = λ d e. absurd (none-some d e); asks = λ e. a; goes = λ e. h }

pub settles_as : {P Q : List ℕ → Cursor → Type 0} {vs : List ℕ} {t : ℕ} {c : Cursor} {level : ℕ} {r : Option Cursor} → ((us : List ℕ) (d : Cursor) → P us d → Q us d) → Settles P vs t c level r → Settles Q vs t c level r
settles_as {vs} f s = record { stays = λ d e. f vs d (s.stays d e); asks = s.asks; goes = λ e us d g. f us d (s.goes e us d g) }

module _ (k : Kind) where
  -- the status decides
  statuses : (l : ℕ) (s : State) (A : Type 0) → (standing k s l ≡ Healthy → healed k l s ≡ s → A) → (standing k s l ≡ Rightmost → healed k l s ≡ next_node l s → A) →
      (standing k s l ≡ Underflow → 1 ≤ left k s l → healed k l s ≡ under k l s → A) → (standing k s l ≡ Empty → left k s l ≡ 0 → healed k l s ≡ emptied l s → A) → A
  unfolding healed under emptied status_of
  statuses l s A a b c d = elim (test (leb k.cap (2 * left k s l))) [
    | is e ↦ elim (test (eqb (s.ps l) (left k s l))) [
      | is f ↦ b (simp (e, f)) (simp (e, f))
      | isnt f ↦ a (simp (e, f)) (simp (e, f))
    ]
    | isnt e ↦ elim (test (ltb 0 (left k s l))) [
      | is f ↦
          let z = ltb-true 0 (left k s l) f in
          c (simp (e, f)) (omega arith) (simp (e, ne_eqb (left k s l) 0 (omega arith)))
      | isnt f ↦
          let z = ltb-false 0 (left k s l) f in
          d (simp (e, f)) (omega arith) (simp (e, eq-eqb (left k s l) 0 (omega arith)))
    ]
  ]

  module _ {ws : List ℕ} {t : ℕ} {c : Cursor} {status : Removed} {level : ℕ} where
    pub heals_0 : status ≡ Healthy → Mends k ws ws t c c status level
    heals_0 q = record {
      run = λ m e sp.
          statuses level m.s (Spelt ws t c (moved m (healed k level m.s)))
          (λ z h. rw h sp) (λ z h. absurd (clash (cc))) (λ z y h. absurd (clash (cc))) (λ z y h. absurd (clash (cc)));
    }

    pub heals_1 : {r : Cursor} → status ≡ Rightmost → Leaves (next_node level) ws ws t c r → Mends k ws ws t c r status level
    heals_1 {r} q f = record {
      run = λ m e sp.
          statuses level m.s (Spelt ws t r (moved m (healed k level m.s)))
          (λ z h. absurd (clash (cc))) (λ z h. rw h (f.run m sp)) (λ z y h. absurd (clash (cc))) (λ z y h. absurd (clash (cc)));
    }

    pub heals_2 : {vs : List ℕ} {r : Cursor} → status ≡ Underflow → Leaves (under k level) ws vs t c r → Mends k ws vs t c r status level
    heals_2 {vs} {r} q f = record {
      run = λ m e sp.
          statuses level m.s (Spelt vs t r (moved m (healed k level m.s)))
          (λ z h. absurd (clash (cc))) (λ z h. absurd (clash (cc))) (λ z y h. rw h (f.run m sp)) (λ z y h. absurd (clash (cc)));
    }

    pub heals_3 : {vs : List ℕ} {r : Cursor} → status ≡ Empty → Leaves (emptied level) ws vs t c r → Mends k ws vs t c r status level
    heals_3 {vs} {r} q f = record {
      run = λ m e sp.
          statuses level m.s (Spelt vs t r (moved m (healed k level m.s)))
          (λ z h. absurd (clash (cc))) (λ z h. absurd (clash (cc))) (λ z y h. absurd (clash (cc))) (λ z y h. rw h (f.run m sp));
    }

  module _ (law : Lawful k.ops k.words k.cap k.low) {ws : List ℕ} {t : ℕ} {c : Cursor} {status : Removed} {level : ℕ} (a : AskHeal k ws t c status level) where
    -- the way above a wounded node, also once nodes of its row have other words
    pub heal_way_put : {vs : List ℕ} (st' : Store) → HealMem.Keeps a.mem.s.st st' (nums a.ready.row) → Spelt vs t c (moved a.mem (stored a.mem.s st')) → Route vs t c level
    heal_way_put {vs} st' keeps sp = elim a.ready.left [
      | alive more st row ↦ record {
        deep = a.deep;
        mem = moved a.mem (stored a.mem.s st');
        spelt = sp;
        row = cut_row a.ready.at a.ready.row;
        at = parent (sizes a.ready.row) a.ready.at;
        rows = a.ready.rows;
        levels = a.ready.level;
        inside = rw (len-C law a.mem.count level a.mem.s a.ready) (par_in law a.mem.count level a.mem.s a.ready);
        stacked = st;
        named = λ x h. names x h;
        up = ups;
        path = path_c law a.mem.count level a.mem.s a.ready;
      }
      | dead one st big zeros rest ↦ record {
        deep = a.deep;
        mem = moved a.mem (stored a.mem.s st');
        spelt = sp;
        row = a.ready.row;
        at = parent (sizes a.ready.row) a.ready.at;
        rows = a.ready.rows;
        levels = a.ready.level;
        inside = par_in law a.mem.count level a.mem.s a.ready;
        stacked = st;
        named = λ x h. names x h;
        up = ups;
        path = a.ready.path;
      }
    ]
      where
        names : (x : ℕ) → 1 ≤ count x (numbers a.ready.rows) → (1 ≤ x) × (x ≤ a.mem.count)
        names x h =
            within_named a.mem.count (nums a.ready.row ++ numbers a.ready.rows) a.mem.s.free a.ready.within x
            (omega (arith, count-append x (nums a.ready.row) (numbers a.ready.rows)))

        ups : HealMem.HoldsUp st' a.ready.rows
        ups =
            HealMem.up_apart a.mem.s.st st' (nums a.ready.row) a.ready.rows keeps
            (HealMem.once-append (nums a.ready.row) (numbers a.ready.rows) (once_row law a.mem.count level a.mem.s a.ready)) a.ready.up

    pub heal_way : Route ws t c level
    heal_way = heal_way_put a.mem.s.st (λ x h. refl) a.spelt

    -- heal_level's calls

    pub ask_none : status ≡ Empty → AskEmpty ws t c level
    ask_none q =
        statuses level a.mem.s (AskEmpty ws t c level)
        (λ z h. absurd (clash (cc a.says))) (λ z h. absurd (clash (cc a.says))) (λ z y h. absurd (clash (cc a.says)))
        (λ z y h. record { deep = a.deep; mem = a.mem; spelt = a.spelt; ready = ready_none law a.mem.count level a.mem.s a.ready y })

    -- some items are left
    pub some_left : status ≡ Underflow → 1 ≤ left k a.mem.s level
    some_left q =
        statuses level a.mem.s (1 ≤ left k a.mem.s level)
        (λ z h. absurd (clash (cc a.says))) (λ z h. absurd (clash (cc a.says))) (λ z y h. y) (λ z y h. absurd (clash (cc a.says)))

  -- underflowed_node
  module _ {ws : List ℕ} {t : ℕ} {c : Cursor} {level : ℕ} {near : Option Item} (f : Finds ws t c level near) where
    pub under_none : {r : Cursor} → near ≡ None → Leaves (λ s. stayed k s level) ws ws t c r → Leaves (under k level) ws ws t c r
    unfolding under
    under_none {r} e g = record {
      run = λ m sp.
          subst (λ (x : Option Item). Spelt ws t r (moved m (under_with k.ops k.cap x (empty_node inner_ops level) level m.s))) (sym (e) ∙ f.run m sp) (g.run m sp);
    }

    module _ {key node : ℕ} (e : near ≡ Some (key, node)) where
      right : (m : Mem) → Spelt ws t c m → right_sibling m.s.st m.s.ns m.s.ps level ≡ Some (key, node)
      right m sp = sym (f.run m sp) ∙ e

      pub under-share : {vs : List ℕ} {all : Bool} → Joined k ws vs t c level all → all ≡ false → Leaves (under k level) ws vs t c c
      unfolding under
      under-share {vs} j q = record {
        run = λ m sp.
            let ft : fits k m.s level (key, node) ≡ false = sym (j.all_is m (key, node) sp (right m sp)) ∙ q in
            subst (λ (x : Option Item). Spelt vs t c (moved m (under_with k.ops k.cap x (empty_node inner_ops level) level m.s))) (sym (right m sp))
            (simp ft (j.share_some m (key, node) sp (right m sp) q));
      }

      pub under_merge : {vs xs : List ℕ} {r : Cursor} {all : Bool} → Joined k ws vs t c level all → all ≡ true → Leaves (emptied level) vs xs t c r → Leaves (under k level) ws xs t c r
      unfolding under emptied
      under_merge {vs} {xs} {r} j q g = record {
        run = λ m sp.
            let ft : fits k m.s level (key, node) ≡ true = sym (j.all_is m (key, node) sp (right m sp)) ∙ q in
            subst (λ (x : Option Item). Spelt xs t r (moved m (under_with k.ops k.cap x (empty_node inner_ops level) level m.s))) (sym (right m sp))
            (simp ft (g.run (moved m (gathered k m.s level (key, node))) (j.gather_all m (key, node) sp (right m sp) q)));
      }

      pub ask_merge : (law : Lawful k.ops k.words k.cap k.low) {vs : List ℕ} {all : Bool} → AskHeal k ws t c Underflow level → Joined k ws vs t c level all → all ≡ true → AskEmpty vs t c level
      ask_merge law a j q =
          let ft : fits k a.mem.s level (key, node) ≡ true = sym (j.all_is a.mem (key, node) a.spelt (right a.mem a.spelt)) ∙ q in
          record {
            deep = a.deep;
            mem = moved a.mem (gathered k a.mem.s level (key, node));
            spelt = j.gather_all a.mem (key, node) a.spelt (right a.mem a.spelt) q;
            ready = ready_merge law a.mem.count level a.mem.s a.ready (key, node) (some_left law a refl) (right a.mem a.spelt) (leb-true _ _ ft);
          }

-- empty_node: the node is freed
module _ {ws : List ℕ} {t : ℕ} {c : Cursor} {level : ℕ} (a : AskEmpty ws t c level) where
  abbrev gone : ℕ
  gone = get_or c.nodes level 0

  gone_is : get_or c.nodes level 0 ≡ num_at a.ready.row a.ready.at
  gone_is = a.spelt.nodes level a.deep ∙ rw a.ready.level at (HealPath.path_node a.ready.row a.ready.at a.ready.rows a.mem.s.ns a.mem.s.ps a.ready.path)

  gone_in : (1 ≤ get_or c.nodes level 0) × (get_or c.nodes level 0 ≤ a.mem.count)
  gone_in = rw gone_is (within_named a.mem.count (num_at a.ready.row a.ready.at ∷ numbers a.ready.rows) a.mem.s.free a.ready.within (num_at a.ready.row a.ready.at)
      (simp (eq-eqb (num_at a.ready.row a.ready.at) (num_at a.ready.row a.ready.at) refl) (omega arith)))

  gone_room : length a.mem.s.free < a.mem.count
  gone_room = room a.mem.count (num_at a.ready.row a.ready.at) (numbers a.ready.rows) a.mem.s.free a.ready.within

  pub free_asks : Freeable ws t (get_or c.nodes level 0)
  free_asks = spelt_freeable a.spelt (get_or c.nodes level 0) gone_in.0 gone_in.1 gone_room

  pub free_leaves : (vs : List ℕ) → vs ≡ freed_words ws t (get_or c.nodes level 0) → Leaves (λ s. free_node s (get_or c.nodes level 0)) ws vs t c c
  free_leaves vs e = record {
    run = λ m sp.
        let n = same_count a.spelt sp in
        let f = same_free a.spelt sp in
        rw e (spelt_freed sp (get_or c.nodes level 0) gone_in.0 (omega (arith, gone_in)) (omega (arith, gone_room)));
  }

  -- the way stays
  pub free_way : (vs : List ℕ) → vs ≡ freed_words ws t (get_or c.nodes level 0) → Route vs t c level
  free_way vs e = record {
    deep = a.deep;
    mem = moved a.mem (free_node a.mem.s (get_or c.nodes level 0));
    spelt = (free_leaves vs e).run a.mem a.spelt;
    row = a.ready.row;
    at = a.ready.at;
    rows = a.ready.rows;
    levels = a.ready.level;
    inside = a.ready.inside;
    stacked = a.ready.stacked;
    named = λ x h. within_named a.mem.count (num_at a.ready.row a.ready.at ∷ numbers a.ready.rows) a.mem.s.free a.ready.within x (omega arith);
    up = rw gone_is (HealMem.up_apart a.mem.s.st (put a.mem.s.st (num_at a.ready.row a.ready.at) no_words) (num_at a.ready.row a.ready.at ∷ []) a.ready.rows
        (HealMem.put_keeps a.mem.s.st (num_at a.ready.row a.ready.at) no_words (num_at a.ready.row a.ready.at ∷ [])
        (simp (eq-eqb (num_at a.ready.row a.ready.at) (num_at a.ready.row a.ready.at) refl) (omega arith)))
        (λ x. omega (arith, a.ready.within x, small (leb 1 x && leb x a.mem.count))) a.ready.up);
    path = a.ready.path;
  }

-- empty_node's call
pub ask_cut : {ws vs us : List ℕ} {t : ℕ} {c : Cursor} {level l : ℕ} {status : Removed} → suc l ≡ level → AskEmpty ws t c level → Leaves (λ s. free_node s (get_or c.nodes level 0)) ws vs t c c → Cuts inner_kind vs us t c l status →
    AskHeal inner_kind us t c status l
ask_cut {ws} {vs} {us} {t} {c} {level} {l} {status} e =
    subst (λ (z : ℕ). AskEmpty ws t c z → Leaves (λ s. free_node s (get_or c.nodes z 0)) ws vs t c c → Cuts inner_kind vs us t c l status → AskHeal inner_kind us t c status l) e asks
  where
    asks : AskEmpty ws t c (suc l) → Leaves (λ s. free_node s (get_or c.nodes (suc l) 0)) ws vs t c c → Cuts inner_kind vs us t c l status → AskHeal inner_kind us t c status l
    asks a f k =
        let n : get_or c.nodes (suc l) 0 ≡ a.mem.s.ns (suc l) = a.spelt.nodes (suc l) a.deep in
        let sp2 = k.leaves (moved a.mem (free_node a.mem.s (get_or c.nodes (suc l) 0))) (f.run a.mem a.spelt) in
        record {
          deep = omega (arith, a.deep);
          mem = moved a.mem (parent_cut inner_ops (free_node a.mem.s (get_or c.nodes (suc l) 0)) l);
          spelt = sp2;
          ready = subst (λ (x : ℕ). Wounded inner_kind.words 8 4 a.mem.count l (parent_cut inner_ops (free_node a.mem.s x) l)) (sym n) (ready_cut inner_law a.mem.count l a.mem.s a.ready);
          says = k.says _ sp2;
        }

-- empty_node's end
pub empties : {ws vs us xs : List ℕ} {t : ℕ} {c d r : Cursor} {level l : ℕ} {status : Removed} {near : Option Item} → suc l ≡ level → level < 16 → Leaves (λ s. free_node s (get_or c.nodes level 0)) ws vs t c c → Finds vs t c level near →
    Cuts inner_kind vs us t c l status → Mends inner_kind us xs t c d status l → Passes d r level near → Leaves (emptied level) ws xs t c r
unfolding emptied healed
empties {ws} {vs} {us} {xs} {t} {c} {d} {r} {level} {l} {status} {near} e =
    subst (λ (z : ℕ). z < 16 → Leaves (λ s. free_node s (get_or c.nodes z 0)) ws vs t c c → Finds vs t c z near → Cuts inner_kind vs us t c l status → Mends inner_kind us xs t c d status l → Passes d r z near → Leaves (emptied z) ws xs t c r) e
    (λ b f g k h st. record { run = ends b f g k h st })
  where
    ends : suc l < 16 → Leaves (λ s. free_node s (get_or c.nodes (suc l) 0)) ws vs t c c → Finds vs t c (suc l) near → Cuts inner_kind vs us t c l status → Mends inner_kind us xs t c d status l →
        Passes d r (suc l) near → (m : Mem) → Spelt ws t c m → Spelt xs t r (moved m (emptied (suc l) m.s))
    ends b f g k h st m sp =
        let sp1 = f.run m sp in
        let nr = g.run (moved m (free_node m.s (get_or c.nodes (suc l) 0))) sp1 in
        let sp2 = k.leaves (moved m (free_node m.s (get_or c.nodes (suc l) 0))) sp1 in
        let sp3 = h.run (moved m (parent_cut inner_ops (free_node m.s (get_or c.nodes (suc l) 0)) l)) (k.says _ sp2) sp2 in
        let sp4 = st.run xs t _ sp3 in
        let sp5 : Spelt xs t r (moved m (empty_from inner_ops (empty_node inner_ops l) l (get_or c.nodes (suc l) 0) m.s)) =
        subst (λ (x : Option Item). Spelt xs t r (moved m (through_right x (suc l) (heal_level inner_ops 8 (empty_node inner_ops l) l (parent_cut inner_ops (free_node m.s (get_or c.nodes (suc l) 0)) l))))) nr sp4 in
        subst (λ (x : ℕ). Spelt xs t r (moved m (empty_from inner_ops (empty_node inner_ops l) l x m.s))) (sp.nodes (suc l) b) sp5

-- PROOFS. Shrinking the root, one at a time
use mathlib.Core.Path.{◌≡◌, refl, sym, ap, ◌∙◌, subst}
use mathlib.Core.List.{List, [], ◌∷◌, ◌++◌}
use mathlib.Core.Bool.{true, false}
use Prim.Native.Nat.{ℕ, zero, suc, ◌+◌, ◌-◌, ◌≤◌, ◌<◌}
use native.Mathlib.Omega.{arith}
use lib.ListN.{length, get_or, length-map, length-append}
use lib.Dec.{ltb, eqb}
use borrow.Author.Tests.{eq-eqb, ne_eqb, ltb-true}
use Rattle.forest.specs.Lists.{once, count, sum}
use Rattle.forest.specs.Pairs.{Item}
use Rattle.forest.specs.Rows.{Row, size, nums, sizes, items_at}
use Rattle.forest.specs.Trees.{numbers, trim, trimmed, from_top}
use Rattle.forest.specs.Pools.{inner_words, root_above}
use Rattle.forest.specs.declared.Cursor.{Cursor}
use Rattle.forest.proofs.ListLaws.{is, isnt, test}
use Rattle.pool.specs.Stores.{Store, put, block, freed_words, no_words, Placed, Freeable}
use Rattle.crit.specs.States.{State}
use Rattle.crit.specs.Paths.{num_at, Stacked, HoldsUp}
use Rattle.crit.specs.Asks.{Mem, moved, Spelt}
use Rattle.heal.specs.Steps.{free_node}
use Rattle.remove.specs.Ends.{shrink, shrinks, Shrunk, AskShrink, Shrinks}
use Rattle.remove.specs.declared.Top.{Top}
use Rattle.crit.proofs.HealRows
use Rattle.crit.proofs.HealStack
use Rattle.crit.proofs.HealMem
use Rattle.crit.proofs.HealPath
use Rattle.crit.proofs.SpeltLaws.{spelt_block, spelt_placed, same_count}
use Rattle.heal.proofs.HealReady.{within_once}
use Rattle.heal.proofs.FreeLaws.{spelt_freeable, spelt_freed, same_free, room, within_named}
use Rattle.remove.proofs.HealTrim.{one_row, one_size, one_joined, only, shrunk, free_all_free}
use Rattle.forest.proofs.CallLaws.{length_push}
use Rattle.forest.proofs.TowerLaws.{some_length}
use Rattle.forest.proofs.WordLaws.{count-append}

-- the rows without the topmost
abbrev pub drop_top : List Row → List Row
drop_top [] = []
drop_top (S ∷ []) = []
drop_top (S ∷ S2 ∷ Ss) = S ∷ drop_top (S2 ∷ Ss)

-- the root of rows that a store holds
pub record Summit (st : Store) (R : Row) (rows : List Row) : Type 0 where
  pub items : List Item
  pub words : st (root_above R rows) ≡ inner_words items
  pub some : 1 ≤ length items
  pub inside : 1 ≤ count (root_above R rows) (numbers rows)
  -- with one child it goes
  pub stacked : length items ≡ 1 → Stacked R (drop_top rows)
  pub child : length items ≡ 1 → get_or (inner_words items) 8 0 ≡ root_above R (drop_top rows)
  pub counts : (x : ℕ) → count x (numbers rows) ≡ once (eqb x (root_above R rows)) + count x (numbers (drop_top rows))
  pub up : HoldsUp st (drop_top rows)
  pub shorter : suc (length (drop_top rows)) ≡ length rows

pub summit : (st : Store) (R S : Row) (Ss : List Row) → 1 ≤ length R → Stacked R (S ∷ Ss) → HoldsUp st (S ∷ Ss) → Summit st R (S ∷ Ss)
summit st R S [] some s h =
    let l_s : length S ≡ 1 = s.2 in
    let n : get_or (nums S) 0 0 ≡ num_at S 0 = refl in
    let u : sum (sizes S) ≡ length R = HealStack.stacked-sum R S s.0 in
    let z = one_size S l_s in
    record {
      items = items_at S 0;
      words = ap st n ∙ HealMem.holds_at inner_words st S 0 (omega arith) h.0;
      some = omega arith;
      inside = rw (n, count-append (num_at S 0) (nums S) []) (omega (arith, HealMem.num_at-counts S 0 (omega arith)));
      stacked = λ one. omega arith;
      child = λ one.
          HealPath.inner_child (items_at S 0) 0 (omega arith) ∙ ap (λ (l : List Item). (get_or l 0 (0, 0)).1) (sym (one_joined S l_s)) ∙
          HealStack.alike_val (0, 0) 0 s.0 ∙ ap (λ (x : Item). x.1) (HealRows.line_at (0, 0) R 0 some);
      counts = λ x. omega (arith, count-append x (nums S) [], ap (count x) (one_row S l_s), ap (λ (y : ℕ). once (eqb x y)) n);
      up = tt;
      shorter = refl;
    }
summit st R S (S2 ∷ Ss) some s h =
    let u : sum (sizes S) ≡ length R = HealStack.stacked-sum R S s.0 in
    let r = summit st S S2 Ss (some_length S (omega arith)) s.2 h.1 in
    record {
      items = r.items;
      words = r.words;
      some = r.some;
      inside = rw (count-append (root_above S (S2 ∷ Ss)) (nums S) (numbers (S2 ∷ Ss))) (omega (arith, r.inside));
      stacked = λ one. (s.0, s.1, r.stacked one);
      child = λ one. r.child one;
      counts = λ x. rw (count-append x (nums S) (numbers (S2 ∷ Ss)), count-append x (nums S) (numbers (drop_top (S2 ∷ Ss)))) (omega (arith, r.counts x));
      up = (h.0, r.up);
      shorter = ap suc r.shorter;
    }

module _ {ws : List ℕ} {t root levels : ℕ} (a : AskShrink ws t root levels) (h : 0 < levels) where
  peak : Summit a.mem.s.st a.row a.rows
  peak = from a.rows a.count a.stacked a.up
    where
      from : (rows : List Row) → length rows ≡ levels → Stacked a.row rows → HoldsUp a.mem.s.st rows → Summit a.mem.s.st a.row rows
      from [] e s u = absurd (omega arith)
      from (S ∷ Ss) e s u = summit a.mem.s.st a.row S Ss a.some s u

  whole : (x : ℕ) → count x (nums a.row ++ numbers a.rows) ≡ count x (nums a.row) + count x (numbers a.rows)
  whole x = count-append x (nums a.row) (numbers a.rows)

  top_in : (1 ≤ root) × (root ≤ a.mem.count)
  top_in = rw a.top (within_named a.mem.count (nums a.row ++ numbers a.rows) a.mem.s.free a.within (root_above a.row a.rows) (omega (arith, whole (root_above a.row a.rows), peak.inside)))

  pub top_placed : Placed ws t root
  top_placed = spelt_placed a.spelt root top_in.0 top_in.1

  top_room : length a.mem.s.free < a.mem.count
  top_room =
      room a.mem.count root (nums a.row ++ numbers (drop_top a.rows)) a.mem.s.free
      (λ x. let c = peak.counts x in
      let e : once (eqb x root) ≡ once (eqb x (root_above a.row a.rows)) = ap (λ (y : ℕ). once (eqb x y)) a.top in
      omega (arith, a.within x, whole x, count-append x (nums a.row) (numbers (drop_top a.rows))))

  pub top_freeable : Freeable ws t root
  top_freeable = spelt_freeable a.spelt root top_in.0 top_in.1 top_room

  top_words : block ws t root ≡ inner_words peak.items
  top_words = spelt_block a.spelt root top_in.0 top_in.1 ∙ ap a.mem.s.st a.top ∙ peak.words

  -- for every state that the words spell
  top_of : (c : Cursor) (m : Mem) → Spelt ws t c m → block ws t root ≡ m.s.st root
  top_of c m sp = spelt_block sp root top_in.0 (rw (← (same_count a.spelt sp)) top_in.1)

  freed_of : (c : Cursor) (m : Mem) → Spelt ws t c m → Spelt (freed_words ws t root) t c (moved m (free_node m.s root))
  freed_of c m sp =
      let n = same_count a.spelt sp in
      let f = same_free a.spelt sp in
      spelt_freed sp root top_in.0 (omega (arith, top_in)) (omega (arith, top_room))

  next_ask : (w vs : List ℕ) → w ≡ block ws t root → get_or w 0 0 ≡ 16 → vs ≡ freed_words ws t root → AskShrink vs t (get_or w 8 0) (levels - 1)
  next_ask w vs e z v =
      let q : w ≡ inner_words peak.items = e ∙ top_words in
      let one : length peak.items ≡ 1 = (let y : get_or w 0 0 ≡ 16 + (length peak.items - 1) = ap (λ (x : List ℕ). get_or x 0 0) q in omega (arith, peak.some)) in
      record {
        cursor = a.cursor;
        mem = moved a.mem (free_node a.mem.s root);
        spelt = rw v (freed_of a.cursor a.mem a.spelt);
        row = a.row;
        rows = drop_top a.rows;
        count = omega (arith, peak.shorter, a.count);
        some = a.some;
        stacked = peak.stacked one;
        within = λ x.
            let c = peak.counts x in
            let e : once (eqb x root) ≡ once (eqb x (root_above a.row a.rows)) = ap (λ (y : ℕ). once (eqb x y)) a.top in
            omega (arith, a.within x, whole x, count-append x (nums a.row) (numbers (drop_top a.rows)));
        up = HealMem.up_apart a.mem.s.st (put a.mem.s.st root no_words) (root ∷ []) (drop_top a.rows)
            (HealMem.put_keeps a.mem.s.st root no_words (root ∷ []) (simp (eq-eqb root root refl) (omega arith)))
            (λ x. let c = peak.counts x in
            let e : once (eqb x root) ≡ once (eqb x (root_above a.row a.rows)) = ap (λ (y : ℕ). once (eqb x y)) a.top in
            omega (arith, whole x, within_once a.mem.count (nums a.row ++ numbers a.rows) a.mem.s.free a.within x)) peak.up;
        top = ap (λ (x : List ℕ). get_or x 8 0) q ∙ peak.child one;
      }

-- The loop

-- on the way: n is the root once `gone` of those with one child went
pub record Stage (ws vs : List ℕ) (t root levels n gone : ℕ) (c : Cursor) (m : Mem) : Type 0 where
  pub s : State
  pub spelt : Spelt vs t c (moved m s)
  pub same : shrink levels m.s root ≡ shrink (levels - gone) s n
  pub times : shrinks levels m.s root ≡ gone + shrinks (levels - gone) s n

-- and what shrink_root may still ask there
pub record Going (ws vs : List ℕ) (t root levels n gone : ℕ) : Type 0 where
  pub few : gone ≤ levels
  pub ask : AskShrink vs t n (levels - gone)
  pub stage : (c : Cursor) (m : Mem) → Spelt ws t c m → Stage ws vs t root levels n gone c m

pub going_start : {ws : List ℕ} {t root levels : ℕ} → AskShrink ws t root levels → Going ws ws t root levels root 0
going_start {ws} {t} {root} {levels} a =
    let z : levels ≡ levels - 0 = omega arith in
    record {
      few = omega arith;
      ask = subst (AskShrink ws t root) z a;
      stage = λ c m sp. record { s = m.s; spelt = sp; same = ap (λ (l : ℕ). shrink l m.s root) z; times = (let y = ap (λ (l : ℕ). shrinks l m.s root) z in omega arith) };
    }

module _ {ws vs : List ℕ} {t root levels n gone : ℕ} (g : Going ws vs t root levels n gone) where
  pub going_placed : gone < levels → Placed vs t n
  going_placed h = top_placed g.ask (omega arith)

  pub going_freeable : gone < levels → Freeable vs t n
  going_freeable h = top_freeable g.ask (omega arith)

  pub going_on : (w us : List ℕ) → gone < levels → w ≡ block vs t n → get_or w 0 0 ≡ 16 → us ≡ freed_words vs t n → Going ws us t root levels (get_or w 8 0) (gone + 1)
  going_on w us h e z v =
      let k : levels - (gone + 1) ≡ levels - gone - 1 = omega arith in
      record {
        few = omega arith;
        ask = rw k (next_ask g.ask (omega arith) w us e z v);
        stage = λ c m sp.
            let s = g.stage c m sp in
            let q : w ≡ s.s.st n = e ∙ top_of g.ask (omega arith) c (moved m s.s) s.spelt in
            let y : eqb (get_or (s.s.st n) 0 0) 16 ≡ true = eq-eqb (get_or (s.s.st n) 0 0) 16 (ap (λ (x : List ℕ). get_or x 0 0) (sym q) ∙ z) in
            let l : levels - gone ≡ suc (levels - (gone + 1)) = omega arith in
            let i : get_or (s.s.st n) 8 0 ≡ get_or w 8 0 = ap (λ (x : List ℕ). get_or x 8 0) (sym q) in
            let a1 : shrink (suc (levels - (gone + 1))) s.s n ≡ shrink (levels - (gone + 1)) (free_node s.s n) (get_or w 8 0) = simp y (rw i) in
            let a2 : shrinks (suc (levels - (gone + 1))) s.s n ≡ suc (shrinks (levels - (gone + 1)) (free_node s.s n) (get_or w 8 0)) = simp y (rw i) in
            record {
              s = free_node s.s n;
              spelt = rw v (freed_of g.ask (omega arith) c (moved m s.s) s.spelt);
              same = s.same ∙ rw l a1;
              times = s.times ∙ ap (λ (x : ℕ). gone + shrinks x s.s n) l ∙ ap (gone +◌) a2 ∙ omega arith;
            };
      }

  pub going_stop : (w : List ℕ) (r : Top) → gone < levels → w ≡ block vs t n → (get_or w 0 0 ≡ 16 → ⊥) → r.root ≡ n → r.gone ≡ gone → Shrinks ws vs t root levels r
  going_stop w r h e z a b =
      let stop : (c : Cursor) (m : Mem) (s : Stage ws vs t root levels n gone c m) → (shrink levels m.s root ≡ record { state = s.s; root = n }) × (shrinks levels m.s root ≡ gone) =
      λ c m s.
      let q : w ≡ s.s.st n = e ∙ top_of g.ask (omega arith) c (moved m s.s) s.spelt in
      let y : eqb (get_or (s.s.st n) 0 0) 16 ≡ false = ne_eqb (get_or (s.s.st n) 0 0) 16 (λ k. z (ap (λ (x : List ℕ). get_or x 0 0) q ∙ k)) in
      let l : levels - gone ≡ suc (levels - (gone + 1)) = omega arith in
      let a1 : shrink (suc (levels - (gone + 1))) s.s n ≡ record { state = s.s; root = n } = simp y in
      let a2 : shrinks (suc (levels - (gone + 1))) s.s n ≡ 0 = simp y in
      (s.same ∙ rw l a1, s.times ∙ ap (λ (x : ℕ). gone + shrinks x s.s n) l ∙ ap (gone +◌) a2 ∙ omega arith) in
      record {
        run = λ c m sp. let s = g.stage c m sp in rw (stop c m s).0 s.spelt;
        root_is = λ c m sp. let s = g.stage c m sp in a ∙ ap (λ (x : Shrunk). x.root) (sym (stop c m s).0);
        gone_is = λ c m sp. b ∙ sym (stop c m (g.stage c m sp)).1;
      }

  pub going_end : (r : Top) → levels ≤ gone → r.root ≡ n → r.gone ≡ gone → Shrinks ws vs t root levels r
  going_end r h a b =
      let l : levels - gone ≡ 0 = omega arith in
      let stop : (c : Cursor) (m : Mem) (s : Stage ws vs t root levels n gone c m) → (shrink levels m.s root ≡ record { state = s.s; root = n }) × (shrinks levels m.s root ≡ gone) =
      λ c m s. (s.same ∙ rw l, s.times ∙ ap (λ (x : ℕ). gone + shrinks x s.s n) l ∙ omega arith) in
      record {
        run = λ c m sp. let s = g.stage c m sp in rw (stop c m s).0 s.spelt;
        root_is = λ c m sp. let s = g.stage c m sp in a ∙ ap (λ (x : Shrunk). x.root) (sym (stop c m s).0);
        gone_is = λ c m sp. b ∙ sym (stop c m (g.stage c m sp)).1;
      }

-- how many go
free_times : (f : ℕ) (s : State) (n : ℕ) → length (shrink f s n).state.free ≡ shrinks f s n + length s.free
free_times zero s n = omega arith
free_times (suc f) s n = elim (test (eqb (get_or (s.st n) 0 0) 16)) [
  | is e ↦ simp e (free_times f (free_node s n) (get_or (s.st n) 8 0) ∙ omega arith)
  | isnt e ↦ simp e (omega arith)
]

single_length : (R : Row) (Ss : List Row) → length R ≡ 1 → Stacked R Ss → length (from_top Ss) ≡ length Ss
single_length R [] e s = refl
single_length R (S ∷ Ss) e s =
    let u : sum (sizes S) ≡ length R = HealStack.stacked-sum R S s.0 in
    let l_s : length S ≡ 1 = sym (length-map S size) ∙ only (sizes S) (HealStack.fill_some 4 8 (sizes S) (omega arith) s.1) (u ∙ e) in
    length-append (from_top Ss) (nums S) ∙ omega (arith, single_length S Ss l_s s.2, length-map S (λ (n : Rattle.forest.specs.Rows.Node). n.num))

trimmed-length : (R : Row) (Ss : List Row) → 1 ≤ length R → Stacked R Ss → length (trimmed R Ss) + length (trim R Ss) ≡ length Ss
trimmed-length R [] h s = refl
trimmed-length R (S ∷ Ss) h s =
    let u : sum (sizes S) ≡ length R = HealStack.stacked-sum R S s.0 in
    elim (test (ltb (length R) 2)) [
      | is e ↦ let z = ltb-true (length R) 2 e in simp e (omega (arith, single_length R (S ∷ Ss) (omega arith) s))
      | isnt e ↦ simp e (omega (arith, trimmed-length S Ss (some_length S (omega arith)) s.2))
    ]

pub shrinks-length : (R : Row) (Ss : List Row) (s : State) → 1 ≤ length R → Stacked R Ss → HealMem.Once (numbers Ss) → HoldsUp s.st Ss → shrinks (length Ss) s (root_above R Ss) + length (trim R Ss) ≡ length Ss
shrinks-length R Ss s h st o hu =
    let a = free_times (length Ss) s (root_above R Ss) in
    let b : length (shrink (length Ss) s (root_above R Ss)).state.free ≡ length (trimmed R Ss) + length s.free =
    ap (λ (x : Shrunk). length x.state.free) (shrunk R Ss s h st o hu) ∙ ap length (free_all_free (trimmed R Ss) s) ∙ length_push (trimmed R Ss) s.free in
    omega (arith, trimmed-length R Ss h st)

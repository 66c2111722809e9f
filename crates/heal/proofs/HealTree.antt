-- DEFINITIONS and PROOFS. A pair is removed at a cursor: the cut of the leaf, the key, the healing; then the rows are those of the definition
use mathlib.Core.Path.{◌≡◌, refl, sym, ap, ◌∙◌, subst}
use mathlib.Core.List.{List, [], ◌∷◌, ◌++◌, map}
use mathlib.Core.Bool.{Bool, true, false, cond}
use Prim.Native.Nat.{ℕ, suc, ◌≤◌, ◌<◌}
use native.Mathlib.Omega.{arith}
use lib.ListN.{length, take, drop}
use lib.Seq.{take-append_seam, drop-append_seam}
use lib.Dec.{ltb, eqb}
use borrow.Author.Tests.{ltb-true, ltb-false, eqb-false, ne_eqb}
use Rattle.forest.specs.Lists.{remove_at, sum, pad, parent, offset}
use Rattle.forest.specs.Pairs.{Item}
use Rattle.forest.specs.Rows.{Row, front, nums, sizes, joined, line, items_at, Fill, drop_row, rekey, refresh}
use Rattle.forest.specs.Trees.{numbers, drop_up, lost}
use Rattle.forest.specs.Pools.{inner_words}
use Rattle.forest.proofs.ListLaws.{is, isnt, test, cons_eq}
use Rattle.forest.proofs.RowLaws.{length-items, fill_at, parent_there, offset_there}
use Rattle.crit.specs.States.{State, stored}
use Rattle.heal.specs.Steps.{Ops, heal_level, empty_node, parent_cut, fronted, remove_at_cursor}
use Rattle.heal.specs.Wounds.{Left, Within, Wounded, alive, dead}
use Rattle.crit.proofs.HealRows
use Rattle.crit.proofs.HealStack
use Rattle.crit.proofs.HealMem
use Rattle.crit.proofs.HealPath
use Rattle.crit.proofs.HealNext
use Rattle.heal.proofs.HealStep
use Rattle.heal.proofs.HealUp.{Lawful, Heals, Mended, empty_up, heal_some, heal_none, drop_up-shape, freed_up-shape}
use Rattle.forest.proofs.WordLaws.{count-append}
use Rattle.forest.proofs.NodeForms.{rekey_same}
use Rattle.heal.proofs.HealCut.{cut_left}

-- Rows that are stacked up to first keys, brought up to date: the words are the same
first_part : (zs rest ys : List Item) → 1 ≤ length zs → HealStack.Alike (zs ++ rest) ys → (take (length zs) ys ≡ HealRows.rekey_at 0 (front ys) zs) × (drop (length zs) ys ≡ rest)
first_part [] rest ys h a = absurd (omega arith)
first_part (x ∷ zs) rest [] h a = absurd (let z = HealStack.alike_length a in omega arith)
first_part (x ∷ zs) rest (y ∷ ys) h a =
    let v : x.1 ∷ map HealStack.val (zs ++ rest) ≡ y.1 ∷ map HealStack.val ys = a.vals in
    let e : x.1 ≡ y.1 = cc in
    let r : zs ++ rest ≡ ys = a.rest in (
      cons_eq (λ i. (y.0, sym e i)) (rw (← r) (take-append_seam zs rest)),
      rw (← r) (drop-append_seam zs rest),
    )

-- a row whose items are given anew, the same up to the first key
pub rekey-first : (S : Row) (ys : List Item) → HealStack.Some (sizes S) → HealStack.Alike (joined S) ys → rekey ys S ≡ HealRows.upd 0 (HealRows.rekey_at 0 (front ys)) S
rekey-first [] ys p a = refl
rekey-first (n ∷ S) ys p a =
    let z = first_part n.items (joined S) ys p.0 a in
    rw (z.0, z.1, rekey_same S)

pub refresh_holds : (R : Row) (Ss : List Row) (st : HealMem.Store) → HealStack.Stacked R Ss → HealMem.HoldsUp st Ss → HealMem.HoldsUp st (refresh R Ss)
refresh_holds R [] st s h = tt
refresh_holds R (S ∷ Ss) st s h =
    let e = rekey-first S (line R) (HealStack.fill_some 4 8 (sizes S) (omega arith) s.1) s.0 in
    let k = front (line R) in
    rw e (
      HealMem.holds_same inner_words st S 0 (HealRows.rekey_at 0 (front (line R))) (HealPath.inner_first (front (line R)) (items_at S 0)) h.0,
      refresh_holds (HealRows.upd 0 (HealRows.rekey_at 0 (front (line R))) S) Ss st
          (HealStack.stacked-line S (HealRows.upd 0 (HealRows.rekey_at 0 (front (line R))) S) Ss
          (HealStack.alike_sym (rw (HealRows.upd-line 0 (HealRows.rekey_at 0 (front (line R))) S) (HealStack.alike_first _ (line S)))) s.2) h.1,
    )

-- what is there once the leaf is cut and its front key handed up: rows above with other keys, and what is left of the leaf
record Front (enc : List Item → List ℕ) (L : Row) (i : ℕ) (Rs : List Row) (s t : State) : Type 0 where
  rows : List Row
  store : HealMem.Store
  is : t ≡ stored s store
  shape : HealStack.SameShape rows Rs
  keeps : HealMem.Keeps s.st store (nums L ++ numbers Rs)
  up : HealMem.HoldsUp store rows
  left : Left enc L i rows (stored s store)

-- remove at a cursor, where the leaf keeps a pair or the tree has another: cut, key, heal
module _ {enc : List Item → List ℕ} {cap low : ℕ} {leaf inner : Ops} (leaf_law : Lawful leaf enc cap low) (inner_law : Lawful inner inner_words 8 4) (key : List ℕ → ℕ) where
  module _ (key-is : (xs : List Item) → 1 ≤ length xs → key (enc xs) ≡ front xs) (L : Row) (Rs : List Row) (i : ℕ) (s : State)
      (b : i < sum (sizes L)) (fill : Fill low cap (sizes L)) (stacked : HealStack.Stacked L Rs) (once : HealMem.Once (nums L ++ numbers Rs))
      (row : HealMem.Holds enc s.st L) (up : HealMem.HoldsUp s.st Rs)
      (place : s.ps (length Rs) ≡ offset (sizes L) i) (path : HealPath.Leads L (parent (sizes L) i) Rs s.ns s.ps) where
    par_in : parent (sizes L) i < length L
    par_in = parent_there L i b

    off_in : offset (sizes L) i < length (items_at L (parent (sizes L) i))
    off_in = offset_there L i b

    few : length (items_at L (parent (sizes L) i)) ≤ cap
    few = rw (length-items L (parent (sizes L) i)) (fill_at low cap (sizes L) (parent (sizes L) i) fill)

    name : s.ns (length Rs) ≡ HealRows.num_at L (parent (sizes L) i)
    name = HealPath.path_node L (parent (sizes L) i) Rs s.ns s.ps path

    words : s.st (s.ns (length Rs)) ≡ enc (items_at L (parent (sizes L) i))
    words = ap s.st name ∙ HealMem.holds_at enc s.st L (parent (sizes L) i) par_in row

    apart : HealMem.Apart (nums L) (numbers Rs)
    apart = HealMem.once-append (nums L) (numbers Rs) once

    abbrev C : Row
    C = HealStep.cut_row i L

    abbrev s_b : State
    s_b = parent_cut leaf s (length Rs)

    keeps_b : HealMem.Keeps s.st s_b.st (nums L)
    keeps_b = HealMem.put_keeps s.st (s.ns (length Rs)) (leaf.cut (s.st (s.ns (length Rs))) (s.ps (length Rs))) (nums L) (rw name (HealMem.num_at-counts L (parent (sizes L) i) par_in))

    up_b : HealMem.HoldsUp s_b.st Rs
    up_b = HealMem.up_apart s.st s_b.st (nums L) Rs keeps_b apart up

    sum-L : suc (length (remove_at (offset (sizes L) i) (items_at L (parent (sizes L) i)))) ≡ length (items_at L (parent (sizes L) i))
    sum-L = cut_left i L b

    -- other keys above, of the same shape
    convert : (M : Row) (w : Bool) (Rs1 : List Row) (st : HealMem.Store) (s' : State) → HealStack.SameShape Rs1 Rs → HealMem.Keeps s.st st (nums L ++ numbers Rs) →
        Mended enc M w i L Rs1 (stored s st) s' → Mended enc M w i L Rs s s'
    convert M w Rs1 st s' shape k m =
        let ln = HealNext.shape-length shape in
        record {
          rows = m.rows;
          shape = HealStack.same_trans m.shape (either w);
          stacked = m.stacked;
          row = m.row;
          up = m.up;
          keeps = λ x c. m.keeps x (rw (HealNext.shape-numbers shape) c) ∙ k x c;
          zeros = λ x c d. m.zeros x (rw (HealNext.shape-numbers shape) c) d;
          free = rw (← (freed_up-shape (parent (sizes L) i) shape)) m.free;
          deeper = λ l d. m.deeper l (rw ln d);
          places = λ l d. m.places l (rw ln d);
          stands = rw (← ln) m.stands;
        }
      where
        either : (w : Bool) → HealStack.SameShape (cond w (drop_up (parent (sizes L) i) Rs1) Rs1) (cond w (drop_up (parent (sizes L) i) Rs) Rs)
        either true = drop_up-shape (parent (sizes L) i) shape
        either false = shape

    abbrev M : Row
    M = drop_row cap (parent (sizes L) i) (offset (sizes L) i) L

    abbrev k : ℕ
    k = front (remove_at (offset (sizes L) i) (items_at L (parent (sizes L) i)))

    abbrev st2 : HealMem.Store
    st2 = HealPath.left_set s_b.st s.ns s.ps (length Rs) k

    abbrev Rs1 : List Row
    Rs1 = HealStack.set_key (parent (sizes L) i) k Rs

    -- a pair is left in the leaf
    front-some : 2 ≤ length (items_at L (parent (sizes L) i)) → Front enc L i Rs s (fronted leaf cap inner key s_b (length Rs))
    front-some two =
        let w : leaf.cut (s.st (s.ns (length Rs))) (s.ps (length Rs)) ≡ enc (remove_at (offset (sizes L) i) (items_at L (parent (sizes L) i))) =
        rw (words, place) (leaf_law.cut_is (items_at L (parent (sizes L) i)) (offset (sizes L) i) off_in two few) in
        let row_b : HealMem.Holds enc s_b.st C =
        rw name (HealMem.holds_upd enc s.st L (parent (sizes L) i) (remove_at (offset (sizes L) i)) (leaf.cut (s.st (HealRows.num_at L (parent (sizes L) i))) (s.ps (length Rs))) par_in (λ x. omega (arith, apart x)) (rw name at w) row) in
        let w_b : s_b.st (s.ns (length Rs)) ≡ enc (remove_at (offset (sizes L) i) (items_at L (parent (sizes L) i))) =
        HealMem.put_same s.st (s.ns (length Rs)) (leaf.cut (s.st (s.ns (length Rs))) (s.ps (length Rs))) ∙ w in
        let some-xs : 1 ≤ length (remove_at (offset (sizes L) i) (items_at L (parent (sizes L) i))) = omega (arith, sum-L) in
        let en : leaf.entries (s_b.st (s.ns (length Rs))) ≡ length (remove_at (offset (sizes L) i) (items_at L (parent (sizes L) i))) = ap leaf.entries w_b ∙ leaf_law.entries_is (remove_at (offset (sizes L) i) (items_at L (parent (sizes L) i))) some-xs in
        let nz : eqb (leaf.entries (s_b.st (s.ns (length Rs)))) 0 ≡ false = ne_eqb (leaf.entries (s_b.st (s.ns (length Rs)))) 0 (omega arith) in
        elim (test (eqb (offset (sizes L) i) 0)) [
          | is e ↦
              let kk : key (s_b.st (s.ns (length Rs))) ≡ front (remove_at (offset (sizes L) i) (items_at L (parent (sizes L) i))) = ap key w_b ∙ key-is (remove_at (offset (sizes L) i) (items_at L (parent (sizes L) i))) some-xs in
              let keeps_f : HealMem.Keeps s_b.st st2 (numbers Rs) = HealPath.left_set-keeps s_b.st s.ns s.ps L (parent (sizes L) i) k Rs par_in stacked up_b path in
              let row_f : HealMem.Holds enc st2 C = HealMem.holds_apart enc s_b.st st2 (numbers Rs) C keeps_f (λ x. rw (HealRows.upd-nums (parent (sizes L) i) (remove_at (offset (sizes L) i)) L) (omega (arith, apart x))) row_b in
              record {
                rows = Rs1;
                store = st2;
                is = let e2 : eqb (s.ps (length Rs)) 0 ≡ true = rw place e in simp (nz, e2) (ap (λ (x : ℕ). stored s (HealPath.left_set s_b.st s.ns s.ps (length Rs) x)) kk);
                shape = HealStack.set_key_shape (parent (sizes L) i) k Rs;
                keeps = λ x c. let z = rw (count-append x (nums L) (numbers Rs)) at c in keeps_f x (omega arith) ∙ keeps_b x (omega arith);
                up = HealPath.left_set_holds s_b.st s.ns s.ps L (parent (sizes L) i) k Rs par_in stacked (λ x. omega (arith, apart x)) up_b path;
                left = alive two (HealStack.set_key_stacked L C Rs (parent (sizes L) i) k par_in (HealStack.alike_same (sym (HealRows.upd-line (parent (sizes L) i) (remove_at (offset (sizes L) i)) L))) stacked) row_f;
              }
          | isnt e ↦
              let same_line = HealStack.line_same (parent (sizes L) i) (remove_at (offset (sizes L) i)) L (HealStep.front_cut (offset (sizes L) i) (items_at L (parent (sizes L) i)) (eqb-false _ _ e)) in
              record {
                rows = Rs;
                store = s_b.st;
                is = simp nz (simp (place, e));
                shape = HealStack.same_refl Rs;
                keeps = λ x c. keeps_b x (let z = rw (count-append x (nums L) (numbers Rs)) at c in omega arith);
                up = up_b;
                left = alive two (HealStack.stacked-line L C Rs (HealStack.alike_same (sym same_line)) stacked) row_b;
              }
        ]

    -- the leaf is empty, and the tree is not
    front-none : length (items_at L (parent (sizes L) i)) ≡ 1 → 2 ≤ sum (sizes L) → Front enc L i Rs s (fronted leaf cap inner key s_b (length Rs))
    front-none one two =
        let w : leaf.cut (s.st (s.ns (length Rs))) (s.ps (length Rs)) ≡ pad 16 [] = rw words (leaf_law.cut_none (items_at L (parent (sizes L) i)) (s.ps (length Rs)) one) in
        let w_b : s_b.st (s.ns (length Rs)) ≡ pad 16 [] = HealMem.put_same s.st (s.ns (length Rs)) (leaf.cut (s.st (s.ns (length Rs))) (s.ps (length Rs))) ∙ w in
        let z : eqb (leaf.entries (s_b.st (s.ns (length Rs)))) 0 ≡ true = rw (w_b, leaf_law.entries_none) refl in
        record {
          rows = Rs;
          store = s_b.st;
          is = simp z;
          shape = HealStack.same_refl Rs;
          keeps = λ x c. keeps_b x (let z = rw (count-append x (nums L) (numbers Rs)) at c in omega arith);
          up = up_b;
          left = dead one stacked two w_b
              (HealMem.frame enc s.st (s.ns (length Rs)) (leaf.cut (s.st (s.ns (length Rs))) (s.ps (length Rs))) (remove_at (parent (sizes L) i) L)
              (rw name (HealMem.gone enc L (parent (sizes L) i) par_in (λ x. omega (arith, apart x)))) (HealMem.holds_remove enc s.st L (parent (sizes L) i) row));
        }

    front-set : 2 ≤ sum (sizes L) → Front enc L i Rs s (fronted leaf cap inner key s_b (length Rs))
    front-set two = elim (test (ltb 1 (length (items_at L (parent (sizes L) i))))) [
      | is e ↦ front-some (ltb-true _ _ e)
      | isnt e ↦ front-none (let z = ltb-false 1 (length (items_at L (parent (sizes L) i))) e in omega (arith, off_in)) two
    ]

    -- REMOVE AT A CURSOR, unless the pair is the only one
    pub removed : 2 ≤ sum (sizes L) → Mended enc M (lost M L) i L Rs s (remove_at_cursor leaf cap inner key s (length Rs))
    removed two =
        let f = front-set two in
        let ln : length f.rows ≡ length Rs = HealNext.shape-length f.shape in
        let up = empty_node inner (length Rs) in
        let ups : Heals (empty_node inner (length Rs)) (length f.rows) = rw ln (empty_up inner_law (length Rs)) in
        let each_once = rw (← (HealNext.shape-numbers f.shape)) at once in
        let path1 = HealNext.path_shape L L (parent (sizes L) i) s.ns s.ps refl (HealStack.same_sym f.shape) path in
        rw f.is (convert M (lost M L) f.rows f.store (heal_level leaf cap up (length Rs) (stored s f.store)) f.shape f.keeps
        (subst (λ (n : ℕ). Mended enc M (lost M L) i L f.rows (stored s f.store) (heal_level leaf cap up n (stored s f.store))) ln (elim f.left [
          | alive more st row ↦ heal_some leaf_law up i L f.rows ups (stored s f.store) b fill each_once f.up (rw ln place) path1 (omega (arith, sum-L)) st row
          | dead one st big zeros rest ↦ heal_none leaf_law up i L f.rows ups (stored s f.store) b fill each_once f.up (rw ln place) path1 st (omega (arith, sum-L)) big zeros rest
        ])))

    -- heal_level may be called
    pub front_wounded : 2 ≤ sum (sizes L) → (N : ℕ) → Within N (nums L ++ numbers Rs) s.free → Wounded enc cap low N (length Rs) (fronted leaf cap inner key s_b (length Rs))
    front_wounded two N within =
        let f = front-set two in
        let ln : length f.rows ≡ length Rs = HealNext.shape-length f.shape in
        rw f.is (record {
          row = L;
          at = i;
          rows = f.rows;
          level = ln;
          inside = b;
          fill = fill;
          within = rw (HealNext.shape-numbers f.shape) within;
          up = f.up;
          place = rw ln place;
          path = HealNext.path_shape L L (parent (sizes L) i) s.ns s.ps refl (HealStack.same_sym f.shape) path;
          left = f.left;
        })

    -- the leaf's words are those of the cut
    pub front_words : (fronted leaf cap inner key s_b (length Rs)).st (s.ns (length Rs)) ≡ s_b.st (s.ns (length Rs))
    front_words = elim (test (eqb (leaf.entries (s_b.st (s.ns (length Rs)))) 0)) [
      | is e ↦ simp e
      | isnt e ↦ elim (test (eqb (s.ps (length Rs)) 0)) [
        | isnt f ↦ simp (e, f)
        | is f ↦ simp (e, f)
            (HealPath.left_set-keeps s_b.st s.ns s.ps L (parent (sizes L) i) (key (s_b.st (s.ns (length Rs)))) Rs par_in stacked up_b path (s.ns (length Rs))
            (rw name (omega (arith, apart (HealRows.num_at L (parent (sizes L) i)), HealMem.num_at-counts L (parent (sizes L) i) par_in))))
      ]
    ]

    pub front_path : ((fronted leaf cap inner key s_b (length Rs)).ns ≡ s.ns) × ((fronted leaf cap inner key s_b (length Rs)).ps ≡ s.ps)
    front_path = elim (test (eqb (leaf.entries (s_b.st (s.ns (length Rs)))) 0)) [
      | is e ↦ simp e (refl, refl)
      | isnt e ↦ elim (test (eqb (s.ps (length Rs)) 0)) [ is f ↦ simp (e, f) (refl, refl) | isnt f ↦ simp (e, f) (refl, refl) ]
    ]

-- the words are those of the rows of the definition
pub exact : {enc : List Item → List ℕ} {M : Row} {w : Bool} {i : ℕ} {L : Row} {Rs : List Row} {s s' : State} → Mended enc M w i L Rs s s' →
    HealMem.HoldsUp s'.st (refresh M (cond w (drop_up (parent (sizes L) i) Rs) Rs))
exact {M} {s'} m = rw (← (HealStack.refresh-shape M m.shape)) (refresh_holds M m.rows s'.st m.stacked m.up)

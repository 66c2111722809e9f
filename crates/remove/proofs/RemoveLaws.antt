-- PROOFS. Remove at a cursor, where the tree has another pair: the words are those of the pool of the definition, and so is the cursor
use mathlib.Core.Path.{◌≡◌, refl, sym, ap, ◌∙◌, subst}
use mathlib.Core.List.{List, [], ◌∷◌, ◌++◌, map}
use mathlib.Core.Bool.{true, cond}
use mathlib.Core.Option.{Option, none, some}
use Prim.Native.Nat.{ℕ, zero, suc, ◌+◌, ◌-◌, ◌*◌, ◌≤◌, ◌<◌}
use native.Mathlib.Omega.{arith}
use lib.ListN.{length, get_or, set, take, drop, get_elem?, length-map, get_or-map}
use lib.Seq.{get_or-set_same}
use lib.Dec.{ltb, eqb}
use borrow.Author.Tests.{lt-ltb, le-ltb, eq-eqb, eqb-true, eqb-false, lt-leb}
use Rattle.forest.specs.Lists.{sum, count, parent, offset, pad}
use Rattle.forest.specs.Pairs.{Item, has, place}
use Rattle.forest.specs.Rows.{Row, Tree, nums, sizes, items_at, drop_row, refresh}
use Rattle.forest.specs.Trees.{numbers, leaf_of, leaf_items, drop_up, freed_up, lost, trim, trimmed, remove_tree, freed}
use Rattle.forest.specs.Pools.{Pool, WellFormed, encode, tree_of, with_tree, root, root_above, push_all, node_words, leaf_words, remove, done}
use Rattle.forest.specs.Cursors.{Spot, on, leaves, Fits, Stands, pair_at, path_of, path_up, path_in, cursor_at, spot_of, spot_at, blocked, move, move_from, left_pool, left_spot, removed, removed_spot, to_remove}
use Rattle.forest.specs.declared.Cursor.{Cursor}
use Rattle.forest.proofs.ListLaws.{is, isnt, test, map-set}
use Rattle.forest.proofs.TowerLaws.{tower_some}
use Rattle.forest.proofs.PoolLaws.{call-done, call_free}
use Rattle.forest.proofs.CursorLaws.{spot_path, seek_pair}
use Rattle.forest.proofs.CursorCalls.{move-done}
use Rattle.forest.proofs.StandLaws.{path_in_lem, stands_yes, length-path_up}
use Rattle.pool.specs.Stores.{spell}
use Rattle.pool.proofs.Spell.{encode-spell, spell_ext}
use Rattle.pool.proofs.Bridges.{spell-root, spell-set-root}
use Rattle.crit.specs.States.{State}
use Rattle.crit.specs.Paths.{num_at, Stacked, Leads}
use Rattle.crit.specs.Asks.{moved, Spelt}
use Rattle.heal.specs.Steps.{taken}
use Rattle.remove.specs.Ends.{shrink, shrinks, Shrunk, AskShrink, Shrinks, shifted}
use Rattle.remove.specs.declared.Top.{Top}
use Rattle.crit.proofs.HealNext
use Rattle.heal.proofs.HealUp.{Mended, Where, here, past}
use Rattle.remove.proofs.HealTrim.{free_all}
use Rattle.remove.proofs.HealEnd
use Rattle.remove.proofs.HealDone
use Rattle.remove.proofs.HealRemove.{tree_is, freed_is}
use Rattle.remove.proofs.PathLists
use Rattle.remove.proofs.StartLaws.{Begun, good, e_in, i, spot, levels, P, size_is, s0, m0, path0, place0, holds0, within0, before0, each0}
use Rattle.remove.proofs.EndLaws.{root_same, rows_length, within_after, free_all_path}
use Rattle.remove.proofs.ShrinkLaws.{shrinks-length}

nth-has : (xs : List Item) (i : ℕ) (x : Item) → get_elem? xs i ≡ some x → has x.0 xs ≡ true
nth-has [] i x e = absurd (let y : ◌≡◌ {A = ℕ} 0 1 = cc in omega arith)
nth-has (y ∷ xs) zero x e =
    let q : y ≡ x = cc in
    simp (eq-eqb x.0 y.0 (ap (λ (z : Item). z.0) (sym q)))
nth-has (y ∷ xs) (suc i) x e = elim (test (eqb x.0 y.0)) [ is f ↦ simp f | isnt f ↦ simp f (nth-has xs i x e) ]

least_two : 2 ≤ 3
least_two = omega arith

least_half : 2 * 3 ≤ 8
least_half = omega arith

on_eq : {a b d e : ℕ} → on a b ≡ on d e → (a ≡ d) × (b ≡ e)
on_eq q = (cc, cc)

-- the call on the pool, for a cursor on a pair
module _ (p : Pool) (c : Cursor) (formed : WellFormed 3 p) (b : Begun p c) where
  abbrev k : ℕ
  k = b.x.0

  fits : Fits (leaves (tree_of p c.tree)) (on b.j b.e)
  fits = rw b.is (b.jl, omega (arith, e_in p c formed b))

  at_spot : spot_of (tree_of p c.tree) (path_in c) ≡ on b.j b.e
  at_spot =
      let lp : length (P p c formed b) ≤ 16 = omega (arith, length-path_up b.j b.Rs ((get_or (nums b.L) b.j 0, b.e) ∷ []), levels p c formed b) in
      let q : path_in c ≡ P p c formed b = ap path_in (sym b.cur) ∙ path_in_lem c.tree (P p c formed b) lp in
      rw (q, b.is) (spot_path 3 (b.L ∷ b.Rs) (on b.j b.e) (good p c formed b) (b.jl, omega (arith, e_in p c formed b)))

  pub not-blocked : blocked to_remove c p ≡ none
  unfolding blocked
  not-blocked =
      let st : Stands (tree_of p c.tree) c = record { spot = on b.j b.e; fits = fits; same = rw b.is b.cur } in
      let g = subst (Rattle.forest.specs.Rows.Good 3 7) (sym b.is) (good p c formed b) in
      let l : length (tree_of p c.tree) ≤ 16 = (let y : length (tree_of p c.tree) ≡ suc (length b.Rs) = ap length b.is in omega (arith, levels p c formed b)) in
      let y = stands_yes 3 (tree_of p c.tree) c g l st in
      simp (lt-leb (length p.trees) c.tree b.there, y)

  move_is : move to_remove c p ≡ move_from to_remove c.tree (on b.j b.e) p
  move_is = move-done to_remove c p not-blocked ∙ ap (λ (s : Spot). move_from to_remove c.tree s p) at_spot

  pub sought : (leaf_of b.x.0 b.L ≡ b.j) × (place b.x.0 (leaf_items b.x.0 b.L) ≡ b.e)
  sought =
      let q = seek_pair 3 b.L b.Rs b.j b.e b.x (omega arith) (good p c formed b) b.jl b.pair in
      let t : ltb 0 (length b.L) ≡ true = lt-ltb 0 (length b.L) (tower_some b.L b.Rs (good p c formed b).2) in
      on_eq (simp t at q)

  pub there_it_is : has b.x.0 (leaf_items b.x.0 b.L) ≡ true
  there_it_is = rw sought.0 (nth-has (items_at b.L b.j) b.e b.x b.pair)

  pair_is : pair_at (leaves (tree_of p c.tree)) (on b.j b.e) ≡ some b.x
  pair_is = ap (λ (T : Tree). pair_at (leaves T) (on b.j b.e)) b.is ∙ b.pair

  pub called : (removed c.tree (some b.x) p) ≡ with_tree p c.tree (remove_tree 7 b.x.0 (b.L ∷ b.Rs)) (push_all (freed 7 b.x.0 (b.L ∷ b.Rs)) p.free)
  unfolding done
  called =
      ap (λ (d : Rattle.forest.specs.Pools.Done). d.pool) (call-done (remove c.tree b.x.0) p (call_free (remove c.tree b.x.0) p (record { there = b.there; enough = omega arith }))) ∙
      ap (λ (T : Tree). with_tree p c.tree (remove_tree 7 b.x.0 T) (push_all (freed 7 b.x.0 T) p.free)) b.is

  -- the pool, once the tree and the freed numbers are known
  module _ (T' : Tree) (fs : List ℕ) (e_t : remove_tree 7 b.x.0 (b.L ∷ b.Rs) ≡ T') (ef : freed 7 b.x.0 (b.L ∷ b.Rs) ≡ fs) where
    abbrev pub p' : Pool
    p' = with_tree p c.tree T' (push_all fs p.free)

    left_is : left_pool to_remove c.tree (on b.j b.e) p ≡ p'
    left_is = ap (λ (o : Option Item). removed c.tree o p) pair_is ∙ called ∙ rw (e_t, ef)

    pub pool_is : (move to_remove c p).pool ≡ p'
    unfolding move_from
    pool_is = ap (λ (m : Rattle.forest.specs.Cursors.Moved). m.pool) move_is ∙ left_is

    own : tree_of p' c.tree ≡ T'
    own = get_or-set_same p.trees c.tree T' [] b.there

    pub cursor_is : (move to_remove c p).cursor ≡ cursor_at c.tree (path_of T' (spot_at (leaves T') (i p c formed b)))
    unfolding move_from
    cursor_is =
        ap (λ (m : Rattle.forest.specs.Cursors.Moved). m.cursor) move_is ∙
        ap (λ (q : Pool). cursor_at c.tree (path_of (tree_of q c.tree) (left_spot to_remove (leaves (tree_of p c.tree)) (leaves (tree_of q c.tree)) (on b.j b.e)))) left_is ∙
        ap (λ (T : Tree). cursor_at c.tree (path_of T (left_spot to_remove (leaves (tree_of p c.tree)) (leaves T) (on b.j b.e)))) own ∙
        ap (λ (T : Tree). cursor_at c.tree (path_of T' (removed_spot (pair_at (leaves T) (on b.j b.e)) (leaves T) (leaves T') (on b.j b.e)))) b.is ∙
        ap (λ (o : Option Item). cursor_at c.tree (path_of T' (removed_spot o b.L (leaves T') (on b.j b.e)))) b.pair

    -- its words
    pub encoded : (st : Rattle.pool.specs.Stores.Store) (free : List ℕ) (n : ℕ) → ((x : ℕ) → st x ≡ node_words (set p.trees c.tree T') x) → free ≡ push_all fs p.free → n ≡ root T' →
        encode (move to_remove c p).pool ≡ spell (set (map root p.trees) c.tree n) p.count st free
    encoded st free n w f r =
        ap encode pool_is ∙ encode-spell p' ∙ rw (map-set root c.tree T' p.trees, f, r) (spell_ext (set (map root p.trees) c.tree (root T')) p.count (node_words (set p.trees c.tree T')) st (push_all fs p.free) (λ x lo hi. sym (w x)))

  -- the root word of a state that keeps the roots
  pub root_word : {vs : List ℕ} {t : ℕ} {d : Cursor} {s : State} → Spelt vs t d (moved (m0 p c formed b) s) → get_or vs (c.tree + 1) 0 ≡ root_above b.L b.Rs
  root_word {vs} {t} {d} {s} sp =
      ap (λ (v : List ℕ). get_or v (c.tree + 1) 0) sp.words ∙ spell-root (map root p.trees) p.count s.st s.free sp.sixteen c.tree (rw (length-map p.trees root) b.there) ∙
      get_or-map root p.trees c.tree [] ∙ ap root b.is

  pub root_in : {vs : List ℕ} {t : ℕ} {d : Cursor} {s : State} → Spelt vs t d (moved (m0 p c formed b) s) → c.tree + 1 < length vs
  root_in {vs} {t} {d} {s} sp =
      let z = Rattle.pool.proofs.Bridges.spell-length (map root p.trees) p.count s.st s.free sp.sixteen in
      omega (arith, ap length sp.words, length-map p.trees root, b.there)

  pub root-set : {vs us : List ℕ} {t : ℕ} {d : Cursor} {s : State} (n : ℕ) → Spelt vs t d (moved (m0 p c formed b) s) → us ≡ set vs (c.tree + 1) n → us ≡ spell (set (map root p.trees) c.tree n) p.count s.st s.free
  root-set {vs} {us} {t} {d} {s} n sp e =
      e ∙ ap (λ (v : List ℕ). set v (c.tree + 1) n) sp.words ∙ spell-set-root (map root p.trees) p.count s.st s.free sp.sixteen c.tree n (rw (length-map p.trees root) b.there)

  -- the tree has another pair
  module _ (more : 2 ≤ sum (sizes b.L)) where
    place1 : (s0 p c formed b).ps (length b.Rs) ≡ offset (sizes b.L) (i p c formed b)
    place1 = place0 p c formed b ∙ sym (spot p c formed b).1

    path1 : Leads b.L (parent (sizes b.L) (i p c formed b)) b.Rs (s0 p c formed b).ns (s0 p c formed b).ps
    path1 = rw (spot p c formed b).0 (path0 p c formed b)

    abbrev pub s' : State
    s' = taken (length b.Rs) (s0 p c formed b)

    abbrev pub M : Row
    M = drop_row 7 (parent (sizes b.L) (i p c formed b)) (offset (sizes b.L) (i p c formed b)) b.L

    abbrev pub above : List Row
    above = cond (lost M b.L) (drop_up (parent (sizes b.L) (i p c formed b)) b.Rs) b.Rs

    abbrev pub new : List Row
    new = refresh M (trim M above)

    abbrev pub s_f : State
    s_f = free_all (trimmed M above) s'

    mend : Mended leaf_words M (lost M b.L) (i p c formed b) b.L b.Rs (s0 p c formed b) s'
    mend = HealDone.m 3 least_two least_half b.L b.Rs (good p c formed b).1 (good p c formed b).2 p.trees c.tree b.there (s0 p c formed b) (before0 p c formed b) (each0 p c formed b) (holds0 p c formed b) (i p c formed b) (spot p c formed b).2 more place1 path1

    stacked : Stacked b.L b.Rs
    stacked = HealDone.tower_stacked b.L b.Rs (good p c formed b).2

    some-M : 1 ≤ length M
    some-M = HealDone.some-M 3 least_two least_half b.L b.Rs (good p c formed b).1 (good p c formed b).2 p.trees c.tree b.there (s0 p c formed b) (before0 p c formed b) (each0 p c formed b) (holds0 p c formed b) (i p c formed b) (spot p c formed b).2 more place1 path1

    par_in : parent (sizes b.L) (i p c formed b) < length b.L
    par_in = HealDone.par_in 3 least_two least_half b.L b.Rs (good p c formed b).1 (good p c formed b).2 p.trees c.tree b.there (s0 p c formed b) (before0 p c formed b) (each0 p c formed b) (holds0 p c formed b) (i p c formed b) (spot p c formed b).2 more place1 path1

    same-root : root_above M mend.rows ≡ root_above b.L b.Rs
    same-root = root_same mend refl some-M stacked par_in

    long : length mend.rows ≡ length b.Rs
    long = rows_length mend refl some-M stacked par_in

    -- what shrink_root asks
    pub shrink_asks : {vs : List ℕ} {t root : ℕ} {d : Cursor} → Spelt vs t d (moved (m0 p c formed b) s') → root ≡ get_or vs (c.tree + 1) 0 → AskShrink vs t root (length b.Rs)
    shrink_asks {d = d} sp e = record {
      cursor = d;
      mem = moved (m0 p c formed b) s';
      spelt = sp;
      row = M;
      rows = mend.rows;
      count = long;
      some = some-M;
      stacked = mend.stacked;
      within = within_after mend refl some-M stacked par_in p.count (good p c formed b).2 (within0 p c formed b);
      up = mend.up;
      top = e ∙ root_word sp ∙ sym same-root;
    }

    once_rows : (x : ℕ) → count x (numbers mend.rows) ≤ 1
    once_rows x = rw (HealNext.shape-numbers mend.shape) (HealDone.once_above 3 least_two least_half b.L b.Rs (good p c formed b).1 (good p c formed b).2 p.trees c.tree b.there (s0 p c formed b) (before0 p c formed b) (each0 p c formed b) (holds0 p c formed b) (i p c formed b) (spot p c formed b).2 more place1 path1 x)

    shrunk-to : (n : ℕ) → n ≡ root_above b.L b.Rs → shrink (length b.Rs) s' n ≡ record { state = s_f; root = root_above M new }
    unfolding mend
    shrunk-to n e = ap (λ (q : ℕ). shrink q s' n) (sym long) ∙ ap (shrink (length mend.rows) s') (e ∙ sym same-root) ∙ HealDone.ends 3 least_two least_half b.L b.Rs (good p c formed b).1 (good p c formed b).2 p.trees c.tree b.there (s0 p c formed b) (before0 p c formed b) (each0 p c formed b) (holds0 p c formed b) (i p c formed b) (spot p c formed b).2 more place1 path1

    tree-new : remove_tree 7 b.x.0 (b.L ∷ b.Rs) ≡ M ∷ new
    tree-new = tree_is 7 b.x.0 b.L b.Rs (i p c formed b) there_it_is ((spot p c formed b).0 ∙ sym sought.0) ((spot p c formed b).1 ∙ sym sought.1) some-M

    abbrev gone_list : List ℕ
    gone_list = cond (lost M b.L) (num_at b.L (parent (sizes b.L) (i p c formed b)) ∷ freed_up (parent (sizes b.L) (i p c formed b)) b.Rs) [] ++ trimmed M above

    freed-new : freed 7 b.x.0 (b.L ∷ b.Rs) ≡ gone_list
    freed-new = freed_is 7 b.x.0 b.L b.Rs (i p c formed b) there_it_is ((spot p c formed b).0 ∙ sym sought.0) ((spot p c formed b).1 ∙ sym sought.1)

    new-length : length new ≡ length (trim M mend.rows)
    new-length =
        let q : refresh M (trim M mend.rows) ≡ new = Rattle.crit.proofs.HealStack.refresh-shape M (HealEnd.trim-shape 0 M M refl mend.shape) in
        ap length (sym q) ∙ HealNext.shape-length (HealEnd.refresh_same M (trim M mend.rows) (Rattle.remove.proofs.HealTrim.trim-stacked M mend.rows some-M mend.stacked))

    -- remove's end
    module _ {vs xs ys : List ℕ} {t n : ℕ} {d r : Cursor} {top : Top} (sp : Spelt vs t d (moved (m0 p c formed b) s')) (en : n ≡ get_or vs (c.tree + 1) 0)
        (sh : Shrinks vs xs t n (length b.Rs) top) (ey : ys ≡ set xs (c.tree + 1) top.root) (er : r ≡ shifted d top.gone) where
      n_is : n ≡ root_above b.L b.Rs
      n_is = en ∙ root_word sp

      pub sp2 : Spelt xs t d (moved (m0 p c formed b) s_f)
      sp2 = subst (λ (q : Shrunk). Spelt xs t d (moved (m0 p c formed b) q.state)) (shrunk-to n n_is) (sh.run d (moved (m0 p c formed b) s') sp)

      pub end_words : encode (move to_remove c p).pool ≡ ys
      end_words =
          encoded (M ∷ new) gone_list tree-new freed-new s_f.st s_f.free top.root (HealDone.words 3 least_two least_half b.L b.Rs (good p c formed b).1 (good p c formed b).2 p.trees c.tree b.there (s0 p c formed b) (before0 p c formed b) (each0 p c formed b) (holds0 p c formed b) (i p c formed b) (spot p c formed b).2 more place1 path1) (HealDone.frees 3 least_two least_half b.L b.Rs (good p c formed b).1 (good p c formed b).2 p.trees c.tree b.there (s0 p c formed b) (before0 p c formed b) (each0 p c formed b) (holds0 p c formed b) (i p c formed b) (spot p c formed b).2 more place1 path1)
          (sh.root_is d (moved (m0 p c formed b) s') sp ∙ ap (λ (q : Shrunk). q.root) (shrunk-to n n_is)) ∙
          sym (root-set top.root sp2 ey)

      pub gone_length : top.gone + length new ≡ length b.Rs
      gone_length =
          let a : top.gone ≡ shrinks (length b.Rs) s' n = sh.gone_is d (moved (m0 p c formed b) s') sp in
          let q : shrinks (length b.Rs) s' n ≡ shrinks (length mend.rows) s' (root_above M mend.rows) = ap (λ (q : ℕ). shrinks q s' n) (sym long) ∙ ap (shrinks (length mend.rows) s') (n_is ∙ sym same-root) in
          omega (arith, shrinks-length M mend.rows s' some-M mend.stacked once_rows mend.up, new-length, long)

      node_at_lem : (l : ℕ) → l < 16 → get_or d.nodes l 0 ≡ s'.ns l
      node_at_lem l h = sp2.nodes l h ∙ ap (λ (f : ℕ → ℕ). f l) (free_all_path (trimmed M above) s').0

      place_at : (l : ℕ) → l < 16 → get_or d.places l 0 ≡ s'.ps l
      place_at l h = sp2.places l h ∙ ap (λ (f : ℕ → ℕ). f l) (free_all_path (trimmed M above) s').1

      pub end_cursor : (move to_remove c p).cursor ≡ r
      end_cursor = cursor_is (M ∷ new) gone_list tree-new freed-new ∙ by mend.stands ∙ sym er
        where
          by : Where (sum (sizes M)) (i p c formed b) ((s'.ps (length b.Rs) ≡ offset (sizes M) (i p c formed b)) × Leads M (parent (sizes M) (i p c formed b)) mend.rows s'.ns s'.ps) true s'.live →
              cursor_at c.tree (path_of (M ∷ new) (spot_at M (i p c formed b))) ≡ shifted d top.gone
          by (past h lv) =
              let z : d.size ≡ 0 = sp2.size ∙ rw ((free_all_path (trimmed M above) s').2 ∙ lv) refl in
              let y : d.size - top.gone ≡ 0 = omega arith in
              let tr : d.tree ≡ c.tree = sp2.tree in
              simp (le-ltb (i p c formed b) (sum (sizes M)) h) (rw (tr, y) refl)
          by (here h w lv) =
              let j' = parent (sizes M) (i p c formed b) in
              let e' = offset (sizes M) (i p c formed b) in
              let z : d.size ≡ c.size = sp2.size ∙ rw ((free_all_path (trimmed M above) s').2 ∙ lv) refl in
              let PP = path_up (parent (sizes M) (i p c formed b)) new ((get_or (nums M) (parent (sizes M) (i p c formed b)) 0, offset (sizes M) (i p c formed b)) ∷ []) in
              let lp : length PP ≡ suc (length new) = length-path_up (parent (sizes M) (i p c formed b)) new ((get_or (nums M) (parent (sizes M) (i p c formed b)) 0, offset (sizes M) (i p c formed b)) ∷ []) ∙ omega arith in
              let g = gone_length in
              let lv6 = levels p c formed b in
              let y : d.size - top.gone ≡ length PP = omega (arith, size_is p c formed b) in
              let ep = HealEnd.end_path mend some-M (HealDone.once_above 3 least_two least_half b.L b.Rs (good p c formed b).1 (good p c formed b).2 p.trees c.tree b.there (s0 p c formed b) (before0 p c formed b) (each0 p c formed b) (holds0 p c formed b) (i p c formed b) (spot p c formed b).2 more place1 path1) (parent (sizes M) (i p c formed b)) top.gone (omega (arith, long)) w.1 in
              let up = PathLists.up_path M (parent (sizes M) (i p c formed b)) (offset (sizes M) (i p c formed b)) new [] in
              let sm = PathLists.same_path_lem M (parent (sizes M) (i p c formed b)) new (λ l. s'.ns (l + top.gone)) (λ l. s'.ps (l + top.gone)) _ _ ep up in
              let ns : take (length PP) (drop top.gone d.nodes) ≡ map (λ (q : ℕ × ℕ). q.0) PP =
              PathLists.kept-levels (λ (q : ℕ × ℕ). q.0) PP d.nodes top.gone sp2.long (omega arith)
              (λ l hl. node_at_lem (top.gone + l) (omega arith) ∙ ap s'.ns (omega arith) ∙ (sm l).0 (omega arith)) in
              let ps : take (length PP) (drop top.gone d.places) ≡ map (λ (q : ℕ × ℕ). q.1) PP =
              PathLists.kept-levels (λ (q : ℕ × ℕ). q.1) PP d.places top.gone sp2.wide (omega arith)
              (λ l hl. place_at (top.gone + l) (omega arith) ∙ elim (test (eqb l (length new))) [
                | is q ↦
                    let ql = eqb-true l (length new) q in
                    ap s'.ps (omega (arith, long)) ∙ w.0 ∙ sym (PathLists.up_place M (parent (sizes M) (i p c formed b)) (offset (sizes M) (i p c formed b)) new) ∙ ap (λ (k : ℕ). get_or (map (λ (q : ℕ × ℕ). q.1) PP) k 0) (sym ql)
                | isnt q ↦ let ql = eqb-false l (length new) q in ap s'.ps (omega arith) ∙ (sm l).1 (omega arith)
              ]) in
              simp (lt-ltb (i p c formed b) (sum (sizes M)) h)
              (λ q. record {
                tree = sym sp2.tree q;
                size = sym y q;
                nodes = pad 16 ((sym ns ∙ ap (λ (k : ℕ). take k (drop top.gone d.nodes)) (sym y)) q);
                places = pad 16 ((sym ps ∙ ap (λ (k : ℕ). take k (drop top.gone d.places)) (sym y)) q);
              })

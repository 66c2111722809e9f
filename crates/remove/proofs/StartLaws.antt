-- PROOFS. A pool with a cursor on a pair, as a state that the words spell
use mathlib.Core.Path.{◌≡◌, refl, sym, ap, ◌∙◌, subst}
use mathlib.Core.List.{List, [], ◌∷◌, ◌++◌, map}
use mathlib.Core.Bool.{true}
use mathlib.Core.Option.{some}
use Prim.Native.Nat.{ℕ, suc, ◌+◌, ◌≤◌, ◌<◌}
use native.Mathlib.Omega.{arith}
use lib.ListN.{length, get_or, set, take, get_elem?, length-map}
use lib.Seq.{set-get_or}
use lib.Dec.{eqb}
use Rattle.forest.specs.Lists.{sum, once, count, parent, offset, pad}
use Rattle.forest.specs.Pairs.{Item}
use Rattle.forest.specs.Rows.{Row, Tree, nums, sizes, items_at, Good}
use Rattle.forest.specs.Trees.{numbers, pairs}
use Rattle.forest.specs.Pools.{Pool, WellFormed, encode, tree_of, root, node_words, used, leaf_words}
use Rattle.forest.specs.Cursors.{on, leaves, Fits, pair_at, path_of, path_up, cursor_at}
use Rattle.forest.specs.declared.Cursor.{Cursor}
use Rattle.forest.proofs.RowLaws.{sum-sizes, length-items}
use Rattle.forest.proofs.CountLaws.{length-pad, get_or-pad, node-length}
use Rattle.forest.proofs.PoolLaws.{good_at, used-set}
use Rattle.forest.proofs.WordLaws.{count_tree, used-once}
use Rattle.forest.proofs.Six.{six_levels}
use Rattle.pool.proofs.Spell.{encode-spell}
use Rattle.crit.specs.States.{State}
use Rattle.crit.specs.Paths.{Holds, HoldsUp, Leads}
use Rattle.crit.specs.Asks.{Mem, Spelt}
use Rattle.heal.specs.Wounds.{Within}
use Rattle.heal.specs.Cycle.{AskPair}
use Rattle.remove.specs.Ends.{OnPair}
use Rattle.crit.proofs.HealNext.{path_deeper}
use Rattle.remove.proofs.HealDone.{tower_stacked}
use Rattle.remove.proofs.HealRemove.{at_place}
use Rattle.remove.proofs.PathLists
use Rattle.forest.proofs.CursorLaws.{nth_lt}
use Rattle.forest.proofs.StandLaws.{length-path_up}
use Rattle.pool.proofs.HeldTrees.{pool_holds}

-- the leaves and the rows of the cursor's tree
pub record Begun (p : Pool) (c : Cursor) : Type 0 where
  pub there : c.tree < length p.trees
  pub L : Row
  pub Rs : List Row
  pub is : tree_of p c.tree ≡ L ∷ Rs
  pub j : ℕ
  pub e : ℕ
  pub x : Item
  pub jl : j < length L
  pub pair : get_elem? (items_at L j) e ≡ some x
  pub cur : cursor_at c.tree (path_up j Rs ((get_or (nums L) j 0, e) ∷ [])) ≡ c

pub begun : (p : Pool) (c : Cursor) → OnPair p c → Begun p c
begun p c o = from (tree_of p c.tree) refl o.fits o.same o.holds
  where
    from : (T : Tree) → tree_of p c.tree ≡ T → Fits (leaves T) (on o.leaf o.entry) → cursor_at c.tree (path_of T (on o.leaf o.entry)) ≡ c → pair_at (leaves T) (on o.leaf o.entry) ≡ some o.pair → Begun p c
    from [] q f s h = absurd (let z : ◌≡◌ {A = ℕ} 0 1 = cc in omega arith)
    from (L ∷ Rs) q f s h = record { there = o.there; L = L; Rs = Rs; is = q; j = o.leaf; e = o.entry; x = o.pair; jl = f.0; pair = h; cur = s }

module _ (p : Pool) (c : Cursor) (formed : WellFormed 3 p) (b : Begun p c) where
  pub good : Good 3 7 (b.L ∷ b.Rs)
  good = subst (Good 3 7) b.is (good_at 3 p.trees c.tree formed.good)

  pub e_in : b.e < get_or (sizes b.L) b.j 0
  e_in = rw (← (length-items b.L b.j)) (nth_lt (items_at b.L b.j) b.e b.x b.pair)

  abbrev pub i : ℕ
  i = sum (take b.j (sizes b.L)) + b.e

  pub spot : (parent (sizes b.L) i ≡ b.j) × (offset (sizes b.L) i ≡ b.e) × (i < sum (sizes b.L))
  spot = at_place (sizes b.L) b.j b.e e_in

  pub levels : length b.Rs < 6
  levels = let z = six_levels 3 p c.tree formed in let y : length (tree_of p c.tree) ≡ suc (length b.Rs) = ap length b.is in omega arith

  abbrev pub P : List (ℕ × ℕ)
  P = path_up b.j b.Rs ((get_or (nums b.L) b.j 0, b.e) ∷ [])

  pub size_is : c.size ≡ suc (length b.Rs)
  size_is = ap (λ (d : Cursor). d.size) (sym b.cur) ∙ length-path_up b.j b.Rs ((get_or (nums b.L) b.j 0, b.e) ∷ []) ∙ omega arith

  pub nodes_are : c.nodes ≡ pad 16 (map (λ (q : ℕ × ℕ). q.0) P)
  nodes_are = ap (λ (d : Cursor). d.nodes) (sym b.cur)

  pub places_are : c.places ≡ pad 16 (map (λ (q : ℕ × ℕ). q.1) P)
  places_are = ap (λ (d : Cursor). d.places) (sym b.cur)

  abbrev pub s0 : State
  s0 = record { st = node_words p.trees; free = p.free; ns = λ l. get_or c.nodes l 0; ps = λ l. get_or c.places l 0; live = true }

  abbrev pub m0 : Mem
  m0 = record { roots = map root p.trees; count = p.count; tree = c.tree; depth = c.size; s = s0 }

  pub spelt0 : {ws : List ℕ} {t : ℕ} → encode p ≡ ws → t ≡ length p.trees → Spelt ws t c m0
  spelt0 same tr = record {
    words = sym same ∙ encode-spell p;
    trees = tr ∙ sym (length-map p.trees root);
    few = formed.few_nodes;
    sixteen = node-length p.trees;
    nodes = λ l h. refl;
    places = λ l h. refl;
    long = ap length nodes_are ∙ length-pad 16 (map (λ (q : ℕ × ℕ). q.0) P);
    wide = ap length places_are ∙ length-pad 16 (map (λ (q : ℕ × ℕ). q.1) P);
    tree = refl;
    size = refl;
  }

  pub path0 : Leads b.L b.j b.Rs s0.ns s0.ps
  path0 = path_deeper b.L b.j b.Rs (λ l. get_or (map (λ (q : ℕ × ℕ). q.0) P) l 0) (λ l. get_or (map (λ (q : ℕ × ℕ). q.1) P) l 0) s0.ns s0.ps
      (λ l h. ap (λ (xs : List ℕ). get_or xs l 0) nodes_are ∙ get_or-pad 16 (map (λ (q : ℕ × ℕ). q.0) P) l (omega (arith, levels)))
      (λ l h. ap (λ (xs : List ℕ). get_or xs l 0) places_are ∙ get_or-pad 16 (map (λ (q : ℕ × ℕ). q.1) P) l (omega (arith, levels)))
      (PathLists.up_path b.L b.j b.e b.Rs [])

  pub place0 : s0.ps (length b.Rs) ≡ b.e
  place0 = ap (λ (xs : List ℕ). get_or xs (length b.Rs) 0) places_are ∙ get_or-pad 16 (map (λ (q : ℕ × ℕ). q.1) P) (length b.Rs) (omega (arith, levels)) ∙ PathLists.up_place b.L b.j b.e b.Rs

  pub holds0 : Holds leaf_words s0.st b.L × HoldsUp s0.st b.Rs
  holds0 = pool_holds 3 p formed c.tree (b.L ∷ b.Rs) b.is

  counts : (x : ℕ) → count x (nums b.L ++ numbers b.Rs) ≤ count x (used p.trees)
  counts x = let z : count x (numbers (tree_of p c.tree)) ≡ count x (nums b.L ++ numbers b.Rs) = ap (λ (T : Tree). count x (numbers T)) b.is in omega (arith, count_tree x p.trees c.tree)

  pub within0 : Within p.count (nums b.L ++ numbers b.Rs) p.free
  within0 x = omega (arith, counts x, formed.each_once x)

  pub before0 : (x : ℕ) → s0.st x ≡ node_words (set p.trees c.tree (b.L ∷ b.Rs)) x
  before0 x = ap (λ (ts : List Tree). node_words ts x) (sym (ap (set p.trees c.tree) (sym b.is) ∙ set-get_or p.trees c.tree []))

  pub each0 : (x : ℕ) → count x (numbers (b.L ∷ b.Rs)) + count x (used (set p.trees c.tree [])) ≤ 1
  each0 x =
      let a = used-set (λ z. once (eqb x z)) p.trees c.tree [] b.there in
      let z : count x (numbers (tree_of p c.tree)) ≡ count x (nums b.L ++ numbers b.Rs) = ap (λ (T : Tree). count x (numbers T)) b.is in
      omega (arith, used-once 3 p formed x)

  pub pairs_are : length (pairs (tree_of p c.tree)) ≡ sum (sizes b.L)
  pairs_are = ap (λ (T : Tree). length (pairs T)) b.is ∙ sym (sum-sizes b.L)

  pub stood : {ws : List ℕ} {t : ℕ} → encode p ≡ ws → t ≡ length p.trees → (length (pairs (tree_of p c.tree)) ≡ 1 → ⊥) → AskPair ws t c (length b.Rs)
  stood same tr more = record {
    deep = omega (arith, levels);
    mem = m0;
    spelt = spelt0 same tr;
    row = b.L;
    rows = b.Rs;
    at = i;
    levels = refl;
    inside = spot.2;
    two = (let z : (sum (sizes b.L) ≡ 1 → ⊥) = (λ q. more (pairs_are ∙ q)) in omega (arith, spot.2));
    fill = good.1;
    stacked = tower_stacked b.L b.Rs good.2;
    within = within0;
    holds = holds0.0;
    up = holds0.1;
    place = place0 ∙ sym spot.1;
    path = rw spot.0 path0;
  }

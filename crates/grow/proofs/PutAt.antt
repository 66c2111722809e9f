-- PROOFS. A put in the leaf where the path of its key ends, in a tree that is not empty
use mathlib.Core.Path.{◌≡◌, refl, sym, ap, ◌∙◌}
use mathlib.Core.List.{List, [], ◌∷◌}
use mathlib.Core.Bool.{Bool, true, false}
use Prim.Native.Nat.{ℕ, ◌+◌, ◌-◌, ◌≤◌, ◌<◌}
use native.Mathlib.Omega.{arith}
use lib.ListN.{length, get_or, set}
use lib.Dec.{leb}
use borrow.Author.Tests.{leb-true, leb-false}
use Rattle.std.specs.Prelude.{Option, Some}
use Rattle.forest.specs.Answers.{Reply, nothing, value}
use Rattle.forest.specs.Pairs.{Item, has, place}
use Rattle.forest.specs.Rows.{Row, Tree}
use Rattle.forest.specs.Trees.{leaf_items}
use Rattle.forest.specs.Pools
use Rattle.forest.specs.Cursors.{cursor_at, path_of, seek, leaves}
use Rattle.forest.specs.declared.Cursor.{Cursor}
use Rattle.pool.specs.Stores.{block, put, spell}
use Rattle.node.specs.Nodes.{leaf_pairs}
use Rattle.path.specs.Cores.{Ready, Of, Goes, Ends}
use Rattle.path.proofs.Roots.{trees_are, the_pool}
use Rattle.grow.specs.Grows
use Rattle.grow.specs.Puts.{is_at, LeafPlace, replaced_words, Replaces, Tries, Adds, Puts}
use Rattle.grow.proofs.Landings
use Rattle.grow.proofs.Sites.{scene_of, found_site}
use Rattle.grow.proofs.Calls
use Rattle.grow.proofs.Putting.{there, root_word}

-- a tree with leaves
record Rooted (x : Tree) : Type 0 where
  row : Row
  rows : List Row
  same : x ≡ row ∷ rows

-- a root that is not 0
pub some_root : (ws : List ℕ) (tree r : ℕ) → r ≡ get_or ws (tree + 1) 0 → (r ≡ 0 → ⊥) → 1 ≤ get_or ws (1 + tree) 0
some_root ws tree r e z = let q : 1 + tree ≡ tree + 1 = omega arith in rw q (let h : 1 ≤ r = omega arith in omega arith)

module _ (ws : List ℕ) (t tree k v : ℕ) (y : Ready ws t tree) (q : 1 ≤ get_or ws (1 + tree) 0) where
  rooted : (p : Pools.Pool) → Of ws p → Rooted (Pools.tree_of p tree)
  rooted p o = go (Pools.tree_of p tree) refl
    where
      go : (x : Tree) → Pools.tree_of p tree ≡ x → Rooted x
      go [] e = let z : 1 + tree ≡ tree + 1 = omega arith in absurd (omega (arith, rw z at q, root_word ws t tree y p o, ap Pools.root e))
      go (L ∷ Rs) e = record { row = L; rows = Rs; same = refl }

  -- the leaf of the key in a pool with these words
  module _ (p : Pools.Pool) (o : Of ws p) where
    abbrev L : Row
    L = (rooted p o).row

    abbrev Rs : List Row
    Rs = (rooted p o).rows

    abbrev s : Grows.Scene
    s = scene_of p k L Rs

    abbrev items : List Item
    items = leaf_items k L

    abbrev at : ℕ
    at = place k items

    abbrev tree_is : Pools.tree_of p tree ≡ L ∷ Rs
    tree_is = (rooted p o).same

    in-pool : tree < length p.trees
    in-pool = there ws t tree y p o

  abbrev own : Pools.Pool
  own = y.sound.pool

  abbrev mine : Of ws own
  mine = the_pool ws t tree y

  module _ (n e : ℕ) (d : Ends k ws tree n e) where
    -- the cursor of the path; no function makes it
    abbrev c : Cursor
    c = cursor_at tree d.path

    abbrev level : ℕ
    level = length d.path - 1

    module _ (p : Pools.Pool) (o : Of ws p) where
      goes-there : c ≡ cursor_at tree (path_of (L p o ∷ Rs p o) (seek k (L p o)))
      goes-there = d.goes.to p o ∙ ap (λ (x : Tree). cursor_at tree (path_of x (seek k (leaves x)))) (tree_is p o)

      site : Grows.Site (s p o) (at p o) ws t tree c.nodes c.places level
      site = found_site p o.formed ws o.same t tree k (trees_are ws t tree y p o) y.there (L p o) (Rs p o) (tree_is p o) c goes-there

      place_is : e ≡ at p o
      place_is = sym d.place ∙ site.place

      items-are : leaf_pairs (block ws t n) ≡ items p o
      items-are = rw (← d.node) (Landings.leaf_items_lem ws t tree c.nodes c.places level (s p o) (at p o) site)

      is-at : is_at (leaf_pairs (block ws t n)) e k ≡ is_at (items p o) (at p o) k
      is-at = rw (items-are, place_is)

      value-is : (get_or (leaf_pairs (block ws t n)) e (0, 0)).1 ≡ (get_or (items p o) (at p o) (0, 0)).1
      value-is = rw (items-are, place_is)

      replaced-is : replaced_words ws t n e (k, v) ≡
          spell (s p o).roots (s p o).nodes (put (s p o).store (Grows.num_at (s p o).row (s p o).at) (Pools.leaf_words (set (items p o) (at p o) (k, v)))) (s p o).free
      unfolding replaced_words
      replaced-is = rw (items-are, place_is, ← d.node) (Landings.leaf_put ws t tree c.nodes c.places level (s p o) (at p o) site (set (items p o) (at p o) (k, v)))

    pub place_asks : LeafPlace ws t n e
    place_asks = rw (← d.node, ← d.place) (Landings.leaf_place ws t tree c.nodes c.places level (s own mine) (at own mine) (site own mine))

    -- after a try to replace
    module _ (m : List ℕ) (r : Option ℕ) (a : Replaces t n e k v ws m r) where
      -- the key was there
      pub replaced : (x : ℕ) → r ≡ Some x → Puts tree k v ws m (value x)
      replaced x z = record {
        words = λ p w q. let o : Of ws p = record { formed = w; same = q } in (both p o (has k (items p o)) refl).0;
        answer = λ p w q. let o : Of ws p = record { formed = w; same = q } in (both p o (has k (items p o)) refl).1;
      }
        where
          both : (p : Pools.Pool) (o : Of ws p) (b : Bool) → has k (items p o) ≡ b →
              (Pools.encode (Pools.call (Pools.put tree k v) p).pool ≡ m) × ((Pools.call (Pools.put tree k v) p).answer ≡ value x)
          both p o true h =
              let u = is-at p o ∙ Calls.present_at p o.formed tree k v (in-pool p o) (L p o) (Rs p o) (tree_is p o) h in
              let n = Calls.present_need p o.formed tree k v (in-pool p o) (L p o) (Rs p o) (tree_is p o) h in
              let told : Some x ≡ Some (get_or (items p o) (at p o) (0, 0)).1 = sym z ∙ a.hit_reply u ∙ ap Some (value-is p o) in
              let x-is : x ≡ (get_or (items p o) (at p o) (0, 0)).1 = cc in
              let d = Calls.done-call p tree k v (in-pool p o) (omega arith) in (
                ap (λ (d : Pools.Done). Pools.encode d.pool) d ∙
                    sym (a.hit_words u ∙ replaced-is p o ∙ Calls.present_words p o.formed tree k v (in-pool p o) (L p o) (Rs p o) (tree_is p o) h),
                ap (λ (d : Pools.Done). d.answer) d ∙
                    Calls.present_held p o.formed tree k v (in-pool p o) (L p o) (Rs p o) (tree_is p o) h ∙
                    sym (ap value x-is),
              )
          both p o false h =
              let q = a.miss_reply (is-at p o ∙ Calls.absent_at p o.formed tree k v (in-pool p o) (L p o) (Rs p o) (tree_is p o) h) in
              absurd (let w : ◌≡◌ {A = ℕ} 0 1 = cc in omega arith)

      -- it was not
      module _ (z : (x : ℕ) → r ≡ Some x → ⊥) where
        absent : (p : Pools.Pool) (o : Of ws p) → has k (items p o) ≡ false
        absent p o = go (has k (items p o)) refl
          where
            go : (b : Bool) → has k (items p o) ≡ b → b ≡ false
            go true h = absurd (z _ (a.hit_reply (is-at p o ∙ Calls.present_at p o.formed tree k v (in-pool p o) (L p o) (Rs p o) (tree_is p o) h)))
            go false h = refl

        still : m ≡ ws
        still = a.miss_words (is-at own mine ∙ Calls.absent_at own mine.formed tree k v (in-pool own mine) (L own mine) (Rs own mine) (tree_is own mine) (absent own mine))

        pub still_place : LeafPlace m t n e
        still_place = rw still place_asks

        -- after a try to put it in the leaf as it is
        module _ (o : List ℕ) (b : Bool) (f : Tries t n e (k, v) m o b) where
          tried : Tries t (get_or c.nodes level 0) (get_or c.places level 0) (k, v) ws o b
          tried = rw (d.node, d.place, ← still) f

          -- there was room
          pub came : b ≡ true → Puts tree k v ws o nothing
          came h = record {
            words = λ p w q. (both p (record { formed = w; same = q })).0;
            answer = λ p w q. (both p (record { formed = w; same = q })).1;
          }
            where
              both : (p : Pools.Pool) (i : Of ws p) → (Pools.encode (Pools.call (Pools.put tree k v) p).pool ≡ o) × ((Pools.call (Pools.put tree k v) p).answer ≡ nothing)
              both p i =
                  let r = Landings.has_room ws t tree c.nodes c.places level (k, v) o b tried (s p i) (at p i) (site p i) h in
                  let n = Calls.room-need p i.formed tree k v (in-pool p i) (L p i) (Rs p i) (tree_is p i) (absent p i) r in
                  let d = Calls.done-call p tree k v (in-pool p i) (omega arith) in (
                    ap (λ (d : Pools.Done). Pools.encode d.pool) d ∙
                        sym (Landings.room-done ws t tree c.nodes c.places level (k, v) o b tried (s p i) (at p i) (site p i) h ∙
                        Calls.room_words p i.formed tree k v (in-pool p i) (L p i) (Rs p i) (tree_is p i) (absent p i) r),
                    ap (λ (d : Pools.Done). d.answer) d ∙ Calls.absent_held p i.formed tree k v (in-pool p i) (L p i) (Rs p i) (tree_is p i) (absent p i),
                  )

          -- there was none
          module _ (h : b ≡ false) where
            unchanged : o ≡ ws
            unchanged = tried.full_words h

            pub still_ready : Ready o t tree
            still_ready = rw unchanged y

            land : (p : Pools.Pool) (i : Of ws p) → Grows.Land (s p i) (at p i) ws t tree c.nodes c.places level
            land p i = Landings.lands_full ws t tree c.nodes c.places level (k, v) o b tried (s p i) (at p i) (site p i) h

            -- it is added
            adds : (o' : List ℕ) (r' : Reply) → ((s : Grows.Scene) (p : ℕ) → Grows.Land s p ws t tree c.nodes c.places level → Adds s p tree (k, v) ws o' r') → Puts tree k v ws o' r'
            adds o' r' f = record {
              words = λ p w q. let i : Of ws p = record { formed = w; same = q } in (both p i (leb (Grows.leaf_need (s p i)) (length p.free)) refl).0;
              answer = λ p w q. let i : Of ws p = record { formed = w; same = q } in (both p i (leb (Grows.leaf_need (s p i)) (length p.free)) refl).1;
            }
              where
                both : (p : Pools.Pool) (i : Of ws p) (b : Bool) → leb (Grows.leaf_need (s p i)) (length p.free) ≡ b →
                    (Pools.encode (Pools.call (Pools.put tree k v) p).pool ≡ o') × ((Pools.call (Pools.put tree k v) p).answer ≡ r')
                both p i true h =
                    let l : Grows.leaf_need (s p i) ≤ length p.free = leb-true _ _ h in
                    let x = f (s p i) (at p i) (land p i) in
                    let n = Calls.full-need p i.formed tree k v (in-pool p i) (L p i) (Rs p i) (tree_is p i) (absent p i) (land p i).no_room in
                    let d = Calls.done-call p tree k v (in-pool p i) (rw n l) in (
                      ap (λ (d : Pools.Done). Pools.encode d.pool) d ∙
                          sym (x.done_words l ∙ Calls.full_words p i.formed tree k v (in-pool p i) (L p i) (Rs p i) (tree_is p i) (absent p i) (land p i).no_room l),
                      ap (λ (d : Pools.Done). d.answer) d ∙
                          Calls.absent_held p i.formed tree k v (in-pool p i) (L p i) (Rs p i) (tree_is p i) (absent p i) ∙ sym (x.done_reply l),
                    )
                both p i false h =
                    let l : length p.free < Grows.leaf_need (s p i) = leb-false _ _ h in
                    let x = f (s p i) (at p i) (land p i) in
                    let n = Calls.full-need p i.formed tree k v (in-pool p i) (L p i) (Rs p i) (tree_is p i) (absent p i) (land p i).no_room in
                    let d = Calls.refused-call p tree k v (in-pool p i) (rw n l) in (
                      ap (λ (d : Pools.Done). Pools.encode d.pool) d ∙ i.same ∙ sym (x.refused_words l),
                      ap (λ (d : Pools.Done). d.answer) d ∙ sym (x.refused_reply l),
                    )

            -- and a cursor is made
            module _ (made : Cursor) (g : Goes (seek k) o tree made) where
              made-is : made ≡ c
              made-is = let z : Goes (seek k) ws tree made = rw unchanged at g in z.to own mine ∙ sym (d.goes.to own mine)

              pub add_asks : (1 ≤ made.size) × Grows.Lands o t made.tree made.nodes made.places (made.size - 1)
              add_asks = rw (made-is, unchanged) (d.some, record { scene = s own mine; entry = at own mine; land = land own mine })

              pub added : (o' : List ℕ) (r' : Reply) →
                  ((s : Grows.Scene) (p : ℕ) → Grows.Land s p o t made.tree made.nodes made.places (made.size - 1) → Adds s p made.tree (k, v) o o' r') → Puts tree k v ws o' r'
              added o' r' f = adds o' r' (rw (made-is, unchanged) at f)

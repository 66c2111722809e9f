-- DEFINITIONS. Taking an item out and healing upward, as steps on a state
use Rattle.std.specs.Prelude.{List, ◌∷◌, ◌++◌, Bool, false, cond, ℕ, zero, suc, ◌+◌, ◌-◌, ◌*◌, take, drop, get_or, ltb, leb, eqb, Option, Some, None}
use Rattle.forest.specs.Sizes.{leaf_cap, inner_cap, leaf_tag}
use Rattle.forest.specs.Pairs.{Item}
use Rattle.forest.specs.Rows.{front}
use Rattle.forest.specs.Pools.{leaf_words, inner_words}
use Rattle.pool.specs.Stores.{put, no_words}
use Rattle.node.specs.Nodes.{leaf_pairs, inner_items, keyed, cut_of, keep}
use Rattle.crit.specs.States.{State, right_sibling, right_set, left_set, hand_key, stored, lives, next_node, through_right}

-- The operations on a node's words, of a leaf or of an inner node
pub record Ops : Type 0 where
  -- how many items; none of sixteen zeros
  pub entries : List ℕ → ℕ
  -- without an item; sixteen zeros if it was the last
  pub cut : List ℕ → ℕ → List ℕ
  -- all items of two neighbours with the key between them, or the halves and the key between those
  pub gather : List ℕ → List ℕ → ℕ → List ℕ
  pub left : List ℕ → List ℕ → ℕ → List ℕ
  pub right : List ℕ → List ℕ → ℕ → List ℕ
  pub mid : List ℕ → List ℕ → ℕ → ℕ

-- Of a kind of node, whose first word adds t to the number of items and of which h first keys are stored nowhere
module _ (t h : ℕ) (words : List Item → List ℕ) (items : List ℕ → List Item) where
  -- the items of two neighbours; the key between them goes down if it is stored nowhere
  abbrev pub both : List ℕ → List ℕ → ℕ → List Item
  both w v k = items w ++ keyed h k (items v)

  -- its operations
  abbrev pub ops_of : Ops
  ops_of = record {
    entries = λ w. get_or w 0 0 - t;
    cut = cut_of t words items;
    gather = λ w v k. words (both w v k);
    left = λ w v k. words (take (keep (both w v k)) (both w v k));
    right = λ w v k. words (drop (keep (both w v k)) (both w v k));
    mid = λ w v k. front (drop (keep (both w v k)) (both w v k));
  }

-- those of a leaf
abbrev pub leaf_ops : Ops
leaf_ops = ops_of leaf_tag 0 leaf_words leaf_pairs

-- those of an inner node
abbrev pub inner_ops : Ops
inner_ops = ops_of 15 1 inner_words inner_items

-- Steps

-- a freed node is zeroed and put on top of the stack
abbrev pub free_node : State → ℕ → State
free_node s n = record { st = put s.st n no_words; free = n ∷ s.free; ns = s.ns; ps = s.ps; live = s.live }

module _ (o : Ops) (cap : ℕ) where
  -- the items left in the node at a level
  abbrev pub left : State → ℕ → ℕ
  left s l = o.entries (s.st (s.ns l))

  -- do the items of the node at a level and of its neighbour fit in one
  abbrev pub fits : State → ℕ → Item → Bool
  fits s l x = leb (left s l + o.entries (s.st x.1)) cap

  -- everything goes to the neighbour
  abbrev pub gathered : State → ℕ → Item → State
  gathered s l x = stored s (hand_key (put s.st x.1 (o.gather (s.st (s.ns l)) (s.st x.1) x.0)) s.ns s.ps l)

  -- or they share
  abbrev pub shared : State → ℕ → Item → State
  shared s l x =
      stored s (right_set
      (put (put s.st (s.ns l) (o.left (s.st (s.ns l)) (s.st x.1) x.0)) x.1 (o.right (s.st (s.ns l)) (s.st x.1) x.0))
      s.ns s.ps l (o.mid (s.st (s.ns l)) (s.st x.1) x.0))

  -- with no neighbour it stays small; off the end if the place was the last
  abbrev pub stayed : State → ℕ → State
  stayed s l = cond (ltb (s.ps l) (left s l)) s (lives s false)

  -- underflowed_node with the neighbour found; `up` is empty_node at this level
  abbrev pub under_with : Option Item → (State → State) → ℕ → State → State
  under_with None up l s = stayed s l
  under_with (Some x) up l s = cond (fits s l x) (up (gathered s l x)) (shared s l x)

  -- underflowed_node
  abbrev pub underflowed : (State → State) → ℕ → State → State
  underflowed up l s = under_with (right_sibling s.st s.ns s.ps l) up l s

  -- heal_level, after a cut
  abbrev pub heal_level : (State → State) → ℕ → State → State
  heal_level up l s =
      cond (leb cap (2 * o.entries (s.st (s.ns l))))
      (cond (eqb (s.ps l) (o.entries (s.st (s.ns l)))) (next_node l s) s)
      (cond (eqb (o.entries (s.st (s.ns l))) 0) (up s) (underflowed up l s))

-- the node at a level loses the item that the path goes through
abbrev pub parent_cut : Ops → State → ℕ → State
parent_cut o s l = stored s (put s.st (s.ns l) (o.cut (s.st (s.ns l)) (s.ps l)))

module _ (o : Ops) where
  -- the node n goes, its parent is cut and heals
  abbrev pub empty_from : (State → State) → ℕ → ℕ → State → State
  empty_from up l n s = through_right (right_sibling (free_node s n).st s.ns s.ps (suc l)) (suc l) (heal_level o inner_cap up l (parent_cut o (free_node s n) l))

  -- where the path goes through it
  abbrev pub empty_with : (State → State) → ℕ → State → State
  empty_with up l s = empty_from up l (s.ns (suc l)) s

  -- empty_node at a level
  abbrev pub empty_node : ℕ → State → State
  empty_node zero s = lives (free_node s (s.ns 0)) false
  empty_node (suc l) s = empty_with (empty_node l) l s

-- the first key of a leaf's words
abbrev pub leaf_front : List ℕ → ℕ
leaf_front w = get_or w 1 0

module _ (leaf : Ops) (cap : ℕ) (inner : Ops) (key : List ℕ → ℕ) where
  -- the separator becomes the leaf's first key
  abbrev pub new_front : State → ℕ → State
  new_front s l = stored s (left_set s.st s.ns s.ps l (key (s.st (s.ns l))))

  -- a removed front key that has a separator changes it
  abbrev pub fronted : State → ℕ → State
  fronted s l = cond (eqb (leaf.entries (s.st (s.ns l))) 0) s (cond (eqb (s.ps l) 0) (new_front s l) s)

  -- remove at a cursor, where the tree has another pair: cut, key, heal
  abbrev pub remove_at_cursor : State → ℕ → State
  remove_at_cursor s l = heal_level leaf cap (empty_node inner l) l (fronted (parent_cut leaf s l) l)

-- the same of a tree as it stands
abbrev pub taken : ℕ → State → State
taken l s = remove_at_cursor leaf_ops leaf_cap inner_ops leaf_front s l

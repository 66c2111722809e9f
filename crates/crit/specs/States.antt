-- DEFINITIONS. A state in the middle of a removal: the words of the nodes, the free numbers, the cursor; its path, and steps along it. Level 0 is the root
use Rattle.std.specs.Prelude.{List, Bool, false, cond, ℕ, zero, suc, ◌+◌, ◌-◌, get_or, set, ltb, eqb, Option, Some, None}
use Rattle.forest.specs.Sizes.{inner_tag}
use Rattle.forest.specs.Pairs.{Item}
use Rattle.pool.specs.Stores.{Store, put}

-- the words of the nodes, the free numbers, the cursor's nodes and places by level, and whether it is on a pair
pub record State : Type 0 where
  pub st : Store
  pub free : List ℕ
  pub ns : ℕ → ℕ
  pub ps : ℕ → ℕ
  pub live : Bool

-- The path

module _ (st : Store) (ns ps : ℕ → ℕ) where
  -- is there more to the right at level l
  abbrev pub more : ℕ → Bool
  more l = ltb (ps l) (get_or (st (ns l)) 0 0 - inner_tag)

  -- a neighbour's first child, with the same key before it
  abbrev pub first_child : Option Item → Option Item
  first_child None = None
  first_child (Some x) = Some (x.0, get_or (st x.1) 8 0)

  -- the right neighbour of the node at a level, and the key before it
  abbrev pub right_sibling : ℕ → Option Item
  right_sibling zero = None
  right_sibling (suc l) = cond (more l) (Some (get_or (st (ns l)) (suc (ps l)) 0, get_or (st (ns l)) (8 + suc (ps l)) 0)) (first_child (right_sibling l))

  -- the key before the node at a level
  abbrev pub crit_key : ℕ → Option ℕ
  crit_key zero = None
  crit_key (suc l) = cond (eqb (ps l) 0) (crit_key l) (Some (get_or (st (ns l)) (ps l) 0))

  -- the key before the right neighbour is set: one word
  abbrev pub right_set : ℕ → ℕ → Store
  right_set zero k = st
  right_set (suc l) k = cond (more l) (put st (ns l) (set (st (ns l)) (suc (ps l)) k)) (right_set l k)

  -- the key before the node is set: one word
  abbrev pub left_set : ℕ → ℕ → Store
  left_set zero k = st
  left_set (suc l) k = cond (eqb (ps l) 0) (left_set l k) (put st (ns l) (set (st (ns l)) (ps l) k))

-- a number changes at one level
abbrev pub at : (ℕ → ℕ) → ℕ → ℕ → (ℕ → ℕ)
at f n v = λ x. cond (eqb x n) v (f x)

-- the nodes and places of the path to the right neighbour at a level
abbrev pub next_at : Store → (ℕ → ℕ) → (ℕ → ℕ) → ℕ → (ℕ → ℕ) × (ℕ → ℕ)
next_at st ns ps zero = (ns, ps)
next_at st ns ps (suc l) =
    cond (more st ns ps l)
    (at ns (suc l) (get_or (st (ns l)) (8 + suc (ps l)) 0), at ps l (suc (ps l)))
    (at (next_at st ns ps l).0 (suc l) (get_or (st ((next_at st ns ps l).0 l)) 8 0), at (next_at st ns ps l).1 l 0)

-- a key, if there is one, becomes that before the right neighbour
abbrev pub hand_with : Option ℕ → Store → (ℕ → ℕ) → (ℕ → ℕ) → ℕ → Store
hand_with None st ns ps l = st
hand_with (Some k) st ns ps l = right_set st ns ps l k

-- the key before the node that goes becomes that before its right neighbour
abbrev pub hand_key : Store → (ℕ → ℕ) → (ℕ → ℕ) → ℕ → Store
hand_key st ns ps l = hand_with (crit_key st ns ps l) st ns ps l

-- Steps

-- with another store
abbrev pub stored : State → Store → State
stored s st = record { st = st; free = s.free; ns = s.ns; ps = s.ps; live = s.live }

-- on a pair, or not
abbrev pub lives : State → Bool → State
lives s b = record { st = s.st; free = s.free; ns = s.ns; ps = s.ps; live = b }

-- with another node at a level of the path
abbrev pub node_at : State → ℕ → ℕ → State
node_at s l n = record { st = s.st; free = s.free; ns = at s.ns l n; ps = s.ps; live = s.live }

-- the path to the right neighbour at a level
abbrev pub next_path : ℕ → State → State
next_path l s = record {
  st = s.st;
  free = s.free;
  ns = (next_at s.st s.ns s.ps l).0;
  ps = (next_at s.st s.ns s.ps l).1;
  live = s.live;
}

-- to the first item of the right neighbour found; off the end if there is none
abbrev pub next_with : Option Item → ℕ → State → State
next_with None l s = lives s false
next_with (Some x) l s = record {
  st = s.st;
  free = s.free;
  ns = (next_at s.st s.ns s.ps l).0;
  ps = at (next_at s.st s.ns s.ps l).1 l 0;
  live = s.live;
}

-- next_node: to the right neighbour's first item
abbrev pub next_node : ℕ → State → State
next_node l s = next_with (right_sibling s.st s.ns s.ps l) l s

-- the path goes through the right neighbour of the node that went; off the end if there is none
abbrev pub through_right : Option Item → ℕ → State → State
through_right None l s = lives s false
through_right (Some x) l s = node_at s l x.1

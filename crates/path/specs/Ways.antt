-- DEFINITIONS. Going down in the words, from a node to a leaf: by a key, by first children, by last children
use Rattle.std.specs.Prelude.{List, [], ◌∷◌, cond, ℕ, zero, suc, ◌+◌, ◌-◌, ◌≤◌, ◌<◌, length, take, drop, get_or, leb}
pub use Rattle.forest.specs.Sizes.{base}
use Rattle.forest.specs.Sizes.{most_nodes}
use Rattle.forest.specs.Lists.{upto}
unfoldable pub use Rattle.forest.specs.Slices.{block_at}
pub use Rattle.forest.specs.Slices.{block}
use Rattle.forest.specs.Slices.{KeysRise, key_place}
use Rattle.forest.specs.Cursors.{Path}
use Rattle.path.specs.declared.Way.{Way}
use Rattle.path.specs.declared.Way.TheVariants.{Key, First, Last}

-- the keys in the words w of a node, whose word 0 adds `tag` to their number
abbrev pub keys_of : ℕ → List ℕ → List ℕ
keys_of tag w = take (get_or w 0 0 - tag) (drop 1 w)

-- in an inner node of words w: the child to follow
unfoldable pub turn_of : Way → List ℕ → ℕ
turn_of (Key k) w = upto k (keys_of 16 w)
turn_of First w = 0
turn_of Last w = get_or w 0 0 - 16

-- in a leaf of words w: the place
unfoldable pub land_of : Way → List ℕ → ℕ
land_of (Key k) w = key_place k (keys_of 32 w)
land_of First w = 0
land_of Last w = get_or w 0 0 - 33

-- from node n down to a leaf, f levels at most
unfoldable pub descend : Way → ℕ → List ℕ → ℕ → ℕ → Path
descend way zero ws t n = []
descend way (suc f) ws t n =
    cond (leb 32 (get_or (block ws t n) 0 0))
    ((n, land_of way (block ws t n)) ∷ [])
    ((n, turn_of way (block ws t n)) ∷ descend way f ws t (get_or (block ws t n) (8 + turn_of way (block ws t n)) 0))

-- the leaf that this comes to
unfoldable pub foot_of : Way → ℕ → List ℕ → ℕ → ℕ → ℕ
foot_of way zero ws t n = n
foot_of way (suc f) ws t n =
    cond (leb 32 (get_or (block ws t n) 0 0))
    n
    (foot_of way f ws t (get_or (block ws t n) (8 + turn_of way (block ws t n)) 0))

-- node n lies in the words and is a leaf or an inner node, and its keys rise
pub record Lies (ws : List ℕ) (t n : ℕ) : Type 0 where
  pub some : 1 ≤ n
  pub few : n ≤ most_nodes
  pub long : base t n + 16 ≤ length ws
  pub leaf : 32 ≤ get_or (block ws t n) 0 0 → (33 ≤ get_or (block ws t n) 0 0) × (get_or (block ws t n) 0 0 ≤ 39)
  pub inner : get_or (block ws t n) 0 0 < 32 → (16 ≤ get_or (block ws t n) 0 0) × (get_or (block ws t n) 0 0 ≤ 23)
  pub leaf_rises : 32 ≤ get_or (block ws t n) 0 0 → KeysRise (keys_of 32 (block ws t n))
  pub inner_rises : get_or (block ws t n) 0 0 < 32 → KeysRise (keys_of 16 (block ws t n))

-- and so do the nodes on every way down from it, f levels
unfoldable pub Deep : ℕ → List ℕ → ℕ → ℕ → Type 0
Deep zero ws t n = Unit {0}
Deep (suc f) ws t n =
    Lies ws t n ×
    ((i : ℕ) → get_or (block ws t n) 0 0 < 32 → i ≤ get_or (block ws t n) 0 0 - 16 → Deep f ws t (get_or (block ws t n) (8 + i) 0))

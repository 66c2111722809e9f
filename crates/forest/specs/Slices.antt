-- DEFINITIONS. What the functions on slices leave and find; the words of a node in those of a pool
use Rattle.std.specs.Prelude.{List, ◌++◌, cond, ℕ, ◌-◌, length, take, drop, Result, Ok, Err}
use Rattle.forest.specs.Sizes.{node_size, base}
use Rattle.forest.specs.Lists.{insert_at}
pub use Rattle.forest.specs.Pairs.{KeysAbove, KeysRise, key_place, has_key}

-- the words of a node that starts at place b
unfoldable pub block_at : List ℕ → ℕ → List ℕ
block_at ws b = take node_size (drop b ws)

-- the words of node n; t trees
abbrev pub block : List ℕ → ℕ → ℕ → List ℕ
block ws t n = block_at ws (base t n)

-- x comes to place i, and the last of l goes
unfoldable pub inserted : List ℕ → ℕ → ℕ → List ℕ
inserted l i x = take (length l) (insert_at i x l)

-- l moved to the left by n: the last n places keep what they had
unfoldable pub shifted : List ℕ → ℕ → List ℕ
shifted l n = drop n l ++ drop (length l - n) l

-- what a search for k finds: Ok of its place, or Err of the place where it would stand
unfoldable pub searched : ℕ → List ℕ → Result ℕ ℕ
searched k fs = cond (has_key k fs) (Ok (key_place k fs)) (Err (key_place k fs))

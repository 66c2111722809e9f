-- DEFINITIONS. The sizes of document 01, each in one place
use Rattle.std.specs.Prelude.{ℕ, ◌+◌, ◌-◌, ◌*◌}

-- T, the trees of a pool, at most
abbrev pub most_trees : ℕ
most_trees = 32

-- N, its nodes, at most
abbrev pub most_nodes : ℕ
most_nodes = 512

-- the entries of a leaf at most
abbrev pub leaf_cap : ℕ
leaf_cap = 7

-- the children of an inner node at most
abbrev pub inner_cap : ℕ
inner_cap = 8

-- the entries, at least, of a leaf that is not the last of its level; for use as the m of the definitions
abbrev pub leaf_least : ℕ
leaf_least = 3

-- the children, at least, of an inner node that is not the last of its level
abbrev pub inner_least : ℕ
inner_least = 4

-- what word 0 of a leaf adds to its number of entries
abbrev pub leaf_tag : ℕ
leaf_tag = 32

-- and that of an inner node to its number of keys
abbrev pub inner_tag : ℕ
inner_tag = 16

-- the words of a node: word 0, then keys, then values or children
abbrev pub node_size : ℕ
node_size = 16

-- where the words of node n start; t trees
abbrev pub base : ℕ → ℕ → ℕ
base t n = t + node_size * n - 14

-- those for keys, words 1 to 7
abbrev pub key_words : ℕ
key_words = 7

-- those for values or children, words 8 to 15
abbrev pub link_words : ℕ
link_words = 8

-- the levels that a cursor has room for
abbrev pub most_levels : ℕ
most_levels = 16

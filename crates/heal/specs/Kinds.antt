-- DEFINITIONS. What a kind of node owes to healing: its operations do to items what they should
use Rattle.std.specs.Prelude.{◌≡◌, List, [], ◌++◌, ℕ, suc, ◌+◌, ◌-◌, ◌*◌, ◌≤◌, ◌<◌, length, take, drop, get_or}
use Rattle.forest.specs.Lists.{remove_at, pad}
use Rattle.forest.specs.Pairs.{Item}
use Rattle.forest.specs.Rows.{front}
use Rattle.node.specs.Nodes.{keep}
use Rattle.heal.specs.Steps.{Ops, both, ops_of}
use Rattle.heal.specs.Cycle.{Kind}

-- what the operations on a node's words do to the words of items, with capacity and least fill
pub record Lawful (o : Ops) (enc : List Item → List ℕ) (cap low : ℕ) : Type 0 where
  pub least_two : 2 ≤ low
  pub least_half : 2 * low ≤ suc cap
  pub entries_is : (xs : List Item) → 1 ≤ length xs → o.entries (enc xs) ≡ length xs
  pub entries_none : o.entries (pad 16 []) ≡ 0
  pub cut_is : (xs : List Item) (i : ℕ) → i < length xs → 2 ≤ length xs → length xs ≤ cap → o.cut (enc xs) i ≡ enc (remove_at i xs)
  pub cut_none : (xs : List Item) (i : ℕ) → length xs ≡ 1 → o.cut (enc xs) i ≡ pad 16 []
  pub gather_is : (xs ys : List Item) → 1 ≤ length xs → 1 ≤ length ys → length xs + length ys ≤ cap → o.gather (enc xs) (enc ys) (front ys) ≡ enc (xs ++ ys)
  pub left_is : (xs ys : List Item) → 1 ≤ length xs → length xs ≤ cap → length ys ≤ cap → cap < length xs + length ys →
      o.left (enc xs) (enc ys) (front ys) ≡ enc (take (keep (xs ++ ys)) (xs ++ ys))
  pub right_is : (xs ys : List Item) → 1 ≤ length xs → length xs ≤ cap → length ys ≤ cap → cap < length xs + length ys →
      o.right (enc xs) (enc ys) (front ys) ≡ enc (drop (keep (xs ++ ys)) (xs ++ ys))
  pub mid_is : (xs ys : List Item) → 1 ≤ length xs → length xs ≤ cap → length ys ≤ cap → cap < length xs + length ys →
      o.mid (enc xs) (enc ys) (front ys) ≡ front (drop (keep (xs ++ ys)) (xs ++ ys))

-- a kind is that of the nodes of capacity c, whose first word adds t to the number of items and of which h first keys are stored nowhere, and its operations do what they should
pub record HealLaws (k : Kind) (c t h : ℕ) (words : List Item → List ℕ) (items : List ℕ → List Item) (Is : List ℕ → Type 0) : Type 0 where
  pub same : k ≡ record { ops = ops_of t h words items; words = words; cap = c; low = k.low }
  pub lawful : Lawful k.ops k.words k.cap k.low
  pub is : (xs : List Item) → 1 ≤ length xs → length xs ≤ c → Is (words xs)
  pub sixteen : (xs : List Item) → length (words xs) ≡ 16
  pub counts : (xs : List Item) → 1 ≤ length xs → get_or (words xs) 0 0 ≡ t + length xs
  pub size : (w v : List ℕ) (key : ℕ) → length (both t h words items w v key) ≡ (get_or w 0 0 - t) + (get_or v 0 0 - t)

-- DEFINITIONS AND PROOF. Deliveries and the text they are answered with, computed: document 01's five lines, and each way to stop; a run that writes the five lines
use mathlib.Core.Path.{◌≡◌, refl, ap}
use mathlib.Core.List.{List, [], ◌∷◌, ◌++◌}
use mathlib.Core.Bool.{true}
use Prim.Native.Nat.{ℕ, ◌/◌, ◌%◌}
use native.Mathlib.Omega.{arith}
use lib.ListN.{take, get_or, replicate, length-replicate}
use Rattle.forest.proofs.Trials.{Trial, AllHold, agree, holds, steps}
use Rattle.requests.specs.Text.{decimal, line}
use Rattle.requests.specs.Replay.{word_at, asked, counted, pooled, replayed, replay}
use Rattle.requests.specs.declared.Stage.TheVariants.{Kind}
use Rattle.requests.specs.Turns.{room}
use Rattle.requests.specs.Runs.{Run}
use Rattle.requests.proofs.AnyRun.{any_run}

-- the bytes of words below 65,536
abbrev bytes : List ℕ → List ℕ
bytes [] = []
bytes (w ∷ ws) = (w % 256) ∷ (w / 256) ∷ 0 ∷ 0 ∷ bytes ws

-- the text of lines with no value, and with the value 100
abbrev plain : ℕ → List ℕ
plain n = decimal n ++ (32 ∷ 48 ∷ 32 ∷ 48 ∷ 10 ∷ [])

abbrev hundred : List ℕ
hundred = 48 ∷ 32 ∷ 49 ∷ 32 ∷ 49 ∷ 48 ∷ 48 ∷ 10 ∷ []

-- the definitions that the trials compute with
unfoldable reading : Unit {0}
unfolding steps decimal line word_at asked counted pooled replayed
reading = tt

-- put 9/100 twice, get 9, remove 9, get 9, with T = 1 and N = 2
abbrev pub five_requests : List ℕ
five_requests = bytes (2 ∷ 1 ∷ 2 ∷ 5 ∷ 1 ∷ 0 ∷ 9 ∷ 100 ∷ 1 ∷ 0 ∷ 9 ∷ 100 ∷ 3 ∷ 0 ∷ 9 ∷ 0 ∷ 2 ∷ 0 ∷ 9 ∷ 0 ∷ 3 ∷ 0 ∷ 9 ∷ 0 ∷ [])

abbrev pub five_lines : List ℕ
five_lines = plain 0 ++ (hundred ++ (hundred ++ (hundred ++ plain 0)))

pub five : Trial
five = record { seen = replay five_requests ∷ []; said = five_lines ∷ [] }

five_agrees : agree five ≡ true
unfolding reading five
five_agrees = refl

-- a run of them, in room for the largest pool
pub five_run : Run Kind (replicate room 0) five_requests five_lines
unfolding five
five_run =
    let e : replay five_requests ≡ five_lines = ap (λ (x : List (List ℕ)). get_or x 0 []) (holds five five_agrees) in
    rw (← e) (any_run (replicate room 0) five_requests (rw length-replicate (omega arith)))

-- an unknown request, and the next is answered; tree 1 of one; the rest is not read
pub unknown : Trial
unknown = record {
  seen = replay (bytes (2 ∷ 1 ∷ 2 ∷ 3 ∷ 4 ∷ 0 ∷ 9 ∷ 100 ∷ 1 ∷ 0 ∷ 9 ∷ 100 ∷ 3 ∷ 1 ∷ 9 ∷ 0 ∷ 1 ∷ 2 ∷ 3 ∷ [])) ∷ [];
  said = (plain 6 ++ (plain 0 ++ plain 2)) ∷ [];
}

unknown_agrees : agree unknown ≡ true
unfolding reading unknown
unknown_agrees = refl

-- stopped by 7: no byte, a cut first word, another first word, no N (and T is 0), no count, 4,097 requests, a cut request after a whole one
pub stopped : Trial
stopped = record {
  seen = replay [] ∷ replay (2 ∷ 0 ∷ 0 ∷ []) ∷ replay (bytes (3 ∷ 1 ∷ 2 ∷ 0 ∷ [])) ∷ replay (bytes (2 ∷ 0 ∷ [])) ∷ replay (bytes (2 ∷ 1 ∷ 2 ∷ [])) ∷
      replay (bytes (2 ∷ 1 ∷ 2 ∷ 4097 ∷ [])) ∷ replay (take 47 (bytes (2 ∷ 1 ∷ 2 ∷ 2 ∷ 1 ∷ 0 ∷ 9 ∷ 100 ∷ 3 ∷ 0 ∷ 9 ∷ 0 ∷ []))) ∷ [];
  said = plain 7 ∷ plain 7 ∷ plain 7 ∷ plain 7 ∷ plain 7 ∷ plain 7 ∷ (plain 0 ++ plain 7) ∷ [];
}

stopped_agrees : agree stopped ≡ true
unfolding reading stopped
stopped_agrees = refl

-- stopped by 5: T = 0, T = 33, N = 513, whatever follows
pub unformatted : Trial
unformatted = record {
  seen = replay (bytes (2 ∷ 0 ∷ 2 ∷ [])) ∷ replay (bytes (2 ∷ 33 ∷ 2 ∷ 9999 ∷ [])) ∷ replay (bytes (2 ∷ 32 ∷ 513 ∷ 1 ∷ [])) ∷ [];
  said = plain 5 ∷ plain 5 ∷ plain 5 ∷ [];
}

unformatted_agrees : agree unformatted ≡ true
unfolding reading unformatted
unformatted_agrees = refl

-- 4,096 requests are not too many
pub most_requests_lem : Trial
most_requests_lem = record { seen = replay (bytes (2 ∷ 1 ∷ 2 ∷ 4096 ∷ 3 ∷ 0 ∷ 9 ∷ 0 ∷ [])) ∷ []; said = (plain 0 ++ plain 7) ∷ [] }

most_requests_agrees : agree most_requests_lem ≡ true
unfolding reading most_requests_lem
most_requests_agrees = refl

abbrev pub deliveries : List Trial
deliveries = five ∷ unknown ∷ stopped ∷ unformatted ∷ most_requests_lem ∷ []

pub deliveries_hold : AllHold deliveries
deliveries_hold =
    (holds five five_agrees, (holds unknown unknown_agrees, (holds stopped stopped_agrees, (holds unformatted unformatted_agrees, (holds most_requests_lem most_requests_agrees, tt)))))

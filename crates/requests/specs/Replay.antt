-- DEFINITIONS. Document 01's replay: the text that a list of bytes is answered with
use Rattle.std.specs.Prelude.{◌≡◌, List, [], ◌∷◌, cond, ℕ, zero, suc, ◌+◌, ◌*◌, length, drop, get_or, ltb, leb, eqb, Ok, Err}
use Rattle.std.specs.declared.result.Result.{Result}
use Rattle.std.proofs.Math.Option.{Option, none, some}
use Rattle.forest.specs.declared.Answer.{Answer}
use Rattle.forest.specs.declared.Refusal.TheVariants.{NoFormat}
use Rattle.forest.specs.Answers.{refusal, answer_of}
use Rattle.forest.specs.Pools.{Pool, Call, put, remove, get, call, fresh, formatted}
use Rattle.requests.specs.declared.Call.{Call as Asked}
use Rattle.requests.specs.declared.Call.TheVariants.{Put, Remove, Get}
use Rattle.requests.specs.declared.Fault.{Fault}
use Rattle.requests.specs.declared.Fault.TheVariants.{Unknown, NoDelivery}
use Rattle.requests.specs.Text.{lines}

-- a delivery has at most so many requests
abbrev pub most_requests : ℕ
most_requests = 4096

-- the little-endian word of the four bytes from place i on
unfoldable pub word_at : List ℕ → ℕ → ℕ
word_at b i = get_or b i 0 + 256 * get_or b (i + 1) 0 + 65536 * get_or b (i + 2) 0 + 16777216 * get_or b (i + 3) 0

-- the words of a pool of T trees and N nodes
abbrev pub sized : ℕ → ℕ → ℕ
sized T N = T + 17 * N + 3

-- a request of four words: 1 put, 2 remove, 3 get; none where it is unknown
unfoldable pub asked : ℕ → ℕ → ℕ → ℕ → Option Call
asked kind tree key value =
    cond (eqb kind 1) (some (put tree key value))
    (cond (eqb kind 2) (some (remove tree key))
    (cond (eqb kind 3) (some (get tree key)) none))

-- the request of sixteen bytes
abbrev pub request : List ℕ → Option Call
request b = asked (word_at b 0) (word_at b 4) (word_at b 8) (word_at b 12)

-- the number of each call of a request
abbrev pub kind_of : Asked → ℕ
kind_of Put = 1
kind_of Remove = 2
kind_of Get = 3

-- a number names the call that has it, and else none
abbrev pub Names : ℕ → Result Asked Fault → Type 0
Names kind (Ok c) = kind ≡ kind_of c
Names kind (Err f) = (f ≡ Unknown) × ((c : Asked) → kind ≡ kind_of c → ⊥)

-- the answer to a fault: 6 for an unknown request, 7 for what is no delivery
abbrev pub faulted : Fault → Answer
faulted Unknown = refusal 6
faulted NoDelivery = refusal 7

-- what comes of a request: its answer, and the pool afterwards
pub record Served : Type 0 where
  pub answer : Answer
  pub pool : Pool

-- a request on a pool: the call, its reply in numbers, and 6 where it is unknown
abbrev pub heed : Option Call → Pool → Served
heed none p = record { answer = refusal 6; pool = p }
heed (some c) p = record { answer = answer_of (call c p).answer; pool = (call c p).pool }

-- input that ends early, a first word other than 2, too many requests
abbrev pub stop : List Answer
stop = refusal 7 ∷ []

-- n requests on a pool, each read whole before it is judged; what stands after them is not read
abbrev pub answered : ℕ → List ℕ → Pool → List Answer
answered zero b p = []
answered (suc n) b p =
    cond (ltb (length b) 16) stop
    ((heed (request b) p).answer ∷ answered n (drop 16 b) (heed (request b) p).pool)

-- the count, then the requests
unfoldable pub counted : List ℕ → Pool → List Answer
counted b p =
    cond (ltb (length b) 4) stop
    (cond (leb (word_at b 0) most_requests) (answered (word_at b 0) (drop 4 b) p) stop)

-- T and N, then the pool is formatted, or that is refused
unfoldable pub pooled : List ℕ → List Answer
pooled b =
    cond (ltb (length b) 8) stop
    (cond (formatted (word_at b 0) (word_at b 4) (sized (word_at b 0) (word_at b 4)))
    (counted (drop 8 b) (fresh (word_at b 0) (word_at b 4)))
    (answer_of (Err NoFormat) ∷ []))

-- the first word
unfoldable pub replayed : List ℕ → List Answer
replayed b =
    cond (ltb (length b) 4) stop
    (cond (eqb (word_at b 0) 2) (pooled (drop 4 b)) stop)

-- a delivery's answers, a line each
abbrev pub replay : List ℕ → List ℕ
replay b = lines (replayed b)

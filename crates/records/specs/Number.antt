-- How many records wait, as a number that the table keeps (document 02, W-206). It stands beside the slots: what calls, ticks and
-- switchovers answer and do to the slots is as `Node` says, whatever the number; here is what becomes of it.
use Rattle.std.specs.Prelude.{ℕ, zero, suc, ◌-◌, ◌≡◌, cond, List, [], ◌∷◌, leb, length}
use Rattle.refusal.specs.Answer.{Answer, value, refused}
use Rattle.records.specs.Slots.{Slots, Outcome, ticked, emptied, records_in}
use Rattle.records.specs.Node.{Request, nothing, add, collect, table_answer, table_after, Node, Event, tick, call, switchover, slots_taken_over, step, final}
use Rattle.records.specs.Order.{Reordered, NoWant}

-- "On a table not made by the library a number over 16 is read as 16"
abbrev pub read_number : ℕ → ℕ
read_number n = cond (leb n 16) n 16

-- "adding or emptying writes the number read, changed by that and held within 0 to 16": one more, ..
abbrev pub one_more : ℕ → ℕ
one_more n = read_number (suc (read_number n))

-- .. or so many fewer, where less than 0 is 0; a tick that empties no slot is no change
abbrev pub fewer : ℕ → ℕ → ℕ
fewer zero n = n
fewer (suc k) n = read_number n - suc k

-- "all else leaves it as it came": what a request leaves of it, by the table's answer
abbrev pub added_to : ℕ → Answer ℕ → ℕ
added_to n (value u) = one_more n
added_to n (refused m) = n

abbrev pub taken_from : ℕ → Answer ℕ → ℕ
taken_from n (value u) = fewer 1 n
taken_from n (refused m) = n

abbrev pub number_after : Request → Slots → ℕ → ℕ
number_after nothing t n = n
number_after (add q u) t n = added_to n (table_answer (add q u) t)
number_after (collect q) t n = taken_from n (table_answer (collect q) t)

-- "The image does not carry it; loading counts it."; where nothing is loaded it stays
abbrev pub recounted : ℕ → Answer Slots → ℕ
recounted n (value u) = records_in u
recounted n (refused m) = n

-- what a request and a tick come to; a tick's answer is its count
abbrev pub request_of : Request → Slots → ℕ → Outcome
request_of a t n = record { answer = table_answer a t; slots = table_after a t; number = number_after a t n }

abbrev pub tick_of : Slots → ℕ → Outcome
tick_of t n = record { answer = value (emptied t); slots = ticked t; number = fewer (emptied t) n }

module _ (N : Node) where
  abbrev pub number_step : Slots → ℕ → Event N.Call → ℕ
  number_step t n tick = fewer (emptied t) n
  number_step t n (call c) = number_after (N.request c) t n
  number_step t n switchover = recounted n (N.handover t)

  -- the number at the end of a list, from a table with slots t and number n
  abbrev pub final_number : Slots → ℕ → List (Event N.Call) → ℕ
  final_number t n [] = n
  final_number t n (e ∷ es) = final_number (step N t e) (number_step t n e) es

-- "no other answer depends on it": answer and slots are the same whatever the number
abbrev pub Aside : (ℕ → Outcome) → Type 0
Aside f = (m n : ℕ) → ((f m).answer ≡ (f n).answer) × ((f m).slots ≡ (f n).slots)

abbrev pub NumberAside : Type 0
NumberAside = ((a : Request) (t : Slots) → Aside (request_of a t)) × ((t : Slots) → Aside (tick_of t))

-- "all else leaves it as it came": a request or a tick after which the table holds as many records as before, whatever the number
abbrev pub NumberLeft : Type 0
NumberLeft =
    (t : Slots) (n : ℕ)
    → ((a : Request) → records_in (table_after a t) ≡ records_in t → (request_of a t n).number ≡ n)
    × (records_in (ticked t) ≡ records_in t → (tick_of t n).number ≡ n)

-- Over whole lists, for a node whose switchovers leave 16 slots: the number is that of the table's records at the end if it is so at the
-- start, and so it does not depend on the order of calls.
abbrev pub KeepsSlots : Node → Type 0
KeepsSlots N = (t : Slots) → length t ≡ 16 → length (slots_taken_over t (N.handover t)) ≡ 16

abbrev pub NumberCounts : Node → Type 0
NumberCounts N =
    (t : Slots) (n : ℕ) (es : List (Event N.Call))
    → length t ≡ 16
    → n ≡ records_in t
    → final_number N t n es ≡ records_in (final N t es)

abbrev pub NumbersAlike : Node → Type 0
NumbersAlike N =
    (t : Slots) (n : ℕ) (es fs : List (Event N.Call)) → Reordered N es fs
    → NoWant N t es
    → NoWant N t fs
    → length t ≡ 16
    → n ≡ records_in t
    → final_number N t n es ≡ final_number N t n fs

-- What holds in service, of what node calls, ticks and switchovers make of a new or a loaded table. Nothing stops a switchover (document 02,
-- W-201 and W-211): the table can always be written, whatever kinds of records wait. No residence in it is too long. And the number that
-- the table keeps is that of its records (W-206).
use Rattle.std.specs.Prelude.{ℕ, ◌<◌, ◌≤◌, ◌≡◌, List, length, replicate}
use Rattle.std.proofs.Math.Option.{some}
use Rattle.std.proofs.Math.ListN.{get_elem?}
use Rattle.octets.specs.Octets.{Octets}
use Rattle.refusal.specs.Answer.{value}
use Rattle.records.specs.declared.Record.{Record}
use Rattle.records.specs.Slots.{Slots, zeros, records_of, records_in}
use Rattle.records.specs.Node.{Node, Event, call, final}
use Rattle.records.specs.Order.{Reordered, NoWant}
use Rattle.records.specs.Number.{read_number, final_number, Aside}
use Rattle.image.specs.Image.{image_of, load_into}
use Rattle.rules.specs.Rules.{Call, rules, call_of}

-- a table that a card starts with, its slots and its number: a new one, or one that an image loads, over whatever table was there
pub data Started : Slots → ℕ → Type 0 where
  new : Started (replicate 16 zeros) 0
  loaded :
      (s : List ℕ) (there t : Slots) (m n : ℕ) → load_into s there m ≡ record { answer = value 0; slots = t; number = n } → Started t n

-- the messages of a list are octets
abbrev pub InOctets : List (Event Call) → Type 0
InOctets es = (k : ℕ) (c : Call) → get_elem? es k ≡ some (call c) → Octets c.message

-- It has an image, of at most 386 octets: an output of that size takes it.
abbrev pub AlwaysWritten : Type 0
AlwaysWritten =
    (t : Slots) (n : ℕ) (es : List (Event Call))
    → Started t n
    → InOctets es
    → (s : List ℕ) × (image_of (final rules t es) ≡ value s) × (length s ≤ 386)

-- No residence that waits reaches 262,144,000,000,000 units, what refusal 10 refuses: a call adds none such, and no image brings one. So a
-- Follow_Up or a Delay_Resp has less than that added (document 02, W-209: the sum of a report is exact because of it).
abbrev pub ResidencesBelow : Type 0
ResidencesBelow =
    (t : Slots) (n : ℕ) (es : List (Event Call))
    → Started t n
    → (k : ℕ) (r : Record)
    → get_elem? (records_of (final rules t es)) k ≡ some r
    → r.residence < 262144000000000

-- "no other answer depends on it", neither a call's nor a load's, from any table
abbrev pub CallsAside : Type 0
CallsAside =
    ((t : Slots) (c : Call) (m n : ℕ) → ((call_of t m c).reply ≡ (call_of t n c).reply) × ((call_of t m c).slots ≡ (call_of t n c).slots))
    × ((s : List ℕ) (t : Slots) → Aside (load_into s t))

-- "From a new or loaded table, after any calls, it equals the slots with a wait above 0": the number kept, and the one that is asked for,
-- at any node
abbrev pub NumberInService : Node → Type 0
NumberInService N =
    (t : Slots) (n : ℕ) (es : List (Event N.Call))
    → Started t n
    → (final_number N t n es ≡ records_in (final N t es))
    × (read_number (final_number N t n es) ≡ records_in (final N t es))

-- "Demand 3 compares it too, at the end, from a new or loaded table": of two orders, under the premises of `OrderFree`
abbrev pub NumberOrderFree : Node → Type 0
NumberOrderFree N =
    (t : Slots) (n : ℕ) (es fs : List (Event N.Call))
    → Started t n
    → Reordered N es fs
    → NoWant N t es
    → NoWant N t fs
    → final_number N t n es ≡ final_number N t n fs

-- The table of waiting records: its slots, and what adding, collecting and a tick do (document 01, What a node does).
-- "The table has 16 slots"; nothing here asks for that number.
use Rattle.std.specs.Prelude.{ℕ, zero, suc, Bool, true, false, cond, not, ◌&&◌, List, [], ◌∷◌, map, ltb, eqb, length, set}
use Rattle.std.proofs.Math.Option.{Option, none, some}
use Rattle.std.proofs.Math.ListN.{get_elem?}
use Rattle.refusal.specs.Answer.{Answer, value, refused, refuse}
use Rattle.records.specs.declared.RecordKind.{RecordKind}
use Rattle.records.specs.declared.RecordKind.TheVariants.{Sync, Delay}
use Rattle.records.specs.declared.Identity.{Identity}
use Rattle.records.specs.declared.Record.{Record}

abbrev pub Slots : Type 0
Slots = List Record

-- what an operation on a table answers, and the table afterwards: its slots, and its number (`Number`)
pub record Outcome : Type 0 where
  pub answer : Answer ℕ
  pub slots : Slots
  pub number : ℕ

-- "A record gains its kind, Sync or Delay" (document 02, W-204), here as a number
abbrev pub kind_number : RecordKind → ℕ
kind_number Sync = 0
kind_number Delay = 1

-- "and identity .. becomes kind, port and sequence"; "zeros are an ordinary identity"
abbrev pub identity_of : Record → Identity
identity_of r = record { kind = r.kind; clock = r.clock; port = r.port; sequence = r.sequence }

unfoldable pub same : Identity → Identity → Bool
same p q =
    eqb (kind_number p.kind) (kind_number q.kind)
    && (eqb p.clock q.clock && (eqb p.port q.port && eqb p.sequence q.sequence))

-- "A slot is empty exactly when its wait is 0, and only the other slots hold records"
abbrev pub empty : Record → Bool
empty s = eqb s.wait 0

-- the records of a table, in slot order
abbrev pub records_of : Slots → Slots
records_of [] = []
records_of (s ∷ t) = cond (empty s) (records_of t) (s ∷ records_of t)

-- the slot holds a record with this identity
unfoldable pub holds : Identity → Record → Bool
holds q s = not (empty s) && same q (identity_of s)

-- "a slot emptied by an operation is all zeros", of kind Sync
abbrev pub zeros : Record
zeros = record { kind = Sync; clock = 0; port = 0; sequence = 0; residence = 0; wait = 0 }

-- the lowest slot that passes a test, or the number of slots where none does
abbrev pub lowest : (Record → Bool) → Slots → ℕ
lowest p [] = 0
lowest p (s ∷ t) = cond (p s) 0 (suc (lowest p t))

-- "where two records share an identity the lower slot is meant"
abbrev pub find : Identity → Slots → Option Record
find q t = get_elem? t (lowest (holds q) t)

abbrev pub found : Option Record → Bool
found none = false
found (some r) = true

-- "port, sequence, stay in pad units and a wait of 3 go into the lowest empty slot", and the kind with them: 13 identity already waiting,
-- 14 no empty slot
abbrev pub fresh : Identity → ℕ → Record
fresh q u = record { kind = q.kind; clock = q.clock; port = q.port; sequence = q.sequence; residence = u; wait = 3 }

abbrev pub vacant : Slots → Bool
vacant t = ltb (lowest empty t) (length t)

abbrev pub add_answer : Option Record → Bool → Answer ℕ
add_answer r room = refuse 13 (found r) (refuse 14 (not room) (value 0))

abbrev pub add_to : Identity → ℕ → Slots → Slots
add_to q u t = set t (lowest empty t) (fresh q u)

-- "the record with its port and sequence is added to its pad and its slot emptied": 15 Follow_Up with no record, or Delay_Resp (W-204)
abbrev pub collect_answer : Option Record → Answer ℕ
collect_answer none = refused 15
collect_answer (some r) = value r.residence

abbrev pub remove_from : Identity → Slots → Slots
remove_from q t = set t (lowest (holds q) t) zeros

-- "A tick lowers every wait above 0 by one, empties those that reach 0"
abbrev pub aged_by : ℕ → Record → Record
aged_by zero s = s
aged_by (suc zero) s = zeros
aged_by (suc (suc w)) s =
    record { kind = s.kind; clock = s.clock; port = s.port; sequence = s.sequence; residence = s.residence; wait = suc w }

abbrev pub aged : Record → Record
aged s = aged_by s.wait s

abbrev pub ticked : Slots → Slots
ticked t = map aged t

-- "and tells how many it emptied": the slots whose wait goes from 1 to 0
abbrev pub count : (Record → Bool) → Slots → ℕ
count p [] = 0
count p (s ∷ t) = cond (p s) (suc (count p t)) (count p t)

abbrev pub emptied : Slots → ℕ
emptied t = count (λ s. eqb s.wait 1) t

-- how many records a table holds: "the slots with a wait above 0" (document 02, W-206)
abbrev pub records_in : Slots → ℕ
records_in t = count (λ s. not (empty s)) t

-- The number of waiting records in service, worked: over calls that add and collect, a refused one, ticks and two switchovers, the first
-- while a Delay record waits; and in two orders from a loaded table, where it is the same. From a number that no library made it is not. A
-- switchover that is refused leaves it.
-- Assumes nothing.
use Prim.Native.Nat.{ℕ, zero, suc, ◌<◌}
use mathlib.Core.Path.{◌≡◌, refl, sym, ap, ◌∙◌}
use mathlib.Core.Bool.{true}
use mathlib.Core.List.{List, [], ◌∷◌}
use mathlib.Core.Option.{Option, none, some, none-ne-some}
use native.Mathlib.Omega.{arith}
use lib.IntN.{pos}
use lib.ListN.{get_elem?, replicate}
use Rattle.refusal.specs.Answer.{value, refused}
use Rattle.records.specs.declared.Identity.{Identity}
use Rattle.records.specs.Slots.{Slots, same, holds, zeros}
use Rattle.records.specs.Node.{Event, tick, call, switchover, told, replied, taken_over, step, run}
use Rattle.records.specs.Order.{ticks, Reordered, NoWant}
use Rattle.records.specs.Number.{read_number, number_step, final_number}
use Rattle.image.specs.declared.Form.TheVariants.{New}
use Rattle.image.specs.Image.{sound, differ, image_of, filled, records_at}
use Rattle.rules.specs.Rules.{kind_of, kind_identity, two_step, Call, waiting, added, rules}
use Rattle.rules.specs.Service.{Started, new, loaded}
use Rattle.rules.proofs.Serves.{number_in_service, number_order_free}
use Rattle.rules.proofs.Samples.{numbered, octets_of, stayed, handed_in, record_of, answers, call_in, reordered_by, no_want, fine}
use Rattle.rules.proofs.ServiceExample.{one_record}

-- a call on a message of this sequence and PTPType
abbrev handed : ℕ → ℕ → Event Call
handed n k = call (handed_in two_step (octets_of (numbered n) true k (pos 0)) (stayed 1))

-- ---- in service

abbrev start : Slots
start = replicate 16 zeros

abbrev events : List (Event Call)
events =
    handed 258 0
    ∷ handed 258 0
    ∷ handed 258 1
    ∷ tick
    ∷ switchover
    ∷ handed 258 9
    ∷ switchover
    ∷ handed 259 0
    ∷ tick
    ∷ tick
    ∷ []

events-answers :
    answers (run rules start events)
    ≡ replied (value waiting) ∷ replied (refused 13) ∷ replied (value waiting) ∷ told 0 ∷ taken_over
    ∷ replied (value added) ∷ taken_over ∷ replied (value waiting) ∷ told 0 ∷ told 1 ∷ []
unfolding same holds sound differ
events-answers = refl

-- the number after each of them
abbrev numbers : Slots → ℕ → List (Event Call) → List ℕ
numbers t n [] = []
numbers t n (e ∷ es) = number_step rules t n e ∷ numbers (step rules t e) (number_step rules t n e) es

events-numbers : numbers start 0 events ≡ 1 ∷ 1 ∷ 2 ∷ 2 ∷ 2 ∷ 1 ∷ 1 ∷ 2 ∷ 2 ∷ 1 ∷ []
unfolding same holds sound differ
events-numbers = refl

-- the theorem, for these
in_service : (final_number rules start 0 events ≡ 1) × (read_number (final_number rules start 0 events) ≡ 1)
unfolding same holds sound differ
in_service = number_in_service start 0 events new

-- ---- two orders

-- one record waits, loaded over a table whose number is 200
abbrev slots : Slots
slots = filled (records_at New one_record)

one_loaded : Started slots 1
unfolding same holds sound differ
one_loaded = loaded one_record start slots 200 1 refl

-- a Sync is put in before the record is collected, or behind it
abbrev this : List (Event Call)
this = handed 259 0 ∷ handed 258 8 ∷ []

abbrev that : List (Event Call)
that = handed 258 8 ∷ handed 259 0 ∷ []

abbrev swap : ℕ → ℕ
swap zero = 1
swap (suc zero) = 0
swap (suc (suc n)) = suc (suc n)

-- the same call stands there, `swap` is its own inverse, and as many ticks stand before
swapped : (i : ℕ) → (call_in (get_elem? this i) ≡ call_in (get_elem? that (swap i))) × (swap (swap i) ≡ i) × (ticks i this ≡ ticks (swap i) that)
swapped zero = (refl, refl, refl)
swapped (suc zero) = (refl, refl, refl)
swapped (suc (suc n)) = (refl, refl, refl)

-- the two are of different identities
abbrev sequence_in : Option Identity → ℕ
sequence_in none = 0
sequence_in (some q) = q.sequence

abbrev sequence_at : Option (Event Call) → ℕ
sequence_at none = 0
sequence_at (some tick) = 0
sequence_at (some (call c)) = sequence_in (kind_identity (kind_of c.message))
sequence_at (some switchover) = 0

apart :
    (i j : ℕ) (c d : Call)
    → get_elem? this i ≡ some (call c)
    → get_elem? this j ≡ some (call d)
    → sequence_at (get_elem? this i) ≡ sequence_at (get_elem? this j)
    → i < j
    → swap i < swap j
apart zero zero c d a b e l = absurd (omega arith)
apart zero (suc zero) c d a b e l = absurd (omega arith)
apart zero (suc (suc j)) c d a b e l = absurd (none-ne-some (call d) b)
apart (suc zero) zero c d a b e l = absurd (omega arith)
apart (suc zero) (suc zero) c d a b e l = absurd (omega arith)
apart (suc zero) (suc (suc j)) c d a b e l = absurd (none-ne-some (call d) b)
apart (suc (suc i)) j c d a b e l = absurd (none-ne-some (call c) a)

reordered : Reordered rules this that
reordered =
    reordered_by this that swap swapped refl
    (λ i j c d q a b e f l. apart i j c d a b (ap sequence_at a ∙ ap sequence_in (e ∙ sym f) ∙ sym (ap sequence_at b)) l)

this_fits : NoWant rules slots this
unfolding same holds sound differ
this_fits = no_want slots this (fine, (fine, tt))

that_fits : NoWant rules slots that
unfolding same holds sound differ
that_fits = no_want slots that (fine, (fine, tt))

-- the theorem, for these two: from the loaded table both end with 1
alike : final_number rules slots 1 this ≡ final_number rules slots 1 that
alike = number_order_free slots 1 this that one_loaded reordered this_fits that_fits

ends : final_number rules slots 1 that ≡ 1
unfolding same holds sound differ
ends = refl

-- from the same slots with a number of 16 the one ends with 15 and the other with 16
this_15 : final_number rules slots 16 this ≡ 15
unfolding same holds sound differ
this_15 = refl

that_16 : final_number rules slots 16 that ≡ 16
unfolding same holds sound differ
that_16 = refl

-- ---- a switchover that is refused

-- a table that no library made, with a wait of 4, cannot be written: slots and number stay
abbrev unloadable : Slots
unloadable = record_of (numbered 258) 4 ∷ replicate 15 zeros

stays :
    (image_of unloadable ≡ refused 22)
    × (step rules unloadable switchover ≡ unloadable)
    × (number_step rules unloadable 200 switchover ≡ 200)
unfolding same holds sound differ
stays = (refl, refl, refl)

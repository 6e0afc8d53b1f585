-- Nothing stops a switchover, worked: while a Sync's and a Delay_Req's record of one port and sequence wait the table can be written, and
-- behind the Delay_Resp, which collects the one, it can too. An image of the old form is taken and written in the new one.
-- Assumes nothing.
use Prim.Native.Nat.{ℕ, ◌≤◌}
use mathlib.Core.Path.{◌≡◌, refl}
use mathlib.Core.Bool.{true}
use mathlib.Core.List.{List, [], ◌∷◌}
use lib.IntN.{pos}
use lib.ListN.{length, take, replicate}
use Rattle.octets.proofs.Low.{low-Octets}
use Rattle.refusal.specs.Answer.{value}
use Rattle.std.specs.Prelude.{Ok, Err}
use Rattle.residence.specs.declared.ResidenceError.TheVariants.{InvalidStamp}
use Rattle.records.specs.Slots.{Slots, same, holds, zeros}
use Rattle.records.specs.Node.{Event, tick, call, final}
use Rattle.image.specs.declared.Form.TheVariants.{Old}
use Rattle.image.specs.Image.{sound, differ, image_of, records_at, filled}
use Rattle.rules.specs.Rules.{two_step, Call, rules}
use Rattle.rules.specs.Service.{new, loaded, InOctets}
use Rattle.rules.proofs.Serves.{always_written}
use Rattle.rules.proofs.Samples.{numbered, octets_of, stayed, handed_in, each, Low}

abbrev start : Slots
start = replicate 16 zeros

-- a message of this PTPType with S set
abbrev of_type : ℕ → List ℕ
of_type k = octets_of (numbered 258) true k (pos 0)

abbrev events : List (Event Call)
events =
    call (handed_in two_step (of_type 0) (stayed 1))
    ∷ call (handed_in two_step (of_type 1) (stayed 9))
    ∷ tick
    ∷ call (handed_in two_step (of_type 9) (Err InvalidStamp))
    ∷ []

-- that the table has an image, of at most 386 octets
abbrev Written : Slots → Type 0
Written t = (s : List ℕ) × (image_of t ≡ value s) × (length s ≤ 386)

-- ---- while both records wait

abbrev before : List (Event Call)
before = take 3 events

-- the messages are octets
before-InOctets : InOctets before
before-InOctets k c = each Low before (low-Octets (of_type 0) refl, (low-Octets (of_type 1) refl, (tt, tt))) k (call c)

-- the theorem says that there is an image, and this is it, of 50 octets: the two records, one tick old, each behind its kind
both_written : Written (final rules start before)
both_written = always_written start 0 before new before-InOctets

abbrev two_records : List ℕ
two_records =
    0xFF ∷ 0x02 ∷ 0x00 ∷ 0x06 ∷ 0x00 ∷ 0x1C
    ∷ 0x00 ∷ 0x00 ∷ 0x01 ∷ 0x02 ∷ 0x03 ∷ 0x04 ∷ 0x05 ∷ 0x06 ∷ 0x07 ∷ 0x00 ∷ 0x01 ∷ 0x01 ∷ 0x02
    ∷ 0x00 ∷ 0x00 ∷ 0x00 ∷ 0x00 ∷ 0x00 ∷ 0x01 ∷ 0x00 ∷ 0x00 ∷ 0x02
    ∷ 0x01 ∷ 0x00 ∷ 0x01 ∷ 0x02 ∷ 0x03 ∷ 0x04 ∷ 0x05 ∷ 0x06 ∷ 0x07 ∷ 0x00 ∷ 0x01 ∷ 0x01 ∷ 0x02
    ∷ 0x00 ∷ 0x00 ∷ 0x00 ∷ 0x00 ∷ 0x00 ∷ 0x09 ∷ 0x00 ∷ 0x00 ∷ 0x02 ∷ []

both_image : (image_of (final rules start before) ≡ value two_records) × (length two_records ≡ 50)
unfolding same holds sound differ
both_image = (refl, refl)

-- ---- behind the Delay_Resp

in_octets : InOctets events
in_octets k c = each Low events (low-Octets (of_type 0) refl, (low-Octets (of_type 1) refl, (tt, (low-Octets (of_type 9) refl, tt)))) k (call c)

-- the Sync's record alone, in 26 octets
written : Written (final rules start events)
written = always_written start 0 events new in_octets

abbrev pub one_record : List ℕ
one_record =
    0xFF ∷ 0x01 ∷ 0x00 ∷ 0x04
    ∷ 0x00 ∷ 0x00 ∷ 0x01 ∷ 0x02 ∷ 0x03 ∷ 0x04 ∷ 0x05 ∷ 0x06 ∷ 0x07 ∷ 0x00 ∷ 0x01 ∷ 0x01 ∷ 0x02
    ∷ 0x00 ∷ 0x00 ∷ 0x00 ∷ 0x00 ∷ 0x00 ∷ 0x01 ∷ 0x00 ∷ 0x00 ∷ 0x02 ∷ []

image : (image_of (final rules start events) ≡ value one_record) × (length one_record ≡ 26)
unfolding same holds sound differ
image = (refl, refl)

-- ---- from an image of the old form

-- that record as a card of an old release left it
abbrev old_record : List ℕ
old_record =
    0x01 ∷ 0x00 ∷ 0x03
    ∷ 0x00 ∷ 0x01 ∷ 0x02 ∷ 0x03 ∷ 0x04 ∷ 0x05 ∷ 0x06 ∷ 0x07 ∷ 0x00 ∷ 0x01 ∷ 0x01 ∷ 0x02
    ∷ 0x00 ∷ 0x00 ∷ 0x00 ∷ 0x00 ∷ 0x00 ∷ 0x01 ∷ 0x00 ∷ 0x00 ∷ 0x02 ∷ []

abbrev taken : Slots
taken = filled (records_at Old old_record)

taken-Written : Written (final rules taken [])
unfolding same holds sound differ
taken-Written = always_written taken 1 [] (loaded old_record start taken 0 1 refl) (λ k c. each Low [] tt k (call c))

taken_image : image_of taken ≡ value one_record
unfolding same holds sound differ
taken_image = refl

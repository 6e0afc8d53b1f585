-- Refusal 11 is withdrawn at nodes, worked at both ends of the pad's range: document 01's case that gave 11, the lowest pad, and the
-- longest residence that a table can hold, which no node put there.
-- Assumes nothing.
use Prim.Native.Nat.{◌-◌, ◌^◌}
use mathlib.Core.Path.{◌≡◌, refl}
use mathlib.Core.Bool.{true, false}
use mathlib.Core.List.{◌∷◌}
use native.Mathlib.Omega.{arith}
use lib.IntN.{ℤ, pos, negsuc, ◌+ℤ◌}
use lib.ListN.{replicate}
use Rattle.refusal.specs.Answer.{Answer, value, refused}
use Rattle.std.specs.Prelude.{Ok, Err}
use Rattle.residence.specs.declared.ResidenceError.TheVariants.{InvalidStamp}
use Rattle.records.specs.declared.RecordKind.TheVariants.{Sync}
use Rattle.records.specs.Slots.{Slots, same, holds, zeros}
use Rattle.scratch_pad.specs.Sum.{largest, too_low}
use Rattle.rules.specs.Change.{pad_of}
use Rattle.rules.specs.Rules.{one_step, two_step, Call, Word, updated, added, add_to_pad, call_of}
use Rattle.rules.proofs.Sums.{sums_never_below, sums_are_pads}
use Rattle.rules.proofs.Numbers.{eleven_withdrawn}
use Rattle.rules.proofs.Samples.{numbered, octets_of, stayed, handed_in}

abbrev lowest : ℤ
lowest = negsuc (2 ^ 63 - 1)

abbrev answer_of : Slots → Call → Answer Word
answer_of t c = (call_of t 1 c).reply.answer

-- "pad 2^63-1 .. and 1 ns: 11", which is updated now
abbrev on_largest : Call
on_largest = handed_in one_step (octets_of (numbered 258) false 0 largest) (stayed 1)

on_largest_lem : answer_of (replicate 16 zeros) on_largest ≡ value updated
on_largest_lem = refl

-- the lowest pad and no residence: as low as a sum can be, and a pad
abbrev on_lowest : Call
on_lowest = handed_in one_step (octets_of (numbered 258) false 0 lowest) (stayed 0)

on_lowest_lem : answer_of (replicate 16 zeros) on_lowest ≡ value updated
on_lowest_lem = refl

not_below : too_low (pad_of on_lowest.message +ℤ pos 0) ≡ false
not_below = sums_never_below on_lowest.message 0

read_back : ((add_to_pad on_lowest updated 0).answer ≡ value updated) × (pad_of (add_to_pad on_lowest updated 0).message ≡ lowest)
read_back = sums_are_pads on_lowest updated 0 (omega arith)

-- a Follow_Up with either pad, whose record holds 2^64-1 units: added
abbrev longest : Slots
longest = record { kind = Sync; clock = 0x0001020304050607; port = 1; sequence = 258; residence = 2 ^ 64 - 1; wait = 3 } ∷ replicate 15 zeros

abbrev a_follow_up : ℤ → Call
a_follow_up pad = handed_in two_step (octets_of (numbered 258) true 8 pad) (Err InvalidStamp)

all_added : (answer_of longest (a_follow_up largest) ≡ value added) × (answer_of longest (a_follow_up lowest) ≡ value added)
unfolding same holds
all_added = (refl, refl)

-- 11 is none of these answers, nor that of the Follow_Up for which nothing waits
none_eleven :
    (answer_of longest (a_follow_up largest) ≡ refused 11 → ⊥)
    × (answer_of longest (a_follow_up lowest) ≡ refused 11 → ⊥)
    × (answer_of (replicate 16 zeros) (a_follow_up lowest) ≡ refused 11 → ⊥)
none_eleven = (
  eleven_withdrawn longest 1 (a_follow_up largest),
  eleven_withdrawn longest 1 (a_follow_up lowest),
  eleven_withdrawn (replicate 16 zeros) 1 (a_follow_up lowest),
)

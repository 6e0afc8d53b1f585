-- Correcting, worked: which message's sub-TLV counts, each refusal and its place in the order, and the ends of the field.
-- Assumes nothing.
use Prim.Native.Nat.{ℕ, ◌+◌, ◌-◌, ◌*◌, ◌^◌}
use mathlib.Core.Path.{◌≡◌, refl}
use mathlib.Core.Bool.{true, false}
use mathlib.Core.List.{List, [], ◌∷◌, ◌++◌}
use lib.IntN.{ℤ, pos, negsuc}
use Rattle.refusal.specs.Answer.{Answer, value, refused}
use Rattle.scratch_pad.specs.Sum.{largest}
use Rattle.rules.proofs.PathExample.{mine}
use Rattle.correction.specs.Correct.{Corrected, correct_of}
use Rattle.correction.proofs.Samples.{header_with, packet_with, sync_packet, follow_up_packet, carrying}

abbrev lowest : ℤ
lowest = negsuc (2 ^ 63 - 1)

abbrev a_sync : ℤ → List ℕ → List ℕ
a_sync pad packet = carrying true 0 pad packet

abbrev a_follow_up : ℤ → List ℕ → List ℕ
a_follow_up pad packet = carrying true 8 pad packet

-- the copy as it came, with the number
abbrev left : ℕ → List ℕ → Corrected
left n copy = record { answer = refused n; copy = copy }

-- ---- the message that carried the packet

-- the Follow_Up: what the Sync carries is not looked at
by_follow_up :
    correct_of (a_sync (pos 7) (sync_packet (pos 1))) (a_follow_up (pos 5) (follow_up_packet (pos 100))) 2 (follow_up_packet (pos 100))
    ≡ record { answer = value (pos 112); copy = follow_up_packet (pos 112) }
by_follow_up = refl

-- the Sync, where the Follow_Up's packet is empty
by_sync :
    correct_of (a_sync (pos 7) (sync_packet (negsuc 99))) (a_follow_up (pos 5) []) 2 (sync_packet (negsuc 99))
    ≡ record { answer = value (negsuc 87); copy = sync_packet (negsuc 87) }
by_sync = refl

-- each with the other's message type
of_the_other :
    (correct_of (a_sync (pos 7) []) (a_follow_up (pos 5) (sync_packet (pos 1))) 2 (sync_packet (pos 1)) ≡ left 32 (sync_packet (pos 1)))
    × (correct_of (a_sync (pos 7) (follow_up_packet (pos 1))) (a_follow_up (pos 5) []) 2 (follow_up_packet (pos 1)) ≡ left 32 (follow_up_packet (pos 1)))
of_the_other = (refl, refl)

-- ---- the refusals, in their order

-- joining's come first: 18 and 11, though the copy is another
joining_first :
    (correct_of (carrying false 0 (pos 0) []) (a_follow_up (pos 0) (follow_up_packet (pos 1))) 2 [] ≡ left 18 [])
    × (correct_of (a_sync lowest []) (a_follow_up (negsuc 0) (follow_up_packet (pos 1))) 2 [] ≡ left 11 [])
joining_first = (refl, refl)

abbrev good : List ℕ
good = follow_up_packet (pos 100)

abbrev given : ℕ → List ℕ → Corrected
given place copy = correct_of (a_sync (pos 7) []) (a_follow_up (pos 5) good) place copy

-- 30: one octet more, another octet, none; also where no header fits
other_copies :
    (given 2 (good ++ (0 ∷ [])) ≡ left 30 (good ++ (0 ∷ [])))
    × (given 2 (follow_up_packet (pos 101)) ≡ left 30 (follow_up_packet (pos 101)))
    × (given 100 [] ≡ left 30 [])
other_copies = (refl, refl, refl)

-- 31: the header fits up to place 12, and no place wraps
places :
    (given 13 good ≡ left 31 good)
    × (given (2 ^ 64 - 1) good ≡ left 31 good)
    × (given (2 ^ 64 - 34) good ≡ left 31 good)
places = (refl, refl, refl)

-- at place 12, where it fits, stand other octets: 32
last_place : given 12 good ≡ left 32 good
last_place = refl

-- an empty packet: no header fits
no_packet : (correct_of (a_sync (pos 7) []) (a_follow_up (pos 5) []) 0 [] ≡ left 31 []) × (correct_of (a_sync (pos 7) []) (a_follow_up (pos 5) []) 0 good ≡ left 30 good)
no_packet = (refl, refl)

-- 32: the version, which is the low half of its octet, the message type, the clock identity, the port number, the sequence; a packet whose
-- field would be too low is refused so too
abbrev with_header : ℕ → ℕ → ℕ → ℕ → ℕ → Answer ℤ
with_header first second clock port sequence =
    let packet = packet_with first second lowest clock port sequence in
    (correct_of (a_sync (negsuc 0) []) (a_follow_up (pos 0) packet) 2 packet).answer

mismatches :
    (with_header 0x18 0x21 mine.clock mine.port mine.sequence ≡ refused 32)
    × (with_header 0x18 0x13 mine.clock mine.port mine.sequence ≡ refused 32)
    × (with_header 0x19 0x12 mine.clock mine.port mine.sequence ≡ refused 32)
    × (with_header 0x18 0x12 (mine.clock + 1) mine.port mine.sequence ≡ refused 32)
    × (with_header 0x18 0x12 mine.clock (mine.port + 1) mine.sequence ≡ refused 32)
    × (with_header 0x18 0x12 mine.clock mine.port (mine.sequence + 1) ≡ refused 32)
mismatches = (refl, refl, refl, refl, refl, refl)

-- nothing else of the header is looked at: whatever stands in the free halves and in the other fields
abbrev freely : ℕ → ℕ → ℤ → List ℕ
freely n half z = header_with n (half * 16 + 8) (half * 16 + 2) z mine.clock mine.port mine.sequence

others_free :
    ((correct_of (a_sync (pos 7) []) (a_follow_up (pos 5) (freely 1 0 (pos 100))) 0 (freely 1 0 (pos 100))).copy ≡ freely 1 0 (pos 112))
    × ((correct_of (a_sync (pos 7) []) (a_follow_up (pos 5) (freely 200 15 (pos 100))) 0 (freely 200 15 (pos 100))).copy ≡ freely 200 15 (pos 112))
others_free = (refl, refl)

-- 33: -2^63 and -1
too_low : with_header 0x18 0x12 mine.clock mine.port mine.sequence ≡ refused 33
too_low = refl

-- ---- the ends of the field

-- the new field, from the packet's own and the pads of Sync and Follow_Up
abbrev added : ℤ → ℤ → ℤ → Answer ℤ
added z pad other = (correct_of (a_sync pad []) (a_follow_up other (follow_up_packet z)) 2 (follow_up_packet z)).answer

-- -2^63 is a field; 2^63-1 stays, though the total is -2^63, and is given where the total is that, and where the sum is that or more
ends :
    (added lowest (pos 0) (pos 0) ≡ value lowest)
    × (added largest lowest (pos 0) ≡ value largest)
    × (added lowest largest (negsuc 0) ≡ value largest)
    × (added (negsuc 0) (pos (2 ^ 63 - 2)) (pos 1) ≡ value largest)
    × (added (pos (2 ^ 63 - 2)) (pos 1) (pos 0) ≡ value largest)
    × (added (pos (2 ^ 63 - 2)) (pos 1) (negsuc 1) ≡ value (pos (2 ^ 63 - 3)))
ends = (refl, refl, refl, refl, refl, refl)

-- What a corrected packet is, in whole sentences.
use Rattle.std.specs.Prelude.{ℕ, ◌+◌, ◌≤◌, ◌≡◌, true, false, ◌||◌, List, ◌++◌, ◌↔◌, ℤ, ◌+ℤ◌, length, take, drop}
use Rattle.octets.specs.Octets.{signed_octets}
use Rattle.refusal.specs.Answer.{value, refused}
use Rattle.scratch_pad.specs.Sum.{largest, too_big, too_low}
use Rattle.egress.specs.Join.{shown_of}
use Rattle.correction.specs.Header.{PtpHeader, ptp_header, with_correction}
use Rattle.correction.specs.Correct.{field_of, correct_of}

-- "No other octet changes": the corrected packet is the shown one with the eight octets of the correctionField replaced.
abbrev pub FieldAlone : Type 0
FieldAlone =
    (s f : List ℕ) (place : ℕ) (copy : List ℕ) (z : ℤ)
    → (correct_of s f place copy).answer ≡ value z
    → (place + 34 ≤ length (shown_of s f))
    × ((correct_of s f place copy).copy ≡ take (place + 8) (shown_of s f) ++ signed_octets z ++ drop (place + 16) (shown_of s f))

-- Read as a PTPv2 header again, it has the field answered, and every other field of the shown packet's header.
abbrev pub OtherFieldsBack : Type 0
OtherFieldsBack =
    (s f : List ℕ) (place : ℕ) (copy : List ℕ) (z : ℤ)
    → (correct_of s f place copy).answer ≡ value z
    → ptp_header (drop place (correct_of s f place copy).copy) ≡ with_correction (ptp_header (drop place (shown_of s f))) z

-- "either of the two at 2^63-1 giving 2^63-1", whatever the other
abbrev pub LargestWins : Type 0
LargestWins = (h : PtpHeader) (total : ℤ) → (too_big h.correction_field || too_big total) ≡ true → field_of h total ≡ value largest

-- "33 for a sum below -2^63", and for nothing else: neither the packet's own field nor the total is 2^63-1 then
abbrev pub TooLowExactly : Type 0
TooLowExactly =
    (h : PtpHeader) (total : ℤ)
    → (field_of h total ≡ refused 33)
    ↔ ((too_big h.correction_field ≡ false) × (too_big total ≡ false) × (too_low (h.correction_field +ℤ total) ≡ true))

-- Correcting the packet at the egress (document 02, W-214; refusals 30 to 33): "Given a joined pair, the place of the PTPv2 header in the
-- shown packet, and a copy of that packet to write, add the total to its correctionField".
use Rattle.std.specs.Prelude.{ℕ, ◌+◌, Bool, not, ◌&&◌, List, [], ◌∷◌, leb, eqb, ℤ, length, drop}
use Rattle.octets.specs.Octets.{signed_octets, put, same}
use Rattle.refusal.specs.Answer.{Answer, value, refused, refuse, and_then}
use Rattle.message.specs.declared.fields.SubTlv.{SubTlv}
use Rattle.message.specs.Read.{message_value, sub_tlv, carried_of}
use Rattle.scratch_pad.specs.Sum.{pad_sum}
use Rattle.egress.specs.Join.{join_of, shown_of}
use Rattle.correction.specs.Header.{PtpHeader, ptp_header}

-- "the message that carried it": the Follow_Up, or the Sync where the Follow_Up's packet is empty
abbrev pub carrier_by : List ℕ → List ℕ → List ℕ → List ℕ
carrier_by [] s f = s
carrier_by (x ∷ xs) s f = f

abbrev pub carrier_of : List ℕ → List ℕ → List ℕ
carrier_of s f = carrier_by (carried_of f) s f

-- its sub-TLV: a joined message is of types 2 to 4, which "begin the Value with the sub-TLV"
abbrev pub carrier_sub_tlv : List ℕ → List ℕ → SubTlv
carrier_sub_tlv s f = sub_tlv (message_value (carrier_of s f))

-- "version 2 .., and that message type .., source port .. and sequence .. equal the sub-TLV"
abbrev pub agrees : SubTlv → PtpHeader → Bool
agrees t h =
    eqb h.version_ptp 2
    && (eqb h.message_type t.ptp_type
    && (eqb h.clock_identity t.clock
    && (eqb h.port_number t.port
    && eqb h.sequence_id t.sequence)))

-- "by W-205's rule, either of the two at 2^63-1 giving 2^63-1": that of two pads, but "33 for a sum below -2^63"
abbrev pub renumbered : Answer ℤ → Answer ℤ
renumbered (value z) = value z
renumbered (refused n) = refused 33

abbrev pub field_of : PtpHeader → ℤ → Answer ℤ
field_of h total = renumbered (pad_sum h.correction_field total)

-- The new correctionField, from the packet shown, the sub-TLV, the place, the copy and the total: "in this order: 30 for a copy of another
-- size or other octets, 31 for a header that does not fit, 32 for another version or a mismatch", 33
abbrev pub packet_field : List ℕ → SubTlv → ℕ → List ℕ → ℤ → Answer ℤ
packet_field shown t place copy total =
    refuse 30 (not (same copy shown))
    (refuse 31 (not (leb (place + 34) (length copy)))
    (refuse 32 (not (agrees t (ptp_header (drop place copy))))
    (field_of (ptp_header (drop place copy)) total)))

-- "after joining's"
abbrev pub correction_of : List ℕ → List ℕ → ℕ → List ℕ → Answer ℤ
correction_of s f place copy = and_then (join_of s f) (packet_field (shown_of s f) (carrier_sub_tlv s f) place copy)

-- the new field and the copy afterwards: octets 8 to 15 of the header are written, and "No other octet changes"; a refusal leaves the copy
-- as it came
pub record Corrected : Type 0 where
  pub answer : Answer ℤ
  pub copy : List ℕ

abbrev pub copy_by : ℕ → List ℕ → Answer ℤ → List ℕ
copy_by place copy (value z) = put copy (place + 8) (signed_octets z)
copy_by place copy (refused n) = copy

abbrev pub corrected_by : ℕ → List ℕ → Answer ℤ → Corrected
corrected_by place copy a = record { answer = a; copy = copy_by place copy a }

abbrev pub correct_of : List ℕ → List ℕ → ℕ → List ℕ → Corrected
correct_of s f place copy = corrected_by place copy (correction_of s f place copy)

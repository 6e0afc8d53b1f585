-- The RTM message as it is read (document 01, The RTM message; Refusal numbers 1 to 8).
use Rattle.std.specs.Prelude.{ℕ, ◌-◌, ◌/◌, ◌%◌, Bool, cond, not, ◌&&◌, ◌||◌, List, ltb, leb, eqb, length, get_or, drop}
use Rattle.octets.specs.Octets.{number, signed_number}
use Rattle.refusal.specs.Answer.{Answer, value, refused, refuse, and_then}
use Rattle.message.specs.declared.fields.Header.{Header}
use Rattle.message.specs.declared.fields.SubTlv.{SubTlv}
use Rattle.message.specs.declared.fields.Message.{Message}
use Rattle.message.specs.declared.fields.Message.TheVariants.{Plain, Ptp}

-- types 1 and 5 report no sub-TLV
abbrev pub header_in : Message → Header
header_in (Plain h) = h
header_in (Ptp h t) = h

-- Octets 0, 2, 3: high half 1, 00 0F. Octet 1: "ignored when read"
abbrev pub is_rtm : List ℕ → Bool
is_rtm s = eqb (get_or s 0 0 / 16) 1 && eqb (number 2 s 2) 0x000F

-- Octet 0: "low half Version"
abbrev pub version : List ℕ → ℕ
version s = get_or s 0 0 % 16

-- "4 to 11: Scratch Pad, signed 64-bit"; "12, 13: Type"
abbrev pub header : List ℕ → Header
header s = record { message_type = number 2 s 12; pad = signed_number s 4 }

-- "14, 15: Length of the Value"
abbrev pub length_field : List ℕ → ℕ
length_field s = number 2 s 14

-- "16 on: Value"
abbrev pub message_value : List ℕ → List ℕ
message_value s = drop 16 s

-- Types: "1 no payload, 2 .. 3 .. 4 .., 5 NTP"
abbrev pub is_type : ℕ → Bool
is_type t = leb 1 t && leb t 5

-- "Types 2 to 4 begin the Value with the sub-TLV"
abbrev pub is_ptp : ℕ → Bool
is_ptp t = leb 2 t && leb t 4

-- 1 to 6, in their order
abbrev pub header_of : List ℕ → Answer Header
header_of s =
    refuse 1 (ltb (length s) 16)
    (refuse 2 (ltb 2048 (length s))
    (refuse 3 (not (is_rtm s))
    (refuse 4 (not (eqb (version s) 0))
    (refuse 5 (not (eqb (length_field s) (length s - 16)))
    (refuse 6 (not (is_type (header s).message_type))
    (value (header s)))))))

-- "accepts 16 as well as 20" (document 02, W-202)
abbrev pub is_sub_tlv_length : ℕ → Bool
is_sub_tlv_length n = eqb n 16 || eqb n 20

-- The sub-TLV's octets, counted from the Value's first, 16: "16, 17: sub-TLV type 1", "18, 19": its length
abbrev pub is_sub_tlv : List ℕ → Bool
is_sub_tlv v = eqb (number 2 v 0) 1 && is_sub_tlv_length (number 2 v 2)

-- "and reports which it found" (W-202);
-- "20 to 23: S in the top bit of octet 20; 27 reserved bits, .. ignored when read; PTPType in the low half of octet 23";
-- "24 to 33: Port ID"; "34, 35: Sequence ID"
abbrev pub sub_tlv : List ℕ → SubTlv
sub_tlv v =
    record {
      length = number 2 v 2;
      two_step = leb 128 (get_or v 4 0);
      ptp_type = get_or v 7 0 % 16;
      clock = number 8 v 8;
      port = number 2 v 16;
      sequence = number 2 v 18;
    }

-- 7 for "types 2 to 4 with under 20 octets of it", and 8
abbrev pub sub_tlv_of : List ℕ → Answer SubTlv
sub_tlv_of v =
    refuse 7 (ltb (length v) 20)
    (refuse 8 (not (is_sub_tlv v))
    (value (sub_tlv v)))

-- the Value v behind a sound header: 7 for "type 1 with a Value"; "Type 5 carries any number of octets, also none."
abbrev pub message_of : Header → List ℕ → Answer Message
message_of h v =
    cond (eqb h.message_type 1) (refuse 7 (ltb 0 (length v)) (value (Plain h)))
    (cond (eqb h.message_type 5) (value (Plain h))
    (and_then (sub_tlv_of v) (λ t. value (Ptp h t))))

abbrev pub read_of : List ℕ → Answer Message
read_of s = and_then (header_of s) (λ h. message_of h (message_value s))

-- what a message says that has nothing to refuse
abbrev pub content_of : List ℕ → Message
content_of s = cond (is_ptp (header s).message_type) (Ptp (header s) (sub_tlv (message_value s))) (Plain (header s))

-- "the carried packet, perhaps empty, starts at octet 36", whichever length the sub-TLV states (W-202: "The octets are the same.");
-- "for type 5 the whole Value" (that of type 1 is empty). A refused message has none before its end
abbrev pub packet_at : ℕ → Answer Message → ℕ
packet_at end (value (Plain h)) = 16
packet_at end (value (Ptp h t)) = 36
packet_at end (refused n) = end

-- the octets from there on, and behind the end stand none: "an empty one on refusal"
abbrev pub carried_by : List ℕ → Answer Message → List ℕ
carried_by s a = drop (packet_at (length s) a) s

abbrev pub carried_of : List ℕ → List ℕ
carried_of s = carried_by s (read_of s)

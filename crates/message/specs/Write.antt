-- Writing a message (document 01, Writing and joining; Refusal numbers, Writer).
use Rattle.std.specs.Prelude.{ℕ, ◌+◌, Bool, cond, not, ◌&&◌, List, [], ◌∷◌, ◌++◌, ltb, eqb, length, drop}
use Rattle.octets.specs.Octets.{octets, signed_octets}
use Rattle.refusal.specs.Answer.{Answer, value, refused, refuse}
use Rattle.refusal.specs.Written.{Write}
use Rattle.message.specs.declared.fields.Header.{Header}
use Rattle.message.specs.declared.fields.SubTlv.{SubTlv}
use Rattle.message.specs.declared.fields.Fields.{Fields}
use Rattle.message.specs.Read.{is_type, is_ptp, is_sub_tlv_length}

-- Octets 0 to 3: 10 00 00 0F
abbrev pub g_ach_header : List ℕ
g_ach_header = 0x10 ∷ 0x00 ∷ 0x00 ∷ 0x0F ∷ []

-- Octets 0 to 15: then Scratch Pad, Type, and n, the Length of the Value
abbrev pub header_octets : Header → ℕ → List ℕ
header_octets h n = g_ach_header ++ signed_octets h.pad ++ octets 2 h.message_type ++ octets 2 n

-- Octets 16 to 19: sub-TLV type 1, and the length that it states: "the writer is told which to write" (document 02, W-202)
abbrev pub sub_tlv_header : ℕ → List ℕ
sub_tlv_header n = octets 2 1 ++ octets 2 n

-- Octets 20 to 23: "S in the top bit of octet 20; 27 reserved bits, written 0, ..; PTPType in the low half of octet 23"
abbrev pub flag_octets : Bool → ℕ → List ℕ
flag_octets s k = cond s 0x80 0x00 ∷ 0x00 ∷ 0x00 ∷ k ∷ []

-- Octets 16 to 35: then the flags, Port ID (clock identity and port number), Sequence ID
abbrev pub sub_tlv_octets : SubTlv → List ℕ
sub_tlv_octets t =
    sub_tlv_header t.length ++ flag_octets t.two_step t.ptp_type ++ octets 8 t.clock ++ octets 2 t.port ++ octets 2 t.sequence

-- a message of types 2 to 4: the header, the sub-TLV and the carried packet
abbrev pub ptp_octets : Fields → List ℕ → List ℕ
ptp_octets f carried = header_octets f.header (20 + length carried) ++ sub_tlv_octets f.sub_tlv ++ carried

-- and one of types 1 and 5, whose Value is the carried packet: "S, PTPType, port and sequence are not looked at"
abbrev pub plain_octets : Header → List ℕ → List ℕ
plain_octets h carried = header_octets h (length carried) ++ carried

abbrev pub message_octets : Fields → List ℕ → List ℕ
message_octets f carried = cond (is_ptp f.header.message_type) (ptp_octets f carried) (plain_octets f.header carried)

-- where the carried packet starts
abbrev pub carried_at : ℕ → ℕ
carried_at t = cond (is_ptp t) 36 16

-- the size n written, into an output of so many octets: 2 ("writer: would be"), 12
abbrev pub fit_of : ℕ → ℕ → Answer ℕ
fit_of n room =
    refuse 2 (ltb 2048 n)
    (refuse 12 (ltb room n)
    (value n))

-- "It tells the size written", from Type, sub-TLV, the number of carried octets and that of the output's:
-- 6, 17 ("types 2 to 4"), 23 ("for another length, types 2 to 4, directly after 17", W-202), 7, 2, 12, in this order
abbrev pub size_of : ℕ → SubTlv → ℕ → ℕ → Answer ℕ
size_of t s carried room =
    refuse 6 (not (is_type t))
    (refuse 17 (is_ptp t && ltb 15 s.ptp_type)
    (refuse 23 (is_ptp t && not (is_sub_tlv_length s.length))
    (refuse 7 (eqb t 1 && ltb 0 carried)
    (fit_of (carried_at t + carried) room))))

-- "octets beyond stay"; a refusal leaves the output as it came
abbrev pub output_by : Fields → List ℕ → List ℕ → Answer ℕ → List ℕ
output_by f carried out (value n) = message_octets f carried ++ drop n out
output_by f carried out (refused n) = out

abbrev pub answer_of : Fields → List ℕ → List ℕ → Answer ℕ
answer_of f carried out = size_of f.header.message_type f.sub_tlv (length carried) (length out)

-- the answer and the output afterwards
abbrev pub write_of : Fields → List ℕ → List ℕ → Write
write_of f carried out = record { answer = answer_of f carried out; output = output_by f carried out (answer_of f carried out) }

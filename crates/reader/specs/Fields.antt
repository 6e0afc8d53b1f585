-- The sub-TLV of any Value, for the function that reads it whole.
use Rattle.std.specs.Prelude.{ℕ, false, cond, List, ltb, length}
use Rattle.message.specs.declared.fields.SubTlv.{SubTlv}
use Rattle.message.specs.Read.{sub_tlv}

abbrev pub zeros : SubTlv
zeros = record { length = 0; two_step = false; ptp_type = 0; clock = 0; port = 0; sequence = 0 }

-- a Value under 20 octets has no sub-TLV
abbrev pub sub_tlv_in : List ℕ → SubTlv
sub_tlv_in v = cond (ltb (length v) 20) zeros (sub_tlv v)

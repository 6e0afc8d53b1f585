-- What is written and read again gives its fields back (demand 2), for whatever the writer accepts.
use Rattle.std.specs.Prelude.{ℕ, ◌<◌, ◌^◌, ◌≡◌, cond, List, take}
use Rattle.std.specs.Int.{w64}
use Rattle.std.proofs.Common.{SFits}
use Rattle.refusal.specs.Answer.{value}
use Rattle.message.specs.declared.fields.Fields.{Fields}
use Rattle.message.specs.declared.fields.Message.{Message}
use Rattle.message.specs.declared.fields.Message.TheVariants.{Plain, Ptp}
use Rattle.message.specs.Read.{is_ptp, read_of, carried_of}
use Rattle.message.specs.Write.{write_of}

-- the fields are numbers of their types, as they are in every value that the code is handed
pub record Sized (f : Fields) : Type 0 where
  pub pad : SFits w64 f.header.pad
  pub clock : f.sub_tlv.clock < 2 ^ 64
  pub port : f.sub_tlv.port < 2 ^ 16
  pub sequence : f.sub_tlv.sequence < 2 ^ 16

-- what reading reports of the fields: "for types 1 and 5 .. none of the four"
abbrev pub reported : Fields → Message
reported f = cond (is_ptp f.header.message_type) (Ptp f.header f.sub_tlv) (Plain f.header)

-- the n octets written, read again: the same fields and the same carried octets
abbrev pub RoundTrip : Type 0
RoundTrip =
    (f : Fields) (carried out : List ℕ) (n : ℕ)
    → Sized f
    → (write_of f carried out).answer ≡ value n
    → (read_of (take n (write_of f carried out).output) ≡ value (reported f))
    × (carried_of (take n (write_of f carried out).output) ≡ carried)

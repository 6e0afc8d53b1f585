-- For the worked instances: packets with a PTPv2 header, and messages that carry them.
-- Assumes nothing.
use Prim.Native.Nat.{ℕ, ◌+◌}
use mathlib.Core.Bool.{Bool}
use mathlib.Core.List.{List, [], ◌∷◌, ◌++◌}
use lib.IntN.{ℤ}
use lib.ListN.{drop, replicate}
use Rattle.octets.specs.Octets.{octets, signed_octets}
use Rattle.message.specs.Write.{ptp_octets}
use Rattle.rules.proofs.PathExample.{mine}
use Rattle.correction.specs.Header.{ptp_header}

-- a header, by its first two octets, correctionField, source port and sequence; n tells the octets apart that are not looked at
abbrev pub header_with : ℕ → ℕ → ℕ → ℤ → ℕ → ℕ → ℕ → List ℕ
header_with n first second z clock port sequence =
    (first ∷ second ∷ (n + 2) ∷ (n + 3) ∷ (n + 4) ∷ (n + 5) ∷ (n + 6) ∷ (n + 7) ∷ [])
    ++ signed_octets z
    ++ ((n + 16) ∷ (n + 17) ∷ (n + 18) ∷ (n + 19) ∷ [])
    ++ octets 8 clock
    ++ octets 2 port
    ++ octets 2 sequence
    ++ ((n + 32) ∷ (n + 33) ∷ [])

-- a packet of 46 octets, its header from octet 2 on
abbrev pub packet_with : ℕ → ℕ → ℤ → ℕ → ℕ → ℕ → List ℕ
packet_with first second z clock port sequence = (0xAA ∷ 0xBB ∷ []) ++ header_with 1 first second z clock port sequence ++ replicate 10 0

-- of the exchange, by its message type and field: the high halves of its first two octets are not 0
abbrev pub packet_of : ℕ → ℤ → List ℕ
packet_of k z = packet_with k 0x12 z mine.clock mine.port mine.sequence

abbrev pub sync_packet : ℤ → List ℕ
sync_packet z = packet_of 0x10 z

abbrev pub follow_up_packet : ℤ → List ℕ
follow_up_packet z = packet_of 0x18 z

-- the correctionField in such a packet
abbrev pub field_in : List ℕ → ℤ
field_in packet = (ptp_header (drop 2 packet)).correction_field

-- a message of the exchange that carries a packet, by S, PTPType and pad
abbrev pub carrying : Bool → ℕ → ℤ → List ℕ → List ℕ
carrying s k pad packet =
    ptp_octets
    (record {
      header = record { message_type = 3; pad = pad };
      sub_tlv = record { length = 20; two_step = s; ptp_type = k; clock = mine.clock; port = mine.port; sequence = mine.sequence };
    })
    packet

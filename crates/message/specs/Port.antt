-- A port identity as ten octets and as two numbers (document 01: "24 to 33: Port ID").
use Rattle.std.specs.Prelude.{ℕ, ◌≤◌, ◌≡◌, List, length, take, drop}
use Rattle.octets.specs.Octets.{Octets}
use Rattle.message.specs.Read.{sub_tlv}

-- the ten octets, in the Value
abbrev pub port_octets : List ℕ → List ℕ
port_octets v = take 10 (drop 8 v)

-- the clock identity and the port number are the same
abbrev pub SameNumbers : List ℕ → List ℕ → Type 0
SameNumbers v w = ((sub_tlv v).clock ≡ (sub_tlv w).clock) × ((sub_tlv v).port ≡ (sub_tlv w).port)

-- Two sub-TLVs have the same numbers exactly if they have the same ten octets.
abbrev pub SamePort : Type 0
SamePort =
    (v w : List ℕ)
    → 20 ≤ length v
    → 20 ≤ length w
    → Octets v
    → Octets w
    → (SameNumbers v w → port_octets v ≡ port_octets w) × (port_octets v ≡ port_octets w → SameNumbers v w)

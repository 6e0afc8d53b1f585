-- The octets that a node changes or writes (document 01, What a node does).
use Rattle.std.specs.Prelude.{ℕ, ◌+◌, ◌%◌, List, [], ◌∷◌, ◌++◌, ℤ, get_or, take, drop}
use Rattle.octets.specs.Octets.{octets, signed_number, signed_octets, put}
use Rattle.message.specs.Write.{g_ach_header}

-- "Scratch Pad", octets 4 to 11
abbrev pub pad_of : List ℕ → ℤ
pad_of s = signed_number s 4

-- the message with another pad: "No other octet changes."
abbrev pub with_pad : List ℕ → ℤ → List ℕ
with_pad s z = put s 4 (signed_octets z)

-- "S is set", the top bit of octet 20: "the pad stays"
abbrev pub with_two_step : List ℕ → List ℕ
with_two_step s = put s 20 ((get_or s 20 0 % 128 + 128) ∷ [])

-- octets 14 to 23 of a Follow_Up whose sub-TLV states this length: "Length 20, sub-TLV 1 and 20, octets 20 to 23 equal to 80 00 00 08"
abbrev pub follow_up_fields : List ℕ → List ℕ
follow_up_fields stated = octets 2 20 ++ octets 2 1 ++ stated ++ (0x80 ∷ 0x00 ∷ 0x00 ∷ 0x08 ∷ [])

-- the Follow_Up of a Sync s with the residence u, 36 octets: "header 10 00 00 0F, the stay as pad, the Sync's Type, .. Port and Sequence
-- copied"; the length that its sub-TLV states "copies the Sync's" (document 02, W-202)
abbrev pub follow_up_of : List ℕ → ℕ → List ℕ
follow_up_of s u =
    g_ach_header ++ octets 8 u ++ take 2 (drop 12 s) ++ follow_up_fields (take 2 (drop 18 s)) ++ take 12 (drop 24 s)

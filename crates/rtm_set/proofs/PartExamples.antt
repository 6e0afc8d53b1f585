-- The part at a place, worked: an IPv4 entry, a node and interface, an IPv6 entry.
-- Assumes nothing.
use Prim.Native.Nat.{ℕ}
use mathlib.Core.Path.{◌≡◌, refl}
use mathlib.Core.List.{List, [], ◌∷◌, ◌++◌}
use lib.ListN.{take, drop, replicate}
use Rattle.refusal.specs.Answer.{value, refused}
use Rattle.rtm_set.specs.Entries.{part_of}
use Rattle.rtm_set.proofs.Parts.{part_holds}

abbrev ipv4 : List ℕ
ipv4 = 1 ∷ 8 ∷ 0 ∷ 0 ∷ 192 ∷ 0 ∷ 2 ∷ 1 ∷ []

abbrev unnumbered : List ℕ
unnumbered = 3 ∷ 12 ∷ 0 ∷ 0 ∷ 192 ∷ 0 ∷ 2 ∷ 2 ∷ 0 ∷ 0 ∷ 0 ∷ 5 ∷ []

abbrev ipv6 : List ℕ
ipv6 = 2 ∷ 20 ∷ 0 ∷ 0 ∷ 32 ∷ 1 ∷ 13 ∷ 184 ∷ replicate 11 0 ++ (1 ∷ [])

abbrev three : List ℕ
three = ipv4 ++ (unnumbered ++ ipv6)

first : part_of three 0 ≡ value (record { offset = 0; length = 8 })
first = refl

second : part_of three 1 ≡ value (record { offset = 8; length = 12 })
second = refl

third : part_of three 2 ≡ value (record { offset = 20; length = 20 })
third = refl

none : part_of three 3 ≡ refused 21
none = refl

-- the last entry cut short: no place has a part
cut_short : part_of (take 39 three) 0 ≡ refused 20
cut_short = refl

-- the second's octets, by the statement
held : take 12 (drop 8 three) ≡ unnumbered
held = part_holds three 1 (record { offset = 8; length = 12 }) second

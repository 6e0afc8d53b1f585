-- Small lists, searched and labelled: what readers of the request ask first.
-- Assumes nothing.
use Prim.Native.Nat.{ℕ}
use mathlib.Core.Path.{◌≡◌, refl}
use mathlib.Core.Bool.{false}
use mathlib.Core.List.{List, [], ◌∷◌, ◌++◌}
use lib.ListN.{replicate}
use Rattle.refusal.specs.Answer.{value, refused}
use Rattle.label_stack.specs.Ttl.{same_address, ttl_of}
use Rattle.label_stack.specs.Labels.{labels_of}

-- an IPv4 entry of 192.0.2.0/24, by its last octet and its reserved octets
abbrev pub ipv4 : ℕ → ℕ → List ℕ
ipv4 a r = 1 ∷ 8 ∷ r ∷ r ∷ 192 ∷ 0 ∷ 2 ∷ a ∷ []

-- a node and an interface; the node's address is the IPv4 one
abbrev pub unnumbered : ℕ → List ℕ
unnumbered a = 3 ∷ 12 ∷ 0 ∷ 0 ∷ 192 ∷ 0 ∷ 2 ∷ a ∷ 0 ∷ 0 ∷ 0 ∷ 9 ∷ []

-- five hops from ingress to egress; the first stands again as the last
abbrev pub hops : List ℕ
hops = ipv4 1 0 ++ unnumbered 3 ++ ipv4 2 0 ++ ipv4 3 7 ++ ipv4 1 0

-- RTM_SET from egress to ingress, with other reserved octets
abbrev pub set : List ℕ
set = ipv4 1 5 ++ ipv4 3 0

-- from the ingress: hop 3, whose reserved octets differ; not hop 1, whose address begins alike, not hop 4, which RTM_SET has first, and
-- not the ingress itself
from_ingress : ttl_of hops set 0 ≡ value 3
from_ingress = refl

-- from hop 1 and hop 2: one less each
from_next : (ttl_of hops set 1 ≡ value 2) × (ttl_of hops set 2 ≡ value 1)
from_next = (refl, refl)

-- from hop 3, which is in RTM_SET itself: hop 4
from_timing_node : ttl_of hops set 3 ≡ value 1
from_timing_node = refl

-- of a hop that stands twice the first later place
met_first : ttl_of (ipv4 2 0 ++ ipv4 1 0 ++ ipv4 1 0) set 0 ≡ value 1
met_first = refl

-- the hop at the position does not count, unless it stands again
not_itself : (ttl_of (ipv4 1 0 ++ ipv4 2 0) set 0 ≡ refused 24) × (ttl_of (ipv4 1 0 ++ ipv4 2 0 ++ ipv4 1 0) set 0 ≡ value 2)
not_itself = (refl, refl)

-- types are compared, whatever the octets behind them
other_type : same_address (1 ∷ 0 ∷ 0 ∷ 0 ∷ 192 ∷ []) (3 ∷ 0 ∷ 0 ∷ 0 ∷ 192 ∷ []) ≡ false
other_type = refl

-- the last hop has none behind it; past it there is no hop; a path of no hops has none; neither has RTM_SET, if it is empty
ends : (ttl_of hops set 4 ≡ refused 24) × (ttl_of hops set 5 ≡ refused 21) × (ttl_of [] set 0 ≡ refused 21) × (ttl_of hops [] 0 ≡ refused 24)
ends = (refl, refl, refl, refl)

-- the hops' 19 and 20 before RTM_SET's, and both before 21
order : (ttl_of (replicate 1025 0) (9 ∷ []) 0 ≡ refused 19) × (ttl_of (9 ∷ []) (replicate 1025 0) 0 ≡ refused 20)
    × (ttl_of [] (replicate 1025 0) 0 ≡ refused 19) × (ttl_of [] (9 ∷ []) 0 ≡ refused 20)
order = (refl, refl, refl, refl)

-- the entries of label 16, in an output of nine octets
entries : labels_of hops set 0 16 (replicate 9 0xAA) ≡ record { answer = value 3; output = 0x00 ∷ 0x01 ∷ 0x00 ∷ 0x03 ∷ 0x00 ∷ 0x00 ∷ 0xD1 ∷ 0x01 ∷ 0xAA ∷ [] }
entries = refl

-- the last label, in an output of eight
last_label : labels_of hops set 2 1048575 (replicate 8 0xAA) ≡ record { answer = value 1; output = 0xFF ∷ 0xFF ∷ 0xF0 ∷ 0x01 ∷ 0x00 ∷ 0x00 ∷ 0xD1 ∷ 0x01 ∷ [] }
last_label = refl

-- 24 before 25 before 12, and the output as it came
refusals : (labels_of hops set 4 15 [] ≡ record { answer = refused 24; output = [] })
    × (labels_of hops set 0 15 (7 ∷ []) ≡ record { answer = refused 25; output = 7 ∷ [] })
    × (labels_of hops set 0 1048576 (7 ∷ []) ≡ record { answer = refused 25; output = 7 ∷ [] })
    × (labels_of hops set 0 16 (replicate 7 5) ≡ record { answer = refused 12; output = replicate 7 5 })
refusals = (refl, refl, refl, refl)

-- The statements at work on small lists, each branch of them.
-- Assumes nothing.
use Prim.Native.Nat.{ℕ, zero, suc, ◌<◌}
use mathlib.Core.Path.{◌≡◌, refl}
use mathlib.Core.Bool.{true, false}
use mathlib.Core.List.Permᴰ
use mathlib.Core.List.{List, ◌++◌}
use native.Mathlib.Omega.{arith}
use lib.ListN.{replicate}
use Rattle.refusal.specs.Answer.{value, refused}
use Rattle.label_stack.specs.Ttl.{ttl_of}
use Rattle.label_stack.specs.Labels.{LabelEntry, fields_of, entry_at, labels_of}
use Rattle.label_stack.specs.Promises.{TimingBehind}
use Rattle.label_stack.proofs.Examples.{ipv4, hops, set}
use Rattle.label_stack.proofs.Nearest.{nearest, none_later, set_order_free, ttl_fits}
use Rattle.label_stack.proofs.ReadBack.{fields_read_back, labels_read_back}

-- `Nearest`: hop 3 is in RTM_SET, three from the ingress, and neither hop 1 nor hop 2 is
three_away : TimingBehind hops set 0 3
three_away = ((nearest hops set 0 3).0 refl).1

none_nearer : (e : ℕ) → e < 3 → TimingBehind hops set 0 e → ⊥
none_nearer = ((nearest hops set 0 3).0 refl).2

-- and the other way: from what the lists hold to the answer
next_hop : ttl_of (ipv4 2 0 ++ ipv4 1 0) set 0 ≡ value 1
next_hop =
    (nearest (ipv4 2 0 ++ ipv4 1 0) set 0 1).1
    (record { hops = refl; set = refl; on_path = omega arith })
    (record { later = omega arith; on_path = omega arith; in_set = record { place = 0; below = omega arith; type = refl; address = refl } })
    (λ e l t. omega (arith, t.later))

-- `NoneLater`: no hop behind the last one, and the other way
none_behind : (d : ℕ) → TimingBehind hops set 4 d → ⊥
none_behind = ((none_later hops set 4).0 refl).1

one_hop : ttl_of (ipv4 1 0) set 0 ≡ refused 24
one_hop = (none_later (ipv4 1 0) set 0).1 (record { hops = refl; set = refl; on_path = omega arith }) (λ d t. omega (arith, t.later, t.on_path))

-- `SetOrderFree`: RTM_SET from ingress to egress
other_order : ttl_of hops set 0 ≡ ttl_of hops (ipv4 3 0 ++ ipv4 1 5) 0
other_order = set_order_free hops set (ipv4 3 0 ++ ipv4 1 5) 0 refl refl (Permᴰ.swap refl refl)

-- `TtlFits`: 127 comes
abbrev alike : ℕ → List ℕ
alike zero = ipv4 1 0
alike (suc n) = ipv4 2 0 ++ alike n

longest : ttl_of (alike 127) set 0 ≡ value 127
longest = refl

fits : 127 < 128
fits = ttl_fits (alike 127) set 0 127 longest

-- `FieldsReadBack`: all bits set
abbrev ones : LabelEntry
ones = record { label = 1048575; traffic_class = 7; bottom = true; ttl = 255 }

all_ones : fields_of 0xFFFFFFFF ≡ ones
all_ones = fields_read_back ones (omega arith) (omega arith)

-- `LabelsReadBack`: label 16 and TTL 3, then the G-ACh Label
abbrev written : List ℕ
written = (labels_of hops set 0 16 (replicate 9 0xAA)).output

read_back : (entry_at written 0 ≡ record { label = 16; traffic_class = 0; bottom = false; ttl = 3 })
    × (entry_at written 4 ≡ record { label = 13; traffic_class = 0; bottom = true; ttl = 1 })
read_back = labels_read_back hops set 0 16 3 (replicate 9 0xAA) refl

-- What the search and the label entries promise, in whole sentences.
use Rattle.std.specs.Prelude.{ℕ, ◌+◌, ◌<◌, ◌≡◌, true, false, length, get_or}
use mathlib.Core.List.{List, [], Permᴰ}
use Rattle.refusal.specs.Answer.{value, refused}
use Rattle.rtm_set.specs.Entries.{entries_in, Sound}
use Rattle.label_stack.specs.Ttl.{type_of, address_of, ttl_of}
use Rattle.label_stack.specs.Labels.{LabelEntry, entry_bits, fields_of, entry_at, labels_of}

-- some entry of the RTM_SET list has the hop's type and address
pub record InSet (hop : List ℕ) (set : List (List ℕ)) : Type 0 where
  pub place : ℕ
  pub below : place < length set
  pub type : type_of hop ≡ type_of (get_or set place [])
  pub address : address_of hop ≡ address_of (get_or set place [])

-- a later hop, at distance d behind position p, that is in RTM_SET
pub record TimingAt (hops set : List (List ℕ)) (p d : ℕ) : Type 0 where
  pub later : 0 < d
  pub on_path : p + d < length hops
  pub in_set : InSet (get_or hops (p + d) []) set

-- the same for two strings of octets
abbrev pub TimingBehind : List ℕ → List ℕ → ℕ → ℕ → Type 0
TimingBehind h s p d = TimingAt (entries_in h) (entries_in s) p d

-- neither list is refused, and the path has a hop at the position
pub record Searchable (h s : List ℕ) (p : ℕ) : Type 0 where
  pub hops : Sound h
  pub set : Sound s
  pub on_path : p < length (entries_in h)

-- The answer is a distance to a later hop that is in RTM_SET, and no nearer later hop is; and whatever distance is such is the answer.
abbrev pub Nearest : Type 0
Nearest =
    (h s : List ℕ) (p d : ℕ)
    → (ttl_of h s p ≡ value d → Searchable h s p × TimingBehind h s p d × ((e : ℕ) → e < d → TimingBehind h s p e → ⊥))
    × (Searchable h s p → TimingBehind h s p d → ((e : ℕ) → e < d → TimingBehind h s p e → ⊥) → ttl_of h s p ≡ value d)

-- "24 exactly if no such hop exists"
abbrev pub NoneLater : Type 0
NoneLater =
    (h s : List ℕ) (p : ℕ)
    → (ttl_of h s p ≡ refused 24 → Searchable h s p × ((d : ℕ) → TimingBehind h s p d → ⊥))
    × (Searchable h s p → ((d : ℕ) → TimingBehind h s p d → ⊥) → ttl_of h s p ≡ refused 24)

-- The order of the RTM_SET list does not matter: the same entries in another order give the same answer.
abbrev pub SetOrderFree : Type 0
SetOrderFree =
    (h s r : List ℕ) (p : ℕ)
    → Sound s
    → Sound r
    → Permᴰ (entries_in s) (entries_in r)
    → ttl_of h s p ≡ ttl_of h r p

-- A list of at most 1,024 octets has at most 128 entries: the distance fits the TTL's octet.
abbrev pub TtlFits : Type 0
TtlFits = (h s : List ℕ) (p d : ℕ) → ttl_of h s p ≡ value d → d < 128

-- RFC 3032's fields, laid out in 32 bits and taken apart: an entry whose class and TTL have room there comes back.
abbrev pub FieldsReadBack : Type 0
FieldsReadBack = (e : LabelEntry) → e.traffic_class < 8 → e.ttl < 256 → fields_of (entry_bits e) ≡ e

-- The two entries written, taken apart by RFC 3032's fields: the LSP's label with this TTL, not bottom of stack, then label 13, bottom of
-- stack, TTL 1, both traffic classes 0.
abbrev pub LabelsReadBack : Type 0
LabelsReadBack =
    (h s : List ℕ) (p l d : ℕ) (out : List ℕ)
    → (labels_of h s p l out).answer ≡ value d
    → (entry_at (labels_of h s p l out).output 0 ≡ record { label = l; traffic_class = 0; bottom = false; ttl = d })
    × (entry_at (labels_of h s p l out).output 4 ≡ record { label = 13; traffic_class = 0; bottom = true; ttl = 1 })

-- The TTL for the next timing node (document 02, W-208; refusals 19, 20, 21 and 24).
use Rattle.std.specs.Prelude.{ℕ, zero, suc, ◌+◌, Bool, false, cond, ◌&&◌, ◌||◌, List, [], ◌∷◌, ltb, leb, eqb, length, get_or, drop}
use Rattle.std.proofs.Math.Option.{Option, none, some}
use Rattle.octets.specs.Octets.{same}
use Rattle.refusal.specs.Answer.{Answer, value, refused, refuse, and_then}
use Rattle.rtm_set.specs.Entries.{entries_of}

-- an entry's type and address (document 01: "Octet 0 is the type, octet 1 the entry's whole length, octets 2 and 3 reserved and ignored,
-- then the address"): "Reserved octets do not count in comparing."
abbrev pub type_of : List ℕ → ℕ
type_of e = get_or e 0 0

abbrev pub address_of : List ℕ → List ℕ
address_of e = drop 4 e

-- two entries of the same "type and address"
abbrev pub same_address : List ℕ → List ℕ → Bool
same_address a b = eqb (type_of a) (type_of b) && same (address_of a) (address_of b)

-- "occur in the RTM_SET list": at any place of it
abbrev pub occurs : List ℕ → List (List ℕ) → Bool
occurs hop [] = false
occurs hop (e ∷ es) = same_address hop e || occurs hop es

-- the path has a hop at distance d behind position p, and its type and address occur in the RTM_SET list
abbrev pub timing_at : List (List ℕ) → List (List ℕ) → ℕ → ℕ → Bool
timing_at hops set p d = ltb (p + d) (length hops) && occurs (get_or hops (p + d) []) set

-- the least number that passes a test, of the n numbers from k on
abbrev pub least : (ℕ → Bool) → ℕ → ℕ → Option ℕ
least test k zero = none
least test k (suc n) = cond (test k) (some k) (least test (suc k) n)

-- "find the nearest later hop whose type and address occur in the RTM_SET list; the TTL is the distance, 1 for the very next hop": the
-- least distance above 0 at which there is such a hop. "A hop that stands twice is met at its first later place." A path of n hops has
-- none at a distance over n
abbrev pub next_timing : List (List ℕ) → List (List ℕ) → ℕ → Option ℕ
next_timing hops set p = least (timing_at hops set p) 1 (length hops)

-- "24 exactly if no such hop exists"
abbrev pub found : Option ℕ → Answer ℕ
found (some d) = value d
found none = refused 24

-- "21 for the position", which is not below the count of hops; then the search
abbrev pub searched : List (List ℕ) → List (List ℕ) → ℕ → Answer ℕ
searched hops set p = refuse 21 (leb (length hops) p) (found (next_timing hops set p))

-- "From the path's hops, given as an address list from ingress to egress, the RTM_SET list, and a position": "hops' 19 and 20,
-- RTM_SET's 19 and 20, 21 for the position, 24"
abbrev pub ttl_of : List ℕ → List ℕ → ℕ → Answer ℕ
ttl_of h s p = and_then (entries_of h) (λ hops. and_then (entries_of s) (λ set. searched hops set p))

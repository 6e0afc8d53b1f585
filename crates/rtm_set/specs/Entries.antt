-- The address list of the RTM_SET TLV (document 01, The address list; refusals 19 to 21).
use Rattle.std.specs.Prelude.{ℕ, zero, suc, ◌+◌, ◌≡◌, Bool, cond, not, ◌&&◌, List, [], ◌∷◌, ltb, leb, eqb, length, get_or, take, drop}
use Rattle.refusal.specs.Answer.{Answer, value, refused, refuse, and_then}
use Rattle.rtm_set.specs.declared.part.Part.{Part}

-- an entry's whole length: "type 1 length 8 (IPv4), 2 length 20 (IPv6), 3 length 12 (node and interface)"; 0 for any other type
abbrev pub entry_size : ℕ → ℕ
entry_size t = cond (eqb t 1) 8 (cond (eqb t 2) 20 (cond (eqb t 3) 12 0))

-- the size of the entry at the front: "Octet 0 is the type, octet 1 the entry's whole length, octets 2 and 3 reserved and ignored,
-- then the address"
abbrev pub front_size : List ℕ → ℕ
front_size s = entry_size (get_or s 0 0)

-- the front is an entry: of a known type, of its length, and not cut short
abbrev pub is_entry : List ℕ → Bool
is_entry s = not (eqb (front_size s) 0) && (eqb (get_or s 1 0) (front_size s) && leb (front_size s) (length s))

-- "An entry is read, then the rest of the list in the same way": the entries, each as the part of the list that holds it, of a list
-- of at most k octets; 20: "any entry of the list cut short, of unknown type or of wrong length"
abbrev pub entries_within : ℕ → List ℕ → Answer (List (List ℕ))
entries_within zero s = value []
entries_within (suc k) s =
    cond (eqb (length s) 0) (value [])
    (refuse 20 (not (is_entry s))
    (and_then (entries_within k (drop (front_size s) s)) (λ es. value (take (front_size s) s ∷ es))))

-- 19: "list over 1,024 octets"; "An empty list has 0 entries."
abbrev pub entries_of : List ℕ → Answer (List (List ℕ))
entries_of s = refuse 19 (ltb 1024 (length s)) (entries_within (length s) s)

-- the entries of a list that is not refused; none of one that is
abbrev pub entries_by : Answer (List (List ℕ)) → List (List ℕ)
entries_by (value es) = es
entries_by (refused n) = []

abbrev pub entries_in : List ℕ → List (List ℕ)
entries_in s = entries_by (entries_of s)

-- a list that is not refused
abbrev pub Sound : List ℕ → Type 0
Sound s = value (entries_in s) ≡ entries_of s

-- "The count of entries"
abbrev pub count_of : List ℕ → Answer ℕ
count_of s = and_then (entries_of s) (λ es. value (length es))

-- "and the entry at a place, counted from 0"; 21: "place not below the count"
abbrev pub entry_of : List ℕ → ℕ → Answer (List ℕ)
entry_of s k = and_then (entries_of s) (λ es. refuse 21 (leb (length es) k) (value (get_or es k [])))

-- the part shown: "an empty one on refusal"
abbrev pub part_by : Answer (List ℕ) → List ℕ
part_by (value e) = e
part_by (refused n) = []

-- the octets that entries have together
abbrev pub octets_in : List (List ℕ) → ℕ
octets_in [] = 0
octets_in (e ∷ es) = length e + octets_in es

-- where the entry at a place begins among entries that follow each other, and its length
abbrev pub part_in : List (List ℕ) → ℕ → Part
part_in es k = record { offset = octets_in (take k es); length = length (get_or es k []) }

-- the entry at a place as the part of the list that holds it: where it begins, and its length
abbrev pub part_of : List ℕ → ℕ → Answer Part
part_of s k = and_then (entries_of s) (λ es. refuse 21 (leb (length es) k) (value (part_in es k)))

-- a part of a list as the part of a longer one, which has n octets before that list
abbrev pub behind : ℕ → Answer Part → Answer Part
behind n a = and_then a (λ p. value (record { offset = n + p.offset; length = p.length }))

-- The octets that the part tells of are those of the entry at the place.
abbrev pub PartHolds : Type 0
PartHolds =
    (s : List ℕ) (k : ℕ) (p : Part)
    → part_of s k ≡ value p
    → take p.length (drop p.offset s) ≡ part_by (entry_of s k)

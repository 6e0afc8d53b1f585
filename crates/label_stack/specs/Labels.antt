-- The two label entries (document 02, W-208; RFC 3032, 2.1, and RFC 5586; refusals 25 and 12).
use Rattle.std.specs.Prelude.{ℕ, ◌+◌, ◌*◌, ◌/◌, ◌%◌, Bool, true, false, cond, ◌||◌, List, ◌++◌, ltb, eqb, length, drop}
use Rattle.octets.specs.Octets.{number, octets}
use Rattle.refusal.specs.Answer.{Answer, value, refused, refuse, and_then}
use Rattle.refusal.specs.Written.{Write}
use Rattle.label_stack.specs.Ttl.{ttl_of}

-- RFC 3032's fields of an entry, in the order of its figure: label (20 bits), traffic class (3 bits, "Exp" there), bottom of stack
-- (1 bit), TTL (8 bits)
pub record LabelEntry : Type 0 where
  pub label : ℕ
  pub traffic_class : ℕ
  pub bottom : Bool
  pub ttl : ℕ

-- the entry as 32 bits, and its four octets
abbrev pub entry_bits : LabelEntry → ℕ
entry_bits e = e.label * 4096 + e.traffic_class * 512 + cond e.bottom 256 0 + e.ttl

abbrev pub entry_octets : LabelEntry → List ℕ
entry_octets e = octets 4 (entry_bits e)

-- 32 bits taken apart, and the entry in the four octets from place i on
abbrev pub fields_of : ℕ → LabelEntry
fields_of x = record { label = x / 4096; traffic_class = x / 512 % 8; bottom = eqb (x / 256 % 2) 1; ttl = x % 256 }

abbrev pub entry_at : List ℕ → ℕ → LabelEntry
entry_at s i = fields_of (number 4 s i)

-- "the LSP's label with this TTL, not bottom of stack"
abbrev pub lsp_entry : ℕ → ℕ → LabelEntry
lsp_entry l d = record { label = l; traffic_class = 0; bottom = false; ttl = d }

-- "then label 13, bottom of stack, TTL 1", the G-ACh Label (GAL, RFC 5586); "both traffic classes 0"
abbrev pub gal_entry : LabelEntry
gal_entry = record { label = 13; traffic_class = 0; bottom = true; ttl = 1 }

abbrev pub label_octets : ℕ → ℕ → List ℕ
label_octets l d = entry_octets (lsp_entry l d) ++ entry_octets gal_entry

-- "25 for a label below 16 or over 1,048,575, 12": for the distance d, with label l and an output of so many octets
abbrev pub labelled : ℕ → ℕ → ℕ → Answer ℕ
labelled l room d =
    refuse 25 (ltb l 16 || ltb 1048575 l)
    (refuse 12 (ltb room 8)
    (value d))

-- the output afterwards: the two entries at its start, and octets beyond them stay; a refusal leaves it as it came
abbrev pub output_by : ℕ → List ℕ → Answer ℕ → List ℕ
output_by l out (value d) = label_octets l d ++ drop 8 out
output_by l out (refused n) = out

abbrev pub labels_by : ℕ → List ℕ → Answer ℕ → Write
labels_by l out a = record { answer = a; output = output_by l out a }

-- "Write also the two label entries": the search, then 25 and 12. The answer is the TTL
abbrev pub labels_of : List ℕ → List ℕ → ℕ → ℕ → List ℕ → Write
labels_of h s p l out = labels_by l out (and_then (ttl_of h s p) (labelled l (length out)))

-- The table as an image, written, loaded and converted (document 02, W-201 and W-211).
use Rattle.std.specs.List.{list_all}
use Rattle.std.specs.Prelude.{ℕ, zero, suc, ◌-◌, Bool, true, false, cond, not, ◌&&◌, List, [], ◌∷◌, ◌++◌, map, ltb, leb, eqb, length, get_or, drop, replicate}
use Rattle.octets.specs.Octets.{number}
use Rattle.refusal.specs.Answer.{Answer, value, refused, refuse, and_then}
use Rattle.refusal.specs.Written.{Write}
use Rattle.residence.specs.Residence.{limit}
use Rattle.records.specs.declared.RecordKind.{RecordKind}
use Rattle.records.specs.declared.RecordKind.TheVariants.{Sync, Delay}
use Rattle.records.specs.declared.Identity.{Identity}
use Rattle.records.specs.declared.Record.{Record}
use Rattle.records.specs.Slots.{Slots, Outcome, kind_number, identity_of, same, zeros, records_of}
use Rattle.records.specs.Node.{slots_taken_over}
use Rattle.records.specs.Number.{recounted}
use Rattle.image.specs.declared.Form.{Form}
use Rattle.image.specs.declared.Form.TheVariants.{Old, New}
use Rattle.image.specs.Layout.{widths, fit, image_octets, is_laid_out, bodies_in}

-- ---- a record and its body

-- "each port, sequence, stay in 8 octets and wait", ..
abbrev pub fields_of : Record → List ℕ
fields_of r = r.clock ∷ r.port ∷ r.sequence ∷ r.residence ∷ r.wait ∷ []

-- .. in the second form "with one kind octet (0 Sync, 1 Delay) leading each body"
abbrev pub body_of : Form → Record → List ℕ
body_of Old r = fields_of r
body_of New r = kind_number r.kind ∷ fields_of r

abbrev pub of_fields : RecordKind → List ℕ → Record
of_fields k b = record { kind = k; clock = get_or b 0 0; port = get_or b 1 0; sequence = get_or b 2 0; residence = get_or b 3 0; wait = get_or b 4 0 }

-- A body of any other kind holds no record: its slot would be empty, with a wait of 0, and no image loads that has such a body (Return
-- `BadKind`).
abbrev pub of_kind : ℕ → List ℕ → Record
of_kind zero b = of_fields Sync b
of_kind (suc zero) b = of_fields Delay b
of_kind (suc (suc k)) b = zeros

-- in the old form every record is a Sync record
abbrev pub record_of : Form → List ℕ → Record
record_of Old b = of_fields Sync b
record_of New b = of_kind (get_or b 0 0) (drop 1 b)

-- ---- which records an image can hold

-- "waits are 1 to 3"
abbrev pub right_wait : Record → Bool
right_wait r = leb 1 r.wait && leb r.wait 3

-- "stays below 262,144,000,000,000 units"
abbrev pub right_residence : Record → Bool
right_residence r = ltb r.residence limit

-- both; and its numbers fit their octets, as those of every slot of the code do
unfoldable pub sound : Record → Bool
sound r = right_wait r && (right_residence r && fit (widths New) (body_of New r))

abbrev pub every : (Record → Bool) → Slots → Bool
every p rs = list_all p rs

-- "identities differ": in kind, port or sequence
unfoldable pub differ : Identity → Record → Bool
differ q s = not (same q (identity_of s))

abbrev pub distinct : Slots → Bool
distinct [] = true
distinct (r ∷ rs) = every (differ (identity_of r)) rs && distinct rs

-- "up to 16"
abbrev pub loadable : Slots → Bool
loadable rs = leb (length rs) 16 && (every sound rs && distinct rs)

-- An image of this form tells the kinds of these records: the old one has no octet for them.
abbrev pub is_sync : RecordKind → Bool
is_sync Sync = true
is_sync Delay = false

unfoldable pub of_sync : Record → Bool
of_sync r = is_sync r.kind

abbrev pub tells : Form → Slots → Bool
tells Old rs = every of_sync rs
tells New rs = true

-- ---- writing

abbrev pub octets_in : Form → Slots → List ℕ
octets_in F rs = image_octets F (map (body_of F) rs)

-- The image of records in a form: 22 where they "could not be loaded", then 27 "for going back with a Delay record".
abbrev pub image_in : Form → Slots → Answer (List ℕ)
image_in F rs = refuse 22 (not (loadable rs)) (refuse 27 (not (tells F rs)) (value (octets_in F rs)))

-- The image of a table, its records "in slot order": "Writing gives the second form". Empty slots do not count.
abbrev pub image_of : Slots → Answer (List ℕ)
image_of t = image_in New (records_of t)

-- An image to a lent output: 12 "for a small output", "last". It tells the size written; octets beyond stay, and a refusal leaves the
-- output as it came.
abbrev pub fitting : List ℕ → List ℕ → Answer (List ℕ)
fitting out s = refuse 12 (ltb (length out) (length s)) (value s)

abbrev pub write_by : List ℕ → Answer (List ℕ) → Write
write_by out (value s) = record { answer = value (length s); output = s ++ drop (length s) out }
write_by out (refused n) = record { answer = refused n; output = out }

abbrev pub to_output : List ℕ → Answer (List ℕ) → Write
to_output out a = write_by out (and_then a (fitting out))

abbrev pub write_of : Slots → List ℕ → Write
write_of t out = to_output out (image_of t)

-- ---- loading

abbrev pub records_at : Form → List ℕ → Slots
records_at F s = map (record_of F) (bodies_in F s)

-- The records of an image in a form, in its order; 22 "for any other image".
abbrev pub read_as : Form → List ℕ → Answer Slots
read_as F s = refuse 22 (not (is_laid_out F s && loadable (records_at F s))) (value (records_at F s))

-- "A load .. fills slots from 0 and leaves the others all zeros"
abbrev pub filled : Slots → Slots
filled rs = rs ++ replicate (16 - length rs) zeros

abbrev pub load_as : Form → List ℕ → Answer Slots
load_as F s = and_then (read_as F s) (λ rs. value (filled rs))

-- "FF as its first octet": in the old form that would be the number of bodies, which is "up to 16"
abbrev pub form_in : List ℕ → Form
form_in s = cond (eqb (number 1 s 0) 0xFF) New Old

-- The table that a string of octets loads: "loading takes both".
abbrev pub load_of : List ℕ → Answer Slots
load_of s = load_as (form_in s) s

-- Loading it over a table with slots t and number n, by the answer (0 says that it was loaded): "A load replaces the table" and counts its
-- number (W-206); a refusal leaves the table that came.
abbrev pub load_by : Slots → ℕ → Answer Slots → Outcome
load_by t n a = record { answer = and_then a (λ u. value 0); slots = slots_taken_over t a; number = recounted n a }

abbrev pub load_into : List ℕ → Slots → ℕ → Outcome
load_into s t n = load_by t n (load_of s)

-- ---- converting

-- "Convert the old form to the new and back": the records of an image in form F as an image in form G. 22 for "the wrong form to convert"
-- too; "27 after 22, 12 last".
abbrev pub converted : Form → Form → List ℕ → Answer (List ℕ)
converted F G s = and_then (read_as F s) (image_in G)

abbrev pub convert_of : Form → Form → List ℕ → List ℕ → Write
convert_of F G s out = to_output out (converted F G s)

-- ---- a switchover

-- The table is written, and the image loaded by the card that takes over. Where the write is refused there is none, and the table stays as
-- it is.
abbrev pub handed_over : Slots → Answer Slots
handed_over t = and_then (image_of t) load_of

abbrev pub switched : Slots → Slots
switched t = slots_taken_over t (handed_over t)

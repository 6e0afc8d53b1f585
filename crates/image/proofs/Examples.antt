-- Strings that load and strings that do not, at the limits of document 02's rules, in both forms.
-- Assumes nothing.
use Prim.Native.Nat.{ℕ}
use mathlib.Core.Path.{◌≡◌, refl}
use mathlib.Core.List.{List, [], ◌∷◌, ◌++◌}
use lib.ListN.{replicate}
use Rattle.octets.specs.Octets.{octets}
use Rattle.refusal.specs.Answer.{value, refused}
use Rattle.records.specs.declared.RecordKind.{RecordKind}
use Rattle.records.specs.declared.RecordKind.TheVariants.{Sync, Delay}
use Rattle.records.specs.declared.Record.{Record}
use Rattle.records.specs.Slots.{same, zeros}
use Rattle.image.specs.declared.Form.{Form}
use Rattle.image.specs.declared.Form.TheVariants.{Old, New}
use Rattle.image.specs.Layout.{widths, field_octets}
use Rattle.image.specs.Image.{body_of, sound, differ, write_of, load_of, load_into}

-- a record by its sequence, residence and wait, of either kind; and its body
abbrev of_kind : RecordKind → ℕ → ℕ → ℕ → Record
of_kind k q u w = record { kind = k; clock = 0x0001020304050607; port = 1; sequence = q; residence = u; wait = w }

abbrev a_record : ℕ → ℕ → ℕ → Record
a_record = of_kind Sync

abbrev body : Form → Record → List ℕ
body F r = field_octets (widths F) (body_of F r)

-- images of one body and of two, behind these offsets: of the old form, ..
abbrev one : Record → List ℕ
one r = 1 ∷ 0 ∷ 3 ∷ body Old r

abbrev two : ℕ → ℕ → Record → Record → List ℕ
two i j r s = 2 ∷ octets 2 i ++ octets 2 j ++ body Old r ++ body Old s

-- .. and of the new
abbrev one_new : Record → List ℕ
one_new r = 0xFF ∷ 1 ∷ 0 ∷ 4 ∷ body New r

abbrev two_new : ℕ → ℕ → Record → Record → List ℕ
two_new i j r s = 0xFF ∷ 2 ∷ octets 2 i ++ octets 2 j ++ body New r ++ body New s

-- no record: a single octet, or two; "nothing follows the last body"
none_loads : (load_of (0 ∷ []) ≡ value (replicate 16 zeros)) × (load_of (0xFF ∷ 0 ∷ []) ≡ value (replicate 16 zeros))
none_loads = (refl, refl)

octet_behind : (load_of (0 ∷ 0 ∷ []) ≡ refused 22) × (load_of (0xFF ∷ 0 ∷ 0 ∷ []) ≡ refused 22)
octet_behind = (refl, refl)

-- neither FF alone nor any other octet over 16 begins an image
no_count : (load_of [] ≡ refused 22) × (load_of (0xFF ∷ []) ≡ refused 22) × (load_of (0xFE ∷ 0 ∷ []) ≡ refused 22)
no_count = (refl, refl, refl)

-- "waits are 1 to 3"
wait_of_three : load_of (one (a_record 258 5 3)) ≡ value (a_record 258 5 3 ∷ replicate 15 zeros)
unfolding same sound differ
wait_of_three = refl

wait_of_four : (load_of (one (a_record 258 5 4)) ≡ refused 22) × (load_of (one_new (a_record 258 5 4)) ≡ refused 22)
unfolding same sound differ
wait_of_four = (refl, refl)

wait_of_none : (load_of (one (a_record 258 5 0)) ≡ refused 22) × (load_of (one_new (a_record 258 5 0)) ≡ refused 22)
unfolding same sound differ
wait_of_none = (refl, refl)

-- "stays below 262,144,000,000,000 units"
below_limit : load_of (one (a_record 258 262143999999999 1)) ≡ value (a_record 258 262143999999999 1 ∷ replicate 15 zeros)
unfolding same sound differ
below_limit = refl

at_limit : load_of (one (a_record 258 262144000000000 1)) ≡ refused 22
unfolding same sound differ
at_limit = refl

-- "offsets are exactly those of this layout": 5 and 26, in this order; "counted from the image's start" in the new form too: 6 and 28
two_load : load_of (two 5 26 (a_record 258 5 3) (a_record 259 5 3)) ≡ value (a_record 258 5 3 ∷ a_record 259 5 3 ∷ replicate 14 zeros)
unfolding same sound differ
two_load = refl

two_new_load : load_of (two_new 6 28 (a_record 258 5 3) (a_record 259 5 3)) ≡ value (a_record 258 5 3 ∷ a_record 259 5 3 ∷ replicate 14 zeros)
unfolding same sound differ
two_new_load = refl

exchanged : load_of (two 26 5 (a_record 258 5 3) (a_record 259 5 3)) ≡ refused 22
unfolding same sound differ
exchanged = refl

behind_ff : load_of (two_new 5 27 (a_record 258 5 3) (a_record 259 5 3)) ≡ refused 22
unfolding same sound differ
behind_ff = refl

-- "identities differ": a Sync record and a Delay record of one port and sequence do
one_identity :
    (load_of (two 5 26 (a_record 258 5 3) (a_record 258 6 2)) ≡ refused 22)
    × (load_of (two_new 6 28 (of_kind Delay 258 5 3) (of_kind Delay 258 6 2)) ≡ refused 22)
unfolding same sound differ
one_identity = (refl, refl)

two_kinds :
    load_of (two_new 6 28 (of_kind Delay 258 5 3) (a_record 258 6 2)) ≡ value (of_kind Delay 258 5 3 ∷ a_record 258 6 2 ∷ replicate 14 zeros)
unfolding same sound differ
two_kinds = refl

-- a table that could not be loaded is not written, before 12; a small output; an empty slot, whatever else it holds, does not count
not_written : write_of (a_record 258 5 3 ∷ a_record 258 6 2 ∷ []) [] ≡ record { answer = refused 22; output = [] }
unfolding same sound differ
not_written = refl

small_output : write_of (of_kind Delay 258 5 3 ∷ []) (replicate 25 7) ≡ record { answer = refused 12; output = replicate 25 7 }
unfolding same sound differ
small_output = refl

nothing_written : write_of (of_kind Delay 258 5 0 ∷ []) (7 ∷ 7 ∷ 7 ∷ []) ≡ record { answer = value 2; output = 0xFF ∷ 0 ∷ 7 ∷ [] }
unfolding same sound differ
nothing_written = refl

-- "loading counts" the number, over a table of any other; a refused load leaves it
two_counted :
    load_into (two_new 6 28 (a_record 258 5 3) (of_kind Delay 258 5 3)) (replicate 16 zeros) 200
    ≡ record { answer = value 0; slots = a_record 258 5 3 ∷ of_kind Delay 258 5 3 ∷ replicate 14 zeros; number = 2 }
unfolding same sound differ
two_counted = refl

none_counted :
    load_into (0 ∷ 0 ∷ []) (a_record 258 5 3 ∷ replicate 15 zeros) 200
    ≡ record { answer = refused 22; slots = a_record 258 5 3 ∷ replicate 15 zeros; number = 200 }
none_counted = refl

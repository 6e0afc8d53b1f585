-- A switchover from a card with the old release to one with the new, and back (document 02, W-211), in octets: the image in the old form
-- loads; what is written from then on is in the new form, and is converted for the card with the old release, unless a Delay record waits.
-- Assumes nothing.
use Prim.Native.Nat.{ℕ}
use mathlib.Core.Path.{◌≡◌, refl, sym, ap}
use mathlib.Core.List.{List, [], ◌∷◌, ◌++◌}
use native.Mathlib.Omega.{arith}
use lib.ListN.{length, replicate, take}
use Rattle.octets.proofs.Low.{low-Octets}
use Rattle.refusal.specs.Answer.{value, refused}
use Rattle.records.specs.declared.RecordKind.{RecordKind}
use Rattle.records.specs.declared.RecordKind.TheVariants.{Sync, Delay}
use Rattle.records.specs.declared.Record.{Record}
use Rattle.records.specs.Slots.{Slots, same, zeros, ticked}
use Rattle.image.specs.declared.Form.{Form}
use Rattle.image.specs.declared.Form.TheVariants.{Old, New}
use Rattle.image.specs.Layout.{lead}
use Rattle.image.specs.Image.{sound, differ, of_sync, image_of, write_of, load_as, load_of, load_into, converted, convert_of}
use Rattle.image.proofs.Images.{one_form_only}
use Rattle.image.proofs.SameImages.{same_image}
use Rattle.image.proofs.Conversions.{there_and_back, same_load, old_loads, goes_back}
use Rattle.image.proofs.BadKinds.{bad_kind}

-- port identity 00 01 .. 07 00 01, sequence 258, 1,500 ns in pad units, and a wait
abbrev fields : ℕ → List ℕ
fields w = 0 ∷ 1 ∷ 2 ∷ 3 ∷ 4 ∷ 5 ∷ 6 ∷ 7 ∷ 0 ∷ 1 ∷ 1 ∷ 2 ∷ 0 ∷ 0 ∷ 0 ∷ 0 ∷ 5 ∷ 220 ∷ 0 ∷ 0 ∷ w ∷ []

abbrev kept : RecordKind → ℕ → Record
kept k w = record { kind = k; clock = 0x0001020304050607; port = 1; sequence = 258; residence = 98304000; wait = w }

-- one offset, 3, and one body of 21 octets; behind FF one offset, 4, and one body of 22
abbrev old : ℕ → List ℕ
old w = 1 ∷ 0 ∷ 3 ∷ fields w

abbrev new : ℕ → List ℕ
new w = 0xFF ∷ 1 ∷ 0 ∷ 4 ∷ 0 ∷ fields w

-- a Sync record and a Delay record of one port and sequence: offsets 6 and 28
abbrev mixed : List ℕ
mixed = (0xFF ∷ 2 ∷ 0 ∷ 6 ∷ 0 ∷ 28 ∷ 0 ∷ fields 2) ++ (1 ∷ fields 3)

abbrev waiting : ℕ → Slots
waiting w = kept Sync w ∷ replicate 15 zeros

abbrev both : Slots
both = kept Sync 2 ∷ kept Delay 3 ∷ replicate 14 zeros

-- over: what the old release wrote is loaded, a tick comes, and the next image is in the new form
over_in_octets : (load_of (old 3) ≡ value (waiting 3)) × (ticked (waiting 3) ≡ waiting 2) × (image_of (waiting 2) ≡ value (new 2))
unfolding same sound differ
over_in_octets = (refl, refl, refl)

-- back: it is converted for the old release
back_in_octets : (converted New Old (new 2) ≡ value (old 2)) × (load_of (old 2) ≡ value (waiting 2)) × (load_of (new 2) ≡ value (waiting 2))
unfolding same sound differ of_sync
back_in_octets = (refl, refl, refl)

-- a Delay record goes over to a card with the new release, and not back to the old one
delay : (image_of both ≡ value mixed) × (load_of mixed ≡ value both) × (converted New Old mixed ≡ refused 27)
unfolding same sound differ of_sync
delay = (refl, refl, refl)

-- 27 comes before 12, and 12 is last; a refusal leaves the output
in_order :
    (convert_of New Old mixed (9 ∷ []) ≡ record { answer = refused 27; output = 9 ∷ [] })
    × (convert_of New Old (new 2) (9 ∷ []) ≡ record { answer = refused 12; output = 9 ∷ [] })
    × (convert_of Old New (old 2) (replicate 25 9) ≡ record { answer = refused 12; output = replicate 25 9 })
unfolding same sound differ of_sync
in_order = (refl, refl, refl)

-- octets beyond the size stay: 24 are written, and the two behind them are left
beyond : convert_of New Old (new 2) (replicate 26 9) ≡ record { answer = value 24; output = old 2 ++ (9 ∷ 9 ∷ []) }
unfolding same sound differ of_sync
beyond = refl

-- no record at all
nothing_waits : (image_of (replicate 16 zeros) ≡ value (0xFF ∷ 0 ∷ [])) × (converted New Old (0xFF ∷ 0 ∷ []) ≡ value (0 ∷ []))
nothing_waits = (refl, refl)

-- ---- the theorems, for these

-- there and back, from either side: 24 octets into 26, and 26 into 24
old_and_back :
    ((convert_of Old New (old 2) (replicate 30 9)).answer ≡ value 26)
    × (convert_of New Old (take 26 (convert_of Old New (old 2) (replicate 30 9)).output) (replicate 25 9)
    ≡ record { answer = value 24; output = old 2 ++ (9 ∷ []) })
unfolding same sound differ of_sync
old_and_back =
    there_and_back Old New (old 2) (replicate 30 9) (replicate 25 9) (kept Sync 2 ∷ []) (low-Octets (old 2) refl) refl refl (omega arith) (omega arith)

new_and_back :
    ((convert_of New Old (new 2) (replicate 24 9)).answer ≡ value 24)
    × (convert_of Old New (take 24 (convert_of New Old (new 2) (replicate 24 9)).output) (replicate 26 9)
    ≡ record { answer = value 26; output = new 2 })
unfolding same sound differ of_sync
new_and_back =
    there_and_back New Old (new 2) (replicate 24 9) (replicate 26 9) (kept Sync 2 ∷ []) (low-Octets (new 2) refl) refl refl (omega arith) (omega arith)

-- over a table that keeps any number, the converted image loads as the original, there and back
back_loads :
    (load_into (take 24 (convert_of New Old (new 2) (replicate 24 9)).output) both 7 ≡ load_into (new 2) both 7)
    × ((load_into (new 2) both 7).answer ≡ value 0)
unfolding same sound differ of_sync
back_loads = same_load New Old (new 2) (replicate 24 9) 24 refl both 7

over_loads :
    (load_into (take 26 (convert_of Old New (old 2) (replicate 26 9)).output) both 7 ≡ load_into (old 2) both 7)
    × ((load_into (old 2) both 7).answer ≡ value 0)
unfolding same sound differ of_sync
over_loads = same_load Old New (old 2) (replicate 26 9) 26 refl both 7

in_numbers : load_into (old 2) both 7 ≡ record { answer = value 0; slots = waiting 2; number = 1 }
unfolding same sound differ
in_numbers = refl

-- a table that was loaded from either gives the same image, in the new form
again : (image_of (waiting 2) ≡ converted Old New (old 2)) × (image_of (waiting 2) ≡ value (new 2))
unfolding same sound differ
again = (same_image (old 2) (waiting 2) (low-Octets (old 2) refl) refl, same_image (new 2) (waiting 2) (low-Octets (new 2) refl) refl)

-- the card with the old release has the record again, one tick older
home :
    ((convert_of New Old (take 26 (write_of (waiting 2) (replicate 26 9)).output) (replicate 30 9)).answer ≡ value 24)
    × (load_as Old (take 24 (convert_of New Old (take 26 (write_of (waiting 2) (replicate 26 9)).output) (replicate 30 9)).output) ≡ value (waiting 2))
unfolding same sound differ of_sync
home = goes_back (waiting 2) (replicate 26 9) (replicate 30 9) 26 refl refl (omega arith)

over : load_of (old 3) ≡ value (waiting 3)
unfolding same sound differ
over = old_loads (old 3) (waiting 3) refl

-- each conversion takes its own form alone
old_from_new : New ≡ Old → ⊥
old_from_new e = let z : ◌≡◌ {A = ℕ} 0 1 = ap (λ (F : Form). length (lead F)) (sym e) in omega arith

wrong_form : (converted Old New (new 2) ≡ refused 22) × (converted New Old (old 2) ≡ refused 22)
wrong_form = (one_form_only Old New (new 2) old_from_new, one_form_only New Old (old 2) (λ e. old_from_new (sym e)))

-- a kind of 2
not_loaded :
    (load_of (0xFF ∷ 1 ∷ 0 ∷ 4 ∷ 2 ∷ fields 2) ≡ refused 22)
    × ((G : Form) → converted New G (0xFF ∷ 1 ∷ 0 ∷ 4 ∷ 2 ∷ fields 2) ≡ refused 22)
not_loaded = bad_kind (0xFF ∷ 1 ∷ 0 ∷ 4 ∷ 2 ∷ fields 2) 0 (2 ∷ 0x0001020304050607 ∷ 1 ∷ 258 ∷ 98304000 ∷ 2 ∷ []) refl refl (omega arith)

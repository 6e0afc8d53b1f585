-- Images of records, in either form: the image of records that can be loaded is read as these records, since its layout is read back and
-- each record's body makes the record again; and it loads, since its first octet tells its form.
-- Assumes nothing.
use Prim.Native.Nat.{ℕ, ◌≤◌}
use mathlib.Core.Path.{◌≡◌, refl, sym, ap, ◌∙◌}
use mathlib.Core.Bool.{Bool, true, false, not, ◌&&◌, false≢true, and-eq-true_iff}
use mathlib.Core.List.{List, [], ◌∷◌, map}
use native.Mathlib.Omega.{arith}
use borrow.Author.Tests.{ne_eqb, not-false}
use lib.ListN.{length, get_or, take, length-map}
use Rattle.octets.specs.Octets.{number}
use Rattle.refusal.specs.Answer.{Answer, value, refused, refuse, and_then}
use Rattle.refusal.proofs.Answers.{not_both, same_value, passes}
use Rattle.records.specs.declared.RecordKind.{RecordKind}
use Rattle.records.specs.declared.RecordKind.TheVariants.{Sync, Delay}
use Rattle.records.specs.declared.Record.{Record}
use Rattle.records.specs.Slots.{Slots, kind_number, records_of}
use Rattle.image.specs.declared.Form.{Form}
use Rattle.image.specs.declared.Form.TheVariants.{Old, New}
use Rattle.image.specs.Layout.{widths, fields_at, body_size, first_body, image_size, offsets, count_in, is_laid_out, bodies_in}
use Rattle.image.specs.Image.{fields_of, body_of, of_fields, record_of, every, loadable, is_sync, of_sync, tells, octets_in, image_in, records_at, read_as, form_in, filled, load_as, load_of}
use Rattle.image.specs.Return.{OneFormOnly}
use Rattle.image.proofs.Layouts.{length-places, length_image, laid_out_sound, image_laid_out, image_bodies}
use Rattle.image.proofs.Loadable.{loadable_parts, loadable-filled, sound_fit, small}

-- ---- the records of an image

-- a record is made of its body where that tells its kind
sync_kind : (k : RecordKind) → is_sync k ≡ true → Sync ≡ k
sync_kind Sync e = refl
sync_kind Delay e = absurd (false≢true e)

record_made : (r : Record) (k : RecordKind) → record_of New (kind_number k ∷ fields_of r) ≡ of_fields k (fields_of r)
record_made r Sync = refl
record_made r Delay = refl

records_made : (F : Form) (rs : Slots) → tells F rs ≡ true → map (record_of F) (map (body_of F) rs) ≡ rs
unfolding of_sync
records_made F [] h = refl
records_made Old (r ∷ rs) h =
    let k = (and-eq-true_iff (of_sync r) (every of_sync rs)).0 h in
    λ i. of_fields (sync_kind r.kind k.0 i) (fields_of r) ∷ records_made Old rs k.1 i
records_made New (r ∷ rs) h = λ i. record_made r r.kind i ∷ records_made New rs h i

module _ (F : Form) where
  -- an image has as many records as it says
  pub length_records : (s : List ℕ) → length (records_at F s) ≡ count_in F s
  length_records s =
      let n = count_in F s in
      length-map (bodies_in F s) (record_of F)
      ∙ length-map (offsets F n) (fields_at (widths F) s)
      ∙ length-places (body_size F) (first_body F n) n

  pub read_taken : (s : List ℕ) (rs : Slots) → is_laid_out F s ≡ true → records_at F s ≡ rs → loadable rs ≡ true → read_as F s ≡ value rs
  read_taken s rs l e h =
      ap (λ (b : Bool). refuse 22 (not (b && loadable (records_at F s))) (value (records_at F s))) l
      ∙ ap (λ (u : Slots). refuse 22 (not (loadable u)) (value u)) e
      ∙ ap (λ (b : Bool). refuse 22 (not b) (value rs)) h

  pub read_sound :
      (s : List ℕ) (rs : Slots) → read_as F s ≡ value rs → (is_laid_out F s ≡ true) × (records_at F s ≡ rs) × (loadable rs ≡ true)
  read_sound s rs e =
      let us = records_at F s in
      let p = passes 22 (not (is_laid_out F s && loadable us)) (value us) rs e in
      let k = (and-eq-true_iff (is_laid_out F s) (loadable us)).0 (not-false (is_laid_out F s && loadable us) p.0) in
      let same = same_value p.1 in
      (k.0, same, ap loadable (sym same) ∙ k.1)

  pub image_size_lem : (rs : Slots) → loadable rs ≡ true → length (octets_in F rs) ≡ image_size F (length rs)
  image_size_lem rs h =
      let k = loadable_parts rs h in
      let n = length-map rs (body_of F) in
      let l = small F (length (map (body_of F) rs)) (omega arith) in
      length_image F (map (body_of F) rs) (sound_fit F rs k.1) (omega arith) (omega arith) ∙ ap (image_size F) n

  pub reads_back : (rs : Slots) → loadable rs ≡ true → tells F rs ≡ true → read_as F (octets_in F rs) ≡ value rs
  reads_back rs h w =
      let bs = map (body_of F) rs in
      let k = loadable_parts rs h in
      let n = length-map rs (body_of F) in
      let l = small F (length bs) (omega arith) in
      let fits = sound_fit F rs k.1 in
      read_taken (octets_in F rs) rs
      (image_laid_out F bs fits (omega arith) (omega arith))
      (ap (λ (l : List (List ℕ)). map (record_of F) l) (image_bodies F bs fits (omega arith) (omega arith)) ∙ records_made F rs w)
      h

  -- ---- the image of records

  pub image_refused : (rs : Slots) → loadable rs ≡ false → image_in F rs ≡ refused 22
  image_refused rs h = ap (λ (b : Bool). refuse 22 (not b) (refuse 27 (not (tells F rs)) (value (octets_in F rs)))) h

  pub image_taken : (rs : Slots) → loadable rs ≡ true → tells F rs ≡ true → image_in F rs ≡ value (octets_in F rs)
  image_taken rs h w =
      ap (λ (b : Bool). refuse 22 (not b) (refuse 27 (not (tells F rs)) (value (octets_in F rs)))) h
      ∙ ap (λ (b : Bool). refuse 27 (not b) (value (octets_in F rs))) w

  pub image_sound :
      (rs : Slots) (s : List ℕ) → image_in F rs ≡ value s → (loadable rs ≡ true) × (tells F rs ≡ true) × (octets_in F rs ≡ s)
  image_sound rs s e =
      let k = passes 22 (not (loadable rs)) (refuse 27 (not (tells F rs)) (value (octets_in F rs))) s e in
      let l = passes 27 (not (tells F rs)) (value (octets_in F rs)) s k.1 in
      (not-false (loadable rs) k.0, not-false (tells F rs) l.0, same_value l.1)

  -- it is read as these records
  pub image_reads : (rs : Slots) (s : List ℕ) → image_in F rs ≡ value s → read_as F s ≡ value rs
  image_reads rs s e =
      let k = image_sound rs s e in
      ap (read_as F) (sym k.2) ∙ reads_back rs k.0 k.1

-- ---- loading

-- FF tells the new form, and a number of bodies the old
form_new : (s : List ℕ) → take 1 s ≡ 0xFF ∷ [] → form_in s ≡ New
form_new [] e =
    let z : ◌≡◌ {A = ℕ} 0 1 = ap length e in
    absurd (omega arith)
form_new (x ∷ s) e = ap (λ (y : ℕ). form_in (y ∷ s)) (ap (λ (l : List ℕ). get_or l 0 0) e)

form_old : (s : List ℕ) → number 1 s 0 ≤ 16 → form_in s ≡ Old
form_old s h = rw (ne_eqb (number 1 s 0) 255 (λ z. omega arith)) refl

-- so octets that are read in a form are of that form
pub form_told : (F : Form) (s : List ℕ) (rs : Slots) → read_as F s ≡ value rs → form_in s ≡ F
form_told Old s rs e =
    let k = read_sound Old s rs e in
    form_old s (omega (arith, length_records Old s, ap length k.1, (loadable_parts rs k.2).0))
form_told New s rs e = form_new s (laid_out_sound New s (read_sound New s rs e).0).0

-- refused octets, in any form, are refused with 22
pub read_refused : (F : Form) (s : List ℕ) → ((rs : Slots) → read_as F s ≡ value rs → ⊥) → read_as F s ≡ refused 22
read_refused F s h = go (not (is_laid_out F s && loadable (records_at F s))) h
  where
    go :
        (b : Bool)
        → ((rs : Slots) → refuse 22 b (value (records_at F s)) ≡ value rs → ⊥)
        → refuse 22 b (value (records_at F s)) ≡ refused 22
    go true k = refl
    go false k = absurd (k (records_at F s) refl)

pub one_form_only : OneFormOnly
one_form_only F G s d = ap (λ (a : Answer Slots). and_then a (image_in G)) (read_refused F s (λ rs e. d (form_told F s rs e)))

pub load_read : (F : Form) (s : List ℕ) (rs : Slots) → read_as F s ≡ value rs → load_of s ≡ value (filled rs)
load_read F s rs e =
    ap (λ (G : Form). load_as G s) (form_told F s rs e) ∙ ap (λ (a : Answer Slots). and_then a (λ us. value (filled us))) e

-- what holds of a string of octets that loads in a form: its records are read, and fill the table
pub load_as_sound :
    (F : Form) (s : List ℕ) (t : Slots)
    → load_as F s ≡ value t
    → (rs : Slots) × (read_as F s ≡ value rs) × (loadable rs ≡ true) × (records_of t ≡ rs) × (t ≡ filled rs)
load_as_sound F s t e = go (read_as F s) refl e
  where
    go :
        (a : Answer Slots)
        → read_as F s ≡ a
        → and_then a (λ us. value (filled us)) ≡ value t
        → (rs : Slots) × (read_as F s ≡ value rs) × (loadable rs ≡ true) × (records_of t ≡ rs) × (t ≡ filled rs)
    go (value rs) f g =
        let l = (read_sound F s rs f).2 in
        let is = sym (same_value g) in
        (rs, f, l, ap records_of is ∙ loadable-filled rs l, is)
    go (refused n) f g = absurd (not_both g)

pub image_loads : (F : Form) (rs : Slots) (s : List ℕ) → image_in F rs ≡ value s → load_of s ≡ value (filled rs)
image_loads F rs s e = load_read F s rs (image_reads F rs s e)

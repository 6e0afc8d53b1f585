-- Conversions: what an image holds is read, and its image in the other form is read as the same records. So the way there and back gives the
-- same octets, and both images load the same table.
-- Assumes nothing.
use Prim.Native.Nat.{ℕ}
use mathlib.Core.Path.{◌≡◌, refl, sym, ap, ◌∙◌}
use mathlib.Core.Bool.{true}
use mathlib.Core.List.{List}
use native.Mathlib.Omega.{arith}
use lib.ListN.{length, take}
use Rattle.octets.specs.Octets.{Octets}
use Rattle.refusal.specs.Answer.{Answer, value, refused, and_then}
use Rattle.refusal.proofs.Answers.{not_both}
use Rattle.records.specs.Slots.{Slots, records_of}
use Rattle.image.specs.declared.Form.{Form}
use Rattle.image.specs.declared.Form.TheVariants.{Old, New}
use Rattle.image.specs.Layout.{image_size}
use Rattle.image.specs.Image.{tells, octets_in, image_in, image_of, write_of, read_as, filled, load_by, converted, convert_of}
use Rattle.image.specs.Return.{ThereAndBack, SameLoad, OldLoads, GoesBack}
use Rattle.image.proofs.Images.{read_sound, image_size_lem, image_taken, image_reads, load_read, load_as_sound, image_loads}
use Rattle.image.proofs.Returns.{writes, output_taken}
use Rattle.image.proofs.SameImages.{image_again}

module _ (F G : Form) (s : List ℕ) (rs : Slots) (e : read_as F s ≡ value rs) where
  convert_read : converted F G s ≡ image_in G rs
  convert_read = ap (λ (a : Answer Slots). and_then a (image_in G)) e

  -- what is read is converted where the other form tells its kinds
  pub convert_taken : tells G rs ≡ true → converted F G s ≡ value (octets_in G rs)
  convert_taken w = convert_read ∙ image_taken G rs (read_sound F s rs e).2 w

  convert_back : (u : List ℕ) → Octets s → converted F G s ≡ value u → converted G F u ≡ value s
  convert_back u low f =
      ap (λ (a : Answer Slots). and_then a (image_in F)) (image_reads G rs u (sym convert_read ∙ f)) ∙ image_again F s rs low e

pub there_and_back : ThereAndBack
there_and_back F G s out back rs low e w h l =
    let n = image_size G (length rs) in
    let u = octets_in G rs in
    let size : length u ≡ n = image_size_lem G rs (read_sound F s rs e).2 in
    let there = output_taken out u (converted F G s) (convert_taken F G s rs e w) (omega arith) in
    let told : (convert_of F G s out).answer ≡ value n = (λ i. (there i).answer) ∙ ap value size in (
      told,
      output_taken back s (converted G F (take n (convert_of F G s out).output))
          (convert_back F G s rs e (take n (convert_of F G s out).output) low (writes out n (converted F G s) told)) l,
    )

-- an image that is converted was read, and is read as the same records
convert_sound :
    (F G : Form) (s u : List ℕ) (a : Answer Slots)
    → read_as F s ≡ a
    → and_then a (image_in G) ≡ value u
    → (rs : Slots) × (read_as F s ≡ value rs) × (image_in G rs ≡ value u)
convert_sound F G s u (value rs) e f = (rs, e, f)
convert_sound F G s u (refused n) e f = absurd (not_both f)

pub same_load : SameLoad
same_load F G s out n e t m =
    let u = take n (convert_of F G s out).output in
    let k = convert_sound F G s u (read_as F s) refl (writes out n (converted F G s) e) in
    let first = load_read F s k.0 k.1 in
    (ap (load_by t m) (image_loads G k.0 u k.2 ∙ sym first), ap (λ (a : Answer Slots). (load_by t m a).answer) first)

-- ---- cards with the old release

pub old_loads : OldLoads
old_loads s t e =
    let k = load_as_sound Old s t e in
    load_read Old s k.0 k.1 ∙ ap value (sym k.4)

pub goes_back : GoesBack
goes_back t out back n e w h =
    let rs = records_of t in
    let s = take n (write_of t out).output in
    let m = image_size Old (length rs) in
    let image = writes out n (image_of t) e in
    let read = image_reads New rs s image in
    let u = octets_in Old rs in
    let there = output_taken back u (converted New Old s) (convert_taken New Old s rs read w) (omega (arith, image_size_lem Old rs (read_sound New s rs read).2)) in
    let told : (convert_of New Old s back).answer ≡ value m = (λ i. (there i).answer) ∙ ap value (image_size_lem Old rs (read_sound New s rs read).2) in
    let left = image_reads Old rs (take m (convert_of New Old s back).output)
    (sym (convert_read New Old s rs read) ∙ writes back m (converted New Old s) told) in
    (told, ap (λ (a : Answer Slots). and_then a (λ us. value (filled us))) left)

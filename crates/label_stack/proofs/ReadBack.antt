-- Label entries are taken apart again: `FieldsReadBack`, and the two that are written, `LabelsReadBack`.
-- Assumes nothing.
use Prim.Native.Nat.{ℕ, ◌+◌, ◌*◌, ◌/◌, ◌%◌, ◌<◌, ◌^◌}
use mathlib.Core.Path.{◌≡◌, refl, ap, ◌∙◌}
use mathlib.Core.Bool.{Bool, true, false, ◌||◌, true≢false}
use mathlib.Core.List.{List, [], ◌++◌, append_assoc}
use native.Mathlib.Omega.{arith}
use borrow.Author.Tests.{ltb-false}
use lib.Arith.{digits_mod}
use lib.Dec.{eqb, ltb}
use lib.ListN.{length, drop}
use Rattle.octets.specs.Octets.{octets}
use Rattle.octets.proofs.Numbers.{length-octets, number-octets}
use Rattle.refusal.specs.Answer.{Answer, value, refused, and_then, refuse}
use Rattle.refusal.proofs.Answers.{not_both, same_value, passes}
use Rattle.label_stack.specs.Ttl.{ttl_of}
use Rattle.label_stack.specs.Labels.{entry_bits, fields_of, entry_at, lsp_entry, gal_entry, label_octets, labelled}
use Rattle.label_stack.specs.Promises.{FieldsReadBack, LabelsReadBack}
use Rattle.label_stack.proofs.Nearest.{ttl_fits}

-- the fields of 32 bits, b for the bottom bit
apart : (l c b t : ℕ) → c < 8 → b < 2 → t < 256
    → let x = l * 4096 + c * 512 + b * 256 + t in (x / 4096 ≡ l) × (x / 512 % 8 ≡ c) × (x / 256 % 2 ≡ b) × (x % 256 ≡ t)
apart l c b t h k m =
    let x = l * 4096 + c * 512 + b * 256 + t in
    let eighths : x / 512 ≡ l * 8 + c = omega arith in
    let halves : x / 256 ≡ (l * 8 + c) * 2 + b = omega arith in
    (omega arith, ap (λ (n : ℕ). n % 8) eighths ∙ digits_mod l h, ap (λ (n : ℕ). n % 2) halves ∙ digits_mod (l * 8 + c) k, omega arith)

pub fields_read_back : FieldsReadBack
fields_read_back e h m = go e.bottom
  where
    go : (b : Bool) → fields_of (entry_bits (record { label = e.label; traffic_class = e.traffic_class; bottom = b; ttl = e.ttl }))
        ≡ record { label = e.label; traffic_class = e.traffic_class; bottom = b; ttl = e.ttl }
    go true =
        let f = apart e.label e.traffic_class 1 e.ttl h (omega arith) m in
        (λ i. record { label = f.0 i; traffic_class = f.1 i; bottom = eqb (f.2 i) 1; ttl = f.3 i })
    go false =
        let f = apart e.label e.traffic_class 0 e.ttl h (omega arith) m in
        (λ i. record { label = f.0 i; traffic_class = f.1 i; bottom = eqb (f.2 i) 1; ttl = f.3 i })

-- both entries at the start of an output
both_apart : (l d : ℕ) (o : List ℕ) → l < 1048576 → d < 256 → (entry_at (label_octets l d ++ o) 0 ≡ lsp_entry l d) × (entry_at (label_octets l d ++ o) 4 ≡ gal_entry)
both_apart l d o h m =
    let x = entry_bits (lsp_entry l d) in
    let y = entry_bits gal_entry in
    let first = octets 4 x in
    let small : x < 256 ^ 4 = omega arith in (
      ap (λ (s : List ℕ). entry_at s 0) (append_assoc first (octets 4 y) o) ∙ ap fields_of (number-octets 4 x 0 [] (octets 4 y ++ o) refl small) ∙ fields_read_back (lsp_entry l d) (omega arith) m,
      ap fields_of (number-octets 4 y 4 first o (length-octets 4 x) (omega arith)),
    )

-- what an answer says of label and distance
written : (h s : List ℕ) (p l d room : ℕ) → and_then (ttl_of h s p) (labelled l room) ≡ value d → (l < 1048576) × (d < 256)
written h s p l d room e = go (ttl_of h s p) refl e
  where
    label_below : (a b : Bool) → ltb 1048575 l ≡ b → a || b ≡ false → l < 1048576
    label_below true b q r = absurd (true≢false r)
    label_below false true q r = absurd (true≢false r)
    label_below false false q r = omega (arith, ltb-false 1048575 l q)

    go : (a : Answer ℕ) → ttl_of h s p ≡ a → and_then a (labelled l room) ≡ value d → (l < 1048576) × (d < 256)
    go (refused n) t q = absurd (not_both q)
    go (value c) t q =
        let x = passes 25 (ltb l 16 || ltb 1048575 l) (refuse 12 (ltb room 8) (value c)) d q in
        let y = passes 12 (ltb room 8) (value c) d x.1 in
        let z = same_value y.1 in
        (label_below (ltb l 16) (ltb 1048575 l) refl x.0, omega (arith, ttl_fits h s p c t))

pub labels_read_back : LabelsReadBack
labels_read_back h s p l d out e =
    let w = written h s p l d (length out) e in
    rw e (both_apart l d (drop 8 out) w.0 w.1)

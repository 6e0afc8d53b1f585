-- Which octets are refused: those with more than 16 bodies, of another layout, or with records that cannot be loaded. And what the others
-- load: as many records as they say.
-- Assumes nothing.
use Prim.Native.Nat.{ℕ, ◌-◌, ◌<◌, ◌≤◌}
use mathlib.Core.Path.{◌≡◌, sym, ap, ◌∙◌}
use mathlib.Core.Bool.{Bool, true, false, not, ◌&&◌, and-false}
use mathlib.Core.List.{List, ◌++◌, map}
use native.Mathlib.Omega.{arith}
use borrow.Author.Tests.{lt-leb}
use lib.ListN.{length, take, drop, replicate, take-append-drop}
use lib.Seq.{take_at, drop_at, length-take-le}
use Rattle.refusal.specs.Answer.{Answer, value, refused, refuse, and_then}
use Rattle.records.specs.Slots.{Slots, zeros, records_in}
use Rattle.records.proofs.Numbers.{records_same}
use Rattle.image.specs.declared.Form.{Form}
use Rattle.image.specs.Layout.{fields_at, widths, offsets, count_in, is_laid_out}
use Rattle.image.specs.Image.{record_of, every, sound, distinct, loadable, records_at, read_as, filled, load_as, load_by}
use Rattle.image.proofs.Loadable.{loadable-filled}
use Rattle.image.proofs.Images.{length_records, read_sound}

-- the records that fill the slots are the first of them
pub filled_first : (rs : Slots) (n : ℕ) → length rs ≡ n → take n (filled rs) ≡ rs
filled_first rs n e = take_at rs (replicate (16 - length rs) zeros) n e

-- as many as the slots hold
pub filled_number : (rs : Slots) → loadable rs ≡ true → records_in (filled rs) ≡ length rs
filled_number rs h = records_same (filled rs) ∙ ap length (loadable-filled rs h)

-- and the others are zeros
pub filled_others : (rs : Slots) (n : ℕ) → length rs ≡ n → drop n (filled rs) ≡ replicate (16 - n) zeros
filled_others rs n e = drop_at rs (replicate (16 - length rs) zeros) n e ∙ ap (λ (m : ℕ). replicate (16 - m) zeros) e

module _ (F : Form) (s : List ℕ) where
  untaken : is_laid_out F s && loadable (records_at F s) ≡ false → read_as F s ≡ refused 22
  untaken e = ap (λ (b : Bool). refuse 22 (not b) (value (records_at F s))) e

  pub unloadable : loadable (records_at F s) ≡ false → read_as F s ≡ refused 22
  unloadable e = untaken (ap (λ (b : Bool). is_laid_out F s && b) e ∙ and-false (is_laid_out F s))

  pub too_many : 16 < count_in F s → read_as F s ≡ refused 22
  too_many h =
      let rs = records_at F s in
      unloadable (ap (λ (b : Bool). b && (every sound rs && distinct rs)) (lt-leb (length rs) 16 (omega (arith, length_records F s))))

  -- what was read of n bodies, where the octets say n: the records that they hold, and zeros behind
  module _ (n : ℕ) (l : Slots) (told : n ≡ count_in F s) (read : l ≡ filled (map (record_of F) (map (fields_at (widths F) s) (offsets F n)))) where
    pub read_filled : l ≡ filled (records_at F s)
    read_filled = read ∙ ap (λ (m : ℕ). filled (map (record_of F) (map (fields_at (widths F) s) (offsets F m)))) told

    many : length (records_at F s) ≡ n
    many = length_records F s ∙ sym told

    pub read_records : take n l ≡ records_at F s
    read_records = ap (take n) read_filled ∙ filled_first (records_at F s) n many

    pub read_others : drop n l ≡ replicate (16 - n) zeros
    read_others = ap (drop n) read_filled ∙ filled_others (records_at F s) n many

  -- what they load: the records and zeros, and as many as there are records
  pub load_read :
      (n : ℕ) (l : Slots) → n ≤ 16
      → length l ≡ 16
      → drop n l ≡ replicate (16 - n) zeros
      → read_as F s ≡ value (take n l)
      → record { answer = value 0; slots = l; number = n } ≡ load_by (replicate 16 zeros) 0 (load_as F s)
  load_read n l few long others e =
      let rs = take n l in
      let many : length rs ≡ n = length-take-le n l (omega arith) in
      let whole : filled rs ≡ l =
      (λ i. rs ++ replicate (16 - many i) zeros) ∙ ap (λ (x : Slots). rs ++ x) (sym others) ∙ take-append-drop n l in
      let taken = ap (λ (a : Answer Slots). and_then a (λ us. value (filled us))) e in
      let counted : records_in (filled rs) ≡ n = filled_number rs (read_sound F s rs e).2 ∙ many in
      sym (ap (load_by (replicate 16 zeros) 0) taken ∙ (λ i. record { answer = value 0; slots = whole i; number = counted i }))

  -- and where they are refused
  pub load_refused : (m : ℕ) → read_as F s ≡ refused m → record { answer = refused m; slots = replicate 16 zeros; number = 0 } ≡ load_by (replicate 16 zeros) 0 (load_as F s)
  load_refused m e = sym (ap (λ (a : Answer Slots). load_by (replicate 16 zeros) 0 (and_then a (λ us. value (filled us)))) e)

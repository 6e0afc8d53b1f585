-- The new field: `LargestWins`, `TooLowExactly`, and that it is the sum of two pads.
-- Assumes nothing.
use mathlib.Core.Path.{◌≡◌, refl, sym}
use mathlib.Core.Bool.{Bool, true, false, cond, ◌||◌}
use lib.IntN.{ℤ, ◌+ℤ◌}
use Rattle.refusal.specs.Answer.{Answer, value, refused, refuse}
use Rattle.refusal.proofs.Answers.{not_both}
use Rattle.scratch_pad.specs.Sum.{largest, too_big, too_low, held, pad_sum}
use Rattle.correction.specs.Header.{PtpHeader}
use Rattle.correction.specs.Correct.{renumbered, field_of}
use Rattle.correction.specs.Promises.{LargestWins, TooLowExactly}

pub largest_wins : LargestWins
largest_wins h total e = rw e

module _ (z y : ℤ) where
  -- the sum, by its three tests
  abbrev by : Bool → Bool → Bool → Answer ℤ
  by a b c = renumbered (cond (a || b) (value largest) (refuse 11 c (value (held (z +ℤ y)))))

  only : (a b c : Bool) → by a b c ≡ refused 33 → (a ≡ false) × (b ≡ false) × (c ≡ true)
  only true b c e = absurd (not_both (sym e))
  only false true c e = absurd (not_both (sym e))
  only false false true e = (refl, refl, refl)
  only false false false e = absurd (not_both (sym e))

  given : (a b c : Bool) → a ≡ false → b ≡ false → c ≡ true → by a b c ≡ refused 33
  given a b c p q r = (λ i. by (p i) (q i) (r i))

pub too_low_exactly : TooLowExactly
too_low_exactly h total =
    let z = h.correction_field in (
      only z total (too_big z) (too_big total) (too_low (z +ℤ total)),
      λ k. given z total (too_big z) (too_big total) (too_low (z +ℤ total)) k.0 k.1 k.2,
    )

pub field_sum : (h : PtpHeader) (total z : ℤ) → field_of h total ≡ value z → pad_sum h.correction_field total ≡ value z
field_sum h total z e = go (pad_sum h.correction_field total) e
  where
    go : (a : Answer ℤ) → renumbered a ≡ value z → a ≡ value z
    go (value w) q = q
    go (refused n) q = absurd (not_both q)

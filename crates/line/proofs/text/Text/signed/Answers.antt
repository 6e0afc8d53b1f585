-- A number from 0 on is its digits, and one below 0 a sign and the digits of what it lacks.
use mir.ValLaws.{to_z-of_z}
use Rattle.std.proofs.Common.{ℕ, suc, ◌≡◌, ap, ◌∙◌, ◌∷◌, [], ◌++◌, true, false, arith, ℤ, pos, negsuc, List, append_assoc, w64}
use Rattle.std.proofs.Math.IntN.{nat_abs}
use Rattle.std.specs.Int.Signed.{lt_z}
use Rattle.line.specs.Line.{decimal, signed_decimal}
use Rattle.line.proofs.text.Text.signed.Goals.{then-z-lt0, else-z-lt0}
use Rattle.line.proofs.text.Text.signed.Goals as goal

below : (r s t : List ℕ) (z : ℤ) → lt_z z (pos 0) ≡ true → s ≡ r ++ 45 ∷ [] → t ≡ s ++ decimal (nat_abs z) → t ≡ r ++ signed_decimal z
below r s t (negsuc n) h p q = q ∙ ap (λ (x : List ℕ). x ++ decimal (suc n)) p ∙ append_assoc r (45 ∷ []) (decimal (suc n))
below r s t (pos n) h p q = absurd (grind (arith, h))

from_zero : (r s t : List ℕ) (z : ℤ) → lt_z z (pos 0) ≡ false → s ≡ r → t ≡ s ++ decimal (nat_abs z) → t ≡ r ++ signed_decimal z
from_zero r s t (pos n) h p q = q ∙ ap (λ (x : List ℕ). x ++ decimal n) p
from_zero r s t (negsuc n) h p q = absurd (grind (arith, h))

pub returns-clause-value : goal.returns-clause-value
returns-clause-value c =
    let z = c.args.z in
    let e = to_z-of_z w64 z c.ranges.z in
    let digits = rw (rw e at c.unsigned_abs.ensures.value) at c.number.ensures.value in
    elim c.if-z-lt0.branch [
      | then-z-lt0 w ↦
          below c.args.self.now c.if-z-lt0.self c.number.new.self z (rw e at w.if-z-lt0.true) (w.self-is ∙ w.word.ensures.value) digits
      | else-z-lt0 w ↦ from_zero c.args.self.now c.if-z-lt0.self c.number.new.self z (rw e at w.if-z-lt0.false) w.self-is digits
    ]

pub returns-clause-upper_bound : goal.returns-clause-upper_bound
returns-clause-upper_bound c =
    elim c.if-z-lt0.branch [
      | then-z-lt0 w ↦ omega (arith, rw w.self-is at c.number.ensures.upper_bound, w.word.ensures.size)
      | else-z-lt0 w ↦ omega (arith, rw w.self-is at c.number.ensures.upper_bound)
    ]

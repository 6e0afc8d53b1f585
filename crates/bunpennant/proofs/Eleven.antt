-- No node call answers C with 11: the words' codes are others, and no refusal has that number.
-- Assumes nothing.
use mathlib.Core.Path.{◌≡◌, refl, ap, ◌∙◌}
use native.Mathlib.Omega.{arith}
use Rattle.refusal.specs.Answer.{Answer, value, refused}
use Rattle.rules.specs.declared.Handled.{Handled as Word}
use Rattle.rules.specs.declared.Handled.TheVariants.{Updated as updated, Passed as passed, Created as created, Waiting as waiting, Added as added}
use Rattle.rules.specs.Rules.{call_of}
use Rattle.rules.proofs.Numbers.{eleven_withdrawn}
use Rattle.bunpennant.specs.C.{code_of}
use Rattle.bunpennant.specs.Promises.{CodesWithoutEleven}

pub codes_without_eleven : CodesWithoutEleven
codes_without_eleven t n c e = go (call_of t n c).reply.answer refl e
  where
    go : (a : Answer Word) → (call_of t n c).reply.answer ≡ a → code_of a ≡ 11 → ⊥
    go (value updated) h k = omega arith
    go (value passed) h k = omega arith
    go (value created) h k = omega arith
    go (value waiting) h k = omega arith
    go (value added) h k = omega arith
    go (refused m) h k = eleven_withdrawn t n c (h ∙ ap refused k)

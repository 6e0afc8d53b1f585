-- A corrected packet, as C is told of it: the number of the answer, and the copy. The new field stands in the copy.
use Rattle.std.specs.Prelude.{ℕ, List}
use Rattle.refusal.specs.Answer.{refusal_in}
use Rattle.correction.specs.Correct.{Corrected}
use Rattle.bunpennant.specs.C.{Told, told}

abbrev pub told_corrected : Corrected → Told (List ℕ)
told_corrected c = told (refusal_in c.answer) c.copy

-- What correcting leaves.
use Rattle.std.specs.Prelude.{ℕ, List, ℤ, Result}
use Rattle.refusal.specs.Refusal.{answer_of}
use Rattle.refusal.specs.declared.Refusal.{Refusal}
use Rattle.correction.specs.Correct.{Corrected}

-- what was answered, and the copy that was left
abbrev pub corrected_left : Result ℤ Refusal → List ℕ → Corrected
corrected_left r copy = record { answer = answer_of r; copy = copy }

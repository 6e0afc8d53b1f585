-- What was written and the size told of it, as one answer to C.
-- Assumes nothing.
use Prim.Native.Nat.{ℕ}
use mathlib.Core.Path.{◌≡◌, refl, ap, ◌∙◌}
use mathlib.Core.List.{List}
use Rattle.std.specs.Prelude.{Result, Ok, Err}
use Rattle.refusal.specs.Refusal.{answer_of}
use Rattle.refusal.specs.declared.Refusal.{Refusal}
use Rattle.refusal.specs.Written.{Write, written}
use Rattle.bunpennant.specs.C.{told, tell, sized, sized_of}

pub sized-told :
    (y : Result ℕ Refusal) (out : List ℕ) (old r n : ℕ) (w : Write)
    → written y out ≡ w
    → told r n ≡ tell old (answer_of y)
    → sized r out n ≡ sized_of old w
sized-told y out old r n w e f = (λ i. sized (f i).answer out (f i).place) ∙ by y ∙ ap (sized_of old) e
  where
    by : (y : Result ℕ Refusal) → sized (tell old (answer_of y)).answer out (tell old (answer_of y)).place ≡ sized_of old (written y out)
    by (Ok m) = refl
    by (Err e) = refl

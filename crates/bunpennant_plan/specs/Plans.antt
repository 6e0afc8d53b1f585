-- struct rtm_pads, in four words: 0 the Sync's pad, 1 the Follow_Up's, 2 S, 3 whether there is a Follow_Up.
use Rattle.std.specs.Prelude.{ℕ, Bool, cond, List, [], ◌∷◌}
use Rattle.std.specs.Int.{w64}
use Rattle.std.proofs.Common.{of_z}
use Rattle.refusal.specs.Answer.{Answer, value, and_then}
use Rattle.hops.specs.declared.End.{End}
use Rattle.bunpennant.specs.C.{Told, tell}

abbrev pub flag : Bool → ℕ
flag b = cond b 1 0

abbrev pub pad_words : End → List ℕ
pad_words e = of_z w64 e.sync_pad ∷ of_z w64 e.follow_up_pad ∷ flag e.two_step ∷ flag e.exists ∷ []

-- what a plan tells C: a refusal leaves the struct as it came
abbrev pub plan_told : List ℕ → Answer End → Told (List ℕ)
plan_told old p = tell old (and_then p (λ e. value (pad_words e)))

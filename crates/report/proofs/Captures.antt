-- A report on octets is one on a capture, and is that on the events which it recorded.
-- Assumes nothing.
use Prim.Native.Nat.{ℕ}
use mathlib.Core.Path.{◌≡◌, refl}
use mathlib.Core.Bool.{Bool, true, false, not}
use mathlib.Core.List.{List, map}
use Rattle.refusal.specs.Answer.{value, refuse, and_then}
use Rattle.refusal.proofs.Answers.{not_both, same_value}
use Rattle.capture.specs.Layout.{bodies_in, is_capture}
use Rattle.report.specs.declared.Report.{Report}
use Rattle.report.specs.Events.{event_in}
use Rattle.report.specs.Report.{report_of, report_on}

pub reported : (s : List ℕ) (r : Report) → report_on s ≡ value r → (is_capture s ≡ true) × (report_of (map event_in (bodies_in s)) ≡ r)
reported s r e = go (is_capture s) e
  where
    go :
        (d : Bool)
        → and_then (refuse 26 (not d) (value (map event_in (bodies_in s)))) (λ es. value (report_of es)) ≡ value r
        → (d ≡ true) × (report_of (map event_in (bodies_in s)) ≡ r)
    go true f = (refl, same_value f)
    go false f = absurd (not_both f)

-- The sums of all hops, closed, are the plan; and where they are refused the plan is.
-- Assumes nothing.
use Prim.Native.Nat.{ℕ, ◌≤◌}
use mathlib.Core.Path.{◌≡◌, refl, sym, ap, ◌∙◌}
use mathlib.Core.Bool.{Bool, true, false, not}
use mathlib.Core.List.{List, [], ◌∷◌}
use lib.Dec.{leb}
use lib.ListN.{length}
use borrow.Author.Tests.{le-ltb}
use Rattle.std.proofs.lemmas.Grind.{common_steps}
use Rattle.refusal.specs.Answer.{Answer, value, refused, refuse, and_then}
use Rattle.residence.specs.Residence.{limit}
use Rattle.hops.specs.declared.Hop.{Hop}
use Rattle.hops.specs.declared.Start.{Start}
use Rattle.hops.specs.declared.End.{End}
use Rattle.hops.specs.Plan.{is_mode, end_of, checked, plan_of}
use Rattle.planner.specs.declared.sums.Sums.{Sums}
use Rattle.planner.specs.Sums.{sums_in, checked_sums, end_by}

abbrev closed : Start → Sums → Answer End
closed start s = value (end_by s.one_step s.two_step s.creates start)

checked_then : {A B : Type 0} (hs : List Hop) (a : A) (next : A → Answer B) → and_then (checked hs (value a)) next ≡ checked hs (next a)
checked_then [] a next = refl
checked_then (h ∷ hs) a next = go (not (is_mode h.mode)) (leb limit h.residence) (checked_then hs a next)
  where
    go :
        (p q : Bool) → and_then (checked hs (value a)) next ≡ checked hs (next a)
        → and_then (refuse 29 p (refuse 10 q (checked hs (value a)))) next ≡ refuse 29 p (refuse 10 q (checked hs (next a)))
    go true q e = refl
    go false true e = refl
    go false false e = e

plan_by_sums : (hs : List Hop) (start : Start) → length hs ≤ 255 → plan_of hs start ≡ and_then (checked_sums hs) (closed start)
plan_by_sums hs start l =
    ap (λ b. refuse 28 b (checked hs (value (end_of hs start)))) (le-ltb 255 (length hs) l)
    ∙ sym (checked_then hs (sums_in hs) (closed start))

pub plan_closed :
    (hs : List Hop) (start : Start) (s : Sums) → length hs ≤ 255 → value s ≡ checked_sums hs
    → plan_of hs start ≡ value (end_by s.one_step s.two_step s.creates start)
plan_closed hs start s l e = plan_by_sums hs start l ∙ ap (λ a. and_then a (closed start)) (sym e)

pub plan_refused : (hs : List Hop) (start : Start) (n : ℕ) → length hs ≤ 255 → refused n ≡ checked_sums hs → plan_of hs start ≡ refused n
plan_refused hs start n l e = plan_by_sums hs start l ∙ ap (λ a. and_then a (closed start)) (sym e)

-- with what `grind` needs to see that a slice of all hops is these hops
pub ruleset plan_steps = (common_steps, plan_closed, plan_refused)

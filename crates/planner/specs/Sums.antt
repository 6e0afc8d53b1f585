-- The parts of the plan, in the code's order: the sums of no hops, made hop by hop, and closed.
use Rattle.std.specs.Prelude.{ℕ, ◌+◌, ◌<◌, ◌^◌, Bool, not, ◌||◌, List, ltb, leb, eqb, take}
use Rattle.refusal.specs.Answer.{Answer, value, refuse}
use Rattle.residence.specs.Residence.{limit}
use Rattle.scratch_pad.specs.Sum.{raised}
use Rattle.hops.specs.declared.Hop.{Hop}
use Rattle.hops.specs.declared.Start.{Start}
use Rattle.hops.specs.declared.End.{End}
use Rattle.hops.specs.Plan.{is_mode, residence_in, residences_in, any_in, follow_up_start, checked, plan_of}
use Rattle.planner.specs.declared.sums.Sums.{Sums}

-- no sum can overflow at the next hop
abbrev pub Small : Sums → Type 0
Small s = (s.one_step < 2 ^ 63) × (s.two_step < 2 ^ 63)

abbrev pub going : ℕ → ℕ → Bool → Sums
going a b c = record { one_step = a; two_step = b; creates = c }

abbrev pub hop_of : ℕ → ℕ → Hop
hop_of mode u = record { mode = mode; residence = u }

-- a good hop's residence goes to the sum of its mode
abbrev pub counted : Sums → Hop → Sums
counted s h = going (s.one_step + residence_in 1 h) (s.two_step + residence_in 2 h) (s.creates || eqb h.mode 2)

-- one hop more: 29, 10
abbrev pub step_of : Sums → Hop → Answer Sums
step_of s h = refuse 29 (not (is_mode h.mode)) (refuse 10 (leb limit h.residence) (value (counted s h)))

-- of all hops, or the refusal of the first bad one
abbrev pub sums_in : List Hop → Sums
sums_in hs = going (residences_in 1 hs) (residences_in 2 hs) (any_in 2 hs)

abbrev pub checked_sums : List Hop → Answer Sums
checked_sums hs = checked hs (value (sums_in hs))

abbrev pub end_by : ℕ → ℕ → Bool → Start → End
end_by one two creates s =
    record {
      sync_pad = raised s.sync_pad one;
      follow_up_pad = raised (follow_up_start s) two;
      two_step = s.two_step || creates;
      exists = s.two_step || creates;
    }

-- the first hops of an array: "28 for over 255 hops"
abbrev pub plan_first : List Hop → ℕ → Start → Answer End
plan_first hs n s = refuse 28 (ltb 255 n) (plan_of (take n hs) s)

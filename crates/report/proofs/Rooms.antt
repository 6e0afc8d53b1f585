-- A report on so many events, and the table beside it, have come to no more than `Room` says; so the sum of a capture fits.
-- Assumes nothing.
use Prim.Native.Nat.{ℕ, zero, suc, ◌+◌, ◌*◌, ◌<◌, ◌≤◌, ◌^◌}
use mathlib.Core.Path.{refl, subst}
use mathlib.Core.List.{List, [], ◌∷◌, map}
use native.Mathlib.Omega.{arith}
use lib.ListN.{length, get_or, set, replicate, length-map}
use Rattle.refusal.specs.Answer.{Answer, value, refused}
use Rattle.residence.specs.Residence.{limit, accepted_of}
use Rattle.records.specs.Slots.{Slots, zeros}
use Rattle.records.specs.Node.{table_answer, Event, tick, call, switchover, step, result, run}
use Rattle.image.specs.Layout.{sum}
use Rattle.rules.specs.declared.Handled.{Handled as Word}
use Rattle.rules.specs.declared.Handled.TheVariants.{Updated as updated, Passed as passed, Created as created, Waiting as waiting, Added as added}
use Rattle.rules.specs.Rules.{Call, rules}
use Rattle.rules.specs.Path.{units_of}
use Rattle.rules.proofs.Below.{step-Below, answer_below, own_below}
use Rattle.capture.specs.Layout.{count_in, bodies_in}
use Rattle.capture.proofs.Checking.{few_bodies}
use Rattle.capture.proofs.Exactness.{length_bodies}
use Rattle.report.specs.declared.Counts.{Counts}
use Rattle.report.specs.declared.Residences.{Residences}
use Rattle.report.specs.declared.Report.{Report}
use Rattle.report.specs.Events.{event_in}
use Rattle.report.specs.Report.{counting, residence_counted, with_answer, with_residence, with_result, report_from, nothing_yet}
use Rattle.report.specs.Promises.{total, SumFits}
use Rattle.report.specs.Room.{Room}
use Rattle.report.proofs.Captures.{reported}

-- a list of counts: one of them is not above their sum, and one more in one place is one more of it at most
pub at_most : (ns : List ℕ) (n : ℕ) → get_or ns n 0 ≤ sum ns
at_most [] n = omega arith
at_most (x ∷ ns) zero = omega arith
at_most (x ∷ ns) (suc n) = omega (arith, at_most ns n)

set_more : (ns : List ℕ) (n : ℕ) → sum (set ns n (get_or ns n 0 + 1)) ≤ sum ns + 1
set_more [] n = omega arith
set_more (x ∷ ns) zero = omega arith
set_more (x ∷ ns) (suc n) = omega (arith, set_more ns n)

-- what an answer adds to the counts, and a stay to the sum
counts_more : (c : Counts) (a : Answer Word) → total (with_answer c a) ≤ total c + 1
counts_more c (value updated) = omega arith
counts_more c (value passed) = omega arith
counts_more c (value created) = omega arith
counts_more c (value waiting) = omega arith
counts_more c (value added) = omega arith
counts_more c (refused n) = omega (arith, set_more c.refused n)

residence_more :
    (s : Residences) (a : Answer Word) (own kept : ℕ)
    → own < limit
    → kept < limit
    → (with_residence s (residence_counted a own kept)).sum ≤ s.sum + limit
residence_more s (value updated) own kept h k = omega arith
residence_more s (value passed) own kept h k = omega arith
residence_more s (value created) own kept h k = omega arith
residence_more s (value waiting) own kept h k = omega arith
residence_more s (value added) own kept h k = omega arith
residence_more s (refused n) own kept h k = omega arith

-- ---- the room at the start, with more events, and after one

pub room_first : Room 0 nothing_yet (replicate 16 zeros)
room_first = record { counts = omega arith; sum = omega arith; below = refl }

pub room_more : (j k : ℕ) (r : Report) (t : Slots) → Room j r t → j ≤ k → Room k r t
room_more j k r t h l = record { counts = omega (arith, h.counts); sum = omega (arith, h.sum); below = h.below }

pub room_on :
    (k : ℕ) (r : Report) (t : Slots) (e : Event Call)
    → Room k r t
    → Room (k + 1) (with_result r (result counting t e)) (step rules t e)
room_on k r t tick h = record { counts = omega (arith, h.counts); sum = omega (arith, h.sum); below = step-Below t tick h.below }
room_on k r t (call c) h =
    let table = table_answer (rules.request c) t in
    let a = (rules.reply c table).answer in
    record {
      counts = omega (arith, h.counts, counts_more r.counts a);
      sum = omega (
        arith,
        h.sum,
        residence_more r.residences a (units_of (accepted_of c.residence)) (units_of table) (own_below c.residence)
            (answer_below (rules.request c) t h.below),
      );
      below = step-Below t (call c) h.below;
    }
room_on k r t switchover h =
    record { counts = omega (arith, h.counts); sum = omega (arith, h.sum); below = step-Below t switchover h.below }

-- ---- so the sum of a capture, which has at most 256 events, fits

room_from :
    (es : List (Event Call)) (k : ℕ) (r : Report) (t : Slots)
    → Room k r t
    → (report_from r (run counting t es)).residences.sum ≤ (k + length es) * limit
room_from [] k r t h = omega (arith, h.sum)
room_from (e ∷ es) k r t h =
    omega (arith, room_from es (k + 1) (with_result r (result counting t e)) (step counting t e) (room_on k r t e h))

pub sum_fits : SumFits
sum_fits s r e =
    let h = reported s r e in
    let bs = bodies_in s in
    subst (λ (x : Report). x.residences.sum < 2 ^ 64) h.1
    (omega (
      arith,
      room_from (map event_in bs) 0 nothing_yet (replicate 16 zeros) room_first,
      length-map bs event_in,
      length_bodies s 0 (count_in s),
      few_bodies s h.0,
    ))

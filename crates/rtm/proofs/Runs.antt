-- Runs of calls with stamps, event by event; and the residence that they give, as a node takes it.
-- Assumes nothing.
use Prim.Native.Nat.{ℕ, zero, suc, ◌+◌}
use mathlib.Core.Path.{◌≡◌, refl, ap, ◌∙◌}
use mathlib.Core.List.Permᴰ
use mathlib.Core.List.{List, [], ◌∷◌, ◌++◌, map}
use mathlib.Core.Logic.{◌⊎◌, inl, inr}
use native.Mathlib.Omega.{arith}
use lib.IntN.{pos, ◌+ℤ◌}
use lib.ListN.{get_elem?}
use Rattle.refusal.specs.Answer.{Answer, value, refused}
use Rattle.residence.specs.Residence.{Residence}
use Rattle.std.specs.Prelude.{Ok, Err}
use Rattle.residence.specs.declared.ResidenceError.TheVariants.{InvalidStamp, TooLong}
use Rattle.residence.specs.Residence.{residence_answer, accepted_of}
use Rattle.stamp.specs.declared.stamps.Stamps.{Stamps}
use Rattle.stamp.specs.Stamps.{residence_of}
use Rattle.stamp.proofs.Given.{refusals, keeps_promise}
use Rattle.records.specs.Slots.{Slots}
use Rattle.records.specs.Node.{Lawful, Event, tick, call, switchover, Result, result, step, run, final}
use Rattle.records.specs.Number.{number_step, final_number}
use Rattle.records.proofs.Orders.{order_free}
use Rattle.rules.specs.Change.{pad_of}
use Rattle.rules.specs.Rules.{Reply, rules}
use Rattle.rules.specs.Path.{units_of, units_in, residences}
use Rattle.rules.proofs.Laws.{lawful}
use Rattle.rules.proofs.Serves.{keeps_slots, number_serves, orders_serve}
use Rattle.rules.proofs.Numbers.{eleven_withdrawn}
use Rattle.rules.proofs.PathSums.{path_sum, delay_path_sum}
use Rattle.rtm.specs.Stamped.{residence_by, stamped_residence, StampedCall, handed, handed_event, stamped, SameRun, StampedOrderDoesNotMatter, StampedNumberInService, StampedNumberOrderFree, StampedElevenWithdrawn}
use Rattle.rtm.specs.Stamped.{StampedStop, as_stop, stamps_in, first_stamps, total, units, StampedPathSum, StampedDelayPathSum}

-- a residence is the one of its answer
by_answer : (r : Residence) → r ≡ residence_by (residence_answer r)
by_answer (Ok u) = refl
by_answer (Err InvalidStamp) = refl
by_answer (Err TooLong) = refl

pub same_residence : (r : Residence) (a : Answer ℕ) → residence_answer r ≡ a → r ≡ residence_by a
same_residence r a e = by_answer r ∙ ap residence_by e

-- and says what the stamps give, so that a node accepts just that
says : (s : Stamps) → residence_answer (stamped_residence s) ≡ residence_of s
says s = go (residence_of s) refl
  where
    either : (n : ℕ) → (n ≡ 9) ⊎ (n ≡ 10) → residence_answer (residence_by (refused n)) ≡ refused n
    either n (inl e) = rw e
    either n (inr e) = rw e

    go : (a : Answer ℕ) → residence_of s ≡ a → residence_answer (residence_by a) ≡ a
    go (value u) e = refl
    go (refused n) e = either n (refusals s n e)

pub accepted_is : (s : Stamps) → accepted_of (stamped_residence s) ≡ residence_of s
accepted_is s = keeps_promise s (stamped_residence s) (says s) ∙ says s

runs : (t : Slots) (es : List (Event StampedCall)) → run stamped t es ≡ run rules t (map handed_event es)
runs t [] = refl
runs t (tick ∷ es) = ap (λ (l : List (Result Reply)). result rules t tick ∷ l) (runs (step rules t tick) es)
runs t (call c ∷ es) = ap (λ (l : List (Result Reply)). result rules t (call (handed c)) ∷ l) (runs (step rules t (call (handed c))) es)
runs t (switchover ∷ es) = ap (λ (l : List (Result Reply)). result rules t switchover ∷ l) (runs (step rules t switchover) es)

finals : (t : Slots) (es : List (Event StampedCall)) → final stamped t es ≡ final rules t (map handed_event es)
finals t [] = refl
finals t (tick ∷ es) = finals (step rules t tick) es
finals t (call c ∷ es) = finals (step rules t (call (handed c))) es
finals t (switchover ∷ es) = finals (step rules t switchover) es

final_numbers : (t : Slots) (n : ℕ) (es : List (Event StampedCall)) → final_number stamped t n es ≡ final_number rules t n (map handed_event es)
final_numbers t n [] = refl
final_numbers t n (tick ∷ es) = final_numbers (step rules t tick) (number_step rules t n tick) es
final_numbers t n (call c ∷ es) = final_numbers (step rules t (call (handed c))) (number_step rules t n (call (handed c))) es
final_numbers t n (switchover ∷ es) = final_numbers (step rules t switchover) (number_step rules t n switchover) es

pub same_run : SameRun
same_run t n es = (runs t es, finals t es, final_numbers t n es)

stamped-Lawful : Lawful stamped
stamped-Lawful = record { own = λ c. lawful.own (handed c); want = λ c. lawful.want (handed c); kept = lawful.kept }

pub stamped_order_does_not_matter : StampedOrderDoesNotMatter
stamped_order_does_not_matter = order_free stamped stamped-Lawful

pub stamped_number_in_service : StampedNumberInService
stamped_number_in_service = number_serves stamped keeps_slots

pub stamped_number_order_free : StampedNumberOrderFree
stamped_number_order_free = orders_serve stamped keeps_slots stamped-Lawful

pub stamped_eleven_withdrawn : StampedElevenWithdrawn
stamped_eleven_withdrawn t n c = eleven_withdrawn t n (handed c)

-- the residences of a path are those of the first message's stamps
pub total-append : (f : Stamps → ℕ) (ss rs : List Stamps) → total f (ss ++ rs) ≡ total f ss + total f rs
total-append f [] rs = omega arith
total-append f (s ∷ ss) rs = omega (arith, total-append f ss rs)

pub at_place : (es : List (Event StampedCall)) (k : ℕ) → units_in (get_elem? (map handed_event es) k) ≡ total units (stamps_in (get_elem? es k))
at_place [] k = refl
at_place (tick ∷ es) zero = refl
at_place (switchover ∷ es) zero = refl
at_place (call c ∷ es) zero = omega (arith, ap units_of (accepted_is c.stamps))
at_place (e ∷ es) (suc k) = at_place es k

along : (path : List StampedStop) → residences (map as_stop path) ≡ total units (first_stamps path)
along [] = refl
along (n ∷ ns) =
    omega (arith, at_place n.events n.first_place, along ns, total-append units (stamps_in (get_elem? n.events n.first_place)) (first_stamps ns))

pub stamped_path_sum : StampedPathSum
stamped_path_sum q s start last path first second e h u w f c d =
    path_sum q s start last (map as_stop path) first second e h u w f c d ∙ ap (λ (n : ℕ). pad_of start +ℤ first +ℤ pos n) (along path)

pub stamped_delay_path_sum : StampedDelayPathSum
stamped_delay_path_sum q request last response end path back e f h u w p v c d =
    delay_path_sum q request last response end (map as_stop path) (map as_stop back) e f h u w (Permᴰ.map as_stop p) v c d
    ∙ ap (λ (n : ℕ). pad_of request +ℤ pad_of response +ℤ pos n) (along path)

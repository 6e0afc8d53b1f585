-- The sum and the rounding can be met by a Delay_Req and its Delay_Resp with stamps of both formats: 1,500 ns at a one-step node with PTP
-- stamps and an NTP difference of 1 at a two-step node, and back in reverse.
-- Assumes nothing.
use Prim.Native.Nat.{◌+◌, ◌*◌, ◌<◌, ◌≤◌}
use mathlib.Core.Path.{◌≡◌, refl}
use mathlib.Core.List.{List, [], ◌∷◌, Permᴰ, map}
use mathlib.Core.Logic.{inl, inr}
use mathlib.Core.Option.{some}
use native.Mathlib.Omega.{arith}
use lib.IntN.{pos, ◌+ℤ◌}
use Rattle.stamp.specs.Rounding.{exact}
use Rattle.records.specs.Slots.{same, holds}
use Rattle.records.specs.Node.{tick, call}
use Rattle.rules.specs.Change.{pad_of}
use Rattle.rules.specs.declared.Handled.TheVariants.{Updated as updated, Passed as passed, Waiting as waiting, Added as added}
use Rattle.rules.specs.Rules.{one_step, two_step}
use Rattle.rules.specs.Path.{Unrefused, Apart, Every, of_delay, FirstWay, SecondWay}
use Rattle.rules.proofs.Samples.{new, spare, visit, unrefused, first_halves, apart}
use Rattle.rules.proofs.DelayExample.{mine, request, response}
use Rattle.rtm.specs.Stamped.{StampedCall, handed, StampedStop, as_stop, first_stamps, total, units}
use Rattle.rtm.proofs.Runs.{stamped_delay_path_sum}
use Rattle.rtm.proofs.RoundedPaths.{path_rounded_down}
use Rattle.rtm.proofs.ClocksExample.{nanoseconds, past_wrap, handed_in}

abbrev request_first : StampedCall
request_first = handed_in one_step (request (pos 0)) (nanoseconds 1500)

abbrev request_second : StampedCall
request_second = handed_in two_step (request (pos 98304000)) (past_wrap 0)

abbrev response_second : StampedCall
response_second = handed_in two_step (response (pos 0)) (nanoseconds 1000000000)

abbrev response_first : StampedCall
response_first = handed_in one_step (response (pos 15258)) (past_wrap 9)

abbrev first : StampedStop
first = record { mode = one_step; table = new; events = call request_first ∷ call response_first ∷ []; first_place = 0; second_place = some 1 }

abbrev second : StampedStop
second = record { mode = two_step; table = new; events = call request_second ∷ tick ∷ call response_second ∷ []; first_place = 0; second_place = some 2 }

abbrev path : List StampedStop
path = first ∷ second ∷ []

abbrev back : List StampedStop
back = second ∷ first ∷ []

there : FirstWay (request (pos 0)) (map as_stop path) (request (pos 98304000))
unfolding same holds
there =
    FirstWay.cross (visit (as_stop first) 0 (handed request_first) updated (request (pos 98304000)) spare refl refl refl)
    (FirstWay.cross (visit (as_stop second) 0 (handed request_second) waiting (request (pos 98304000)) spare refl refl refl) FirstWay.done)

returning : SecondWay (response (pos 0)) (map as_stop back) (response (pos 15258))
unfolding same holds
returning =
    SecondWay.cross 2 refl (visit (as_stop second) 2 (handed response_second) added (response (pos 15258)) spare refl refl refl)
    (SecondWay.cross 1 refl (visit (as_stop first) 1 (handed response_first) passed (response (pos 15258)) spare refl refl refl) SecondWay.done)

all_apart : Every (Apart mine) (map as_stop path)
unfolding same holds
all_apart = (
  apart mine (as_stop first) refl (λ e. inl refl, (λ e. inr refl, tt)),
  (apart mine (as_stop second) refl (λ e. inl refl, (tt, (λ e. inr refl, tt))), tt),
)

reversed : Permᴰ back path
reversed = Permᴰ.swap {a = second} {b = first} {a' = first} {b' = second} refl refl

none_refused : Every Unrefused (map as_stop path)
unfolding same holds
none_refused = (unrefused (as_stop first) refl refl, (unrefused (as_stop second) refl refl, tt))

-- the sum, and its numbers: 98,304,000 + 15,258 = 0 + 0 + (98,304,000 + 15,258)
sum :
    pad_of (request (pos 98304000)) +ℤ pad_of (response (pos 15258))
    ≡ pad_of (request (pos 0)) +ℤ pad_of (response (pos 0)) +ℤ pos (total units (first_stamps path))
sum =
    stamped_delay_path_sum mine (request (pos 0)) (request (pos 98304000)) (response (pos 0)) (response (pos 15258)) path back refl refl all_apart
    none_refused there reversed returning refl refl

in_numbers : pos 98304000 +ℤ pos 15258 ≡ pos 0 +ℤ pos 0 +ℤ pos 98319258
in_numbers = sum

-- the rounding: 51,712 65,536ths of a unit below, which is less than one unit
rounded :
    (total units (first_stamps path) * 65536 ≤ total exact (first_stamps path))
    × (total exact (first_stamps path) < (total units (first_stamps path) + 1) * 65536)
rounded =
    path_rounded_down mine (request (pos 0)) (request (pos 98304000)) path 1 of_delay
    (first_halves (map as_stop path) none_refused) there refl (omega arith)

exactly : total exact (first_stamps path) ≡ total units (first_stamps path) * 65536 + 51712
exactly = refl

-- What remains true when calls are refused, for a Delay_Req and its Delay_Resp: a one-step node, a node that is full, one at which the
-- Delay_Resp is late, and one at which it is in time; the Delay_Resp comes back in reverse.
-- Assumes nothing.
use Prim.Native.Nat.{ℕ, ◌*◌}
use mathlib.Core.Path.{◌≡◌, refl}
use mathlib.Core.List.Permᴰ
use mathlib.Core.List.{List, [], ◌∷◌, Permᴰ, map}
use mathlib.Core.Logic.{inr}
use mathlib.Core.Option.{some}
use native.Mathlib.Omega.{arith}
use lib.IntN.{pos, ◌+ℤ◌}
use Rattle.refusal.specs.Answer.{refused}
use Rattle.records.specs.Slots.{same, holds}
use Rattle.image.specs.Image.{sound, differ}
use Rattle.rules.specs.Change.{pad_of}
use Rattle.rules.specs.Rules.{Mode, one_step, two_step, Call, updated, passed, waiting, added}
use Rattle.rules.specs.Path.{Stop, second_answer, Apart, Every, FirstWay, SecondWay, residences}
use Rattle.rules.specs.Credited.{credits, Cost}
use Rattle.rules.proofs.PathSums.{delay_credited_sum, delay_lost_where_refused}
use Rattle.rules.proofs.Samples.{new, records_from, stayed, spare, handed_in, answers_of, said, refused_with, visit, refusing, ticks_between, apart_between}
use Rattle.rules.proofs.DelayExample.{mine, request, response}

abbrev asking : Mode → ℕ → ℕ → Call
asking m pad n = handed_in m (request (pos pad)) (stayed n)

abbrev answering : Mode → ℕ → Call
answering m pad = handed_in m (response (pos pad)) (stayed 9)

abbrev first : Stop
first = ticks_between 1 one_step new (asking one_step 0 1500) (answering one_step 3276800)

abbrev full : Stop
full = ticks_between 1 two_step (records_from 16 300) (asking two_step 98304000 200) (answering two_step 3276800)

abbrev late : Stop
late = ticks_between 3 two_step new (asking two_step 98304000 70) (answering two_step 3276800)

abbrev in_time : Stop
in_time = ticks_between 2 two_step new (asking two_step 98304000 50) (answering two_step 0)

abbrev path : List Stop
path = first ∷ full ∷ late ∷ in_time ∷ []

abbrev back : List Stop
back = in_time ∷ late ∷ full ∷ first ∷ []

they_answer : map answers_of path ≡ (said updated, said passed) ∷ (refused_with 14, refused_with 15) ∷ (said waiting, refused_with 15) ∷ (said waiting, said added) ∷ []
unfolding same holds sound differ
they_answer = refl

all_apart : Every (Apart mine) path
unfolding same holds sound differ
all_apart = (
  apart_between mine 1 one_step new (asking one_step 0 1500) (answering one_step 3276800) refl,
  (
    apart_between mine 1 two_step (records_from 16 300) (asking two_step 98304000 200) (answering two_step 3276800) refl,
    (
      apart_between mine 3 two_step new (asking two_step 98304000 70) (answering two_step 3276800) refl,
      (apart_between mine 2 two_step new (asking two_step 98304000 50) (answering two_step 0) refl, tt),
    ),
  ),
)

there : FirstWay (request (pos 0)) path (request (pos 98304000))
unfolding same holds sound differ
there =
    FirstWay.cross (visit first 0 (asking one_step 0 1500) updated (request (pos 98304000)) spare refl refl refl)
    (FirstWay.cross (refusing full 0 (asking two_step 98304000 200) 14 refl refl refl)
    (FirstWay.cross (visit late 0 (asking two_step 98304000 70) waiting (request (pos 98304000)) spare refl refl refl)
    (FirstWay.cross (visit in_time 0 (asking two_step 98304000 50) waiting (request (pos 98304000)) spare refl refl refl) FirstWay.done)))

returning : SecondWay (response (pos 0)) back (response (pos 3276800))
unfolding same holds sound differ
returning =
    SecondWay.cross 3 refl (visit in_time 3 (answering two_step 0) added (response (pos 3276800)) spare refl refl refl)
    (SecondWay.cross 4 refl (refusing late 4 (answering two_step 3276800) 15 refl refl refl)
    (SecondWay.cross 2 refl (refusing full 2 (answering two_step 3276800) 15 refl refl refl)
    (SecondWay.cross 2 refl (visit first 2 (answering one_step 3276800) passed (response (pos 3276800)) spare refl refl refl) SecondWay.done)))

reversed : Permᴰ back path
reversed = Permᴰ.reverse path

-- the two pads grow by 1,500 and 50 ns: 200 and 70 ns are on neither
sum : pad_of (request (pos 98304000)) +ℤ pad_of (response (pos 3276800)) ≡ pad_of (request (pos 0)) +ℤ pad_of (response (pos 0)) +ℤ pos (credits path)
sum =
    delay_credited_sum mine (request (pos 0)) (request (pos 98304000)) (response (pos 0)) (response (pos 3276800)) path back refl refl all_apart there
    reversed returning refl refl

counted : (credits path ≡ 1550 * 65536) × (residences path ≡ 1820 * 65536)
unfolding same holds sound differ
counted = (refl, refl)

lost : Every (Cost mine) path
lost =
    delay_lost_where_refused mine (request (pos 0)) (request (pos 98304000)) (response (pos 0)) (response (pos 3276800)) path back refl refl all_apart
    there reversed returning

-- at the third node three ticks lie between, and the Delay_Resp has missed the Delay_Req
too_late : second_answer late ≡ some (refused 15)
unfolding same holds sound differ
too_late = (lost.1.1.0.second_where 4 refl refl).1 (inr (inr (omega arith)))

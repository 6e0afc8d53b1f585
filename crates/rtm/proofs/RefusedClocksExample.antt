-- What remains true when calls with stamps are refused. A Sync with S clear: updated with PTP stamps, refused for an invalid one, created with
-- NTP stamps, and a Follow_Up that is late at the last node. A Delay_Req that is refused where its stamps are 5 s apart.
-- Assumes nothing.
use Prim.Native.Nat.{◌+◌}
use mathlib.Core.Path.{◌≡◌, refl}
use mathlib.Core.Bool.{true, false, ◌||◌}
use mathlib.Core.List.Permᴰ
use mathlib.Core.List.{List, [], ◌∷◌, map}
use mathlib.Core.Logic.{inl, inr}
use mathlib.Core.Option.{none, some}
use lib.IntN.{pos, ◌+ℤ◌}
use Rattle.stamp.specs.declared.stamps.Stamps.{Stamps}
use Rattle.stamp.specs.declared.stamps.Stamps.TheVariants.{Ptp}
use Rattle.records.specs.Slots.{same, holds}
use Rattle.records.specs.Node.{tick, call}
use Rattle.rules.specs.Change.{pad_of}
use Rattle.rules.specs.declared.Handled.TheVariants.{Updated as updated, Created as created, Waiting as waiting, Added as added}
use Rattle.rules.specs.Rules.{sync, kind_of, two_step}
use Rattle.rules.specs.Path.{Apart, Every, FirstWay, SecondWay, FollowUps, born}
use Rattle.rules.specs.Credited.{some_created}
use Rattle.rules.proofs.Samples.{new, spare, answers_of, said, refused_with, after, visit, refusing, apart}
use Rattle.rules.proofs.PathExample.{mine, a_sync, a_follow_up}
use Rattle.rules.proofs.DelayExample as delay
use Rattle.rtm.specs.Stamped.{StampedCall, handed, StampedStop, as_stop, first_stamps, total, units}
use Rattle.rtm.specs.Credited.{credited_stamps}
use Rattle.rtm.proofs.CreditedPaths.{stamped_credited_sum, stamped_delay_credited_sum}
use Rattle.rtm.proofs.ClocksExample.{nanoseconds, past_wrap, handed_in, sync_first, sync_second, sync_third, first, second, left}

-- ---- a Sync and its Follow_Up

-- the path of ClocksExample, with a node between its first two whose stamp is invalid, and another last one, at which the Follow_Up is late
abbrev bad_stamp : StampedCall
bad_stamp = handed_in two_step (a_sync false 98304000) (nanoseconds 1000000000)

abbrev refused_there : StampedStop
refused_there = record { mode = two_step; table = new; events = call bad_stamp ∷ []; first_place = 0; second_place = none }

abbrev follow_up_late : StampedCall
follow_up_late = handed_in two_step (a_follow_up 15258) (nanoseconds 9)

abbrev late : StampedStop
late = record { mode = two_step; table = new; events = call sync_third ∷ tick ∷ tick ∷ tick ∷ call follow_up_late ∷ []; first_place = 0; second_place = some 4 }

abbrev path : List StampedStop
path = first ∷ refused_there ∷ second ∷ late ∷ []

they_answer :
    map answers_of (map as_stop path) ≡ (said updated, none) ∷ (refused_with 9, none) ∷ (said created, none) ∷ (said waiting, refused_with 15) ∷ []
unfolding same holds
they_answer = refl

sync_way : FirstWay (a_sync false 0) (map as_stop path) (a_sync true 98304000)
unfolding same holds
sync_way =
    FirstWay.cross (visit (as_stop first) 0 (handed sync_first) updated (a_sync false 98304000) spare refl refl refl)
    (FirstWay.cross (refusing (as_stop refused_there) 0 (handed bad_stamp) 9 refl refl refl)
    (FirstWay.cross (visit (as_stop second) 0 (handed sync_second) created (a_sync true 98304000) left refl refl refl)
    (FirstWay.cross (visit (as_stop late) 0 (handed sync_third) waiting (a_sync true 98304000) spare refl refl refl) FirstWay.done)))

follow_ups : FollowUps mine false (map as_stop path) (pos 0) (pad_of (a_follow_up 15258))
unfolding same holds
follow_ups =
    born (as_stop first ∷ as_stop refused_there ∷ []) (as_stop second) {r = after created (a_sync true 98304000) left} {last = a_follow_up 15258} (refl, (refl, tt))
    refl refl refl (Permᴰ.refl (as_stop late ∷ []))
    (SecondWay.cross 4 refl (refusing (as_stop late) 4 (handed follow_up_late) 15 refl refl refl) SecondWay.done)

all_apart : Every (Apart mine) (map as_stop path)
unfolding same holds
all_apart = (
  apart mine (as_stop first) refl (λ e. inl refl, tt),
  (
    apart mine (as_stop refused_there) refl (λ e. inl refl, tt),
    (
      apart mine (as_stop second) refl (λ e. inl refl, tt),
      (apart mine (as_stop late) refl (λ e. inl refl, (tt, (tt, (tt, (λ e. inr refl, tt))))), tt),
    ),
  ),
)

-- 98,304,000 + 15,258 on the two pads: 45,776 at the last node are on neither
sum :
    (pad_of (a_sync true 98304000) +ℤ pad_of (a_follow_up 15258) ≡ pad_of (a_sync false 0) +ℤ pos 0 +ℤ pos (total units (credited_stamps path)))
    × (kind_of (a_sync true 98304000) ≡ sync mine (false || some_created (map as_stop path)))
sum =
    stamped_credited_sum mine false (a_sync false 0) (a_sync true 98304000) path (pos 0) (pad_of (a_follow_up 15258)) refl all_apart sync_way follow_ups refl
    refl

counted :
    (total units (credited_stamps path) ≡ 98304000 + 15258) × (total units (first_stamps path) ≡ 98304000 + 15258 + 45776)
    × (some_created (map as_stop path) ≡ true)
unfolding same holds
counted = (refl, refl, refl)

-- ---- a Delay_Req and its Delay_Resp

abbrev five_seconds : Stamps
five_seconds = Ptp (record { seconds = 0; nanoseconds = 0 }) (record { seconds = 5; nanoseconds = 0 })

abbrev request_first : StampedCall
request_first = handed_in two_step (delay.request (pos 0)) five_seconds

abbrev request_second : StampedCall
request_second = handed_in two_step (delay.request (pos 0)) (past_wrap 0)

abbrev response_second : StampedCall
response_second = handed_in two_step (delay.response (pos 0)) (nanoseconds 9)

abbrev response_first : StampedCall
response_first = handed_in two_step (delay.response (pos 15258)) (nanoseconds 9)

abbrev refuser : StampedStop
refuser = record { mode = two_step; table = new; events = call request_first ∷ tick ∷ call response_first ∷ []; first_place = 0; second_place = some 2 }

abbrev keeper : StampedStop
keeper = record { mode = two_step; table = new; events = call request_second ∷ tick ∷ call response_second ∷ []; first_place = 0; second_place = some 2 }

abbrev delay_path : List StampedStop
delay_path = refuser ∷ keeper ∷ []

delay_answers : map answers_of (map as_stop delay_path) ≡ (refused_with 10, refused_with 15) ∷ (said waiting, said added) ∷ []
unfolding same holds
delay_answers = refl

delay_apart : Every (Apart delay.mine) (map as_stop delay_path)
unfolding same holds
delay_apart = (
  apart delay.mine (as_stop refuser) refl (λ e. inl refl, (tt, (λ e. inr refl, tt))),
  (apart delay.mine (as_stop keeper) refl (λ e. inl refl, (tt, (λ e. inr refl, tt))), tt),
)

there : FirstWay (delay.request (pos 0)) (map as_stop delay_path) (delay.request (pos 0))
unfolding same holds
there =
    FirstWay.cross (refusing (as_stop refuser) 0 (handed request_first) 10 refl refl refl)
    (FirstWay.cross (visit (as_stop keeper) 0 (handed request_second) waiting (delay.request (pos 0)) spare refl refl refl) FirstWay.done)

returning : SecondWay (delay.response (pos 0)) (map as_stop (keeper ∷ refuser ∷ [])) (delay.response (pos 15258))
unfolding same holds
returning =
    SecondWay.cross 2 refl (visit (as_stop keeper) 2 (handed response_second) added (delay.response (pos 15258)) spare refl refl refl)
    (SecondWay.cross 2 refl (refusing (as_stop refuser) 2 (handed response_first) 15 refl refl refl) SecondWay.done)

-- 15,258 on the Delay_Resp alone
delay_sum :
    pad_of (delay.request (pos 0)) +ℤ pad_of (delay.response (pos 15258))
    ≡ pad_of (delay.request (pos 0)) +ℤ pad_of (delay.response (pos 0)) +ℤ pos (total units (credited_stamps delay_path))
delay_sum =
    stamped_delay_credited_sum delay.mine (delay.request (pos 0)) (delay.request (pos 0)) (delay.response (pos 0)) (delay.response (pos 15258)) delay_path
    (keeper ∷ refuser ∷ []) refl refl delay_apart there (Permᴰ.reverse delay_path) returning refl refl

delay_counted : total units (credited_stamps delay_path) ≡ 15258
unfolding same holds
delay_counted = refl

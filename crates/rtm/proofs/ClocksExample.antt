-- Demand 3's sum and the rounding can be met by a path of clocks of both formats: 1,500 ns at a one-step node with PTP stamps, then NTP
-- differences of 1 and 3 at two two-step nodes. The residences are more than one unit below the exact ones, and less than two.
-- And the number of records that wait, at the last of them; and that no call there, with stamps of either format, is refused with 11.
-- Assumes nothing.
use Prim.Native.Nat.{ℕ, ◌+◌, ◌*◌, ◌<◌, ◌≤◌}
use mathlib.Core.Path.{◌≡◌, refl}
use mathlib.Core.Bool.{true, false}
use mathlib.Core.List.Permᴰ
use mathlib.Core.List.{List, [], ◌∷◌, ◌++◌, map}
use mathlib.Core.Logic.{inl, inr}
use mathlib.Core.Option.{none, some}
use native.Mathlib.Omega.{arith}
use lib.IntN.{pos, ◌+ℤ◌}
use lib.ListN.{replicate}
use Rattle.refusal.specs.Answer.{refused}
use Rattle.stamp.specs.declared.stamps.Stamps.{Stamps}
use Rattle.stamp.specs.declared.stamps.Stamps.TheVariants.{Ptp, Ntp}
use Rattle.stamp.specs.Rounding.{exact}
use Rattle.records.specs.Slots.{same, holds}
use Rattle.records.specs.Node.{tick, call}
use Rattle.records.specs.Number.{read_number, final_number}
use Rattle.rules.specs.Change.{pad_of}
use Rattle.rules.specs.declared.Handled.TheVariants.{Updated as updated, Created as created, Waiting as waiting, Added as added}
use Rattle.rules.specs.Rules.{Mode, one_step, two_step, call_of}
use Rattle.rules.specs.Path.{Unrefused, Apart, Every, of_sync, FirstWay, SecondWay, FollowUps, born}
use Rattle.rules.proofs.Samples.{new, octets_of, spare, after, visit, unrefused, first_halves, other, apart}
use Rattle.rules.proofs.PathExample.{mine, theirs, a_sync, a_follow_up}
use Rattle.rules.specs.Service as service
use Rattle.rtm.specs.Stamped.{StampedCall, handed, stamped, StampedStop, as_stop, first_stamps, total, units}
use Rattle.rtm.proofs.Runs.{stamped_path_sum, stamped_number_in_service, stamped_eleven_withdrawn}
use Rattle.rtm.proofs.RoundedPaths.{path_rounded_down}

-- stamps so many nanoseconds apart, and NTP stamps from the largest to 0 s n: n + 1 units of 2^-32 second
abbrev pub nanoseconds : ℕ → Stamps
nanoseconds n = Ptp (record { seconds = 0; nanoseconds = 0 }) (record { seconds = 0; nanoseconds = n })

abbrev pub past_wrap : ℕ → Stamps
past_wrap n = Ntp (record { seconds = 4294967295; fraction = 4294967295 }) (record { seconds = 0; fraction = n })

abbrev pub handed_in : Mode → List ℕ → Stamps → StampedCall
handed_in m s stamps = record { mode = m; message = s; stamps = stamps; output = spare }

-- the calls on the two
abbrev pub sync_first : StampedCall
sync_first = handed_in one_step (a_sync false 0) (nanoseconds 1500)

abbrev pub sync_second : StampedCall
sync_second = handed_in two_step (a_sync false 98304000) (past_wrap 0)

abbrev pub sync_third : StampedCall
sync_third = handed_in two_step (a_sync true 98304000) (past_wrap 2)

abbrev follow_up_third : StampedCall
follow_up_third = handed_in two_step (a_follow_up 15258) (nanoseconds 1000000000)

abbrev pub first : StampedStop
first = record { mode = one_step; table = new; events = call sync_first ∷ []; first_place = 0; second_place = none }

abbrev pub second : StampedStop
second = record { mode = two_step; table = new; events = call sync_second ∷ []; first_place = 0; second_place = none }

-- here calls have stamps of both formats
abbrev third : StampedStop
third =
    record {
      mode = two_step;
      table = new;
      events =
          call (handed_in one_step (octets_of theirs true 0 (pos 0)) (nanoseconds 9))
          ∷ call sync_third
          ∷ tick
          ∷ call (handed_in two_step (octets_of theirs true 0 (pos 0)) (past_wrap 9))
          ∷ call follow_up_third
          ∷ [];
      first_place = 1;
      second_place = some 4;
    }

abbrev path : List StampedStop
path = first ∷ second ∷ third ∷ []

-- the output that the second node leaves
abbrev pub left : List ℕ
left = a_follow_up 15258 ++ replicate 4 0

sync_way : FirstWay (a_sync false 0) (map as_stop path) (a_sync true 98304000)
unfolding same holds
sync_way =
    FirstWay.cross (visit (as_stop first) 0 (handed sync_first) updated (a_sync false 98304000) spare refl refl refl)
    (FirstWay.cross (visit (as_stop second) 0 (handed sync_second) created (a_sync true 98304000) left refl refl refl)
    (FirstWay.cross (visit (as_stop third) 1 (handed sync_third) waiting (a_sync true 98304000) spare refl refl refl) FirstWay.done))

follow_up_way : SecondWay (a_follow_up 15258) (as_stop third ∷ []) (a_follow_up 61034)
unfolding same holds
follow_up_way = SecondWay.cross 4 refl (visit (as_stop third) 4 (handed follow_up_third) added (a_follow_up 61034) spare refl refl refl) SecondWay.done

follow_ups : FollowUps mine false (map as_stop path) (pos 0) (pad_of (a_follow_up 61034))
unfolding same holds
follow_ups =
    born (as_stop first ∷ []) (as_stop second) {r = after created (a_sync true 98304000) left} {last = a_follow_up 61034} (refl, tt) refl refl refl
    (Permᴰ.cons refl Permᴰ.nil) follow_up_way

all_apart : Every (Apart mine) (map as_stop path)
unfolding same holds
all_apart = (
  apart mine (as_stop first) refl (λ e. inl refl, tt),
  (
    apart mine (as_stop second) refl (λ e. inl refl, tt),
    (apart mine (as_stop third) refl (other refl, (λ e. inl refl, (tt, (other refl, (λ e. inr refl, tt))))), tt),
  ),
)

none_refused : Every Unrefused (map as_stop path)
unfolding same holds
none_refused = (unrefused (as_stop first) refl refl, (unrefused (as_stop second) refl refl, (unrefused (as_stop third) refl refl, tt)))

-- the sum, and its numbers: 98,304,000 + 61,034 = 0 + 0 + (98,304,000 + 15,258 + 45,776)
sum : pad_of (a_sync true 98304000) +ℤ pad_of (a_follow_up 61034) ≡ pad_of (a_sync false 0) +ℤ pos 0 +ℤ pos (total units (first_stamps path))
sum =
    stamped_path_sum mine false (a_sync false 0) (a_sync true 98304000) path (pos 0) (pad_of (a_follow_up 61034)) refl all_apart none_refused sync_way
    follow_ups refl refl

residences : total units (first_stamps path) ≡ 98304000 + 15258 + 45776
residences = refl

in_numbers : pos 98304000 +ℤ pos 61034 ≡ pos 0 +ℤ pos 0 +ℤ pos 98365034
in_numbers = sum

-- the rounding, and its numbers: 75,776 below, which is more than 65,536 and less than twice that
rounded :
    (total units (first_stamps path) * 65536 ≤ total exact (first_stamps path))
    × (total exact (first_stamps path) < (total units (first_stamps path) + 2) * 65536)
rounded =
    path_rounded_down mine (a_sync false 0) (a_sync true 98304000) path 2 (of_sync false)
    (first_halves (map as_stop path) none_refused) sync_way refl (omega arith)

exactly : total exact (first_stamps path) ≡ total units (first_stamps path) * 65536 + 75776
exactly = refl

-- the number that the third node's table keeps at the end: the other Sync waits
keeps_one : (final_number stamped new 0 third.events ≡ 1) × (read_number (final_number stamped new 0 third.events) ≡ 1)
unfolding same holds
keeps_one = stamped_number_in_service new 0 third.events service.new

-- none of the calls is refused with 11, whatever the table and its number
never_eleven :
    ((call_of new 0 (handed sync_first)).reply.answer ≡ refused 11 → ⊥)
    × ((call_of new 255 (handed sync_second)).reply.answer ≡ refused 11 → ⊥)
never_eleven = (stamped_eleven_withdrawn new 0 sync_first, stamped_eleven_withdrawn new 255 sync_second)

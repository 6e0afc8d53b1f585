-- The packet over a path, where the Sync carries it and a node creates the Follow_Up: document 01's path of 1,500, 200 and 50 ns, and the same
-- with a node that refuses the Sync.
-- Assumes nothing.
use Prim.Native.Nat.{ℕ}
use mathlib.Core.Path.{◌≡◌, refl}
use mathlib.Core.Bool.{Bool, true, false}
use mathlib.Core.List.Permᴰ
use mathlib.Core.List.{List, [], ◌∷◌, ◌++◌}
use mathlib.Core.Logic.{inl}
use mathlib.Core.Option.{none}
use lib.IntN.{pos, ◌+ℤ◌}
use lib.ListN.{replicate}
use Rattle.refusal.specs.Answer.{value}
use Rattle.std.specs.Prelude.{Ok, Err}
use Rattle.residence.specs.declared.ResidenceError.TheVariants.{InvalidStamp}
use Rattle.records.specs.Slots.{same, holds}
use Rattle.records.specs.Node.{call}
use Rattle.image.specs.Image.{sound, differ}
use Rattle.egress.specs.Join.{shown_of}
use Rattle.rules.specs.Change.{pad_of}
use Rattle.rules.specs.declared.Handled.TheVariants.{Updated as updated, Created as created, Waiting as waiting, Added as added}
use Rattle.rules.specs.Rules.{Mode, one_step, two_step, Call}
use Rattle.rules.specs.Path.{Stop, Unrefused, Apart, Every, FirstWay, SecondWay, FollowUps, born, residences}
use Rattle.rules.specs.Credited.{credits}
use Rattle.rules.proofs.Samples.{new, stayed, spare, handed_in, after, visit, refusing, unrefused, apart, ticks_between, apart_between}
use Rattle.rules.proofs.PathExample.{mine}
use Rattle.correction.specs.Correct.{correct_of}
use Rattle.correction.specs.Path.{arrived, sent}
use Rattle.correction.proofs.Kept.{shown_as_sent}
use Rattle.correction.proofs.Paths.{path_corrected, credited_corrected}
use Rattle.correction.proofs.Samples.{sync_packet, field_in, carrying}

abbrev own : List ℕ
own = sync_packet (pos 98304)

abbrev a_sync : Bool → ℕ → List ℕ
a_sync s pad = carrying s 0 (pos pad) own

-- what the second node creates
abbrev a_follow_up : ℕ → List ℕ
a_follow_up pad = carrying true 8 (pos pad) []

abbrev sync_first : Call
sync_first = handed_in one_step (a_sync false 0) (stayed 1500)

abbrev sync_second : Call
sync_second = handed_in two_step (a_sync false 98304000) (stayed 200)

abbrev sync_third : Call
sync_third = handed_in two_step (a_sync true 98304000) (stayed 50)

abbrev follow_up_third : Call
follow_up_third = handed_in two_step (a_follow_up 13107200) (Err InvalidStamp)

abbrev alone : Mode → Call → Stop
alone m c = record { mode = m; table = new; events = call c ∷ []; first_place = 0; second_place = none }

abbrev first : Stop
first = alone one_step sync_first

abbrev second : Stop
second = alone two_step sync_second

abbrev third : Stop
third = ticks_between 1 two_step new sync_third follow_up_third

abbrev path : List Stop
path = first ∷ second ∷ third ∷ []

abbrev left : List ℕ
left = a_follow_up 13107200 ++ replicate 4 0

sync_way : FirstWay (a_sync false 0) path (a_sync true 98304000)
unfolding same holds sound differ
sync_way =
    FirstWay.cross (visit first 0 sync_first updated (a_sync false 98304000) spare refl refl refl)
    (FirstWay.cross (visit second 0 sync_second created (a_sync true 98304000) left refl refl refl)
    (FirstWay.cross (visit third 0 sync_third waiting (a_sync true 98304000) spare refl refl refl) FirstWay.done))

unfoldable way : FollowUps mine false path (pos 0) (pad_of (a_follow_up 16384000))
unfolding same holds sound differ
way =
    born (first ∷ []) second {r = after created (a_sync true 98304000) left} {last = a_follow_up 16384000} (refl, tt) refl refl refl
    (Permᴰ.cons refl Permᴰ.nil)
    (SecondWay.cross 2 refl (visit third 2 follow_up_third added (a_follow_up 16384000) spare refl refl refl) SecondWay.done)

all_apart : Every (Apart mine) path
unfolding same holds sound differ
all_apart = (
  apart mine first refl (λ e. inl refl, tt),
  (apart mine second refl (λ e. inl refl, tt), (apart_between mine 1 two_step new sync_third follow_up_third refl, tt)),
)

none_refused : Every Unrefused path
unfolding same holds sound differ
none_refused = (unrefused first refl refl, (unrefused second refl refl, (unrefused third refl refl, tt)))

-- the packet leaves with 98,304 + 114,688,000 in its correctionField, and with no other octet changed
corrected : correct_of (a_sync true 98304000) (arrived way) 2 own ≡ record { answer = value (pos 114786304); copy = sync_packet (pos 114786304) }
unfolding way
corrected = refl

seen : field_in (correct_of (a_sync true 98304000) (arrived way) 2 own).copy ≡ field_in (sent (a_sync false 0) way) +ℤ (pad_of (a_sync false 0) +ℤ pos 0 +ℤ pos (residences path))
unfolding way
seen =
    path_corrected mine false (a_sync false 0) (a_sync true 98304000) path (pos 0) (pad_of (a_follow_up 16384000)) 2 own (pos 114786304)
    refl all_apart none_refused sync_way way refl refl

-- in numbers
in_numbers : pos 114786304 ≡ pos 98304 +ℤ (pos 0 +ℤ pos 0 +ℤ pos 114688000)
unfolding way
in_numbers = seen

-- the packet shown is the Sync's, as it was sent
as_sent : shown_of (a_sync true 98304000) (arrived way) ≡ own
unfolding way
as_sent = shown_as_sent mine false (a_sync false 0) (a_sync true 98304000) path (pos 0) (pad_of (a_follow_up 16384000)) (pos 114688000) refl sync_way way refl

-- ---- the same with a two-step node before the one that creates, which refuses the Sync with 9

abbrev sync_bad : Call
sync_bad = handed_in two_step (a_sync false 98304000) (Err InvalidStamp)

abbrev bad : Stop
bad = alone two_step sync_bad

abbrev longer : List Stop
longer = first ∷ bad ∷ second ∷ third ∷ []

longer_sync_way : FirstWay (a_sync false 0) longer (a_sync true 98304000)
unfolding same holds sound differ
longer_sync_way =
    FirstWay.cross (visit first 0 sync_first updated (a_sync false 98304000) spare refl refl refl)
    (FirstWay.cross (refusing bad 0 sync_bad 9 refl refl refl)
    (FirstWay.cross (visit second 0 sync_second created (a_sync true 98304000) left refl refl refl)
    (FirstWay.cross (visit third 0 sync_third waiting (a_sync true 98304000) spare refl refl refl) FirstWay.done)))

unfoldable longer_way : FollowUps mine false longer (pos 0) (pad_of (a_follow_up 16384000))
unfolding same holds sound differ
longer_way =
    born (first ∷ bad ∷ []) second {r = after created (a_sync true 98304000) left} {last = a_follow_up 16384000} (refl, (refl, tt)) refl refl refl
    (Permᴰ.cons refl Permᴰ.nil)
    (SecondWay.cross 2 refl (visit third 2 follow_up_third added (a_follow_up 16384000) spare refl refl refl) SecondWay.done)

longer-Apart : Every (Apart mine) longer
unfolding same holds sound differ
longer-Apart = (all_apart.0, (apart mine bad refl (λ e. inl refl, tt), all_apart.1))

longer_seen : pos 114786304 ≡ pos 98304 +ℤ (pos 0 +ℤ pos 0 +ℤ pos (credits longer))
unfolding longer_way
longer_seen =
    credited_corrected mine false (a_sync false 0) (a_sync true 98304000) longer (pos 0) (pad_of (a_follow_up 16384000)) 2 own (pos 114786304)
    refl longer-Apart longer_sync_way longer_way refl refl

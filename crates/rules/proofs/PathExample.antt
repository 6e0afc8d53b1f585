-- The first half of demand 3 can be met: document 01's path of 1,500, 200 and 50 ns, with other calls, refused ones too, ticks,
-- switchovers, rubbish and doubled records at its nodes.
-- Assumes nothing.
use Prim.Native.Nat.{ℕ, ◌*◌}
use mathlib.Core.Path.{◌≡◌, refl}
use mathlib.Core.Bool.{Bool, true, false}
use mathlib.Core.List.Permᴰ
use mathlib.Core.List.{List, [], ◌∷◌, ◌++◌}
use mathlib.Core.Logic.{inl, inr}
use mathlib.Core.Option.{none, some}
use native.Mathlib.Omega.{arith}
use lib.IntN.{pos, ◌+ℤ◌}
use lib.ListN.{take, drop, replicate, get_elem?}
use Rattle.refusal.specs.Answer.{Answer, value, refused}
use Rattle.std.specs.Prelude.{Ok, Err}
use Rattle.residence.specs.declared.ResidenceError.TheVariants.{InvalidStamp}
use Rattle.records.specs.declared.Identity.{Identity}
use Rattle.records.specs.Slots.{Slots, same, holds, zeros, lowest}
use Rattle.records.specs.Node.{tick, call, switchover, Result, told, replied, taken_over, run, final}
use Rattle.image.specs.Image.{sound, differ}
use Rattle.rules.specs.Change.{pad_of}
use Rattle.rules.specs.Rules.{one_step, two_step, Call, Word, add_to_pad, updated, passed, created, waiting, added, rules}
use Rattle.rules.specs.Path.{Stop, Unrefused, Apart, Every, FirstWay, SecondWay, FollowUps, born, residences}
use Rattle.rules.specs.Demand3.{Waiting}
use Rattle.rules.proofs.Laws.{added_in_time}
use Rattle.rules.proofs.PathSums.{path_sum}
use Rattle.rules.proofs.Samples.{numbered, octets_of, stayed, spare, handed_in, record_of, answers, after, visit, unrefused, waits, other, apart}

-- the Sync's identity, and two others
abbrev pub mine : Identity
mine = numbered 258

abbrev pub theirs : Identity
theirs = numbered 259

abbrev another : Identity
another = numbered 260

-- the Sync by its S and pad, and the Follow_Up by its pad
abbrev pub a_sync : Bool → ℕ → List ℕ
a_sync s pad = octets_of mine s 0 (pos pad)

abbrev pub a_follow_up : ℕ → List ℕ
a_follow_up pad = octets_of mine true 8 (pos pad)

-- messages with that very port and sequence that have another identity or none: a Delay_Req, others of PTPTypes 2 and 4, and a Sync of
-- Version 1
abbrev of_type : ℕ → List ℕ
of_type k = octets_of mine false k (pos 5)

abbrev of_version_one : List ℕ
of_version_one = 0x11 ∷ drop 1 (a_sync true 0)

-- the first and the second node's table: rubbish with the Sync's identity in an empty slot, two records of one other identity, a wait
-- of 255; it cannot be written
abbrev slots : Slots
slots = record_of mine 0 ∷ record_of theirs 1 ∷ record_of theirs 255 ∷ replicate 13 zeros

-- the third node's: records of two other identities, and rubbish with the Sync's between them
abbrev spread : Slots
spread = record_of theirs 2 ∷ record_of mine 0 ∷ record_of another 3 ∷ replicate 13 zeros

-- the calls on the two
abbrev sync_first : Call
sync_first = handed_in one_step (a_sync false 0) (stayed 1500)

abbrev sync_second : Call
sync_second = handed_in two_step (a_sync false 98304000) (stayed 200)

abbrev sync_third : Call
sync_third = handed_in two_step (a_sync true 98304000) (stayed 50)

abbrev follow_up_third : Call
follow_up_third = handed_in two_step (a_follow_up 13107200) (Err InvalidStamp)

abbrev first : Stop
first =
    record {
      mode = one_step;
      table = slots;
      events =
          switchover
          ∷ call (handed_in two_step (octets_of theirs true 0 (pos 0)) (stayed 9))
          ∷ tick
          ∷ call (handed_in one_step of_version_one (stayed 9))
          ∷ call sync_first
          ∷ call (handed_in one_step (of_type 1) (stayed 9))
          ∷ tick
          ∷ [];
      first_place = 4;
      second_place = none;
    }

abbrev second : Stop
second =
    record {
      mode = two_step;
      table = slots;
      events =
          call (handed_in two_step (of_type 1) (stayed 9))
          ∷ call (handed_in two_step (octets_of another true 0 (pos 0)) (Err InvalidStamp))
          ∷ call sync_second
          ∷ call (handed_in two_step (octets_of theirs true 8 (pos 0)) (stayed 9))
          ∷ tick
          ∷ call (handed_in one_step (octets_of theirs true 8 (pos 0)) (stayed 9))
          ∷ [];
      first_place = 2;
      second_place = none;
    }

abbrev third : Stop
third =
    record {
      mode = two_step;
      table = spread;
      events =
          tick
          ∷ call (handed_in two_step of_version_one (stayed 9))
          ∷ call (handed_in two_step (of_type 4) (Err InvalidStamp))
          ∷ call sync_third
          ∷ tick
          ∷ switchover
          ∷ call (handed_in two_step (octets_of theirs true 8 (pos 0)) (stayed 9))
          ∷ tick
          ∷ call follow_up_third
          ∷ call (handed_in one_step (octets_of theirs true 0 (pos 0)) (stayed 9))
          ∷ tick
          ∷ switchover
          ∷ [];
      first_place = 3;
      second_place = some 8;
    }

abbrev pub path : List Stop
path = first ∷ second ∷ third ∷ []

-- what each node tells and answers
abbrev at : Stop → List (Result (Answer Word))
at n = answers (run rules n.table n.events)

at_first : at first ≡ taken_over ∷ replied (refused 13) ∷ told 1 ∷ replied (refused 4) ∷ replied (value updated) ∷ replied (value updated) ∷ told 0 ∷ []
unfolding same holds sound differ
at_first = refl

at_second : at second ≡ replied (value waiting) ∷ replied (refused 9) ∷ replied (value created) ∷ replied (value added) ∷ told 0 ∷ replied (value passed) ∷ []
unfolding same holds sound differ
at_second = refl

at-third :
    at third
    ≡ told 0 ∷ replied (refused 4) ∷ replied (value passed) ∷ replied (value waiting) ∷ told 1 ∷ taken_over ∷ replied (refused 15)
    ∷ told 1 ∷ replied (value added) ∷ replied (value updated) ∷ told 0 ∷ taken_over ∷ []
unfolding same holds sound differ
at-third = refl

-- the first switchover there moves the Sync's record from slot 1 to slot 0
slot_before : lowest (holds mine) (final rules spread (take 5 third.events)) ≡ 1
unfolding same holds sound differ
slot_before = refl

slot_behind : lowest (holds mine) (final rules spread (take 6 third.events)) ≡ 0
unfolding same holds sound differ
slot_behind = refl

-- the octets are document 01's, but for the sub-TLV's length: 16, as a neighbour writes it (W-202)
octets :
    a_sync false 0
    ≡ 0x10 ∷ 0x00 ∷ 0x00 ∷ 0x0F ∷ 0 ∷ 0 ∷ 0 ∷ 0 ∷ 0 ∷ 0 ∷ 0 ∷ 0 ∷ 0x00 ∷ 0x03 ∷ 0x00 ∷ 0x14 ∷ 0x00 ∷ 0x01 ∷ 0x00 ∷ 0x10 ∷ 0 ∷ 0 ∷ 0 ∷ 0
    ∷ 0x00 ∷ 0x01 ∷ 0x02 ∷ 0x03 ∷ 0x04 ∷ 0x05 ∷ 0x06 ∷ 0x07 ∷ 0x00 ∷ 0x01 ∷ 0x01 ∷ 0x02 ∷ []
octets = refl

-- the output that the second node leaves
abbrev left : List ℕ
left = a_follow_up 13107200 ++ replicate 4 0

pub sync_way : FirstWay (a_sync false 0) path (a_sync true 98304000)
unfolding same holds sound differ
sync_way =
    FirstWay.cross (visit first 4 sync_first updated (a_sync false 98304000) spare refl refl refl)
    (FirstWay.cross (visit second 2 sync_second created (a_sync true 98304000) left refl refl refl)
    (FirstWay.cross (visit third 3 sync_third waiting (a_sync true 98304000) spare refl refl refl) FirstWay.done))

pub follow_up_way : SecondWay (a_follow_up 13107200) (third ∷ []) (a_follow_up 16384000)
unfolding same holds sound differ
follow_up_way = SecondWay.cross 8 refl (visit third 8 follow_up_third added (a_follow_up 16384000) spare refl refl refl) SecondWay.done

unfoldable pub follow_ups : FollowUps mine false path (pos 0) (pad_of (a_follow_up 16384000))
unfolding same holds sound differ
follow_ups =
    born (first ∷ []) second {r = after created (a_sync true 98304000) left} {last = a_follow_up 16384000} (refl, tt) refl refl refl
    (Permᴰ.cons refl Permᴰ.nil) follow_up_way

third-Apart : Apart mine third
unfolding same holds sound differ
third-Apart =
    apart mine third refl
    (tt, (other refl, (other refl, (λ e. inl refl, (tt, (tt, (other refl, (tt, (λ e. inr refl, (other refl, (tt, (tt, tt))))))))))))

pub all_apart : Every (Apart mine) path
unfolding same holds sound differ
all_apart = (
  apart mine first refl (tt, (other refl, (tt, (other refl, (λ e. inl refl, (other refl, (tt, tt))))))),
  (
    apart mine second refl (other refl, (other refl, (λ e. inl refl, (other refl, (tt, (other refl, tt)))))),
    (third-Apart, tt),
  ),
)

pub none_refused : Every Unrefused path
unfolding same holds sound differ
none_refused = (unrefused first refl refl, (unrefused second refl refl, (unrefused third refl refl, tt)))

-- the theorem's equation for this path, and its numbers: 98,304,000 + 16,384,000 = 0 + 0 + 114,688,000
sum : pad_of (a_sync true 98304000) +ℤ pad_of (a_follow_up 16384000) ≡ pad_of (a_sync false 0) +ℤ pos 0 +ℤ pos (residences path)
sum = path_sum mine false (a_sync false 0) (a_sync true 98304000) path (pos 0) (pad_of (a_follow_up 16384000)) refl all_apart none_refused sync_way follow_ups refl refl

pads : (pad_of (a_sync true 98304000) ≡ pos 98304000) × (pad_of (a_follow_up 16384000) ≡ pos 16384000) × (pad_of (a_sync false 0) ≡ pos 0)
pads = (refl, refl, refl)

stays : (residences path ≡ 1750 * 65536) × (residences path ≡ 114688000)
stays = (refl, refl)

in_numbers : pos 98304000 +ℤ pos 16384000 ≡ pos 0 +ℤ pos 0 +ℤ pos 114688000
in_numbers = sum

-- at the third node the Follow_Up comes two ticks and a switchover after the Sync, in time
Waiting-third : Waiting spread third.events mine (50 * 65536) 3 8 follow_up_third
unfolding same holds sound differ
Waiting-third =
    waits mine third (50 * 65536) 3 8 sync_third follow_up_third third-Apart refl refl (omega arith) (refl, refl, refl, refl) refl (refl, refl, refl)

in_time : get_elem? (run rules spread third.events) 8 ≡ some (replied (add_to_pad follow_up_third added (50 * 65536)))
in_time = added_in_time spread third.events mine (50 * 65536) 3 8 follow_up_third Waiting-third (omega arith)

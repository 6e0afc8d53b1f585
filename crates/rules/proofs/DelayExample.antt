-- The first half of demand 3 can be met by a Delay_Req and its Delay_Resp: there over a one-step and two two-step nodes, 1,500, 200 and 50 ns,
-- and back in reverse. A Sync of the same port and sequence waits beside the Delay_Req at the second node, where a switchover takes both
-- records over, and at the third a record of one.
-- Assumes nothing.
use Prim.Native.Nat.{ℕ, ◌*◌}
use mathlib.Core.Path.{◌≡◌, refl}
use mathlib.Core.Bool.{true, false}
use mathlib.Core.List.{List, [], ◌∷◌, Permᴰ}
use mathlib.Core.Logic.{inl, inr}
use mathlib.Core.Option.{none, some}
use native.Mathlib.Omega.{arith}
use lib.IntN.{ℤ, pos, negsuc, ◌+ℤ◌}
use lib.ListN.{take, replicate, get_elem?}
use Rattle.refusal.specs.Answer.{value, refused}
use Rattle.std.specs.Prelude.{Ok, Err}
use Rattle.residence.specs.declared.ResidenceError.TheVariants.{InvalidStamp}
use Rattle.records.specs.declared.RecordKind.TheVariants.{Delay}
use Rattle.records.specs.declared.Identity.{Identity}
use Rattle.records.specs.Slots.{Slots, same, holds, zeros, find}
use Rattle.records.specs.Node.{Event, tick, call, switchover, told, replied, taken_over, run, final}
use Rattle.image.specs.Image.{sound, differ, image_of, handed_over}
use Rattle.rules.specs.Change.{pad_of}
use Rattle.rules.specs.Rules.{one_step, two_step, Call, as_it_came, add_to_pad, updated, passed, waiting, added, rules}
use Rattle.rules.specs.Path.{Stop, Unrefused, Apart, Every, FirstWay, SecondWay, residences}
use Rattle.rules.specs.Demand3.{Waiting}
use Rattle.rules.proofs.Laws.{added_in_time, gone_at_third_tick}
use Rattle.rules.proofs.PathSums.{delay_path_sum}
use Rattle.rules.proofs.Samples.{numbered, octets_of, stayed, spare, handed_in, record_of, answers, visit, unrefused, waits, other, apart}

abbrev pub mine : Identity
mine = record { kind = Delay; clock = 0x0001020304050607; port = 1; sequence = 258 }

-- the Delay_Req with S clear and the Delay_Resp with S set, by their pads; a Sync of that port and sequence, and its Follow_Up
abbrev pub request : ℤ → List ℕ
request pad = octets_of mine false 1 pad

abbrev pub response : ℤ → List ℕ
response pad = octets_of mine true 9 pad

abbrev a_sync : List ℕ
a_sync = octets_of mine true 0 (pos 0)

abbrev a_follow_up : List ℕ
a_follow_up = octets_of mine true 8 (pos 0)

-- the calls on the two
abbrev request_first : Call
request_first = handed_in one_step (request (negsuc 4)) (stayed 1500)

abbrev request_second : Call
request_second = handed_in two_step (request (pos 98303995)) (stayed 200)

abbrev request_third : Call
request_third = handed_in two_step (request (pos 98303995)) (stayed 50)

abbrev response_third : Call
response_third = handed_in two_step (response (pos 11)) (Err InvalidStamp)

abbrev response_second : Call
response_second = handed_in two_step (response (pos 3276811)) (Err InvalidStamp)

abbrev response_first : Call
response_first = handed_in one_step (response (pos 16384011)) (Err InvalidStamp)

abbrev first : Stop
first =
    record {
      mode = one_step;
      table = replicate 16 zeros;
      events = call request_first ∷ tick ∷ call response_first ∷ [];
      first_place = 0;
      second_place = some 2;
    }

abbrev second : Stop
second =
    record {
      mode = two_step;
      table = replicate 16 zeros;
      events =
          call (handed_in two_step a_sync (stayed 9))
          ∷ call request_second
          ∷ switchover
          ∷ tick
          ∷ call (handed_in two_step a_follow_up (Err InvalidStamp))
          ∷ call response_second
          ∷ switchover
          ∷ [];
      first_place = 1;
      second_place = some 5;
    }

abbrev third : Stop
third =
    record {
      mode = two_step;
      table = record_of (numbered 258) 2 ∷ replicate 15 zeros;
      events = call request_third ∷ tick ∷ tick ∷ call response_third ∷ call (handed_in two_step a_follow_up (Err InvalidStamp)) ∷ [];
      first_place = 0;
      second_place = some 3;
    }

abbrev path : List Stop
path = first ∷ second ∷ third ∷ []

abbrev back : List Stop
back = third ∷ second ∷ first ∷ []

-- what the two-step nodes tell and answer
at_second :
    answers (run rules second.table second.events)
    ≡ replied (value waiting) ∷ replied (value waiting) ∷ taken_over ∷ told 0 ∷ replied (value added) ∷ replied (value added) ∷ taken_over ∷ []
unfolding same holds sound differ
at_second = refl

at-third :
    answers (run rules third.table third.events)
    ≡ replied (value waiting) ∷ told 0 ∷ told 1 ∷ replied (value added) ∷ replied (refused 15) ∷ []
unfolding same holds sound differ
at-third = refl

-- at the first switchover of the second node both records wait: the image tells their kinds (document 02, W-211), and the card that takes
-- over has the same table
abbrev both : Slots
both = final rules second.table (take 2 second.events)

goes_over :
    (image_of both
    ≡ value
    (0xFF ∷ 0x02 ∷ 0x00 ∷ 0x06 ∷ 0x00 ∷ 0x1C
    ∷ 0x00 ∷ 0x00 ∷ 0x01 ∷ 0x02 ∷ 0x03 ∷ 0x04 ∷ 0x05 ∷ 0x06 ∷ 0x07 ∷ 0x00 ∷ 0x01 ∷ 0x01 ∷ 0x02
    ∷ 0x00 ∷ 0x00 ∷ 0x00 ∷ 0x00 ∷ 0x00 ∷ 0x09 ∷ 0x00 ∷ 0x00 ∷ 0x03
    ∷ 0x01 ∷ 0x00 ∷ 0x01 ∷ 0x02 ∷ 0x03 ∷ 0x04 ∷ 0x05 ∷ 0x06 ∷ 0x07 ∷ 0x00 ∷ 0x01 ∷ 0x01 ∷ 0x02
    ∷ 0x00 ∷ 0x00 ∷ 0x00 ∷ 0x00 ∷ 0x00 ∷ 0xC8 ∷ 0x00 ∷ 0x00 ∷ 0x03
    ∷ []))
    × (handed_over both ≡ value both)
unfolding same holds sound differ
goes_over = (refl, refl)

-- at the second one no record waits
goes_on : image_of (final rules second.table (take 6 second.events)) ≡ value (0xFF ∷ 0x00 ∷ [])
unfolding same holds sound differ
goes_on = refl

there : FirstWay (request (negsuc 4)) path (request (pos 98303995))
unfolding same holds sound differ
there =
    FirstWay.cross (visit first 0 request_first updated (request (pos 98303995)) spare refl refl refl)
    (FirstWay.cross (visit second 1 request_second waiting (request (pos 98303995)) spare refl refl refl)
    (FirstWay.cross (visit third 0 request_third waiting (request (pos 98303995)) spare refl refl refl) FirstWay.done))

returning : SecondWay (response (pos 11)) back (response (pos 16384011))
unfolding same holds sound differ
returning =
    SecondWay.cross 3 refl (visit third 3 response_third added (response (pos 3276811)) spare refl refl refl)
    (SecondWay.cross 5 refl (visit second 5 response_second added (response (pos 16384011)) spare refl refl refl)
    (SecondWay.cross 2 refl (visit first 2 response_first passed (response (pos 16384011)) spare refl refl refl) SecondWay.done))

reversed : Permᴰ back path
reversed =
    Permᴰ.trans (Permᴰ.swap {a = third} {b = second} {a' = second} {b' = third} refl refl)
    (Permᴰ.trans (Permᴰ.cons {a = second} {b = second} refl (Permᴰ.swap {a = third} {b = first} {a' = first} {b' = third} refl refl))
    (Permᴰ.swap {a = second} {b = first} {a' = first} {b' = second} refl refl))

third-Apart : Apart mine third
unfolding same holds sound differ
third-Apart = apart mine third refl (λ e. inl refl, (tt, (tt, (λ e. inr refl, (other refl, tt)))))

all_apart : Every (Apart mine) path
unfolding same holds sound differ
all_apart = (
  apart mine first refl (λ e. inl refl, (tt, (λ e. inr refl, tt))),
  (
    apart mine second refl (other refl, (λ e. inl refl, (tt, (tt, (other refl, (λ e. inr refl, (tt, tt))))))),
    (third-Apart, tt),
  ),
)

none_refused : Every Unrefused path
unfolding same holds sound differ
none_refused = (unrefused first refl refl, (unrefused second refl refl, (unrefused third refl refl, tt)))

-- 98,303,995 + 16,384,011 = -5 + 11 + 1,750 * 65,536
sum : pad_of (request (pos 98303995)) +ℤ pad_of (response (pos 16384011)) ≡ pad_of (request (negsuc 4)) +ℤ pad_of (response (pos 11)) +ℤ pos (residences path)
sum =
    delay_path_sum mine (request (negsuc 4)) (request (pos 98303995)) (response (pos 11)) (response (pos 16384011)) path back refl refl all_apart
    none_refused there reversed returning refl refl

in_numbers : pos 98303995 +ℤ pos 16384011 ≡ negsuc 4 +ℤ pos 11 +ℤ pos (1750 * 65536)
in_numbers = sum

-- at the third node the Delay_Resp comes two ticks after the Delay_Req, in time
Waiting-third : Waiting third.table third.events mine (50 * 65536) 0 3 response_third
unfolding same holds sound differ
Waiting-third =
    waits mine third (50 * 65536) 0 3 request_third response_third third-Apart refl refl (omega arith) (refl, refl, refl, refl) refl (refl, refl, refl)

in_time : get_elem? (run rules third.table third.events) 3 ≡ some (replied (add_to_pad response_third added (50 * 65536)))
in_time = added_in_time third.table third.events mine (50 * 65536) 0 3 response_third Waiting-third (omega arith)

-- and where it comes three ticks after, with a Sync of that port and sequence between, it is too late
abbrev too_late : List (Event Call)
too_late = call request_third ∷ tick ∷ tick ∷ call (handed_in two_step a_sync (stayed 9)) ∷ tick ∷ call response_third ∷ []

abbrev late : Stop
late = record { mode = two_step; table = replicate 16 zeros; events = too_late; first_place = 0; second_place = some 5 }

Waiting-late : Waiting late.table too_late mine (50 * 65536) 0 5 response_third
unfolding same holds sound differ
Waiting-late =
    waits mine late (50 * 65536) 0 5 request_third response_third
    (apart mine late refl (λ e. inl refl, (tt, (tt, (other refl, (tt, (λ e. inr refl, tt)))))))
    refl refl (omega arith) (refl, refl, refl, refl) refl (refl, refl, refl)

gone :
    (find mine (final rules late.table (take 5 too_late)) ≡ none)
    × (get_elem? (run rules late.table too_late) 5 ≡ some (replied (as_it_came response_third (refused 15))))
gone = gone_at_third_tick late.table too_late mine (50 * 65536) 0 5 response_third Waiting-late (omega arith)

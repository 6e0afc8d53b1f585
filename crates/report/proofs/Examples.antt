-- Reports worked: calls of every answer with a tick and a switchover among them, ticks alone, a stay of 0, a full pad, and captures.
-- Assumes nothing.
use Prim.Native.Nat.{ℕ, ◌≤◌, ◌<◌, ◌^◌}
use mathlib.Core.Path.{◌≡◌, refl, ap}
use mathlib.Core.Bool.{true, false}
use mathlib.Core.List.{List, [], ◌∷◌, ◌++◌}
use mathlib.Core.Option.{none, some}
use native.Mathlib.Omega.{arith}
use lib.IntN.{pos}
use lib.ListN.{get_or, replicate}
use Rattle.octets.specs.Octets.{octets}
use Rattle.refusal.specs.Answer.{value, refused}
use Rattle.residence.specs.Residence.{Residence}
use Rattle.std.specs.Prelude.{Ok, Err}
use Rattle.residence.specs.declared.ResidenceError.TheVariants.{InvalidStamp}
use Rattle.records.specs.Slots.{same, holds, zeros}
use Rattle.records.specs.Node.{table_answer, Event, tick, call, switchover, step, run}
use Rattle.image.specs.Image.{sound, differ}
use Rattle.image.specs.Layout.{sum}
use Rattle.rules.specs.Change.{with_two_step, follow_up_of}
use Rattle.rules.specs.declared.Handled.TheVariants.{Updated as updated, Created as created, Waiting as waiting, Added as added}
use Rattle.rules.specs.Rules.{Mode, one_step, two_step, Call, as_it_came, add_to_pad, rules}
use Rattle.rules.proofs.Samples.{numbered, octets_of, stayed, handed_in, after}
use Rattle.capture.specs.Layout.{start_of, body_at, is_body}
use Rattle.report.specs.declared.Range.TheVariants.{Absent, Between}
use Rattle.report.specs.declared.Report.{Report}
use Rattle.report.specs.Events.{lent_output, event_in}
use Rattle.report.specs.Report.{nothing_yet, report_of, report_on}
use Rattle.report.specs.Promises.{given_in, total, calls_in, residences_of, Spans, OnPad}
use Rattle.report.proofs.Counting.{eleven_never_counted, counts_of_run, counts_add_up, never_counted, nothing_to_report}
use Rattle.report.proofs.Rooms.{sum_fits}
use Rattle.report.proofs.Extremes.{least_and_greatest, least_first, sum_of_residences}
use Rattle.report.proofs.OnPads.{residences_on_pads}

-- ---- calls of every answer

-- a Sync with S set, and its second message, whose stamps are not looked at
abbrev first : Call
first = handed_in two_step (octets_of (numbered 258) true 0 (pos 0)) (stayed 1500)

abbrev second : Call
second = handed_in two_step (octets_of (numbered 258) true 8 (pos 0)) (Err InvalidStamp)

abbrev a_sync : Event Call
a_sync = call first

abbrev a_follow_up : Event Call
a_follow_up = call second

-- a Sync with S clear, of one mode or the other
abbrev clear : Mode → Residence → Call
clear m r = handed_in m (octets_of (numbered 259) false 0 (pos 0)) r

abbrev third : Call
third = clear two_step (stayed 200)

-- updated, waiting, refused with 13, added, refused with 15, created, passed, refused with 9
abbrev events : List (Event Call)
events =
    call (clear one_step (stayed 5))
    ∷ a_sync
    ∷ tick
    ∷ a_sync
    ∷ switchover
    ∷ a_follow_up
    ∷ a_follow_up
    ∷ call third
    ∷ call (handed_in one_step (octets_of (numbered 258) true 8 (pos 0)) (Err InvalidStamp))
    ∷ call (clear one_step (Err InvalidStamp))
    ∷ []

abbrev theirs : Report
theirs =
    record {
      counts =
          record {
            updated = 1;
            passed = 1;
            created = 1;
            waiting = 1;
            added = 1;
            refused = 0 ∷ 0 ∷ 0 ∷ 0 ∷ 0 ∷ 0 ∷ 0 ∷ 0 ∷ 0 ∷ 1 ∷ 0 ∷ 0 ∷ 0 ∷ 1 ∷ 0 ∷ 1 ∷ 0 ∷ [];
          };
      residences = record { range = Between 327680 98304000; sum = 111738880 };
    }

events_report : report_of events ≡ theirs
unfolding same holds sound differ
events_report = refl

-- the stay of 1,500 ns counts once, where it is added
events_residences : residences_of events ≡ 327680 ∷ 98304000 ∷ 13107200 ∷ []
unfolding same holds sound differ
events_residences = refl

events_calls : calls_in events ≡ 8
events_calls = refl

-- the theorems, for these: each left side is the count in the report
events-waiting : 1 ≡ given_in (value waiting) (run rules (replicate 16 zeros) events)
unfolding same holds sound differ
events-waiting = counts_of_run events (value waiting)

events-refused : 1 ≡ given_in (refused 13) (run rules (replicate 16 zeros) events)
unfolding same holds sound differ
events-refused = counts_of_run events (refused 13)

events_total : total theirs.counts ≡ 8
unfolding same holds sound differ
events_total = counts_add_up events

events_span : Spans (Between 327680 98304000) (327680 ∷ 98304000 ∷ 13107200 ∷ [])
unfolding same holds sound differ
events_span = least_and_greatest events

events_order : ◌≤◌ 327680 98304000
events_order = least_first events 327680 98304000 (ap (λ (r : Report). r.residences.range) events_report)

events-sum : 111738880 ≡ sum (residences_of events)
unfolding same holds sound differ
events-sum = sum_of_residences events

-- ---- what counts of a call is on a pad: the record's stay on that of the Follow_Up, and a call's own on that of its message or of the
-- Follow_Up which it creates, but not yet a stay that waits

on_second : OnPad second (add_to_pad second added 98304000) (some 98304000)
unfolding same holds
on_second = residences_on_pads second (table_answer (rules.request second) (step rules (replicate 16 zeros) a_sync))

on_updated : OnPad (clear one_step (stayed 5)) (add_to_pad (clear one_step (stayed 5)) updated 327680) (some 327680)
on_updated = residences_on_pads (clear one_step (stayed 5)) (value 0)

on_created : OnPad third (after created (with_two_step third.message) (follow_up_of third.message 13107200 ++ replicate 4 0)) (some 13107200)
on_created = residences_on_pads third (value 0)

on_waiting : OnPad first (as_it_came first (value waiting)) none
unfolding same holds
on_waiting = residences_on_pads first (table_answer (rules.request first) (replicate 16 zeros))

-- ---- ticks alone

ticks_alone : report_of (tick ∷ tick ∷ tick ∷ []) ≡ nothing_yet
ticks_alone = nothing_to_report (tick ∷ tick ∷ tick ∷ []) refl

none_span : Spans Absent []
none_span = least_and_greatest (tick ∷ [])

-- ---- a stay of 0 is a stay, and a sum of 0 need not be that of none

abbrev at_once : List (Event Call)
at_once = call (clear one_step (Ok 0)) ∷ []

at_once_lem : (residences_of at_once ≡ 0 ∷ []) × ((report_of at_once).residences ≡ record { range = Between 0 0; sum = 0 })
at_once_lem = (refl, refl)

at_once_there : (report_of at_once).residences.range ≡ Absent → ⊥
at_once_there e = let z : ◌≡◌ {A = ℕ} 0 1 = cc in omega arith

-- ---- the whole of a stay counts also where the pad stays at 2^63-1

abbrev on_full_pad : List (Event Call)
on_full_pad = call (handed_in one_step (octets_of (numbered 258) false 0 (pos 0x7fffffffffffffff)) (stayed 1500)) ∷ []

on_full_pad_lem : residences_of on_full_pad ≡ 98304000 ∷ []
on_full_pad_lem = refl

-- ---- 12 is counted of a call that is lent 35 octets, which no capture's is

abbrev lent_less : Call
lent_less = record { mode = two_step; message = octets_of (numbered 258) false 0 (pos 0); residence = stayed 5; output = replicate 35 0 }

lent_less_lem : get_or (report_of (call lent_less ∷ [])).counts.refused 12 0 ≡ 1
lent_less_lem = refl

-- but 11 of no call

lent_less_eleven : get_or (report_of (call lent_less ∷ on_full_pad)).counts.refused 11 0 ≡ 0
lent_less_eleven = eleven_never_counted (call lent_less ∷ on_full_pad)

-- ---- captures

-- one of no bodies, and strings that are none: too short for a count, and with an octet behind it that belongs to no body
no_bodies : report_on (0 ∷ 0 ∷ []) ≡ value nothing_yet
unfolding start_of body_at is_body event_in
no_bodies = refl

no_capture : report_on [] ≡ refused 26
unfolding start_of body_at is_body event_in
no_capture = refl

octet_behind : report_on (0 ∷ 0 ∷ 3 ∷ []) ≡ refused 26
unfolding start_of body_at is_body event_in
octet_behind = refl

-- a call on a message of 2,049 octets is refused with 2, and on one of 2,048, as it is, with what is wrong in it: with 3 for zeros
abbrev call_on : ℕ → List (Event Call)
call_on n = event_in (1 ∷ replicate 16 0 ++ replicate n 0) ∷ []

too_long : get_or (report_of (call_on 2049)).counts.refused 2 0 ≡ 1
unfolding event_in
too_long = refl

not_too_long : get_or (report_of (call_on 2048)).counts.refused 3 0 ≡ 1
unfolding event_in
not_too_long = refl

-- a one-step call on a Sync that stays 1,500 ns, a tick, and a two-step call on no octets
abbrev bodies : List ℕ
bodies =
    1 ∷ octets 4 7 ++ octets 4 100 ++ octets 4 7 ++ octets 4 1600 ++ octets_of (numbered 258) false 0 (pos 0)
    ++ (3 ∷ [])
    ++ (2 ∷ replicate 16 0)

abbrev captured : List ℕ
captured = octets 2 3 ++ octets 4 14 ++ octets 4 67 ++ octets 4 68 ++ bodies

abbrev report : Report
report =
    record {
      counts =
          record {
            updated = 1;
            passed = 0;
            created = 0;
            waiting = 0;
            added = 0;
            refused = 0 ∷ 1 ∷ replicate 15 0;
          };
      residences = record { range = Between 98304000 98304000; sum = 98304000 };
    }

captured-report : report_on captured ≡ value report
unfolding same holds start_of body_at is_body event_in lent_output
captured-report = refl

captured_never : (get_or report.counts.refused 0 0 ≡ 0) × (get_or report.counts.refused 11 0 ≡ 0) × (get_or report.counts.refused 12 0 ≡ 0)
captured_never = never_counted captured report captured-report

captured_fits : report.residences.sum < 2 ^ 64
captured_fits = sum_fits captured report captured-report

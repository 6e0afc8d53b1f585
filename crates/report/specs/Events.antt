-- The calls and ticks that a capture recorded (document 02, W-209), as document 01's node takes them.
use Rattle.std.specs.Prelude.{ℕ, ◌+◌, cond, not, List, map, eqb, drop, replicate}
use Rattle.octets.specs.Octets.{number}
use Rattle.refusal.specs.Answer.{Answer, value, refuse}
use Rattle.stamp.specs.declared.ptp.Stamp.{Stamp}
use Rattle.stamp.specs.declared.stamps.Stamps.{Stamps}
use Rattle.stamp.specs.declared.stamps.Stamps.TheVariants.{Ptp}
use Rattle.records.specs.Node.{Event, tick, call}
use Rattle.rules.specs.Rules.{Mode, one_step, two_step, Call}
use Rattle.rtm.specs.Stamped.{handed_call}
use Rattle.capture.specs.Layout.{body_kind, bodies_in, is_capture}

-- "entry stamp, exit stamp (8 octets each, document 01's format)"
abbrev pub stamp_at : List ℕ → ℕ → Stamp
stamp_at b i = record { seconds = number 4 b i; nanoseconds = number 4 b (i + 4) }

abbrev pub stamps_in : List ℕ → Stamps
stamps_in b = Ptp (stamp_at b 1) (stamp_at b 9)

-- "and message, perhaps empty"
abbrev pub message_in : List ℕ → List ℕ
message_in b = drop 17 b

-- "with an output of 36 octets for each call"
unfoldable pub lent_output : List ℕ
lent_output = replicate 36 0

abbrev pub call_in : Mode → List ℕ → Call
call_in m b = handed_call m (message_in b) lent_output (stamps_in b)

-- "A body starts with 1 (one-step), 2 (two-step) or 3 (tick, one octet in all)"
unfoldable pub event_in : List ℕ → Event Call
event_in b = cond (eqb (body_kind b) 3) tick (call (call_in (cond (eqb (body_kind b) 1) one_step two_step) b))

-- what was recorded, in its order; "26 for any other capture"
abbrev pub events_of : List ℕ → Answer (List (Event Call))
events_of s = refuse 26 (not (is_capture s)) (value (map event_in (bodies_in s)))

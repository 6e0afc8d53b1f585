-- The calls that the two functions make, in the terms of the rules.
use Rattle.std.specs.Prelude.{ℕ, Bool, false, List, ltb}
use Rattle.residence.specs.Residence.{Residence}
use Rattle.message.specs.declared.fields.Message.{Message}
use Rattle.message.specs.declared.fields.Message.TheVariants.{Plain, Ptp}
use Rattle.records.specs.Node.{table_answer}
use Rattle.words.specs.Words.{slots_of, number_of, words_after}
use Rattle.rules.specs.Rules.{Call, Kind, one_step, two_step, kind_of, request_by, call_by}
use Rattle.rules.specs.Path.{units_of}
use Rattle.node.specs.Answers.{DoneOn, ToldOn}

abbrev pub one_step_call : List ℕ → List ℕ → Residence → Call
one_step_call m o r = record { mode = one_step; message = m; residence = r; output = o }

-- what a one-step node tests of a message as read: types 2 to 4 with a PTPType above 3
abbrev pub passes : Message → Bool
passes (Plain h) = false
passes (Ptp h t) = ltb 3 t.ptp_type

abbrev pub two_step_call : List ℕ → List ℕ → Residence → Call
two_step_call m o r = record { mode = two_step; message = m; residence = r; output = o }

-- A call on the words of a table: what the rules say of the slots and the number in them, and every word afterwards
abbrev pub call_on_by : List ℕ → Call → Kind → DoneOn
call_on_by w c k = record { done = call_by (slots_of w) (number_of w) c k; words = words_after (request_by c.mode c.residence k) w }

abbrev pub call_on : List ℕ → Call → DoneOn
call_on w c = call_on_by w c (kind_of c.message)

-- and the residence that it collects: the table's answer to what the call asks for
abbrev pub tell_on_by : List ℕ → Call → Kind → ToldOn
tell_on_by w c k =
    record { done = call_on_by w c k; collected = units_of (table_answer (request_by c.mode c.residence k) (slots_of w)) }

abbrev pub tell_on : List ℕ → Call → ToldOn
tell_on w c = tell_on_by w c (kind_of c.message)

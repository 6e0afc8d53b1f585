-- What a node makes of a message, in the rules' terms, and where a created Follow_Up goes.
use Rattle.std.specs.Prelude.{ℕ, false, cond, Result, Ok, Err, ◌||◌, List, ◌++◌, ltb, length, drop}
use Rattle.refusal.specs.Refusal.{number_of}
use Rattle.refusal.specs.declared.Refusal.{Refusal}
use Rattle.rules.specs.Change.{follow_up_of}
use Rattle.rules.specs.Rules.{Kind, sync, timed, untimed, unreadable, first_of, second_of}
use Rattle.handling.specs.declared.kind.Handling.{Handling}
use Rattle.handling.specs.declared.kind.Handling.TheVariants.{Creates, Keeps, Gathers, Timed, Untimed}

abbrev pub kind_answer : Handling → Kind
kind_answer (Creates q) = sync q false
kind_answer (Keeps q) = first_of q.kind q
kind_answer (Gathers q) = second_of q.kind q
kind_answer Timed = timed
kind_answer Untimed = untimed

-- or the reader's refusal
abbrev pub kind_read : Result Handling Refusal → Kind
kind_read (Ok h) = kind_answer h
kind_read (Err e) = unreadable (number_of e)

-- an output with the Follow_Up of a Sync s at its start, where both have 36 octets; else it stays as it came
abbrev pub created_in : List ℕ → ℕ → List ℕ → List ℕ
created_in s u out = cond (ltb (length out) 36 || ltb (length s) 36) out (follow_up_of s u ++ drop 36 out)

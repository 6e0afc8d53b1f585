-- What an operation on a table in words comes to: what it answers, and what is left of the table, in words and in what they mean.
use Rattle.std.specs.Prelude.{ℕ, List, replicate}
use Rattle.refusal.specs.Answer.{Answer, value}
use Rattle.records.specs.Slots.{Slots, Outcome, zeros}
use Rattle.records.specs.Node.{Request}
use Rattle.records.specs.Number.{request_of, tick_of}
use Rattle.words.specs.Words.{slots_of, number_of, words_after, tick_words, filled_words}

-- the outcome as `records` has it, of slots and number, and every word afterwards, with what is reserved
pub record Left : Type 0 where
  pub outcome : Outcome
  pub words : List ℕ

abbrev pub left : Answer ℕ → List ℕ → Left
left a w = record { outcome = record { answer = a; slots = slots_of w; number = number_of w }; words = w }

-- a new table is all zeros: no records, and a number of 0; where nothing is answered 0 stands for the answer
abbrev pub new_on : Left
new_on = record { outcome = record { answer = value 0; slots = replicate 16 zeros; number = 0 }; words = replicate 64 0 }

-- what adding and collecting come to, and a tick: of slots and number, what document 01 says of any table
abbrev pub request_on : Request → List ℕ → Left
request_on r w = record { outcome = request_of r (slots_of w) (number_of w); words = words_after r w }

abbrev pub tick_on : List ℕ → Left
tick_on w = record { outcome = tick_of (slots_of w) (number_of w); words = tick_words w }

-- every slot and the number replaced
abbrev pub filled_on : Slots → ℕ → List ℕ → Left
filled_on t n w = record { outcome = record { answer = value 0; slots = t; number = n }; words = filled_words t n w }

-- The answers of a node, in document 01's words and numbers.
use Rattle.std.specs.Prelude.{ℕ, List, Result}
use Rattle.refusal.specs.Refusal.{answer_of}
use Rattle.refusal.specs.declared.Refusal.{Refusal}
use Rattle.records.specs.Slots.{Slots}
use Rattle.words.specs.Words.{slots_of, number_of}
use Rattle.rules.specs.declared.Handled.{Handled}
use Rattle.rules.specs.Rules as rules
use Rattle.node.specs.declared.answer.Done.{Done}
use Rattle.node.specs.declared.answer.Told.{Told}

-- what a node call answers
abbrev pub NodeAnswer : Type 0
NodeAnswer = Result Handled Refusal

-- the answer, with message and output afterwards
abbrev pub replied : NodeAnswer → List ℕ → List ℕ → rules.Reply
replied r m o = record { answer = answer_of r; message = m; output = o }

-- and with the table's words afterwards: every word, and what they mean
pub record DoneOn : Type 0 where
  pub done : rules.Done
  pub words : List ℕ

abbrev pub done_on : NodeAnswer → List ℕ → List ℕ → List ℕ → DoneOn
done_on r m o w = record { done = record { reply = replied r m o; slots = slots_of w; number = number_of w }; words = w }

-- the same with the table handed back
abbrev pub done : Done → List ℕ → List ℕ → DoneOn
done r m o = done_on r.answer m o r.table.words

-- or with the residence that the call collected from the table, 0 where it collected none
pub record ToldOn : Type 0 where
  pub done : DoneOn
  pub collected : ℕ

abbrev pub told_on : Told → List ℕ → List ℕ → List ℕ → ToldOn
told_on r m o w = record { done = done_on r.answer m o w; collected = r.collected }

-- a one-step call is lent no output and handed no table: whatever they are, they stay
abbrev pub done_alone : NodeAnswer → List ℕ → List ℕ → Slots → ℕ → rules.Done
done_alone r m o t n = record { reply = replied r m o; slots = t; number = n }

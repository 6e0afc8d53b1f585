-- What the report needs of a call that is made again: its answer, what it collected and the slots after it. Message and output afterwards
-- are not looked at.
use Rattle.std.specs.Prelude.{ℕ, List}
use Rattle.refusal.specs.Answer.{Answer}
use Rattle.refusal.specs.Refusal.{answer_of}
use Rattle.records.specs.Slots.{Slots}
use Rattle.records.specs.Node.{table_answer, call, step}
use Rattle.rules.specs.declared.Handled.{Handled as Word}
use Rattle.rules.specs.Rules.{Call, rules}
use Rattle.rules.specs.Path.{units_of}
use Rattle.words.specs.Words.{slots_of}
use Rattle.node.specs.declared.answer.Told.{Told}

pub record Made : Type 0 where
  pub answer : Answer Word
  pub collected : ℕ
  pub slots : Slots

-- by the rules, of a call that finds these slots
abbrev pub made_of : Slots → Call → Made
made_of t c =
    record {
      answer = (rules.reply c (table_answer (rules.request c) t)).answer;
      collected = units_of (table_answer (rules.request c) t);
      slots = step rules t (call c);
    }

-- by the code, with the words that it left
abbrev pub made : Told → List ℕ → Made
made r w = record { answer = answer_of r.answer; collected = r.collected; slots = slots_of w }

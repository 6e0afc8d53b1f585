-- What is written to a lent output (document 01, Writing and joining: "It tells the size written; octets beyond stay, as with
-- anything the library writes.").
use Rattle.std.specs.Prelude.{ℕ, List, Result}
use Rattle.refusal.specs.Answer.{Answer}
use Rattle.refusal.specs.Refusal.{answer_of}
use Rattle.refusal.specs.declared.Refusal.{Refusal}

-- the answer and the output afterwards
pub record Write : Type 0 where
  pub answer : Answer ℕ
  pub output : List ℕ

-- what was answered, with the output that was left
abbrev pub written : Result ℕ Refusal → List ℕ → Write
written r out = record { answer = answer_of r; output = out }

-- How a line of the test programs shows an answer.
use Rattle.std.specs.Prelude.{ℕ, List, Option, Some, Result, Ok, Err, codes}
use Rattle.refusal.specs.Refusal.{words_of}
use Rattle.refusal.specs.declared.Refusal.{Refusal}
use Rattle.rules.specs.declared.Handled.{Handled}
use Rattle.rules.specs.declared.Handled.TheVariants as handled

abbrev pub word_of : Handled → List ℕ
word_of handled.Updated = codes "updated"
word_of handled.Passed = codes "passed"
word_of handled.Created = codes "created"
word_of handled.Waiting = codes "waiting"
word_of handled.Added = codes "added"

-- what was answered, or the refusal's number
abbrev pub told_by : {A : Type 0} → (A → Option (List ℕ)) → Result A Refusal → Option (List ℕ)
told_by shown (Ok a) = shown a
told_by shown (Err e) = Some (words_of e)

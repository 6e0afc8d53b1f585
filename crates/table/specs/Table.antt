-- The table's operations: each gives its answer, in document 01's numbers, with the words afterwards and what they mean.
use Rattle.std.specs.Prelude.{ℕ, List}
use Rattle.refusal.specs.Answer.{Answer, value}
use Rattle.image.specs.Image.{load_of, load_into}
use Rattle.switchover.specs.Answers.{loading_answer}
use Rattle.words.specs.Words.{slots_of, number_of, loaded_words}
use Rattle.words.specs.Answers.{Left, left}
use Rattle.refusal.specs.Refusal.{answer_of}
use Rattle.lent.specs.Answers.{entry_answer}
use Rattle.table.specs.declared.Table.{Table}
use Rattle.table.specs.declared.Entered.{Entered}
use Rattle.table.specs.declared.Taken.{Taken}
use Rattle.table.specs.declared.Ticked.{Ticked}
use Rattle.table.specs.declared.Reloaded.{Reloaded}

-- what the methods hand back; a tick's answer is its count
abbrev pub handed_back : Answer ℕ → Table → Left
handed_back a t = left a t.words

abbrev pub entered : Entered → Left
entered r = handed_back (entry_answer r.answer) r.table

abbrev pub taken : Taken → Left
taken r = handed_back (answer_of r.answer) r.table

abbrev pub counted : Ticked → Left
counted r = handed_back (value r.emptied) r.table

abbrev pub reloaded : Reloaded → Left
reloaded r = handed_back (loading_answer r.answer) r.table

-- a new table; where nothing is answered 0 stands for the answer
abbrev pub made : Table → Left
made t = handed_back (value 0) t

-- loading an image
abbrev pub load_on : List ℕ → List ℕ → Left
load_on s w = record { outcome = load_into s (slots_of w) (number_of w); words = loaded_words w (load_of s) }

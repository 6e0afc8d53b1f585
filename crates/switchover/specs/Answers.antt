-- The loader's answers, in the papers' numbers.
use Rattle.std.specs.Prelude.{ℕ, Result, Ok, Err, take}
use Rattle.refusal.specs.Answer.{Answer, value, refused}
use Rattle.refusal.specs.Refusal.{number_of}
use Rattle.refusal.specs.declared.Refusal.{Refusal}
use Rattle.records.specs.Slots.{Slots, Outcome}
use Rattle.switchover.specs.declared.listing.Listing.{Listing}
use Rattle.switchover.specs.declared.loader.Loaded.{Loaded}

-- "loaded" says no number: 0
abbrev pub loading_answer : Result Unit Refusal → Answer ℕ
loading_answer (Ok u) = value 0
loading_answer (Err e) = refused (number_of e)

-- the records of an image, or why it holds none
abbrev pub records_read : Result Listing Refusal → Answer Slots
records_read (Ok l) = value (take l.count l.slots)
records_read (Err e) = refused (number_of e)

-- what was answered, with the slots and the number that were handed back
abbrev pub loaded : Loaded → Outcome
loaded r = record { answer = loading_answer r.answer; slots = r.slots; number = r.number }

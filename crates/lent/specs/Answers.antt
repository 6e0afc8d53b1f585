-- What a search finds, and what adding answers, in document 01's numbers.
use Rattle.std.specs.Prelude.{ℕ, Result, Option, None, Some}
use Rattle.refusal.specs.Answer.{Answer, value, and_then}
use Rattle.refusal.specs.Refusal.{answer_of}
use Rattle.refusal.specs.declared.Refusal.{Refusal}
use Rattle.lent.specs.declared.layout.Slot.{Slot}

-- the number of the slot that a search found, or 16, the number of slots, where it found none
abbrev pub place_of : Option Slot → ℕ
place_of None = 16
place_of (Some s) = s.number

-- "waiting" says no number: 0
abbrev pub entry_answer : Result Unit Refusal → Answer ℕ
entry_answer r = and_then (answer_of r) (λ _. value 0)

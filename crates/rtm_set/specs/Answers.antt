-- What the private functions answer of the entry at the front; and the answer that shows a part of what was lent, in document 01's numbers
-- and values.
use Rattle.std.specs.Prelude.{ℕ, cond, List, eqb, Option, Some, None, Result, Ok, Err}
use Rattle.std.specs.Borrow.{Bor}
use Rattle.refusal.specs.Answer.{Answer, value, refused}
use Rattle.refusal.specs.Refusal.{number_of}
use Rattle.refusal.specs.declared.Refusal.{Refusal}
use Rattle.rtm_set.specs.Entries.{front_size, is_entry}

-- the whole length of an entry of a known type
abbrev pub size_of : ℕ → Option ℕ
size_of t = cond (eqb t 1) (Some 8) (cond (eqb t 2) (Some 20) (cond (eqb t 3) (Some 12) None))

-- the size of the entry at the front, if there is one
abbrev pub front_of : List ℕ → Option ℕ
front_of s = cond (is_entry s) (Some (front_size s)) None

-- the octets of the part
abbrev pub shown_of : Result (Bor (List ℕ)) Refusal → Answer (List ℕ)
shown_of (Ok e) = value e.now
shown_of (Err e) = refused (number_of e)

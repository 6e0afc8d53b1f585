-- What an operation answers: a value, or one of the paper's refusal numbers alone.
use Rattle.std.specs.Prelude.{ℕ, Bool, true, false}

pub data Answer (A : Type 0) : Type 0 where
  value : A → Answer A
  refused : ℕ → Answer A

-- refusal n where the test holds, and otherwise what follows it in the order
abbrev pub refuse : {A : Type 0} → ℕ → Bool → Answer A → Answer A
refuse n true next = refused n
refuse n false next = next

-- an answer made of an earlier one, whose refusal stands
abbrev pub and_then : {A B : Type 0} → Answer A → (A → Answer B) → Answer B
and_then (value a) next = next a
and_then (refused n) next = refused n

-- the number of the refusal, and 0 where there is a value
abbrev pub refusal_in : {A : Type 0} → Answer A → ℕ
refusal_in (value a) = 0
refusal_in (refused n) = n

-- the answer of a test: the refusal alone
abbrev pub checked : {A : Type 0} → Answer A → Answer Unit
checked a = and_then a (λ _. value tt)

-- Laws of answers: an operation that gives a value gives one, and was refused by no test on the way; what the number of a refusal says; and
-- what holds of every number that an operation gives.
-- Assumes nothing.
use Prim.Native.Nat.{ℕ}
use mathlib.Core.Path.{◌≡◌, refl, ap}
use mathlib.Core.Bool.{Bool, true, false, cond}
use native.Mathlib.Omega.{arith}
use Rattle.refusal.specs.Answer.{Answer, value, refused, refuse, and_then, refusal_in}

module _ {A : Type 0} where
  pub not_both : {n : ℕ} {a : A} → refused n ≡ value a → ⊥
  not_both e = let z : ◌≡◌ {A = ℕ} 0 1 = cc in omega arith

  pub same_value : {a b : A} → value a ≡ value b → a ≡ b
  same_value e = cc

  pub passes : (n : ℕ) (t : Bool) (next : Answer A) (a : A) → refuse n t next ≡ value a → (t ≡ false) × (next ≡ value a)
  passes n true next a e = absurd (not_both e)
  passes n false next a e = (refl, e)

  -- a number that is not 0 is that of the refusal
  pub refused_by : (a : Answer A) (n : ℕ) → refusal_in a ≡ n → (n ≡ 0 → ⊥) → a ≡ refused n
  refused_by (value x) n e h = absurd (h (omega arith))
  refused_by (refused m) n e h = ap refused e

  -- the number that one test refuses with
  pub refusal_of : (n : ℕ) (t : Bool) (a : A) → refusal_in (refuse n t (value a)) ≡ cond t n 0
  refusal_of n true a = refl
  refusal_of n false a = refl

-- where an answer made of an earlier one is no refusal, the earlier one is none
pub then_passed : {A B : Type 0} (a : Answer A) (next : A → Answer B) → refusal_in (and_then a next) ≡ 0 → refusal_in a ≡ 0
then_passed (value x) next e = refl
then_passed (refused n) next e = e

-- and where only the earlier one can refuse, the number is its own
pub refusal_then : {A B : Type 0} (a : Answer A) (made : A → B) → refusal_in (and_then a (λ x. value (made x))) ≡ refusal_in a
refusal_then (value x) made = refl
refusal_then (refused n) made = refl

-- the number of a refusal, if it is one, has the property P
abbrev pub Numbered : {A : Type 0} → (ℕ → Type 0) → Answer A → Type 0
Numbered P (value a) = Unit {0}
Numbered P (refused n) = P n

module _ (P : ℕ → Type 0) where
  pub its_number : {A : Type 0} (a : Answer A) (n : ℕ) → Numbered P a → a ≡ refused n → P n
  its_number (value x) n h e = absurd (let z : ◌≡◌ {A = ℕ} 0 1 = cc in omega arith)
  its_number (refused m) n h e = let same : m ≡ n = cc in rw (← same) h

  pub numbered_by : {A : Type 0} (a : Answer A) → ((n : ℕ) → a ≡ refused n → P n) → Numbered P a
  numbered_by (value x) h = tt
  numbered_by (refused n) h = h n refl

  pub numbered_then : {A B : Type 0} (a : Answer A) (next : A → Answer B) → Numbered P a → ((x : A) → Numbered P (next x)) → Numbered P (and_then a next)
  numbered_then (value x) next h k = k x
  numbered_then (refused n) next h k = h

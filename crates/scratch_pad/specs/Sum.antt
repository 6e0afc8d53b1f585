-- Sums on the Scratch Pad (document 01: "The pad is an ordinary signed number over its whole range."; document 02, W-205, takes one
-- number out of it; refusal 11).
use Rattle.std.specs.Prelude.{◌≡◌, ℕ, ◌-◌, ◌^◌, Bool, false, cond, ◌||◌, ℤ, pos, negsuc, ◌+ℤ◌, nat_le}
use Rattle.refusal.specs.Answer.{Answer, value, refuse}

-- "IEEE 1588 gives a correctionField of 2^63-1 the meaning that the correction cannot be represented."
abbrev pub largest : ℤ
largest = pos (2 ^ 63 - 1)

-- "2^63-1 or more"
abbrev pub too_big : ℤ → Bool
too_big (pos n) = nat_le (2 ^ 63 - 1) n
too_big (negsuc n) = false

-- "a sum of 2^63-1 or more is written as 2^63-1"
abbrev pub held : ℤ → ℤ
held z = cond (too_big z) largest z

-- A pad and a residence. "a pad of 2^63-1 stays so under any addition", since no residence is below 0; for the same reason no such sum is
-- below -2^63 (W-210), and there is nothing to refuse. The residence is an ordinary number: 2^63-1 of it onto -5 is 2^63-6.
abbrev pub raised : ℤ → ℕ → ℤ
raised z u = held (z +ℤ pos u)

-- "a sum below -2^63": negsuc n is -n-1
abbrev pub too_low : ℤ → Bool
too_low (pos n) = false
too_low (negsuc n) = nat_le (2 ^ 63) n

-- Two pads: either of them at 2^63-1 "stays so under any addition, joining included", whatever the other; "11 stays only for a sum below
-- -2^63", and so for "two pads below 0" (W-210)
abbrev pub pad_sum : ℤ → ℤ → Answer ℤ
pad_sum z y = cond (too_big z || too_big y) (value largest) (refuse 11 (too_low (z +ℤ y)) (value (held (z +ℤ y))))

-- it does not matter which of the two is the first
abbrev pub SymmetricSum : Type 0
SymmetricSum = (z y : ℤ) → pad_sum z y ≡ pad_sum y z

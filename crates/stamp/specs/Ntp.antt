-- NTP stamps and the stay between them (document 02, W-203).
use Rattle.std.specs.Prelude.{ℕ, ◌+◌, ◌-◌, ◌*◌, ◌/◌, ◌%◌, ◌^◌, nat_le}
use Rattle.refusal.specs.Answer.{Answer, value, refuse}
use Rattle.stamp.specs.declared.ntp.Stamp.{Stamp}

-- "the NTP 64-bit format of RFC 8877": one number, in units of 2^-32 second
abbrev pub as_number : Stamp → ℕ
as_number t = t.seconds * 2 ^ 32 + t.fraction

-- "The difference of two stamps modulo 2^64, in units of 2^-32 second"
abbrev pub difference : Stamp → Stamp → ℕ
difference entry exit = (as_number exit + 2 ^ 64 - as_number entry) % 2 ^ 64

-- "is accepted below 2^34"
abbrev pub limit : ℕ
limit = 2 ^ 34

-- "the stay in pad units is that difference times 10^9 divided by 65,536, rounded down"
abbrev pub in_pad_units : ℕ → ℕ
in_pad_units d = d * 1000000000 / 65536

-- "10 for a larger difference; 9 never occurs here"
abbrev pub residence_of : Stamp → Stamp → Answer ℕ
residence_of entry exit = refuse 10 (nat_le limit (difference entry exit)) (value (in_pad_units (difference entry exit)))

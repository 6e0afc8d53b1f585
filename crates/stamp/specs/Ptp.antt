-- Stamps and the stay (document 01).
use Rattle.std.specs.Prelude.{ℕ, ◌+◌, ◌-◌, ◌*◌, ◌%◌, ◌^◌, ◌||◌, nat_lt}
use Rattle.refusal.specs.Answer.{Answer, value, refuse, and_then}
use Rattle.stamp.specs.declared.ptp.Stamp.{Stamp}

-- "Seconds pass from 4,294,967,295 to 0": their difference modulo 2^32
abbrev pub seconds_difference : ℕ → ℕ → ℕ
seconds_difference entry exit = (exit + 2 ^ 32 - entry) % 2 ^ 32

-- a stamp in nanoseconds
abbrev pub in_nanoseconds : Stamp → ℕ
in_nanoseconds t = t.seconds * 1000000000 + t.nanoseconds

-- 2^32 times 10^9, after which the stamps come again
abbrev pub cycle : ℕ
cycle = 2 ^ 32 * 1000000000

-- "The stay is the exit less the entry, in nanoseconds, modulo 2^32 times 10^9."
-- (Of stamps that refusal 9 lets through; each is below the cycle.)
abbrev pub elapsed : Stamp → Stamp → ℕ
elapsed entry exit = (in_nanoseconds exit + cycle - in_nanoseconds entry) % cycle

-- "It is accepted up to 3,999,999,999."
-- 9: a stamp's nanoseconds over 999,999,999; 10: stay over 3,999,999,999 ns
abbrev pub nanoseconds_of : Stamp → Stamp → Answer ℕ
nanoseconds_of entry exit =
    refuse 9 (nat_lt 999999999 entry.nanoseconds || nat_lt 999999999 exit.nanoseconds)
    (refuse 10 (nat_lt 3999999999 (elapsed entry exit))
    (value (elapsed entry exit)))

-- "Pad units are the stay times 65,536."
abbrev pub residence_of : Stamp → Stamp → Answer ℕ
residence_of entry exit = and_then (nanoseconds_of entry exit) (λ n. value (n * 65536))

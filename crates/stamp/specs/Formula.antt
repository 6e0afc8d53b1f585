-- One formula for the stay between PTP stamps, as the hardware has it (document 02, W-207).
use Rattle.std.specs.Prelude.{◌≡◌, ℕ, ◌+◌, ◌-◌, ◌*◌, ◌%◌, ◌^◌, ◌<◌, cond, ◌≢◌, nat_lt}
use Rattle.refusal.specs.Answer.{refused}
use Rattle.stamp.specs.declared.ptp.Stamp.{Stamp}
use Rattle.stamp.specs.Ptp.{seconds_difference, elapsed, nanoseconds_of}

-- "a borrow, 1 exactly where the exit's nanoseconds are below the entry's"
abbrev pub borrow_of : Stamp → Stamp → ℕ
borrow_of entry exit = cond (nat_lt exit.nanoseconds entry.nanoseconds) 1 0

-- "the seconds' difference less the borrow, wrapping at 2^32"
abbrev pub seconds_part : Stamp → Stamp → ℕ
seconds_part entry exit = (seconds_difference entry.seconds exit.seconds + 2 ^ 32 - borrow_of entry exit) % 2 ^ 32

-- "the nanoseconds' difference plus 10^9 times the borrow"
-- (The 10^9 comes first, since a difference of natural numbers stops at 0.)
abbrev pub nanoseconds_part : Stamp → Stamp → ℕ
nanoseconds_part entry exit = exit.nanoseconds + 1000000000 * borrow_of entry exit - entry.nanoseconds

-- "Show, for all stamps that 9 lets through, that these seconds times 10^9 plus these nanoseconds equal document 01's stay."
-- (Also where 10 refuses it. Seconds are 32 bits, as in every stamp that the code is handed.)
abbrev pub OneFormula : Type 0
OneFormula =
    (entry exit : Stamp)
    → entry.seconds < 2 ^ 32
    → exit.seconds < 2 ^ 32
    → (nanoseconds_of entry exit ≢ refused 9)
    → seconds_part entry exit * 1000000000 + nanoseconds_part entry exit ≡ elapsed entry exit

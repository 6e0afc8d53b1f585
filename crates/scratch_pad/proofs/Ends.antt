-- The ends of the range, in numbers; and that joining two pads does not look at their order.
-- Assumes nothing.
use Rattle.std.proofs.Common.{◌≡◌, ◌-◌, ◌^◌, ℤ, pos, negsuc, refl}
use mathlib.Core.Bool.{or_comm}
use lib.IntN.{+ℤ_comm}
use Rattle.refusal.specs.Answer.{value, refused}
use Rattle.scratch_pad.specs.Sum.{largest, too_big, raised, pad_sum, SymmetricSum}

pub symmetric_sum : SymmetricSum
symmetric_sum z y = rw (or_comm (too_big z) (too_big y), +ℤ_comm z y)

-- -2^63
abbrev lowest : ℤ
lowest = negsuc (2 ^ 63 - 1)

-- a residence onto a pad: up to 2^63-2 the plain sum, from there 2^63-1
up_to_there : raised (pos (2 ^ 63 - 3)) 1 ≡ pos (2 ^ 63 - 2)
up_to_there = refl

just_there : raised (pos (2 ^ 63 - 2)) 1 ≡ largest
just_there = refl

-- "the case of 2^63-1 and 1 ns now gives 2^63-1"
and_stays : raised largest 65536 ≡ largest
and_stays = refl

-- a residence of 2^63-1 is no largest pad
long_residence : raised (negsuc 4) (2 ^ 63 - 1) ≡ pos (2 ^ 63 - 6)
long_residence = refl

longest_residence : raised lowest (2 ^ 64 - 1) ≡ largest
longest_residence = refl

-- two pads: the largest wins over any other, in either place
over_the_lowest : (pad_sum largest lowest ≡ value largest) × (pad_sum lowest largest ≡ value largest)
over_the_lowest = (refl, refl)

-- a sum of ordinary pads that is exactly 2^63-1, and one above
sums_up : (pad_sum (pos (2 ^ 63 - 2)) (pos 1) ≡ value largest) × (pad_sum (pos (2 ^ 63 - 2)) (pos (2 ^ 63 - 2)) ≡ value largest)
sums_up = (refl, refl)

below_it : pad_sum (pos (2 ^ 63 - 2)) (negsuc 0) ≡ value (pos (2 ^ 63 - 3))
below_it = refl

-- -2^63 is a sum, and what is below is refused
down_to_there : (pad_sum lowest (pos 0) ≡ value lowest) × (pad_sum lowest (negsuc 0) ≡ refused 11)
down_to_there = (refl, refl)

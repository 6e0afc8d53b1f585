-- Joining at the lower end of the range, worked: -2^63 and -1 are refused with 11, and -2^63 and 0 are not.
-- Assumes nothing.
use Prim.Native.Nat.{ℕ, ◌-◌, ◌^◌}
use mathlib.Core.Path.{◌≡◌, refl}
use mathlib.Core.Bool.{true}
use mathlib.Core.List.{List, []}
use lib.IntN.{ℤ, pos, negsuc}
use Rattle.refusal.specs.Answer.{value, refused}
use Rattle.message.specs.Write.{ptp_octets}
use Rattle.message.specs.Read.{content_of}
use Rattle.egress.specs.Join.{join_of}
use Rattle.egress.specs.Promises.{SumBelow}
use Rattle.egress.proofs.Eleven.{eleven_kept}

abbrev lowest : ℤ
lowest = negsuc (2 ^ 63 - 1)

-- a message of one exchange, by its PTPType and pad
abbrev octets_of : ℕ → ℤ → List ℕ
octets_of k pad =
    ptp_octets
    (record {
      header = record { message_type = 3; pad = pad };
      sub_tlv = record { length = 20; two_step = true; ptp_type = k; clock = 7; port = 1; sequence = 258 };
    })
    []

abbrev a_sync : ℤ → List ℕ
a_sync pad = octets_of 0 pad

abbrev a_follow_up : ℤ → List ℕ
a_follow_up pad = octets_of 8 pad

refused_there : join_of (a_sync lowest) (a_follow_up (negsuc 0)) ≡ refused 11
refused_there = refl

both_below : SumBelow (a_sync lowest) (a_follow_up (negsuc 0))
both_below = (eleven_kept (a_sync lowest) (a_follow_up (negsuc 0))).0 refl

-- and from the other side
below : SumBelow (a_sync lowest) (a_follow_up (negsuc 0))
below =
    record {
      sync = content_of (a_sync lowest);
      follow_up = content_of (a_follow_up (negsuc 0));
      first = refl;
      second = refl;
      pair = refl;
      both_below = (refl, refl);
      sum_below = refl;
    }

refused_again : join_of (a_sync lowest) (a_follow_up (negsuc 0)) ≡ refused 11
refused_again = (eleven_kept (a_sync lowest) (a_follow_up (negsuc 0))).1 below

-- a pad that is not below 0 joins with any
joined_there : join_of (a_sync lowest) (a_follow_up (pos 0)) ≡ value lowest
joined_there = refl

-- How far the residences of a path are below the exact ones (document 02, W-203), "in whole numbers with both sides times 65,536".
use Rattle.std.specs.Prelude.{ℕ, ◌+◌, ◌*◌, ◌<◌, ◌≤◌, ◌≡◌, List, map}
use Rattle.stamp.specs.declared.stamps.Stamps.{Stamps}
use Rattle.stamp.specs.declared.stamps.Stamps.TheVariants.{Ptp, Ntp}
use Rattle.stamp.specs.Rounding.{exact}
use Rattle.records.specs.declared.Identity.{Identity}
use Rattle.rules.specs.Rules.{kind_of}
use Rattle.rules.specs.Path.{FirstUnrefused, Every, First, FirstWay}
use Rattle.rtm.specs.Stamped.{StampedStop, as_stop, first_stamps, total, units}

-- one for a node with NTP stamps
abbrev pub ntp_node : Stamps → ℕ
ntp_node (Ptp entry exit) = 0
ntp_node (Ntp entry exit) = 1

-- "a path of n above 0 such nodes less than n units": take any path that a Sync or a Delay_Req (W-204) crosses with no call on it refused,
-- and n of whose nodes have NTP stamps, all of them or some. The sum of the residences is less than n units below the sum of the exact
-- ones, and not above it. Nothing is asked of its pads, nor of a second message.
abbrev pub PathRoundedDown : Type 0
PathRoundedDown =
    (q : Identity) (start last : List ℕ) (path : List StampedStop) (n : ℕ)
    → First q (kind_of start)
    → Every FirstUnrefused (map as_stop path)
    → FirstWay start (map as_stop path) last
    → total ntp_node (first_stamps path) ≡ n
    → 0 < n
    → (total units (first_stamps path) * 65536 ≤ total exact (first_stamps path))
    × (total exact (first_stamps path) < (total units (first_stamps path) + n) * 65536)

-- How far the residence is below the exact one (document 02, W-203), "in whole numbers with both sides times 65,536".
use Rattle.std.specs.Prelude.{◌≡◌, ℕ, ◌+◌, ◌*◌, ◌<◌, ◌≤◌}
use Rattle.refusal.specs.Answer.{value}
use Rattle.stamp.specs.declared.ptp.Stamp as ptp
use Rattle.stamp.specs.declared.ntp.Stamp as ntp
use Rattle.stamp.specs.declared.stamps.Stamps.{Stamps}
use Rattle.stamp.specs.declared.stamps.Stamps.TheVariants.{Ptp, Ntp}
use Rattle.stamp.specs.Ptp.{elapsed}
use Rattle.stamp.specs.Ntp.{difference}
use Rattle.stamp.specs.Stamps.{residence_of}

-- the exact stay in pad units, times 65,536
abbrev pub exact : Stamps → ℕ
exact (Ptp entry exit) = elapsed entry exit * 65536 * 65536
exact (Ntp entry exit) = difference entry exit * 1000000000

-- document 01's stamps give the exact stay
abbrev pub NotRounded : Type 0
NotRounded = (entry exit : ptp.Stamp) (u : ℕ) → residence_of (Ptp entry exit) ≡ value u → u * 65536 ≡ exact (Ptp entry exit)

-- NTP stamps: "the stay is less than one unit below the exact fraction", and not above it
abbrev pub RoundedDown : Type 0
RoundedDown =
    (entry exit : ntp.Stamp) (u : ℕ)
    → residence_of (Ntp entry exit) ≡ value u
    → (u * 65536 ≤ exact (Ntp entry exit)) × (exact (Ntp entry exit) < (u + 1) * 65536)

-- A residence added to the pad of a message gives a pad, and no refusal.
-- Assumes nothing.
use mathlib.Core.Path.{◌≡◌, refl}
use mathlib.Core.Bool.{true}
use mathlib.Core.List.{List}
use Prim.Native.Nat.{ℕ}
use Rattle.octets.specs.Octets.{number}
use Rattle.scratch_pad.specs.Sum.{raised}
use Rattle.scratch_pad.proofs.Whole.{in_range}
use Rattle.scratch_pad.proofs.Held.{raised_range, read_range, never_low}
use Rattle.rules.specs.Change.{pad_of}
use Rattle.rules.specs.Numbers.{SumsNeverBelow, SumsArePads}
use Rattle.rules.proofs.Changes.{with_pad_pad}

pub sums_never_below : SumsNeverBelow
sums_never_below s u = never_low (pad_of s) u (read_range (number 8 s 4))

-- the sum is in the range
pub sum_in_range : (s : List ℕ) (u : ℕ) → in_range (raised (pad_of s) u) ≡ true
sum_in_range s u = raised_range (pad_of s) u (read_range (number 8 s 4))

pub sums_are_pads : SumsArePads
sums_are_pads c w u l = let s = c.message in (refl, with_pad_pad s (raised (pad_of s) u) (sum_in_range s u) l)

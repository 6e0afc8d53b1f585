-- A list of numbers is octets where each is tested to be below 256.
-- Assumes nothing.
use Prim.Native.Nat.{ℕ, zero, suc}
use mathlib.Core.Path.{◌≡◌}
use mathlib.Core.Bool.{Bool, true, ◌&&◌, and-eq-true_iff}
use mathlib.Core.List.{List, [], ◌∷◌}
use native.Mathlib.Omega.{arith}
use borrow.Author.Tests.{ltb-true}
use lib.Dec.{ltb}
use Rattle.octets.specs.Octets.{Octets}

abbrev pub low : List ℕ → Bool
low [] = true
low (x ∷ s) = ltb x 256 && low s

pub low-Octets : (s : List ℕ) → low s ≡ true → Octets s
low-Octets [] h i = omega arith
low-Octets (x ∷ s) h zero = ltb-true x 256 ((and-eq-true_iff (ltb x 256) (low s)).0 h).0
low-Octets (x ∷ s) h (suc i) = low-Octets s ((and-eq-true_iff (ltb x 256) (low s)).0 h).1 i

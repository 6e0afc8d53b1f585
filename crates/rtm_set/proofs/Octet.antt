-- A number of one octet, as an entry's type and length are.
-- Assumes nothing.
use Rattle.std.specs.Prelude.{ℕ, ◌+◌, ◌≡◌, List, get_or}
use mathlib.Core.Path.{ap, ◌∙◌}
use native.Mathlib.Nat.{add-zero}
use native.Mathlib.Omega.{arith}
use Rattle.octets.specs.Octets.{number}

-- the number in one octet is that octet
pub number_one : (s : List ℕ) (i : ℕ) → number 1 s i ≡ get_or s i 0
number_one s i = let e : 0 + get_or s (i + 0) 0 ≡ get_or s (i + 0) 0 = omega arith in e ∙ ap (λ (k : ℕ). get_or s k 0) (add-zero i)

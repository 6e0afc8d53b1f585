-- The fewest digits that hold a number are its places.
-- Assumes nothing.
use Prim.Native.Nat.{ℕ, zero, suc, ◌-◌, ◌*◌, ◌/◌, ◌^◌, ◌<◌, ◌≤◌}
use mathlib.Core.Path.{◌≡◌, refl, ap}
use native.Mathlib.Nat.{pow-suc, one-le-pow}
use native.Mathlib.Omega.{arith}
use borrow.Author.Tests.{lt-ltb, le-ltb}
use Rattle.io.specs.Digits.{IsDigitCount}
use Rattle.line.specs.Line.{places}

-- where there are two digits or more, the first is not 0
first : (n r : ℕ) → IsDigitCount 10 1 n (suc (suc r)) → 10 ^ r * 10 ≤ n
first n r f =
    let e : suc (suc r) - 1 ≡ suc r = omega arith in
    omega (arith, rw e at (f.2 (omega arith)), pow-suc 10 r)

pub fewest : (k n r : ℕ) → n < 10 ^ suc k → IsDigitCount 10 1 n r → r ≡ places k n
fewest k n zero h f = absurd (omega (arith, f.0))
fewest zero n (suc zero) h f = refl
fewest zero n (suc (suc r)) h f = absurd (omega (arith, first n r f, one-le-pow r 10 (omega arith)))
fewest (suc k) n (suc zero) h f = simp (lt-ltb n 10 (omega (arith, f.1)))
fewest (suc k) n (suc (suc r)) h f =
    let l = first n r f in
    let e : suc r - 1 ≡ r = omega arith in
    let rest : IsDigitCount 10 1 (n / 10) (suc r) = (omega arith, omega (arith, f.1, pow-suc 10 (suc r)), (λ t. rw e (omega arith))) in
    simp (le-ltb n 10 (omega (arith, one-le-pow r 10 (omega arith)))) (ap suc (fewest k (n / 10) (suc r) (omega (arith, pow-suc 10 (suc k))) rest))

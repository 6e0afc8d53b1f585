-- Whole numbers for omega: a number is what it is above zero less what it is below, and both parts are naturals.
-- Assumes nothing.
use Rattle.std.proofs.Common.{◌≡◌, ℕ, suc, ◌+◌, ◌-◌, ◌^◌, Bool, true, false, cond, ltb, ℤ, pos, negsuc, ◌+ℤ◌, refl, arith, ltb-false, ltb-true}
use lib.IntN.{sub_ℕ}
use lib.Signed.{mag}

abbrev pub above : ℤ → ℕ
above (pos n) = n
above (negsuc n) = 0

abbrev pub below : ℤ → ℕ
below (pos n) = 0
below (negsuc n) = suc n

-- a less b
diff_by : (a b : ℕ) (t : Bool) → ltb a b ≡ t → above (cond t (negsuc (b - suc a)) (pos (a - b))) + b ≡ below (cond t (negsuc (b - suc a)) (pos (a - b))) + a
diff_by a b true h = omega (arith, ltb-true a b h)
diff_by a b false h = omega (arith, ltb-false a b h)

pub diff : (a b : ℕ) → above (sub_ℕ a b) + b ≡ below (sub_ℕ a b) + a
diff a b = diff_by a b (ltb a b) refl

-- the parts of a sum
pub parts : (z y : ℤ) → above (z +ℤ y) + (below z + below y) ≡ below (z +ℤ y) + (above z + above y)
parts (pos a) (pos b) = omega arith
parts (pos a) (negsuc b) = omega (arith, diff a (suc b))
parts (negsuc a) (pos b) = omega (arith, diff b (suc a))
parts (negsuc a) (negsuc b) = omega arith

-- the signed 64-bit range: mag n is n, and mag (- n - 1) is n too
abbrev pub in_range : ℤ → Bool
in_range z = ltb (mag z) (2 ^ 63)

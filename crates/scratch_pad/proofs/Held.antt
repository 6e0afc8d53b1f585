-- Sums held at the largest pad: a number of the range stays, residences may be added one by one or all at once, the sum is in the range,
-- never below it, and below the largest pad it is the plain one.
-- Assumes nothing.
use Rattle.std.proofs.Common.{◌≡◌, ℕ, suc, ◌+◌, ◌-◌, ◌^◌, ◌≤◌, Bool, true, false, cond, ltb, leb, ℤ, pos, negsuc, ◌+ℤ◌, refl, ap, ◌∙◌, true≢false, arith, w64, to_z, ltb-false, ltb-true, lt-ltb, le-leb, leb-false, leb-true}
use borrow.Author.Tests.{lt-leb}
use lib.IntN.{+ℤ_idr, +ℤ_assoc}
use Rattle.scratch_pad.specs.Sum.{largest, too_big, too_low, held, raised}
use Rattle.scratch_pad.proofs.Whole.{above, below, parts, in_range}

-- a number of the range is held as it is
pub held_in : (z : ℤ) → in_range z ≡ true → held z ≡ z
held_in (negsuc n) h = refl
held_in (pos n) h = go (leb (2 ^ 63 - 1) n) refl
  where
    go : (b : Bool) → leb (2 ^ 63 - 1) n ≡ b → cond b largest (pos n) ≡ pos n
    go true e = ap pos (omega (arith, leb-true (2 ^ 63 - 1) n e, ltb-true n (2 ^ 63) h))
    go false e = refl

pub raised_none : (z : ℤ) → in_range z ≡ true → raised z 0 ≡ z
raised_none z h = ap held (+ℤ_idr z) ∙ held_in z h

held_again : (z : ℤ) (m : ℕ) → held (held z +ℤ pos m) ≡ held (z +ℤ pos m)
held_again (negsuc n) m = refl
held_again (pos n) m = go (leb (2 ^ 63 - 1) n) refl
  where
    go : (b : Bool) → leb (2 ^ 63 - 1) n ≡ b → held (cond b largest (pos n) +ℤ pos m) ≡ held (pos n +ℤ pos m)
    go true e =
        let l = leb-true (2 ^ 63 - 1) n e in
        rw (le-leb (2 ^ 63 - 1) (2 ^ 63 - 1 + m) (omega arith), le-leb (2 ^ 63 - 1) (n + m) (omega arith))
    go false e = refl

-- one by one or all at once
pub raised_more : (z : ℤ) (m n : ℕ) → raised (raised z m) n ≡ raised z (m + n)
raised_more z m n = held_again (z +ℤ pos m) n ∙ ap held (+ℤ_assoc z (pos m) (pos n))

-- below the largest pad the sum is the plain one
pub held_plain : (z : ℤ) → too_big (held z) ≡ false → held z ≡ z
held_plain z h = go (too_big z) refl h
  where
    go : (b : Bool) → too_big z ≡ b → too_big (cond b largest z) ≡ false → cond b largest z ≡ z
    go true e f = absurd (true≢false f)
    go false e f = refl

-- what is held is in the range, where it is not below it
pub held_range : (z : ℤ) → below z ≤ 2 ^ 63 → in_range (held z) ≡ true
held_range (negsuc n) h = lt-ltb n (2 ^ 63) (omega arith)
held_range (pos n) h = go (leb (2 ^ 63 - 1) n) refl
  where
    go : (b : Bool) → leb (2 ^ 63 - 1) n ≡ b → in_range (cond b largest (pos n)) ≡ true
    go true e = refl
    go false e = lt-ltb n (2 ^ 63) (omega (arith, leb-false (2 ^ 63 - 1) n e))

range_below : (z : ℤ) → in_range z ≡ true → below z ≤ 2 ^ 63
range_below (pos n) h = omega arith
range_below (negsuc n) h = omega (arith, ltb-true n (2 ^ 63) h)

sum_below : (z w : ℤ) (u : ℕ) → above w + (below z + 0) ≡ below w + (above z + u) → below w ≤ below z
sum_below z (pos n) u p = omega arith
sum_below z (negsuc n) u p = omega arith

-- a number of the range and a residence are not below it
plain_range : (z : ℤ) (u : ℕ) → in_range z ≡ true → below (z +ℤ pos u) ≤ 2 ^ 63
plain_range z u h = omega (arith, range_below z h, sum_below z (z +ℤ pos u) u (parts z (pos u)))

pub raised_range : (z : ℤ) (u : ℕ) → in_range z ≡ true → in_range (raised z u) ≡ true
raised_range z u h = held_range (z +ℤ pos u) (plain_range z u h)

pub never_low : (z : ℤ) (u : ℕ) → in_range z ≡ true → too_low (z +ℤ pos u) ≡ false
never_low z u h = go (z +ℤ pos u) (plain_range z u h)
  where
    go : (w : ℤ) → below w ≤ 2 ^ 63 → too_low w ≡ false
    go (pos n) l = refl
    go (negsuc n) l = lt-leb (2 ^ 63) n (omega arith)

-- a number read from 64 bits is in the range
pub read_range : (n : ℕ) → in_range (to_z w64 n) ≡ true
read_range n = go (ltb n (2 ^ 63)) refl
  where
    go : (b : Bool) → ltb n (2 ^ 63) ≡ b → in_range (cond b (pos n) (negsuc (2 ^ 64 - suc n))) ≡ true
    go true e = e
    go false e = lt-ltb (2 ^ 64 - suc n) (2 ^ 63) (omega (arith, ltb-false n (2 ^ 63) e))

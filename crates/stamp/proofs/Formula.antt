-- The formula of W-207 gives document 01's residence; first at worked numbers.
-- Assumes nothing.
use Rattle.std.proofs.Common.{◌≡◌, ℕ, ◌+◌, ◌-◌, ◌*◌, ◌%◌, ◌^◌, ◌<◌, ◌≤◌, Bool, true, false, cond, ◌||◌, ltb, refl, arith, ltb-false, ltb-true}
use Rattle.refusal.specs.Answer.{value, refused, refuse}
use Rattle.stamp.specs.declared.ptp.Stamp.{Stamp}
use Rattle.stamp.specs.Ptp.{seconds_difference, cycle, elapsed, nanoseconds_of}
use Rattle.stamp.specs.Formula.{borrow_of, seconds_part, nanoseconds_part, OneFormula}

abbrev at : ℕ → ℕ → Stamp
at s n = record { seconds = s; nanoseconds = n }

-- borrow, seconds and nanoseconds, and the residence
abbrev Gives : Stamp → Stamp → ℕ → ℕ → ℕ → ℕ → Type 0
Gives entry exit b s n d = (borrow_of entry exit ≡ b) × (seconds_part entry exit ≡ s) × (nanoseconds_part entry exit ≡ n) × (elapsed entry exit ≡ d)

-- 10 s 999,999,000 to 11 s 500 (document 01)
with_borrow : Gives (at 10 999999000) (at 11 500) 1 0 1500 1500
with_borrow = (refl, refl, refl, refl)

equal_nanoseconds : Gives (at 5 7) (at 8 7) 0 3 0 3000000000
equal_nanoseconds = (refl, refl, refl, refl)

equal_stamps : Gives (at 5 7) (at 5 7) 0 0 0 0
equal_stamps = (refl, refl, refl, refl)

-- 4,294,967,295 s 999,999,999 to 0 s 0
across_the_wrap : Gives (at 4294967295 999999999) (at 0 0) 1 0 1 1
across_the_wrap = (refl, refl, refl, refl)

-- 5 s 1 to 5 s 0: the borrow wraps the seconds, and 10 refuses what is a nanosecond less than the cycle
gone_back : Gives (at 5 1) (at 5 0) 1 4294967295 999999999 4294967295999999999
gone_back = (refl, refl, refl, refl)

gone_back_refused : nanoseconds_of (at 5 1) (at 5 0) ≡ refused 10
gone_back_refused = refl

-- by whether there is a borrow, over the numbers of the stamps
by_borrow :
    (a x b y : ℕ) (w : Bool)
    → ltb y x ≡ w
    → a < 2 ^ 32
    → b < 2 ^ 32
    → x ≤ 999999999
    → y ≤ 999999999
    → ((seconds_difference a b + 2 ^ 32 - cond w 1 0) % 2 ^ 32 * 1000000000 + (y + 1000000000 * cond w 1 0 - x)
    ≡ (b * 1000000000 + y + cycle - (a * 1000000000 + x)) % cycle)
    × (y + 1000000000 * cond w 1 0 - x ≤ 999999999)
by_borrow a x b y true e ha hb hx hy =
    let less = ltb-true y x e in
    (omega arith, omega arith)
by_borrow a x b y false e ha hb hx hy =
    let least = ltb-false y x e in
    (omega arith, omega arith)

-- the law of the two parts: their sum, and that the nanoseconds are below a second, so that the residence is of four seconds or more exactly
-- where the seconds are
pub by_parts :
    (entry exit : Stamp)
    → entry.seconds < 2 ^ 32
    → exit.seconds < 2 ^ 32
    → (entry.nanoseconds ≤ 999999999) × (exit.nanoseconds ≤ 999999999)
    → (seconds_part entry exit * 1000000000 + nanoseconds_part entry exit ≡ elapsed entry exit) × (nanoseconds_part entry exit ≤ 999999999)
by_parts entry exit f g t =
    by_borrow entry.seconds entry.nanoseconds exit.seconds exit.nanoseconds (ltb exit.nanoseconds entry.nanoseconds) refl f g
    t.0 t.1

-- what 9 lets through
times :
    (entry exit : Stamp)
    → (nanoseconds_of entry exit ≡ refused 9 → ⊥)
    → (entry.nanoseconds ≤ 999999999) × (exit.nanoseconds ≤ 999999999)
times entry exit h = go (ltb 999999999 entry.nanoseconds) (ltb 999999999 exit.nanoseconds) refl refl h
  where
    d : ℕ
    d = elapsed entry exit

    go :
        (a b : Bool)
        → ltb 999999999 entry.nanoseconds ≡ a
        → ltb 999999999 exit.nanoseconds ≡ b
        → (refuse 9 (a || b) (refuse 10 (ltb 3999999999 d) (value d)) ≡ refused 9 → ⊥)
        → (entry.nanoseconds ≤ 999999999) × (exit.nanoseconds ≤ 999999999)
    go true b e f k = absurd (k refl)
    go false true e f k = absurd (k refl)
    go false false e f k = (ltb-false 999999999 entry.nanoseconds e, ltb-false 999999999 exit.nanoseconds f)

pub one_formula : OneFormula
one_formula entry exit f g h = (by_parts entry exit f g (times entry exit h)).0

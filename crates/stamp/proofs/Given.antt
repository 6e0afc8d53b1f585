-- What stamps give: 9 or 10, or units below the limit, as they promise a node, and rounded down by less than one.
-- Assumes nothing.
use Rattle.std.proofs.Common.{◌≡◌, ℕ, ◌*◌, ◌<◌, ◌≤◌, Bool, true, false, ◌||◌, ltb, leb, ◌⊎◌, sym, refl, ap, ◌∙◌, inl, inr, arith, leb-false}
use Rattle.refusal.specs.Answer.{Answer, value, refused, refuse, and_then}
use Rattle.refusal.proofs.Answers.{not_both, passes, same_value}
use Rattle.residence.specs.Residence.{limit}
use Rattle.residence.proofs.Limit.{promised}
use Rattle.stamp.specs.declared.ptp.Stamp as ptp
use Rattle.stamp.specs.declared.ntp.Stamp as ntp
use Rattle.stamp.specs.declared.stamps.Stamps.{Stamps}
use Rattle.stamp.specs.declared.stamps.Stamps.TheVariants.{Ptp, Ntp}
use Rattle.stamp.specs.Ptp.{elapsed, nanoseconds_of}
use Rattle.stamp.specs.Ntp as ntp_specs
use Rattle.stamp.specs.Stamps.{residence_of, TooLongAlone, KeepsPromise}
use Rattle.stamp.specs.Rounding.{NotRounded, RoundedDown}
use Rattle.stamp.proofs.Accepted.{accepted}

-- the refusals
same_number : {m n : ℕ} → ◌≡◌ {A = Answer ℕ} (refused m) (refused n) → m ≡ n
same_number e = cc

pub too_long_alone : TooLongAlone
too_long_alone entry exit n e = go (leb ntp_specs.limit d) e
  where
    d : ℕ
    d = ntp_specs.difference entry exit

    go : (a : Bool) → refuse 10 a (value (ntp_specs.in_pad_units d)) ≡ refused n → n ≡ 10
    go true x = sym (same_number x)
    go false x = absurd (not_both (sym x))

ptp_refusals : (entry exit : ptp.Stamp) (n : ℕ) → residence_of (Ptp entry exit) ≡ refused n → (n ≡ 9) ⊎ (n ≡ 10)
ptp_refusals entry exit n e = go (ltb 999999999 entry.nanoseconds || ltb 999999999 exit.nanoseconds) (ltb 3999999999 (elapsed entry exit)) e
  where
    go : (a b : Bool) → and_then (refuse 9 a (refuse 10 b (value (elapsed entry exit)))) (λ k. value (k * 65536)) ≡ refused n → (n ≡ 9) ⊎ (n ≡ 10)
    go true b x = inl (sym (same_number x))
    go false true x = inr (sym (same_number x))
    go false false x = absurd (not_both (sym x))

pub refusals : (s : Stamps) (n : ℕ) → residence_of s ≡ refused n → (n ≡ 9) ⊎ (n ≡ 10)
refusals (Ptp entry exit) n e = ptp_refusals entry exit n e
refusals (Ntp entry exit) n e = inr (too_long_alone entry exit n e)

-- units of PTP stamps
ptp_units :
    (entry exit : ptp.Stamp) (u : ℕ) → residence_of (Ptp entry exit) ≡ value u
    → (elapsed entry exit * 65536 ≡ u) × (elapsed entry exit ≤ 3999999999)
ptp_units entry exit u e = go (nanoseconds_of entry exit) refl e
  where
    go :
        (a : Answer ℕ) → nanoseconds_of entry exit ≡ a → and_then a (λ n. value (n * 65536)) ≡ value u
        → (elapsed entry exit * 65536 ≡ u) × (elapsed entry exit ≤ 3999999999)
    go (value n) p q = let z = accepted entry exit n p in (ap (λ (k : ℕ). k * 65536) z.0 ∙ same_value q, omega (arith, z.0, z.1))
    go (refused n) p q = absurd (not_both q)

-- units of NTP stamps
ntp_units :
    (entry exit : ntp.Stamp) (u : ℕ) → residence_of (Ntp entry exit) ≡ value u
    → (ntp_specs.in_pad_units (ntp_specs.difference entry exit) ≡ u) × (ntp_specs.difference entry exit < ntp_specs.limit)
ntp_units entry exit u e =
    let d = ntp_specs.difference entry exit in
    let f = passes 10 (leb ntp_specs.limit d) (value (ntp_specs.in_pad_units d)) u e in
    (same_value f.1, leb-false ntp_specs.limit d f.0)

below_limit : (s : Stamps) (u : ℕ) → residence_of s ≡ value u → u < limit
below_limit (Ptp entry exit) u e = let f = ptp_units entry exit u e in omega (arith, f.0, f.1)
below_limit (Ntp entry exit) u e = let f = ntp_units entry exit u e in omega (arith, f.0, f.1)

pub keeps_promise : KeepsPromise
keeps_promise s r e = promised r (λ u f. below_limit s u (sym e ∙ f))

pub not_rounded : NotRounded
not_rounded entry exit u e = omega (arith, (ptp_units entry exit u e).0)

pub rounded_down : RoundedDown
rounded_down entry exit u e = let f = (ntp_units entry exit u e).0 in (omega arith, omega arith)

-- document 02's numbers: differences of 65,536 and of 1, the greatest accepted and the least refused; and a second's borrow
abbrev at : ℕ → ℕ → ntp.Stamp
at s f = record { seconds = s; fraction = f }

with_borrow : residence_of (Ntp (at 5 2147483648) (at 6 0)) ≡ value 32768000000000
with_borrow = refl

of_65536 : residence_of (Ntp (at 7 0) (at 7 65536)) ≡ value 1000000000
of_65536 = refl

of_1 : residence_of (Ntp (at 7 0) (at 7 1)) ≡ value 15258
of_1 = refl

greatest : residence_of (Ntp (at 5 0) (at 8 4294967295)) ≡ value 262143999984741
greatest = refl

least_refused : residence_of (Ntp (at 5 0) (at 9 0)) ≡ refused 10
least_refused = refl

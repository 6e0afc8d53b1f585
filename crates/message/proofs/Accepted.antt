-- What is known of the fields of a message that the writer accepts.
-- Assumes nothing.
use Prim.Native.Nat.{ℕ, ◌+◌, ◌<◌, ◌≤◌}
use mathlib.Core.Path.{◌≡◌, refl, sym, ap, ◌∙◌}
use mathlib.Core.Bool.{Bool, true, false, not, cond, ◌&&◌, ◌||◌, and-eq-true_iff}
use native.Mathlib.Omega.{arith}
use borrow.Author.Tests.{le-leb, leb-true, leb-false, ltb-false, eqb-true, not-false}
use lib.Dec.{ltb, leb, eqb}
use Rattle.refusal.specs.Answer.{Answer, value, refuse}
use Rattle.refusal.proofs.Answers.{passes}
use Rattle.message.specs.declared.fields.SubTlv.{SubTlv}
use Rattle.message.specs.Read.{is_type, is_ptp, is_sub_tlv_length}
use Rattle.message.specs.Write.{carried_at, fit_of, size_of}

-- the known Types, and those with a sub-TLV
pub known_types : (t : ℕ) → is_type t ≡ true → (1 ≤ t) × (t ≤ 5)
known_types t p =
    let b = (and-eq-true_iff (leb 1 t) (leb t 5)).0 p in
    (leb-true 1 t b.0, leb-true t 5 b.1)

pub ptp_types : (t : ℕ) → is_ptp t ≡ true → (2 ≤ t) × (t ≤ 4)
ptp_types t p =
    let b = (and-eq-true_iff (leb 2 t) (leb t 4)).0 p in
    (leb-true 2 t b.0, leb-true t 4 b.1)

pub plain_types : (t : ℕ) → is_ptp t ≡ false → 2 ≤ t → 4 < t
plain_types t p h = leb-false t 4 (ap (λ (b : Bool). b && leb t 4) (sym (le-leb 2 t h)) ∙ p)

-- the lengths that a sub-TLV may state
pub sub_tlv_lengths : (n : ℕ) → is_sub_tlv_length n ≡ true → n ≤ 20
sub_tlv_lengths n e = by_first (eqb n 16) refl e
  where
    by_first : (b : Bool) → eqb n 16 ≡ b → (b || eqb n 20) ≡ true → n ≤ 20
    by_first true p q = omega (arith, eqb-true n 16 p)
    by_first false p q = omega (arith, eqb-true n 20 q)

pub record Accepted (t : ℕ) (s : SubTlv) (carried room n : ℕ) : Type 0 where
  pub known : is_type t ≡ true
  pub kind : (is_ptp t && ltb 15 s.ptp_type) ≡ false
  pub stated : (is_ptp t && not (is_sub_tlv_length s.length)) ≡ false
  pub empty : (eqb t 1 && ltb 0 carried) ≡ false
  pub size : carried_at t + carried ≡ n
  pub short : n ≤ 2048
  pub fits : n ≤ room

pub accepted : (t : ℕ) (s : SubTlv) (carried room n : ℕ) → size_of t s carried room ≡ value n → Accepted t s carried room n
accepted t s carried room n e =
    let z = carried_at t + carried in
    let kind = is_ptp t && ltb 15 s.ptp_type in
    let stated = is_ptp t && not (is_sub_tlv_length s.length) in
    let e7 : Answer ℕ = refuse 7 (eqb t 1 && ltb 0 carried) (fit_of z room) in
    let f = passes 6 (not (is_type t)) (refuse 17 kind (refuse 23 stated e7)) n e in
    let g = passes 17 kind (refuse 23 stated e7) n f.1 in
    let k = passes 23 stated e7 n g.1 in
    let h = passes 7 (eqb t 1 && ltb 0 carried) (fit_of z room) n k.1 in
    let i = passes 2 (ltb 2048 z) (refuse 12 (ltb room z) (value z)) n h.1 in
    let j = passes 12 (ltb room z) (value z) n i.1 in
    let same : z ≡ n = cc in
    record {
      known = not-false (is_type t) f.0;
      kind = g.0;
      stated = k.0;
      empty = h.0;
      size = same;
      short = omega (arith, ltb-false 2048 z i.0);
      fits = omega (arith, ltb-false room z j.0);
    }

module _ {t : ℕ} {s : SubTlv} {carried room n : ℕ} (a : Accepted t s carried room n) where
  pub ptp_size : is_ptp t ≡ true → 36 + carried ≡ n
  ptp_size p = ap (λ (b : Bool). cond b 36 16 + carried) (sym p) ∙ a.size

  pub plain_size : is_ptp t ≡ false → 16 + carried ≡ n
  plain_size p = ap (λ (b : Bool). cond b 36 16 + carried) (sym p) ∙ a.size

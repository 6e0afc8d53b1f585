-- Messages that the reader takes, both ways: what holds of one, and that this is enough to be taken.
-- Assumes nothing.
use Prim.Native.Nat.{ℕ, ◌-◌, ◌≤◌}
use mathlib.Core.Path.{◌≡◌, refl, sym, ap, ◌∙◌}
use mathlib.Core.Bool.{Bool, true, false, not, cond, and-eq-true_iff}
use mathlib.Core.List.{List}
use native.Mathlib.Omega.{arith}
use borrow.Author.Tests.{le-ltb, eq-eqb, ne_eqb, ltb-false, eqb-true, eqb-false, not-false}
use lib.Dec.{ltb, eqb}
use lib.ListN.{length, length-drop}
use Rattle.octets.specs.Octets.{number}
use Rattle.refusal.specs.Answer.{Answer, value, refused, refuse, and_then}
use Rattle.refusal.proofs.Answers.{not_both, same_value, passes}
use Rattle.message.specs.declared.fields.Header.{Header}
use Rattle.message.specs.declared.fields.SubTlv.{SubTlv}
use Rattle.message.specs.declared.fields.Message.TheVariants.{Plain, Ptp}
use Rattle.message.specs.Read.{is_rtm, version, length_field, message_value, is_type, is_sub_tlv_length, is_sub_tlv, sub_tlv, header, header_of, sub_tlv_of, message_of, read_of}

-- a message whose header has nothing to refuse
pub record SoundHeader (s : List ℕ) : Type 0 where
  pub long : 16 ≤ length s
  pub short : length s ≤ 2048
  pub rtm : is_rtm s ≡ true
  pub current : version s ≡ 0
  pub size : length_field s ≡ length s - 16
  pub known : is_type (header s).message_type ≡ true

pub header_sound : (s : List ℕ) (h : Header) → header_of s ≡ value h → SoundHeader s × (header s ≡ h)
header_sound s h e =
    let e6 : Answer Header = refuse 6 (not (is_type (header s).message_type)) (value (header s)) in
    let e5 : Answer Header = refuse 5 (not (eqb (length_field s) (length s - 16))) e6 in
    let e4 : Answer Header = refuse 4 (not (eqb (version s) 0)) e5 in
    let e3 : Answer Header = refuse 3 (not (is_rtm s)) e4 in
    let e2 : Answer Header = refuse 2 (ltb 2048 (length s)) e3 in
    let p1 = passes 1 (ltb (length s) 16) e2 h e in
    let p2 = passes 2 (ltb 2048 (length s)) e3 h p1.1 in
    let p3 = passes 3 (not (is_rtm s)) e4 h p2.1 in
    let p4 = passes 4 (not (eqb (version s) 0)) e5 h p3.1 in
    let p5 = passes 5 (not (eqb (length_field s) (length s - 16))) e6 h p4.1 in
    let p6 = passes 6 (not (is_type (header s).message_type)) (value (header s)) h p5.1 in (
      record {
        long = ltb-false (length s) 16 p1.0;
        short = ltb-false 2048 (length s) p2.0;
        rtm = not-false (is_rtm s) p3.0;
        current = eqb-true (version s) 0 (not-false (eqb (version s) 0) p4.0);
        size = eqb-true (length_field s) (length s - 16) (not-false (eqb (length_field s) (length s - 16)) p5.0);
        known = not-false (is_type (header s).message_type) p6.0;
      },
      same_value p6.1,
    )

-- the length that an accepted sub-TLV states
pub stated_length : (v : List ℕ) → is_sub_tlv v ≡ true → is_sub_tlv_length (number 2 v 2) ≡ true
stated_length v e = ((and-eq-true_iff (eqb (number 2 v 0) 1) (is_sub_tlv_length (number 2 v 2))).0 e).1

-- a message of types 2 to 4 that has nothing to refuse
pub record SoundPtp (s : List ℕ) : Type 0 where
  pub sound : SoundHeader s
  pub not_one : (header s).message_type ≡ 1 → ⊥
  pub not_five : (header s).message_type ≡ 5 → ⊥
  pub long : 36 ≤ length s
  pub is : is_sub_tlv (message_value s) ≡ true

pub ptp_sound : (s : List ℕ) (h : Header) (t : SubTlv) → read_of s ≡ value (Ptp h t) → SoundPtp s × (header s ≡ h) × (sub_tlv (message_value s) ≡ t)
ptp_sound s h t e = by_header (header_of s) refl e
  where
    Claim : Type 0
    Claim = SoundPtp s × (header s ≡ h) × (sub_tlv (message_value s) ≡ t)

    differ : {g : Header} → value (Plain g) ≡ value (Ptp h t) → ⊥
    differ q = let z : ◌≡◌ {A = ℕ} 0 1 = cc in omega arith

    by_sub_tlv : (g : Header) → header_of s ≡ value g → (g.message_type ≡ 1 → ⊥) → (g.message_type ≡ 5 → ⊥) → (a : Answer SubTlv) → sub_tlv_of (message_value s) ≡ a → and_then a (λ x. value (Ptp g x)) ≡ value (Ptp h t) → Claim
    by_sub_tlv g p one five (refused n) q r = absurd (not_both r)
    by_sub_tlv g p one five (value x) q r =
        let v = message_value s in
        let k = header_sound s g p in
        let p7 = passes 7 (ltb (length v) 20) (refuse 8 (not (is_sub_tlv v)) (value (sub_tlv v))) x q in
        let p8 = passes 8 (not (is_sub_tlv v)) (value (sub_tlv v)) x p7.1 in
        let l : 20 ≤ length v = ltb-false (length v) 20 p7.0 in
        let same_type : (header s).message_type ≡ g.message_type = ap (λ (y : Header). y.message_type) k.1 in (
          record {
            sound = k.0;
            not_one = λ z. one (sym same_type ∙ z);
            not_five = λ z. five (sym same_type ∙ z);
            long = omega (arith, length-drop 16 s, l);
            is = not-false (is_sub_tlv v) p8.0;
          },
          k.1 ∙ first r,
          same_value p8.1 ∙ second r,
        )
      where
        first : value (Ptp g x) ≡ value (Ptp h t) → g ≡ h
        first z = cc

        second : value (Ptp g x) ≡ value (Ptp h t) → x ≡ t
        second z = cc

    by_five : (g : Header) → header_of s ≡ value g → (g.message_type ≡ 1 → ⊥) → (b : Bool) → eqb g.message_type 5 ≡ b → cond b (value (Plain g)) (and_then (sub_tlv_of (message_value s)) (λ x. value (Ptp g x))) ≡ value (Ptp h t) → Claim
    by_five g p one true q r = absurd (differ r)
    by_five g p one false q r = by_sub_tlv g p one (eqb-false g.message_type 5 q) (sub_tlv_of (message_value s)) refl r

    by_one :
        (g : Header) → header_of s ≡ value g → (b : Bool) → eqb g.message_type 1 ≡ b
        → cond b (refuse 7 (ltb 0 (length (message_value s))) (value (Plain g))) (cond (eqb g.message_type 5) (value (Plain g)) (and_then (sub_tlv_of (message_value s)) (λ x. value (Ptp g x)))) ≡ value (Ptp h t)
        → Claim
    by_one g p true q r = absurd (differ (passes 7 (ltb 0 (length (message_value s))) (value (Plain g)) (Ptp h t) r).1)
    by_one g p false q r = by_five g p (eqb-false g.message_type 1 q) (eqb g.message_type 5) refl r

    by_header : (a : Answer Header) → header_of s ≡ a → and_then a (λ g. message_of g (message_value s)) ≡ value (Ptp h t) → Claim
    by_header (refused n) q r = absurd (not_both r)
    by_header (value g) q r = by_one g q (eqb g.message_type 1) refl r

-- and that is enough to be taken
pub header_taken : (s : List ℕ) → SoundHeader s → header_of s ≡ value (header s)
header_taken s k =
    simp
    (le-ltb (length s) 16 k.long, le-ltb 2048 (length s) k.short, k.rtm, eq-eqb (version s) 0 k.current, eq-eqb (length_field s) (length s - 16) k.size, k.known)

pub sub_tlv_taken : (v : List ℕ) → 20 ≤ length v → is_sub_tlv v ≡ true → sub_tlv_of v ≡ value (sub_tlv v)
sub_tlv_taken v long is = simp (le-ltb (length v) 20 long, is)

pub ptp_taken : (s : List ℕ) → SoundPtp s → read_of s ≡ value (Ptp (header s) (sub_tlv (message_value s)))
ptp_taken s k =
    let t = (header s).message_type in
    let v = message_value s in
    let l : 20 ≤ length v = simp length-drop (omega (arith, k.long)) in
    ap (λ (a : Answer Header). and_then a (λ h. message_of h v)) (header_taken s k.sound)
    ∙ simp (ne_eqb t 1 k.not_one, ne_eqb t 5 k.not_five, sub_tlv_taken v l k.is)

-- What a message says that has nothing to refuse, for callers that check it first and then read only the fields that they need.
-- Assumes nothing.
use Prim.Native.Nat.{ℕ, ◌-◌, ◌≤◌}
use mathlib.Core.Path.{◌≡◌, refl, sym, ap, ◌∙◌}
use mathlib.Core.Bool.{Bool, true, false, not, cond, ◌&&◌}
use mathlib.Core.List.{List}
use native.Mathlib.Omega.{arith}
use borrow.Author.Tests.{eq-eqb, ne_eqb, eqb-false, ltb-false}
use lib.Dec.{ltb, eqb}
use lib.ListN.{length}
use Rattle.refusal.specs.Answer.{Answer, value, refuse, and_then, refusal_in}
use Rattle.refusal.proofs.Answers.{passes, then_passed}
use Rattle.message.specs.declared.fields.Header.{Header}
use Rattle.message.specs.declared.fields.SubTlv.{SubTlv}
use Rattle.message.specs.declared.fields.Message.{Message}
use Rattle.message.specs.declared.fields.Message.TheVariants.{Plain, Ptp}
use Rattle.message.specs.Read.{is_rtm, version, header, length_field, message_value, is_type, is_ptp, header_of, is_sub_tlv, sub_tlv, sub_tlv_of, message_of, read_of, content_of}
use Rattle.message.proofs.Sound.{header_sound}
use Rattle.message.proofs.Accepted.{known_types, ptp_types, plain_types}

-- ---- the Value, by its Type

-- types 2 to 4: the sub-TLV decides
pub ptp-value : (h : Header) (v : List ℕ) → is_ptp h.message_type ≡ true → message_of h v ≡ and_then (sub_tlv_of v) (λ t. value (Ptp h t))
ptp-value h v p =
    let t = h.message_type in
    let r = ptp_types t p in
    simp (ne_eqb t 1 (λ e. omega arith), ne_eqb t 5 (λ e. omega arith))

-- types 1 and 5: 7 for type 1 with a Value
pub plain_value : (h : Header) (v : List ℕ) → is_type h.message_type ≡ true → is_ptp h.message_type ≡ false → message_of h v ≡ refuse 7 (eqb h.message_type 1 && ltb 0 (length v)) (value (Plain h))
plain_value h v k p = by_type (eqb h.message_type 1) refl
  where
    by_type : (b : Bool) → eqb h.message_type 1 ≡ b → message_of h v ≡ refuse 7 (eqb h.message_type 1 && ltb 0 (length v)) (value (Plain h))
    by_type true e = simp e
    by_type false e =
        let t = h.message_type in
        let r = known_types t k in
        let other = eqb-false t 1 e in
        let above = plain_types t p (omega arith) in
        simp (e, eq-eqb t 5 (omega arith))

-- ---- the whole message, by its header

-- no refusal has the number 0
pub header_passed : (s : List ℕ) → refusal_in (header_of s) ≡ 0 → header_of s ≡ value (header s)
header_passed s e =
    by_tests (ltb (length s) 16) (ltb 2048 (length s)) (not (is_rtm s)) (not (eqb (version s) 0)) (not (eqb (length_field s) (length s - 16))) (not (is_type (header s).message_type)) e
  where
    tests : Bool → Bool → Bool → Bool → Bool → Bool → Answer Header
    tests b1 b2 b3 b4 b5 b6 = refuse 1 b1 (refuse 2 b2 (refuse 3 b3 (refuse 4 b4 (refuse 5 b5 (refuse 6 b6 (value (header s)))))))

    by_tests : (b1 b2 b3 b4 b5 b6 : Bool) → refusal_in (tests b1 b2 b3 b4 b5 b6) ≡ 0 → tests b1 b2 b3 b4 b5 b6 ≡ value (header s)
    by_tests true b2 b3 b4 b5 b6 q = absurd (omega arith)
    by_tests false true b3 b4 b5 b6 q = absurd (omega arith)
    by_tests false false true b4 b5 b6 q = absurd (omega arith)
    by_tests false false false true b5 b6 q = absurd (omega arith)
    by_tests false false false false true b6 q = absurd (omega arith)
    by_tests false false false false false true q = absurd (omega arith)
    by_tests false false false false false false q = refl

-- what follows from the header's answer
abbrev behind : List ℕ → Answer Header → Answer Message
behind s a = and_then a (λ h. message_of h (message_value s))

-- and where it has none, the Type says what is left
pub ptp_behind : (s : List ℕ) → refusal_in (header_of s) ≡ 0 → is_ptp (header s).message_type ≡ true → read_of s ≡ and_then (sub_tlv_of (message_value s)) (λ t. value (Ptp (header s) t))
ptp_behind s e p = ap (behind s) (header_passed s e) ∙ ptp-value (header s) (message_value s) p

pub plain_behind :
    (s : List ℕ)
    → refusal_in (header_of s) ≡ 0
    → is_ptp (header s).message_type ≡ false
    → read_of s ≡ refuse 7 (eqb (header s).message_type 1 && ltb 0 (length (message_value s))) (value (Plain (header s)))
plain_behind s e p =
    let q = header_passed s e in
    ap (behind s) q ∙ plain_value (header s) (message_value s) (header_sound s (header s) q).0.known p

-- ---- the sub-TLV, in a Value with nothing to refuse

pub sub_tlv_passed : (v : List ℕ) → refusal_in (sub_tlv_of v) ≡ 0 → sub_tlv_of v ≡ value (sub_tlv v)
sub_tlv_passed v e = by_tests (ltb (length v) 20) (not (is_sub_tlv v)) e
  where
    by_tests : (b7 b8 : Bool) → refusal_in (refuse 7 b7 (refuse 8 b8 (value (sub_tlv v)))) ≡ 0 → refuse 7 b7 (refuse 8 b8 (value (sub_tlv v))) ≡ value (sub_tlv v)
    by_tests true b8 q = absurd (omega arith)
    by_tests false true q = absurd (omega arith)
    by_tests false false q = refl

-- it has its 20 octets
pub sub_tlv_whole : (v : List ℕ) → refusal_in (sub_tlv_of v) ≡ 0 → 20 ≤ length v
sub_tlv_whole v e = ltb-false (length v) 20 (passes 7 (ltb (length v) 20) (refuse 8 (not (is_sub_tlv v)) (value (sub_tlv v))) (sub_tlv v) (sub_tlv_passed v e)).0

-- ---- a message with nothing to refuse

-- neither its header nor, with types 2 to 4, its sub-TLV refuses
pub header_readable : (s : List ℕ) → refusal_in (read_of s) ≡ 0 → refusal_in (header_of s) ≡ 0
header_readable s e = then_passed (header_of s) (λ h. message_of h (message_value s)) e

sub_tlv_readable : (s : List ℕ) → refusal_in (read_of s) ≡ 0 → is_ptp (header s).message_type ≡ true → refusal_in (sub_tlv_of (message_value s)) ≡ 0
sub_tlv_readable s e p = then_passed (sub_tlv_of (message_value s)) (λ t. value (Ptp (header s) t)) (ap refusal_in (sym (ptp_behind s (header_readable s e) p)) ∙ e)

-- it says its header and, with types 2 to 4, its sub-TLV
pub readable : (s : List ℕ) → refusal_in (read_of s) ≡ 0 → read_of s ≡ value (content_of s)
readable s e = by_type (is_ptp (header s).message_type) refl
  where
    by_test : (b : Bool) → refusal_in (refuse 7 b (value (Plain (header s)))) ≡ 0 → refuse 7 b (value (Plain (header s))) ≡ value (Plain (header s))
    by_test true q = absurd (omega arith)
    by_test false q = refl

    by_type : (b : Bool) → is_ptp (header s).message_type ≡ b → read_of s ≡ value (cond b (Ptp (header s) (sub_tlv (message_value s))) (Plain (header s)))
    by_type true p =
        ptp_behind s (header_readable s e) p
        ∙ ap (λ (a : Answer SubTlv). and_then a (λ t. value (Ptp (header s) t))) (sub_tlv_passed (message_value s) (sub_tlv_readable s e p))
    by_type false p =
        let q = plain_behind s (header_readable s e) p in
        q ∙ by_test (eqb (header s).message_type 1 && ltb 0 (length (message_value s))) (ap refusal_in (sym q) ∙ e)

pub content_ptp : (s : List ℕ) → is_ptp (header s).message_type ≡ true → content_of s ≡ Ptp (header s) (sub_tlv (message_value s))
content_ptp s p = rw p

pub content_plain : (s : List ℕ) → is_ptp (header s).message_type ≡ false → content_of s ≡ Plain (header s)
content_plain s p = rw p

-- and with types 2 to 4 the sub-TLV's 20 octets are there
pub value_whole : (s : List ℕ) → refusal_in (read_of s) ≡ 0 → is_ptp (header s).message_type ≡ true → 20 ≤ length (message_value s)
value_whole s e p = sub_tlv_whole (message_value s) (sub_tlv_readable s e p)

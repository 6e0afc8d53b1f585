-- Reading is refused with 1 to 8: each number is one of its tests'.
-- Assumes nothing.
use Prim.Native.Nat.{ℕ, ◌-◌, ◌≤◌}
use mathlib.Core.Bool.{Bool, true, false, not, cond}
use mathlib.Core.List.{List}
use native.Mathlib.Omega.{arith}
use lib.Dec.{ltb, eqb}
use lib.ListN.{length}
use Rattle.refusal.specs.Answer.{value, refuse, and_then}
use Rattle.refusal.proofs.Answers.{Numbered, numbered_then, its_number}
use Rattle.message.specs.declared.fields.Header.{Header}
use Rattle.message.specs.declared.fields.Message.TheVariants.{Plain, Ptp}
use Rattle.message.specs.Read.{is_rtm, version, header, length_field, message_value, is_type, header_of, is_sub_tlv, sub_tlv, sub_tlv_of, message_of, read_of}
use Rattle.message.specs.Numbers.{ReadNumbers}

abbrev Reading : ℕ → Type 0
Reading n = (1 ≤ n) × (n ≤ 8)

header_number : (s : List ℕ) → Numbered Reading (header_of s)
header_number s =
    by_tests (ltb (length s) 16) (ltb 2048 (length s)) (not (is_rtm s)) (not (eqb (version s) 0)) (not (eqb (length_field s) (length s - 16)))
    (not (is_type (header s).message_type))
  where
    by_tests : (a b c d e f : Bool) → Numbered Reading (refuse 1 a (refuse 2 b (refuse 3 c (refuse 4 d (refuse 5 e (refuse 6 f (value (header s))))))))
    by_tests true b c d e f = (omega arith, omega arith)
    by_tests false true c d e f = (omega arith, omega arith)
    by_tests false false true d e f = (omega arith, omega arith)
    by_tests false false false true e f = (omega arith, omega arith)
    by_tests false false false false true f = (omega arith, omega arith)
    by_tests false false false false false true = (omega arith, omega arith)
    by_tests false false false false false false = tt

sub_tlv_number : (v : List ℕ) → Numbered Reading (sub_tlv_of v)
sub_tlv_number v = by_tests (ltb (length v) 20) (not (is_sub_tlv v))
  where
    by_tests : (a b : Bool) → Numbered Reading (refuse 7 a (refuse 8 b (value (sub_tlv v))))
    by_tests true b = (omega arith, omega arith)
    by_tests false true = (omega arith, omega arith)
    by_tests false false = tt

value_number : (h : Header) (v : List ℕ) → Numbered Reading (message_of h v)
value_number h v = by_type (eqb h.message_type 1) (eqb h.message_type 5) (ltb 0 (length v))
  where
    by_type :
        (a b c : Bool)
        → Numbered Reading (cond a (refuse 7 c (value (Plain h))) (cond b (value (Plain h)) (and_then (sub_tlv_of v) (λ t. value (Ptp h t)))))
    by_type true b true = (omega arith, omega arith)
    by_type true b false = tt
    by_type false true c = tt
    by_type false false c = numbered_then Reading (sub_tlv_of v) (λ t. value (Ptp h t)) (sub_tlv_number v) (λ t. tt)

pub read_numbers : ReadNumbers
read_numbers s n e =
    its_number Reading (read_of s) n (numbered_then Reading (header_of s) (λ h. message_of h (message_value s)) (header_number s) (λ h. value_number h (message_value s))) e

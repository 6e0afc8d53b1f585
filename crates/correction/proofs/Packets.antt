-- What the tests say of a copy and its packet: which refusal, or a sum of the field and the total; and of a joined pair, that the packet shown
-- is the one that the carrier carried.
-- Assumes nothing.
use Prim.Native.Nat.{ℕ, ◌+◌, ◌<◌, ◌≤◌}
use mathlib.Core.Path.{◌≡◌, refl, sym, ap, ◌∙◌}
use mathlib.Core.Bool.{true, false, not}
use mathlib.Core.List.{List, [], ◌∷◌}
use native.Mathlib.Omega.{arith}
use borrow.Author.Tests.{le-leb, lt-leb, leb-true, not-false}
use lib.Dec.{leb}
use lib.IntN.{ℤ}
use lib.ListN.{length, drop}
use Rattle.octets.specs.Octets.{same}
use Rattle.octets.proofs.Comparing.{same_equal}
use Rattle.refusal.specs.Answer.{Answer, value, refused, refuse, and_then}
use Rattle.refusal.proofs.Answers.{passes}
use Rattle.message.specs.declared.fields.SubTlv.{SubTlv}
use Rattle.message.specs.Read.{message_value, sub_tlv, carried_of}
use Rattle.scratch_pad.specs.Sum.{pad_sum}
use Rattle.egress.specs.Join.{join_of, or_else, shown_by, shown_of}
use Rattle.correction.specs.Header.{ptp_header}
use Rattle.correction.specs.Correct.{carrier_by, carrier_of, carrier_sub_tlv, agrees, field_of, packet_field, correction_of}
use Rattle.correction.proofs.Sums.{field_sum}

-- the message that carried the packet, by the length of the Follow_Up's
pub carrier_sync : (c s f : List ℕ) → length c ≡ 0 → s ≡ carrier_by c s f
carrier_sync [] s f h = refl
carrier_sync (x ∷ xs) s f h = absurd (omega arith)

pub carrier_follow_up : (c s f : List ℕ) → (length c ≡ 0 → ⊥) → f ≡ carrier_by c s f
carrier_follow_up [] s f h = absurd (h refl)
carrier_follow_up (x ∷ xs) s f h = refl

module _ (s f : List ℕ) (place : ℕ) (copy : List ℕ) (total : ℤ) (e : join_of s f ≡ value total) where
  shown_carried : shown_of s f ≡ carried_of (carrier_of s f)
  shown_carried = ap (shown_by s f) e ∙ go (carried_of f) refl
    where
      go : (c : List ℕ) → carried_of f ≡ c → or_else c (carried_of s) ≡ carried_of (carrier_by c s f)
      go [] q = refl
      go (x ∷ xs) q = sym q

  -- the answer for a joined pair is that for the message that carried the packet
  pub by_carrier : packet_field (carried_of (carrier_of s f)) (sub_tlv (message_value (carrier_of s f))) place copy total ≡ correction_of s f place copy
  by_carrier =
      ap (λ (x : List ℕ). packet_field x (carrier_sub_tlv s f) place copy total) (sym shown_carried)
      ∙ ap (λ (a : Answer ℤ). and_then a (packet_field (shown_of s f) (carrier_sub_tlv s f) place copy)) (sym e)

module _ (shown : List ℕ) (t : SubTlv) (place : ℕ) (copy : List ℕ) (total : ℤ) where
  -- each refusal, where the ones before it are not given
  abbrev pub header_field : Answer ℤ
  header_field = refuse 32 (not (agrees t (ptp_header (drop place copy)))) (field_of (ptp_header (drop place copy)) total)

  pub other_copy : same copy shown ≡ false → refused 30 ≡ packet_field shown t place copy total
  other_copy e = rw e

  pub no_header : same copy shown ≡ true → length copy < place + 34 → refused 31 ≡ packet_field shown t place copy total
  no_header e l = sym (λ i. refuse 30 (not (e i)) (refuse 31 (not (lt-leb (place + 34) (length copy) l i)) header_field))

  pub header_there : same copy shown ≡ true → place + 34 ≤ length copy → header_field ≡ packet_field shown t place copy total
  header_there e l = sym (λ i. refuse 30 (not (e i)) (refuse 31 (not (le-leb (place + 34) (length copy) l i)) header_field))

  -- what a new field says: the copy is the packet, the header fits, and the field is the sum
  pub record Taken (z : ℤ) : Type 0 where
    pub copied : copy ≡ shown
    pub fits : place + 34 ≤ length copy
    pub sum : pad_sum (ptp_header (drop place copy)).correction_field total ≡ value z

  pub taken : (z : ℤ) → packet_field shown t place copy total ≡ value z → Taken z
  taken z e =
      let fitting = leb (place + 34) (length copy) in
      let a = passes 30 (not (same copy shown)) (refuse 31 (not fitting) header_field) z e in
      let b = passes 31 (not fitting) header_field z a.1 in
      let c = passes 32 (not (agrees t (ptp_header (drop place copy)))) (field_of (ptp_header (drop place copy)) total) z b.1 in
      record {
        copied = same_equal copy shown (not-false (same copy shown) a.0);
        fits = leb-true (place + 34) (length copy) (not-false fitting b.0);
        sum = field_sum (ptp_header (drop place copy)) total z c.1;
      }

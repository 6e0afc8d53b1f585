-- The copy after the store: the promises `FieldAlone` and `OtherFieldsBack`.
-- Assumes nothing.
use Prim.Native.Nat.{ℕ, ◌+◌, ◌%◌, ◌/◌, ◌≤◌}
use mathlib.Core.Path.{◌≡◌, refl, sym, ap, ◌∙◌}
use mathlib.Core.List.{List, ◌++◌}
use native.Mathlib.Omega.{arith}
use borrow.Author.Tests.{le-leb}
use lib.IntN.{ℤ}
use lib.ListN.{length, get_or, take, drop}
use lib.Seq.{get_or-drop}
use mir.Syntax.{w64}
use mir.Val.{SFits, to_z, of_z}
use mir.ValLaws.{to_z-of_z, of_z_fits}
use Rattle.octets.specs.Octets.{number, signed_number, signed_octets, put}
use Rattle.octets.proofs.Numbers.{number-drop}
use Rattle.octets.proofs.Puts.{get_or_before, number_before, number_behind, number_there}
use Rattle.refusal.specs.Answer.{Answer, value, refused, and_then}
use Rattle.refusal.proofs.Answers.{not_both}
use Rattle.scratch_pad.proofs.Sums.{sum_fits}
use Rattle.egress.specs.Join.{join_of, shown_of}
use Rattle.correction.specs.Header.{ptp_header, with_correction}
use Rattle.correction.specs.Correct.{carrier_sub_tlv, packet_field, copy_by, correct_of}
use Rattle.correction.specs.Promises.{FieldAlone, OtherFieldsBack}
use Rattle.correction.proofs.Packets.{Taken, taken}

-- a corrected packet: the pair was joined, and the packet taken
pub record Known (s f : List ℕ) (place : ℕ) (copy : List ℕ) (z : ℤ) : Type 0 where
  pub total : ℤ
  pub joined : join_of s f ≡ value total
  pub packet : Taken (shown_of s f) (carrier_sub_tlv s f) place copy total z

pub known : (s f : List ℕ) (place : ℕ) (copy : List ℕ) (z : ℤ) → (correct_of s f place copy).answer ≡ value z → Known s f place copy z
known s f place copy z e = go (join_of s f) refl e
  where
    go : (a : Answer ℤ) → join_of s f ≡ a → and_then a (packet_field (shown_of s f) (carrier_sub_tlv s f) place copy) ≡ value z → Known s f place copy z
    go (refused n) q r = absurd (not_both r)
    go (value t) q r = record { total = t; joined = q; packet = taken (shown_of s f) (carrier_sub_tlv s f) place copy t z r }

-- the copy afterwards
stored : (s f : List ℕ) (place : ℕ) (copy : List ℕ) (z : ℤ) → (correct_of s f place copy).answer ≡ value z → (correct_of s f place copy).copy ≡ put copy (place + 8) (signed_octets z)
stored s f place copy z e = ap (copy_by place copy) e

put_octets : (n : ℕ) (copy : List ℕ) (z : ℤ) → n + 8 ≤ length copy → put copy n (signed_octets z) ≡ take n copy ++ signed_octets z ++ drop (n + 8) copy
put_octets n copy z h = rw (le-leb (n + 8) (length copy) h)

pub field_alone : FieldAlone
field_alone s f place copy z e =
    let k = (known s f place copy z e).packet in
    let fits = k.fits in
    let n : place + 8 + 8 ≡ place + 16 = omega arith in (
      omega (arith, ap (length {A = ℕ}) k.copied),
      stored s f place copy z e
          ∙ put_octets (place + 8) copy z (omega arith)
          ∙ (λ i. take (place + 8) (k.copied i) ++ signed_octets z ++ drop (n i) (k.copied i)),
    )

-- the fields of a header in a copy whose correctionField was stored
module _ (copy : List ℕ) (place : ℕ) (z : ℤ) (h : place + 34 ≤ length copy) where
  abbrev after : List ℕ
  after = put copy (place + 8) (signed_octets z)

  octet_before : (i : ℕ) → i + 1 ≤ 8 → get_or (drop place after) i 0 ≡ get_or (drop place copy) i 0
  octet_before i l =
      get_or-drop place after i 0
      ∙ get_or_before copy (signed_octets z) (place + 8) (place + i) (omega arith)
      ∙ sym (get_or-drop place copy i 0)

  before_field : (w i : ℕ) → i + w ≤ 8 → number w (drop place after) i ≡ number w (drop place copy) i
  before_field w i l =
      number-drop w place i after
      ∙ number_before copy (signed_octets z) (place + 8) w (place + i) (omega arith)
      ∙ sym (number-drop w place i copy)

  behind_field : (w i : ℕ) → 16 ≤ i → number w (drop place after) i ≡ number w (drop place copy) i
  behind_field w i l =
      number-drop w place i after
      ∙ number_behind copy (signed_octets z) (place + 8) w (place + i) (omega arith)
      ∙ sym (number-drop w place i copy)

  the_field : SFits w64 z → signed_number (drop place after) 8 ≡ z
  the_field f =
      ap (to_z w64)
      (number-drop 8 place 8 after ∙ number_there copy (place + 8) 8 (of_z w64 z) (omega arith) (omega (arith, of_z_fits w64 z f)))
      ∙ to_z-of_z w64 z f

  header_after : SFits w64 z → ptp_header (drop place after) ≡ with_correction (ptp_header (drop place copy)) z
  header_after f =
      let b0 = octet_before 0 (omega arith) in
      let b1 = octet_before 1 (omega arith) in
      (λ i. record {
        major_sdo_id = b0 i / 16;
        message_type = b0 i % 16;
        minor_version_ptp = b1 i / 16;
        version_ptp = b1 i % 16;
        message_length = before_field 2 2 (omega arith) i;
        domain_number = before_field 1 4 (omega arith) i;
        minor_sdo_id = before_field 1 5 (omega arith) i;
        flag_field = before_field 2 6 (omega arith) i;
        correction_field = the_field f i;
        message_type_specific = behind_field 4 16 (omega arith) i;
        clock_identity = behind_field 8 20 (omega arith) i;
        port_number = behind_field 2 28 (omega arith) i;
        sequence_id = behind_field 2 30 (omega arith) i;
        control_field = behind_field 1 32 (omega arith) i;
        log_message_interval = behind_field 1 33 (omega arith) i;
      })

pub other_fields_back : OtherFieldsBack
other_fields_back s f place copy z e =
    let k = known s f place copy z e in
    let fits = sum_fits (ptp_header (drop place copy)).correction_field k.total z k.packet.sum in
    ap (λ (x : List ℕ). ptp_header (drop place x)) (stored s f place copy z e)
    ∙ header_after copy place z k.packet.fits fits
    ∙ ap (λ (x : List ℕ). with_correction (ptp_header (drop place x)) z) k.packet.copied

-- `field_by_carrier` meets its contract: its tests are the definition's, and the header is read from the place on.
use Rattle.std.proofs.Common.{◌≡◌, ℕ, ◌-◌, Bool, true, false, List, length, take, drop, sym, ap, ◌∙◌, arith, w64, length-drop}
use mathlib.Core.Bool.{not}
use Rattle.std.proofs.Math.Facts.{to_z-of_z}
use Rattle.octets.specs.Octets.{same}
use Rattle.octets.proofs.Stores.{rest}
use Rattle.refusal.specs.Answer.{refuse}
use Rattle.message.specs.declared.fields.SubTlv.{SubTlv}
use Rattle.message.specs.Read.{message_value, sub_tlv, carried_of}
use Rattle.reader.specs.Fields.{sub_tlv_in}
use Rattle.reader.proofs.Whole.{sub_tlv_in_lem}
use Rattle.egress.specs.Pair.{Whole}
use Rattle.correction.specs.Header.{ptp_header}
use Rattle.correction.specs.Correct.{agrees, field_of}
use Rattle.correction.proofs.Packets.{other_copy, no_header, header_there}
use Rattle.corrector.proofs.field_by_carrier.Goals as goal

-- the copy was compared with the packet carried
compared : (m copy : List ℕ) (r b : Bool) → Whole m → r ≡ same copy (take (length m - 36) (drop 36 m)) → r ≡ b → same copy (carried_of m) ≡ b
compared m copy r b w e g =
    let packet = rest m 36 ∙ ap (λ (n : ℕ). drop n m) (sym w.0) in
    sym (e ∙ ap (same copy) packet) ∙ g

-- and the header with the sub-TLV
agreed :
    (m v x y : List ℕ) (t : SubTlv) (r b : Bool)
    → Whole m
    → v ≡ message_value m
    → t ≡ sub_tlv_in v
    → x ≡ y
    → r ≡ agrees t (ptp_header x)
    → r ≡ b
    → agrees (sub_tlv (message_value m)) (ptp_header y) ≡ b
agreed m v x y t r b w ev et h e g =
    let long = w.1 in
    let u = et ∙ ap sub_tlv_in ev ∙ sub_tlv_in_lem (message_value m) (omega (arith, length-drop 16 m)) in
    sym (e ∙ (λ i. agrees (u i) (ptp_header (h i)))) ∙ g

-- what is left of a copy from a place on
left : (copy h : List ℕ) (place : ℕ) → h ≡ drop place copy → length h ≡ length copy - place
left copy h place e = ap length e ∙ length-drop place copy

pub returns-then-not-same : goal.returns-then-not-same
returns-then-not-same c =
    let m = c.args.carrier.now in
    other_copy (carried_of m) (sub_tlv (message_value m)) c.args.place c.args.copy.now c.args.total
    (compared m c.args.copy.now c.same.result false c.requires c.same.ensures c.if-not-same.true)

pub returns-then-header-lt-HEADER_SIZE : goal.returns-then-header-lt-HEADER_SIZE
returns-then-header-lt-HEADER_SIZE c =
    let m = c.args.carrier.now in
    let copy = c.args.copy.now in
    no_header (carried_of m) (sub_tlv (message_value m)) c.args.place copy c.args.total
    (compared m copy c.same.result true c.requires c.same.ensures c.if-not-same.false) (omega (arith, left copy c.header_at-header.result.now c.args.place c.header_at-header.ensures))

pub returns-then-not-agrees : goal.returns-then-not-agrees
returns-then-not-agrees c =
    let m = c.args.carrier.now in
    let copy = c.args.copy.now in
    let place = c.args.place in
    let h = ptp_header (drop place copy) in
    let differ = agreed m c.value.result.now c.header_at-header.result.now _ c.sub_tlv.result c.agrees.result false c.requires c.value.ensures c.sub_tlv.ensures c.header_at-header.ensures c.agrees.ensures c.if-not-agrees.true in
    sym (ap (λ (b : Bool). refuse 32 (not b) (field_of h c.args.total)) differ)
    ∙ header_there (carried_of m) (sub_tlv (message_value m)) place copy c.args.total
    (compared m copy c.same.result true c.requires c.same.ensures c.if-not-same.false) (omega (arith, left copy c.header_at-header.result.now place c.header_at-header.ensures))

pub returns : goal.returns
returns c =
    let m = c.args.carrier.now in
    let copy = c.args.copy.now in
    let place = c.args.place in
    let h = ptp_header (drop place copy) in
    let agree = agreed m c.value.result.now c.header_at-header.result.now _ c.sub_tlv.result c.agrees.result true c.requires c.value.ensures c.sub_tlv.ensures c.header_at-header.ensures c.agrees.ensures c.if-not-agrees.false in
    c.new_field.ensures
    ∙ (λ i. field_of (ptp_header (c.header_at-header.ensures i)) (to_z-of_z {w = w64} c.ranges.total i))
    ∙ sym (ap (λ (b : Bool). refuse 32 (not b) (field_of h c.args.total)) agree)
    ∙ header_there (carried_of m) (sub_tlv (message_value m)) place copy c.args.total
    (compared m copy c.same.result true c.requires c.same.ensures c.if-not-same.false) (omega (arith, left copy c.header_at-header.result.now place c.header_at-header.ensures))

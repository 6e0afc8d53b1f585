-- `correct` meets its contract: joining decides first, then the copy, and a new field is stored.
use Rattle.std.proofs.Common.{◌≡◌, ℕ, ℤ, ◌+◌, List, sym, ap, ◌∙◌, w64, rules, SFits, to_z, of_z}
use Rattle.std.proofs.Math.Facts.{to_z-of_z}
use Rattle.std.proofs.lemmas.Result.{err_from_is_err_and}
use Rattle.octets.specs.Octets.{signed_octets, put}
use Rattle.refusal.specs.Answer.{Answer, value, refused}
use Rattle.message.specs.Read.{carried_of}
use Rattle.egress.proofs.JoinedPair.{joined_pair}
use Rattle.correction.specs.Correct.{carrier_of, carrier_sub_tlv, packet_field, corrected_by}
use Rattle.correction.proofs.Packets.{by_carrier, taken}
use Rattle.corrector.proofs.correct.Goals as goal

-- what was answered of the carried packet, with the total as it was passed on
answered :
    (s f : List ℕ) (place : ℕ) (copy : List ℕ) (t : ℤ) (r : Answer ℤ)
    → SFits w64 t
    → r ≡ packet_field (carried_of (carrier_of s f)) (carrier_sub_tlv s f) place copy (to_z w64 (of_z w64 t))
    → r ≡ packet_field (carried_of (carrier_of s f)) (carrier_sub_tlv s f) place copy t
answered s f place copy t r fits e = e ∙ ap (packet_field (carried_of (carrier_of s f)) (carrier_sub_tlv s f) place copy) (to_z-of_z {w = w64} fits)

pub field_of_pair-requires : goal.field_of_pair-requires
field_of_pair-requires c = joined_pair c.args.sync.now c.args.follow_up.now c.in_ok-total.total (sym c.in_ok-total.ensures)

pub put_field-requires : goal.put_field-requires
put_field-requires c =
    let s = c.args.sync.now in
    let f = c.args.follow_up.now in
    let t : ℤ = c.in_ok-total.total in
    let fits : SFits w64 t = search rules in
    let copy = c.args.copy.now in
    (taken (carried_of (carrier_of s f)) (carrier_sub_tlv s f) c.args.place copy t c.in_ok-field.field (sym (answered s f c.args.place copy t (value c.in_ok-field.field) fits c.in_ok-field.ensures))).fits

pub returns : goal.returns
returns c =
    let s = c.args.sync.now in
    let f = c.args.follow_up.now in
    let t : ℤ = c.in_ok-total.total in
    let fits : SFits w64 t = search rules in
    let z : ℤ = c.in_ok-field.field in
    let small : SFits w64 z = search rules in
    let place = c.args.place in
    let copy = c.args.copy.now in
    let e = to_z-of_z {w = w64} small in
    let stored = c.put_field.ensures ∙ ap (λ (y : ℤ). put copy (place + 8) (signed_octets y)) e in
    (λ i. record { answer = value (e i); copy = stored i })
    ∙ ap (corrected_by place copy) (answered s f place copy t (value z) fits c.in_ok-field.ensures ∙ by_carrier s f place copy t (sym c.in_ok-total.ensures))

pub returns-in_err-field : goal.returns-in_err-field
returns-in_err-field c =
    let s = c.args.sync.now in
    let f = c.args.follow_up.now in
    let t : ℤ = c.in_ok-total.total in
    let fits : SFits w64 t = search rules in
    let place = c.args.place in
    let copy = c.args.copy.now in
    let p = err_from_is_err_and c.from_residual-in_err-field.result c.from_residual-in_err-field.ensures.1 in
    let e = ap (corrected_by place copy) (answered s f place copy t _ fits c.in_err-field.ensures ∙ by_carrier s f place copy t (sym c.in_ok-total.ensures)) in
    rw (p.1, p.2) e

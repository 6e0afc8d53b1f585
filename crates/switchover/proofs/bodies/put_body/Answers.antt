-- `put_body`: in the new form the kind's octet and the fields are one store.
use Rattle.std.proofs.Common.{◌≡◌, sym, ap, ◌∙◌, arith}
use Rattle.octets.specs.Octets.{put}
use Rattle.records.specs.Slots.{kind_number}
use Rattle.image.specs.declared.Form.{Form}
use Rattle.image.specs.Layout.{field_octets, field_widths, widths, body_size}
use Rattle.image.specs.Image.{fields_of, body_of}
use Rattle.image.proofs.Serving.{kind_octet}
use Rattle.switchover.proofs.Pieces.{kind_first}
use Rattle.switchover.proofs.bodies.put_body.Goals as goal

pub returns-in-New : goal.returns-in-New
returns-in-New c =
    let a = c.args in
    let e : body_size a.form ≡ 22 = ap body_size c.in-New.is in
    kind_first a.out.now c.put.new.out c.put_fields-in-New.new.out (field_octets field_widths (fields_of a.slot)) a.at
    c.number.result (kind_number a.slot.kind) c.number.ensures (kind_octet a.slot.kind)
    c.put.ensures c.put_fields-in-New.ensures (omega arith)
    ∙ sym (ap (λ (F : Form). put a.out.now a.at (field_octets (widths F) (body_of F a.slot))) c.in-New.is)

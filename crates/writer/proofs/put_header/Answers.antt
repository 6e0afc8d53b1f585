-- `put_header` meets its contract: each field is stored behind those before it.
use Rattle.std.proofs.Common.{refl, ap, ◌∙◌, ◌++◌, [], arith, rules, SFits, w64}
use Rattle.std.proofs.Math.Facts.{to_z-of_z}
use Rattle.octets.specs.Octets.{octets, signed_octets}
use Rattle.octets.proofs.Stores.{next}
use Rattle.message.specs.Write.{g_ach_header}
use Rattle.writer.proofs.put_header.Goals as goal

pub returns : goal.returns
returns c =
    let o = c.args.out.now in
    let h = c.args.header in
    let fits : SFits w64 h.pad = search rules in
    let pad = c.octets_signed-pad.ensures ∙ ap signed_octets (to_z-of_z {w = w64} fits) in
    let p1 = g_ach_header in
    let p2 = p1 ++ signed_octets h.pad in
    let p3 = p2 ++ octets 2 h.message_type in
    let e1 = next c.put.new.out o [] o p1 p1 0 c.put.ensures refl refl refl (omega arith) in
    let e2 = next c.put-2.new.out c.put.new.out p1 o c.octets_signed-pad.result (signed_octets h.pad) 4 c.put-2.ensures pad e1 refl (omega arith) in
    let e3 = next c.put-3.new.out c.put-2.new.out p2 o c.octets16-message_type.result (octets 2 h.message_type) 12 c.put-3.ensures c.octets16-message_type.ensures e2 refl (omega arith) in
    next c.put-4.new.out c.put-3.new.out p3 o c.octets16-size.result (octets 2 c.args.count) 14 c.put-4.ensures c.octets16-size.ensures e3 refl (omega arith)

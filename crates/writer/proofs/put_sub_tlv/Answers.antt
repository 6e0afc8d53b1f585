-- `put_sub_tlv` meets its contract: each field is stored behind those before it.
use Rattle.std.proofs.Common.{refl, ◌++◌, ◌≤◌, length, [], arith}
use Rattle.octets.specs.Octets.{octets}
use Rattle.octets.proofs.Stores.{next}
use Rattle.message.specs.Write.{sub_tlv_header, flag_octets}
use Rattle.writer.proofs.put_sub_tlv.Goals as goal

pub returns : goal.returns
returns c =
    let o = c.args.value.now in
    let long : 20 ≤ length o = c.requires in
    let t = c.args.sub_tlv in
    let p1 = sub_tlv_header t.length in
    let p2 = p1 ++ flag_octets t.two_step t.ptp_type in
    let p3 = p2 ++ octets 8 t.clock in
    let p4 = p3 ++ octets 2 t.port in
    let e1 = next c.put.new.out o [] o c.sub_tlv_header-header.result p1 0 c.put.ensures c.sub_tlv_header-header.ensures refl refl (omega arith) in
    let e2 = next c.put-2.new.out c.put.new.out p1 o c.flag_octets-flags.result (flag_octets t.two_step t.ptp_type) 4 c.put-2.ensures c.flag_octets-flags.ensures e1 refl (omega arith) in
    let e3 = next c.put-3.new.out c.put-2.new.out p2 o c.octets64-clock.result (octets 8 t.clock) 8 c.put-3.ensures c.octets64-clock.ensures e2 refl (omega arith) in
    let e4 = next c.put-4.new.out c.put-3.new.out p3 o c.octets16-port.result (octets 2 t.port) 16 c.put-4.ensures c.octets16-port.ensures e3 refl (omega arith) in
    next c.put-5.new.out c.put-4.new.out p4 o c.octets16-sequence.result (octets 2 t.sequence) 18 c.put-5.ensures c.octets16-sequence.ensures e4 refl (omega arith)

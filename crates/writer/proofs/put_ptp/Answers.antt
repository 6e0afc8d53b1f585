-- `put_ptp` meets its contract: the sub-TLV stands behind the header in the part that was lent, and the packet is stored behind both.
use Rattle.std.proofs.Common.{refl, ◌++◌, ◌+◌, length, arith}
use Rattle.octets.proofs.Stores.{next, behind}
use Rattle.message.specs.Write.{header_octets, sub_tlv_octets}
use Rattle.writer.proofs.put_ptp.Goals as goal

pub returns : goal.returns
returns c =
    let f = c.args.fields in
    let o = c.args.out.now in
    let v = c.args.carried.now in
    let h = header_octets f.header (20 + length v) in
    let t = sub_tlv_octets f.sub_tlv in
    let b = behind c.put_header.new.out c.put_sub_tlv.new.value h t o 16 20 c.put_header.ensures refl c.put_sub_tlv.ensures in
    next c.put.new.out _ (h ++ t) o v v 36 c.put.ensures refl b refl (omega arith)

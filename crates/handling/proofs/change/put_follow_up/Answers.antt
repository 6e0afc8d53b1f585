-- Each field is stored behind those before it; the Type, and port and sequence, are parts of the Sync.
use Rattle.std.proofs.Common.{refl, ap, ◌∙◌, arith, [], ◌++◌, take, drop}
use Rattle.octets.specs.Octets.{octets}
use Rattle.octets.proofs.Puts.{each, part_each}
use Rattle.octets.proofs.Stores.{next}
use Rattle.message.specs.Write.{g_ach_header}
use Rattle.rules.specs.Change.{follow_up_fields}
use Rattle.handling.proofs.change.put_follow_up.Goals as goal

pub returns : goal.returns
returns c =
    let o = c.args.output.now in
    let s = c.args.sync.now in
    let type = part_each 2 12 s (omega arith) in
    let stated = part_each 2 18 s (omega arith) in
    let identity = part_each 12 24 s (omega arith) in
    let fields = follow_up_fields (each 2 18 s) in
    let p1 = g_ach_header in
    let p2 = p1 ++ octets 8 c.args.units in
    let p3 = p2 ++ each 2 12 s in
    let p4 = p3 ++ fields in
    let e1 = next c.put.new.out o [] o p1 p1 0 c.put.ensures refl refl refl (omega arith) in
    let e2 = next c.put-2.new.out c.put.new.out p1 o c.octets64-pad.result (octets 8 c.args.units) 4 c.put-2.ensures c.octets64-pad.ensures e1 refl (omega arith) in
    let e3 = next c.put-3.new.out c.put-2.new.out p2 o (take 2 (drop 12 s)) (each 2 12 s) 12 c.put-3.ensures type e2 refl (omega arith) in
    let e4 =
    next c.put-4.new.out c.put-3.new.out p3 o c.follow_up_fields-fields.result fields 14 c.put-4.ensures
    (c.follow_up_fields-fields.ensures ∙ ap follow_up_fields stated) e3 refl (omega arith) in
    rw (type, stated, identity)
    (next c.put-5.new.out c.put-4.new.out p4 o (take 12 (drop 24 s)) (each 12 24 s) 24 c.put-5.ensures identity e4 refl (omega arith))

-- `put_fields`: five stores, each behind the one before it.
use Rattle.std.proofs.Common.{◌≡◌, ℕ, ◌+◌, List, [], ◌∷◌, ◌++◌, length, ap, arith}
use Rattle.octets.specs.Octets.{octets, put}
use Rattle.image.specs.Layout.{field_octets, field_widths}
use Rattle.image.specs.Image.{fields_of}
use Rattle.switchover.proofs.Writing.{writing_start, writing_on, writing_done}
use Rattle.switchover.proofs.bodies.put_fields.Goals as goal

pub returns : goal.returns
returns c =
    let o = c.args.out.now in
    let i = c.args.at in
    let r = c.args.slot in
    let all = field_octets field_widths (fields_of r) in
    let n = length o in
    let g = put o i all in
    let m1 = c.put.new.out in
    let m2 = c.put-2.new.out in
    let m3 = c.put-3.new.out in
    let m4 = c.put-4.new.out in
    let m5 = c.put-5.new.out in
    let wait = octets 1 r.wait in
    let residence = octets 8 r.residence in
    let sequence = octets 2 r.sequence in
    let port = octets 2 r.port in
    let clock = octets 8 r.clock in
    let r4 = wait in
    let r3 = residence ++ r4 in
    let r2 = sequence ++ r3 in
    let r1 = port ++ r2 in
    let w0 = writing_start o all i (i + 0) (omega arith) (omega arith) in
    let w1 = writing_on n g o (i + 0) m1 c.octets64-clock.result clock r1 (i + 8) w0 c.put.ensures c.octets64-clock.ensures (omega arith) in
    let w2 = writing_on n g m1 (i + 8) m2 c.octets16-port.result port r2 (i + 10) w1 c.put-2.ensures c.octets16-port.ensures (omega arith) in
    let w3 = writing_on n g m2 (i + 10) m3 c.octets16-sequence.result sequence r3 (i + 12) w2 c.put-3.ensures c.octets16-sequence.ensures (omega arith) in
    let w4 = writing_on n g m3 (i + 12) m4 c.octets64-residence.result residence r4 (i + 20) w3 c.put-4.ensures c.octets64-residence.ensures (omega arith) in
    let octet : ◌≡◌ {A = List ℕ} (r.wait ∷ []) wait = ap (λ (x : ℕ). x ∷ []) (omega arith) in
    let w5 = writing_on n g m4 (i + 20) m5 (r.wait ∷ []) wait [] (i + 21) w4 c.put-5.ensures octet (omega arith) in
    writing_done n g m5 (i + 21) w5

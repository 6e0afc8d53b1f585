-- Before each turn what is still to be written is the bodies from number `k` on.
use Rattle.std.proofs.Common.{◌≤◌, length}
use Rattle.octets.specs.Octets.{put}
use Rattle.image.specs.Layout.{first_body}
use Rattle.switchover.proofs.Offsets.{offset}
use Rattle.switchover.proofs.Writing.{Writing}
use Rattle.switchover.proofs.Pieces.{bodies_from}
use Rattle.switchover.proofs.bodies.put_bodies.Given as goal

abbrev pub invariant-loop-k : goal.invariant-loop-k
invariant-loop-k l =
    (l.k ≤ length l.records) ×
    Writing (length l.initial.out) (put l.initial.out (first_body l.contents.form l.contents.count) (bodies_from l.contents.form l.records 0)) l.out
    (offset l.contents.form l.contents.count l.k)
    (bodies_from l.contents.form l.records l.k)

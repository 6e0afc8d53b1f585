-- Before each turn what is still to be written is the offsets from number `k` on.
use Rattle.std.proofs.Common.{◌≡◌, ◌+◌, ◌*◌, ◌≤◌, length}
use Rattle.octets.specs.Octets.{put}
use Rattle.image.specs.Layout.{lead}
use Rattle.switchover.proofs.Writing.{Writing}
use Rattle.switchover.proofs.Pieces.{offset_octets}
use Rattle.switchover.proofs.contents.Contents.put.Given as goal

abbrev pub invariant-loop-k : goal.invariant-loop-k
invariant-loop-k l =
    (l.k ≤ l.self.count) ×
    (l.at ≡ length (lead l.self.form) + 1 + 2 * l.k) ×
    Writing (length l.initial.out) (put l.initial.out l.initial.at (offset_octets l.self.form l.self.count 0)) l.out l.at (offset_octets l.self.form l.self.count l.k)

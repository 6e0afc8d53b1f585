-- The packet of types 2 to 4 begins at octet 36 and goes to the end.
use Rattle.std.proofs.Common.{◌≡◌, ◌∙◌, ap, sym, slice_set, length, w64, of_z}
use mir.ValLaws.{to_z-of_z}
use Rattle.message.specs.Read.{read_of, packet_at}
use Rattle.egress.proofs.JoinedPair.{packet_length}
use Rattle.bunpennant.specs.C.{put_joined}
use Rattle.bunpennant.proofs.joins.put_joined.Goals as goal

pub returns : goal.returns
unfolding put_joined
returns c =
    let m = c.args.message.now in
    let e : packet_at (length m) (read_of m) ≡ 36 = c.requires.0 in
    let z = c.cast_unsigned.ensures ∙ ap (of_z w64) (to_z-of_z w64 c.args.total c.ranges.total) in
    λ i. slice_set (slice_set (slice_set (slice_set c.args.joined.now 0 (z i)) 1 c.args.which) 2 (sym e i)) 3 (sym (packet_length m e) i)

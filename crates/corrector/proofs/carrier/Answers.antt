-- `carrier` meets its contract: the Follow_Up carried the packet if it has more than 36 octets.
use Rattle.std.proofs.Common.{arith}
use Rattle.message.specs.Read.{carried_of}
use Rattle.egress.proofs.JoinedPair.{packet_length}
use Rattle.correction.proofs.Packets.{carrier_sync, carrier_follow_up}
use Rattle.corrector.proofs.carrier.Goals as goal

pub returns-then-follow_up-gt-CARRIED : goal.returns-then-follow_up-gt-CARRIED
returns-then-follow_up-gt-CARRIED c =
    let s = c.args.sync.now in
    let f = c.args.follow_up.now in
    carrier_follow_up (carried_of f) s f (λ q. omega (arith, packet_length f c.requires.0))

pub returns : goal.returns
returns c =
    let s = c.args.sync.now in
    let f = c.args.follow_up.now in
    carrier_sync (carried_of f) s f (omega (arith, packet_length f c.requires.0))

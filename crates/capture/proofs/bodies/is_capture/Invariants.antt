-- Before each turn the octets are a capture where those from number `k` on are bodies.
use Rattle.capture.proofs.Checking.{Checked}
use Rattle.capture.proofs.bodies.is_capture.Given as goal

abbrev pub invariant-loop-k : goal.invariant-loop-k
invariant-loop-k l = Checked l.capture l.n l.k

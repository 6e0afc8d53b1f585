-- Before each turn the records of the bodies before number `k` are read.
use Rattle.switchover.proofs.BodiesRead.{Read}
use Rattle.switchover.proofs.bodies.read_bodies.Given as goal

abbrev pub invariant-loop-k : goal.invariant-loop-k
invariant-loop-k l = Read l.contents.form l.image l.contents.count l.records l.k

-- Before each turn the first i hops are read.
use Rattle.planner.proofs.HopsRead.{Read}
use Rattle.planner.proofs.file.hops_in.Given as goal

abbrev pub invariant-loop-i : goal.invariant-loop-i
invariant-loop-i l = Read l.path l.count l.hops l.i

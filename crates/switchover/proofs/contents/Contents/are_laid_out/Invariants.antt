-- Before each turn the offsets before number `k` agree.
use Rattle.switchover.proofs.Comparing.{Compared}
use Rattle.switchover.proofs.contents.Contents.are_laid_out.Given as goal

abbrev pub invariant-loop-k : goal.invariant-loop-k
invariant-loop-k l = Compared l.self.form l.image l.self.count l.at l.k

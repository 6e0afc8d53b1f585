-- Before each turn the report so far goes on to the report on the whole.
use Rattle.words.specs.Words.{slots_of}
use Rattle.rerun.proofs.Turns.{Going}
use Rattle.rerun.proofs.running.run.Given as goal

abbrev pub invariant-loop-k : goal.invariant-loop-k
invariant-loop-k l = Going l.capture l.n l.report (slots_of l.words) l.k

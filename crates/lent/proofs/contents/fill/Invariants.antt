-- Before each turn the first `k` records are in the words.
use Rattle.words.proofs.Fills.{Filled}
use Rattle.lent.proofs.contents.fill.Given as goal

abbrev pub invariant-loop-k : goal.invariant-loop-k
invariant-loop-k l = Filled l.initial.words l.words l.fn.slots l.k

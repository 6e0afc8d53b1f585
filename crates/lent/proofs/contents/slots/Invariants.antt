-- Before each turn the first `i` slots are there.
use Rattle.lent.proofs.Unpacked.{Unpacked}
use Rattle.lent.proofs.contents.slots.Given as goal

abbrev pub invariant-loop-i : goal.invariant-loop-i
invariant-loop-i l = Unpacked l.words l.slots l.i

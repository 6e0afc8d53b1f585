-- Before each turn the slots below `i` have aged, and those that were emptied are counted.
use Rattle.words.proofs.Ticks.{Swept}
use Rattle.lent.proofs.operations.tick.Given as goal

abbrev pub invariant-loop-i : goal.invariant-loop-i
invariant-loop-i l = Swept l.initial.words l.words l.emptied l.i

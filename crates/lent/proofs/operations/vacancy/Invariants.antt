-- Before each turn no slot below `i` is empty.
use Rattle.records.specs.Slots.{empty}
use Rattle.words.specs.Words.{slots_of}
use Rattle.lent.proofs.Search.{Searched}
use Rattle.lent.proofs.operations.vacancy.Given as goal

abbrev pub invariant-loop-i : goal.invariant-loop-i
invariant-loop-i l = Searched empty (slots_of l.words) l.i

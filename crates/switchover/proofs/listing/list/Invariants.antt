-- Before each turn the records of the slots gone over are listed.
use Rattle.switchover.proofs.Listed.{Listed}
use Rattle.switchover.proofs.listing.list.Given as goal

abbrev pub invariant-loop-slot : goal.invariant-loop-slot
invariant-loop-slot l = Listed l.fn.slots l.listing.0 l.listing.1.0 l.slot-index

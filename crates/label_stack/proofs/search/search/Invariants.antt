use Rattle.std.proofs.Common.{length, ◌-◌}
use Rattle.rtm_set.specs.Entries.{entries_in}
use Rattle.label_stack.proofs.Walk.{Walked}
use Rattle.label_stack.proofs.search.search.Given as goal

-- the hops before where the walk stands were searched in vain
abbrev pub invariant-loop-at : goal.invariant-loop-at
invariant-loop-at l = Walked l.hops (entries_in l.set) l.position l.at l.place

abbrev pub decreases-loop-at : goal.decreases-loop-at
decreases-loop-at l = length l.hops - l.at

use Rattle.std.proofs.Common.{length, drop, ◌-◌, ◌≡◌}
use Rattle.rtm_set.specs.Entries.{entries_in, Sound}
use Rattle.label_stack.specs.Ttl.{occurs}
use Rattle.label_stack.proofs.search.occurs.Given as goal

-- the entries before where the walk stands are others, and the rest decides
abbrev pub invariant-loop-at : goal.invariant-loop-at
invariant-loop-at l = Sound (drop l.at l.set) × (occurs l.hop (entries_in l.set) ≡ occurs l.hop (entries_in (drop l.at l.set)))

abbrev pub decreases-loop-at : goal.decreases-loop-at
decreases-loop-at l = length l.set - l.at

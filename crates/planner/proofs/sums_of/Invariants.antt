-- Before each turn the sums of all hops are those of the hops left, from the sums so far.
use Rattle.std.proofs.Common.{◌*◌, ◌≡◌, ◌≤◌, length}
use Rattle.std.specs.Prelude.{drop}
use Rattle.residence.specs.Residence.{limit}
use Rattle.planner.specs.Sums.{checked_sums}
use Rattle.planner.proofs.Fold.{ending}
use Rattle.planner.proofs.sums_of.Given as goal

abbrev pub invariant-loop-hop : goal.invariant-loop-hop
invariant-loop-hop l =
    (ending l.sums (drop l.hop-index l.hops) ≡ checked_sums l.hops)
    × (l.sums.one_step ≤ l.hop-index * limit)
    × (l.sums.two_step ≤ l.hop-index * limit)
    × (l.hop-index ≤ length l.hops)
    × (length l.hops ≤ 255)

-- No turn counts more than one pair.
use Rattle.std.proofs.Common.{◌≤◌}
use Rattle.by_value.proofs.bench_pairs.Given as goal

abbrev pub invariant-loop-done : goal.invariant-loop-done
invariant-loop-done l = l.right ≤ l.done

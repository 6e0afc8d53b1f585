-- Before each turn the verdict is that on the records from record `i` on.
use Rattle.std.proofs.Common.{◌≡◌, drop}
use Rattle.image.specs.Image.{distinct}
use Rattle.switchover.proofs.listing.are_distinct.Given as goal

abbrev pub invariant-loop-i : goal.invariant-loop-i
invariant-loop-i l = distinct l.records ≡ distinct (drop l.i l.records)

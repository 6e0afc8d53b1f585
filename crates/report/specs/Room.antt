-- For the private functions of `rerun`, which count: what a report on so many events can have come to, with the table beside it, so that
-- nothing is counted past the width of its number. Each event adds at most one to one count, and less than 262,144,000,000,000 units to the
-- sum, those of a record included.
use Rattle.std.specs.Prelude.{ℕ, ◌*◌, ◌≤◌, ◌≡◌, true}
use Rattle.residence.specs.Residence.{limit}
use Rattle.records.specs.Slots.{Slots, records_of}
use Rattle.image.specs.Image.{right_residence, every}
use Rattle.report.specs.declared.Report.{Report}
use Rattle.report.specs.Promises.{total}

pub record Room (k : ℕ) (r : Report) (t : Slots) : Type 0 where
  pub counts : total r.counts ≤ k
  pub sum : r.residences.sum ≤ k * limit
  pub below : every right_residence (records_of t) ≡ true

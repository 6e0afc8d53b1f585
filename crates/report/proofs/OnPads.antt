-- What counts of a call is what its reply puts on a pad, and where nothing counts its message and output are as they came.
-- Assumes nothing.
use Prim.Native.Nat.{ℕ}
use mathlib.Core.Path.{refl}
use mathlib.Core.Bool.{Bool, true, false}
use lib.Dec.{ltb}
use lib.ListN.{length}
use Rattle.refusal.specs.Answer.{Answer, value, refused}
use Rattle.residence.specs.Residence.{accepted_of}
use Rattle.rules.specs.Rules.{Kind, sync, follow_up, delay_req, delay_resp, timed, untimed, unreadable, kind_of, Mode, one_step, two_step, Call, update, create_in, create, keep, gather, reply_by, Reply}
use Rattle.rules.specs.Path.{units_of}
use Rattle.report.specs.Report.{residence_counted}
use Rattle.report.specs.Promises.{OnPad, by_update, by_adding, by_creating, by_none, ResidencesOnPads}

-- what counts of a reply, where the call's own stay and the record's are these
abbrev Fits : Call → ℕ → ℕ → Reply → Type 0
Fits c own kept r = OnPad c r (residence_counted r.answer own kept)

update-Fits : (c : Call) (a : Answer ℕ) (kept : ℕ) → Fits c (units_of a) kept (update c a)
update-Fits c (value u) kept = by_update u refl
update-Fits c (refused n) kept = by_none tt refl

create-Fits : (c : Call) (a : Answer ℕ) (kept : ℕ) → Fits c (units_of a) kept (create c a)
create-Fits c (value u) kept = room (ltb (length c.output) 36)
  where
    room : (b : Bool) → Fits c u kept (create_in c u b)
    room true = by_none tt refl
    room false = by_creating u refl refl
create-Fits c (refused n) kept = by_none tt refl

keep-Fits : (c : Call) (a table : Answer ℕ) (own kept : ℕ) → Fits c own kept (keep c a table)
keep-Fits c (value u) (value v) own kept = by_none tt refl
keep-Fits c (value u) (refused n) own kept = by_none tt refl
keep-Fits c (refused n) table own kept = by_none tt refl

gather-Fits : (c : Call) (table : Answer ℕ) (own : ℕ) → Fits c own (units_of table) (gather c table)
gather-Fits c (value u) own = by_adding u refl
gather-Fits c (refused n) own = by_none tt refl

module _ (c : Call) (table : Answer ℕ) where
  abbrev own : Answer ℕ
  own = accepted_of c.residence

  reply_fits : (m : Mode) (k : Kind) → Fits c (units_of own) (units_of table) (reply_by m c table k)
  reply_fits one_step (sync q s) = update-Fits c own (units_of table)
  reply_fits one_step (delay_req q) = update-Fits c own (units_of table)
  reply_fits one_step timed = update-Fits c own (units_of table)
  reply_fits one_step (follow_up q) = by_none tt refl
  reply_fits one_step (delay_resp q) = by_none tt refl
  reply_fits one_step untimed = by_none tt refl
  reply_fits one_step (unreadable n) = by_none tt refl
  reply_fits two_step (sync q false) = create-Fits c own (units_of table)
  reply_fits two_step (sync q true) = keep-Fits c own table (units_of own) (units_of table)
  reply_fits two_step (delay_req q) = keep-Fits c own table (units_of own) (units_of table)
  reply_fits two_step (follow_up q) = gather-Fits c table (units_of own)
  reply_fits two_step (delay_resp q) = gather-Fits c table (units_of own)
  reply_fits two_step timed = by_none tt refl
  reply_fits two_step untimed = by_none tt refl
  reply_fits two_step (unreadable n) = by_none tt refl

pub residences_on_pads : ResidencesOnPads
residences_on_pads c table = reply_fits c table c.mode (kind_of c.message)

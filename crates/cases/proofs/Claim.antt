-- Every marked case is right: both sides compute to the same list.
-- Assumes nothing.
use mathlib.Core.Path.{refl}
use Rattle.records.specs.Slots.{same, holds}
use Rattle.cases.specs.Cases.{AllRight}

pub claim : AllRight
unfolding same holds
claim = refl

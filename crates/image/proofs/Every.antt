-- `every`, which is std's word, in its two cases: of no records, and of one more.
-- Assumes nothing.
use Rattle.std.specs.Prelude.{◌≡◌, Bool, true, ◌&&◌, [], ◌∷◌}
use mathlib.Core.Path.{refl}
use Rattle.records.specs.declared.Record.{Record}
use Rattle.records.specs.Slots.{Slots}
use Rattle.image.specs.Image.{every}

pub every_of_none : (p : Record → Bool) → every p [] ≡ true
every_of_none p = refl

pub every_of_more : (p : Record → Bool) (r : Record) (rs : Slots) → every p (r ∷ rs) ≡ p r && every p rs
every_of_more p r rs = refl

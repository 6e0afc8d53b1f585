-- The number that a table keeps after slots were emptied.
-- Assumes nothing.
use Rattle.std.specs.Prelude.{ℕ, zero, suc, ◌-◌, ◌≡◌}
use mathlib.Core.Path.{refl}
use Rattle.records.specs.Number.{read_number, fewer}

-- it is fewer by as many, from what it is read as
pub fewer_some : (k n : ℕ) → (k ≡ 0 → ⊥) → fewer k n ≡ read_number n - k
fewer_some zero n h = absurd (h refl)
fewer_some (suc k) n h = refl

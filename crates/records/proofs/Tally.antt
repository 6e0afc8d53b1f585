-- A tick tells how many slots it emptied: the records before it are those after it and those that it counts.
-- Assumes nothing.
use Prim.Native.Nat.{ℕ, zero, suc, ◌+◌}
use mathlib.Core.Path.{◌≡◌}
use mathlib.Core.List.{[], ◌∷◌}
use native.Mathlib.Omega.{arith}
use borrow.Author.Tests.{ne_eqb}
use lib.Dec.{eqb-suc-zero}
use Rattle.records.specs.Slots.{aged_by, ticked, emptied, records_in}
use Rattle.records.specs.Ageing.{TickTells}
use Rattle.records.proofs.Holding.{with_wait}

pub tick_tells : TickTells
tick_tells [] = omega arith
tick_tells (s ∷ t) = go s.wait (tick_tells t)
  where
    go :
        (w : ℕ)
        → records_in t ≡ records_in (ticked t) + emptied t
        → records_in (with_wait s w ∷ t) ≡ records_in (aged_by w (with_wait s w) ∷ ticked t) + emptied (with_wait s w ∷ t)
    go zero h = h
    go (suc zero) h = omega arith
    go (suc (suc w)) h = simp (eqb-suc-zero, ne_eqb (suc (suc w)) 1 (λ e. omega arith)) (omega arith)

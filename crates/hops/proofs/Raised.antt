-- The pads of a plan: that of a Follow_Up which is not there, and a sum held at each hop or once.
-- Assumes nothing.
use Prim.Native.Nat.{ℕ, ◌+◌}
use mathlib.Core.Path.{◌≡◌, refl, sym, ap, ◌∙◌}
use mathlib.Core.Bool.{Bool, true, false, cond, ◌||◌, true≢false}
use mathlib.Core.List.{List, [], ◌∷◌}
use native.Mathlib.Omega.{arith}
use lib.Dec.{eqb}
use lib.IntN.{ℤ, pos}
use mir.Syntax.{w64}
use mir.Val.{SFits, of_z}
use mir.ValLaws.{to_z-of_z}
use Rattle.scratch_pad.specs.Sum.{raised}
use Rattle.scratch_pad.proofs.Whole.{in_range}
use Rattle.scratch_pad.proofs.Held.{raised_none, raised_more, raised_range, read_range}
use Rattle.hops.specs.declared.Hop.{Hop}
use Rattle.hops.specs.declared.End.{End}
use Rattle.hops.specs.Plan.{residence_in, residences_in, any_in}
use Rattle.hops.specs.Promises.{NoneIsZero, raised_at_each, HeldOnce}
use Rattle.hops.proofs.Laws.{plan_value}

-- without a hop of a mode there is no residence of it
none_in : (m : ℕ) (hs : List Hop) → any_in m hs ≡ false → residences_in m hs ≡ 0
none_in m [] e = refl
none_in m (h ∷ hs) e = go (eqb h.mode m) e (λ f. none_in m hs f)
  where
    go : (b : Bool) → b || any_in m hs ≡ false → (any_in m hs ≡ false → residences_in m hs ≡ 0) → cond b h.residence 0 + residences_in m hs ≡ 0
    go true f on = absurd (true≢false f)
    go false f on = omega (arith, on f)

pub none_is_zero : NoneIsZero
none_is_zero hs s e p f =
    let x = (plan_value hs s e p).2 in
    sym (ap (λ (y : End). y.follow_up_pad) x) ∙ go s.two_step (ap (λ (y : End). y.exists) x ∙ f)
  where
    go : (b : Bool) → b || any_in 2 hs ≡ false → raised (cond b s.follow_up_pad (pos 0)) (residences_in 2 hs) ≡ pos 0
    go true g = absurd (true≢false g)
    go false g = ap (raised (pos 0)) (none_in 2 hs g)

-- a number of 64 bits is in the range
pub fits_range : (z : ℤ) → SFits w64 z → in_range z ≡ true
fits_range z f = ap in_range (sym (to_z-of_z w64 z f)) ∙ read_range (of_z w64 z)

pub held_once : HeldOnce
held_once m z hs f = go hs z (fits_range z f)
  where
    go : (hs : List Hop) (z : ℤ) → in_range z ≡ true → raised_at_each m z hs ≡ raised z (residences_in m hs)
    go [] z r = sym (raised_none z r)
    go (h ∷ hs) z r =
        go hs (raised z (residence_in m h)) (raised_range z (residence_in m h) r) ∙ raised_more z (residence_in m h) (residences_in m hs)

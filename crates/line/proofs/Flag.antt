-- A flag that is told as a number.
-- Assumes nothing.
use Prim.Native.Nat.{ℕ}
use mathlib.Core.Path.{◌≡◌, refl}
use mathlib.Core.Bool.{Bool, true, false, cond}
use mir.Val.{bool_byte}

pub flag : {A : Type 0} (f : ℕ → A) (b : Bool) → f (bool_byte b) ≡ cond b (f 1) (f 0)
flag f true = refl
flag f false = refl

-- A message of over 2,048 octets is refused with 2 whatever it holds, so that the size of the copy decides nothing.
-- Assumes nothing.
use Prim.Native.Nat.{ℕ, ◌<◌}
use mathlib.Core.Path.{◌≡◌, refl}
use mathlib.Core.List.{List}
use native.Mathlib.Omega.{arith}
use borrow.Author.Tests.{le-ltb, lt-ltb}
use lib.ListN.{length}
use Rattle.rules.specs.Rules.{unreadable, kind_of}

pub too_long : (m : List ℕ) → 2048 < length m → kind_of m ≡ unreadable 2
too_long m h = rw (le-ltb (length m) 16 (omega arith), lt-ltb 2048 (length m) h) refl

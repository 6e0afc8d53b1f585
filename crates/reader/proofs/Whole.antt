-- A Value with nothing to refuse has 20 octets, so that its sub-TLV is read.
-- Assumes nothing.
use Prim.Native.Nat.{ℕ, ◌≤◌}
use mathlib.Core.Path.{◌≡◌}
use mathlib.Core.List.{List}
use borrow.Author.Tests.{le-ltb}
use lib.ListN.{length}
use Rattle.message.specs.Read.{sub_tlv}
use Rattle.reader.specs.Fields.{sub_tlv_in}

pub sub_tlv_in_lem : (v : List ℕ) → 20 ≤ length v → sub_tlv_in v ≡ sub_tlv v
sub_tlv_in_lem v h = rw (le-ltb (length v) 20 h)

-- Octets that were received, put at the start of a buffer: they are counted there, and the rest of it stays.
-- Assumes nothing.
use Prim.Native.Nat.{ℕ, ◌≤◌}
use mathlib.Core.Path.{◌≡◌, ap, ◌∙◌}
use mathlib.Core.List.{List}
use native.Mathlib.Omega.{arith}
use lib.ListN.{length, take, drop}
use lib.Seq.{length-take-le}
use Rattle.octets.specs.Octets.{put}
use Rattle.octets.proofs.Puts.{length-put, drop_behind}
use Rattle.io.specs.Counts.{IsPrefixLen}
use Rattle.io.proofs.Counting.{prefix_len_of_le}

module _ (before part after : List ℕ) (n : ℕ) (told : n ≤ length part) (room : length part ≤ length before) (is : after ≡ put before 0 (take n part)) where
  pub received_counts : IsPrefixLen n after
  received_counts =
      let l : length after ≡ length before = ap length is ∙ length-put before (take n part) 0 in
      prefix_len_of_le n after (omega arith)

  pub received_stays : drop n after ≡ drop n before
  received_stays = ap (drop n) is ∙ drop_behind before (take n part) 0 n (omega (arith, length-take-le n part told))

-- What holds of a read from standard input, whatever was read.
use Rattle.std.specs.Prelude.{ℕ, ◌<◌, ◌≤◌, ◌≡◌, List, length, drop}

-- n octets, of `size` that were asked for, now stand at the start of the buffer
pub record Reads (size : ℕ) (before after : List ℕ) (n : ℕ) : Type 0 where
  pub within : n ≤ size
  -- no more than the buffer has, and every octet of it beyond them as it was
  pub fits : n ≤ length before
  pub beyond : drop n after ≡ drop n before
  -- none where the buffer has no room for so many, or one call does not read so many; it is then as it came (`beyond`, with n = 0)
  pub no_room : length before < size → n ≡ 0
  pub too_many : 65536 < size → n ≡ 0

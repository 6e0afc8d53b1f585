-- What is asked of the messages of a joined pair.
use Rattle.std.specs.Prelude.{ℕ, ◌≤◌, ◌≡◌, List, length}
use Rattle.message.specs.Read.{read_of, packet_at}

-- a message whose packet begins at octet 36, as in both messages of a joined pair
abbrev pub Whole : List ℕ → Type 0
Whole s = (packet_at (length s) (read_of s) ≡ 36) × (36 ≤ length s)

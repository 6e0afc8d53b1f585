-- The numbers that reading is refused with (document 01, Refusals).
use Rattle.std.specs.Prelude.{ℕ, ◌≤◌, ◌≡◌, List}
use Rattle.refusal.specs.Answer.{refused}
use Rattle.message.specs.Read.{read_of}

-- 1 to 8 and no other, of any octets
abbrev pub ReadNumbers : Type 0
ReadNumbers = (s : List ℕ) (n : ℕ) → read_of s ≡ refused n → (1 ≤ n) × (n ≤ 8)

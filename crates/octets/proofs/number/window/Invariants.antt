use Rattle.std.proofs.Common.{◌≡◌, ℕ, ◌+◌, ◌<◌, get_or, length}
use Rattle.octets.proofs.number.window.Given as goal

-- the octets before k are read
abbrev pub invariant-loop-k : goal.invariant-loop-k
invariant-loop-k g l = record {
  long : length l.octets ≡ g.row.N;
  read : (j : ℕ) → j < l.k → get_or l.octets j 0 ≡ get_or l.s (l.at + j) 0;
}

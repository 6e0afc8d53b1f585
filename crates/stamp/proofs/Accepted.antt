-- Nanoseconds that are accepted are those between the stamps, and short.
-- Assumes nothing.
use Rattle.std.proofs.Common.{◌≡◌, ℕ, ◌≤◌, ◌||◌, ltb, arith, ltb-false}
use Rattle.refusal.specs.Answer.{value, refuse}
use Rattle.refusal.proofs.Answers.{passes, same_value}
use Rattle.stamp.specs.declared.ptp.Stamp.{Stamp}
use Rattle.stamp.specs.Ptp.{elapsed, nanoseconds_of}

pub accepted : (entry exit : Stamp) (n : ℕ) → nanoseconds_of entry exit ≡ value n → (elapsed entry exit ≡ n) × (n ≤ 3999999999)
accepted entry exit n e =
    let d = elapsed entry exit in
    let f = passes 9 (ltb 999999999 entry.nanoseconds || ltb 999999999 exit.nanoseconds) (refuse 10 (ltb 3999999999 d) (value d)) n e in
    let g = passes 10 (ltb 3999999999 d) (value d) n f.1 in
    let same : d ≡ n = same_value g.1 in
    (same, omega (arith, ltb-false 3999999999 d g.0))

-- Before each turn the lines of all counts are the text and the lines of the counts left.
use Rattle.std.proofs.Common.{◌+◌, ◌*◌, ◌≤◌, ◌≡◌, ◌++◌, length, drop}
use Rattle.line.specs.Replaying.{refused_lines}
use Rattle.line.proofs.replaying.refused_lines.Given as goal

abbrev pub invariant-loop-n : goal.invariant-loop-n
invariant-loop-n l =
    (l.text ++ refused_lines l.n (drop l.n l.fn.refused) ≡ l.fn.text ++ refused_lines 0 l.fn.refused)
    × (length l.text ≤ length l.fn.text + 50 * l.n)

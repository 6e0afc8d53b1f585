-- Whole lists at document 01's node over words: what `words` Runs says of any node, of calls whose messages are octets.
use Rattle.std.specs.Prelude.{ℕ, ◌≡◌, List, length}
use Rattle.records.specs.Node.{Event}
use Rattle.words.specs.Runs.{SameRun}
use Rattle.rules.specs.Rules.{Call, rules}
use Rattle.rules.specs.Service.{InOctets}

-- from any 64 words, whatever stands in them, a list of calls, ticks and switchovers at document 01's node over words runs as the list
-- over their slots and their number does
abbrev pub WordsRun : Type 0
WordsRun = (w : List ℕ) (es : List (Event Call)) → length w ≡ 64 → InOctets es → SameRun rules w es

-- Before each turn no slot below `i` holds the record of any identity with this clock and key.
use Rattle.std.proofs.Common.{◌≡◌, ◌≤◌}
use Rattle.records.specs.declared.Identity.{Identity}
use Rattle.records.specs.Slots.{holds}
use Rattle.words.specs.Words.{slots_of, key_of}
use Rattle.words.specs.Meaning.{IdentityFits}
use Rattle.lent.proofs.Search.{Searched}
use Rattle.lent.proofs.operations.place.Given as goal

abbrev pub invariant-loop-i : goal.invariant-loop-i
invariant-loop-i l =
    (l.i ≤ 16) × ((q : Identity) → l.key ≡ key_of q → l.clock ≡ q.clock → IdentityFits q → Searched (holds q) (slots_of l.words) l.i)

-- A list over words with something in what is reserved, worked: a Sync waits, a tick and a switchover pass, and its Follow_Up collects.
-- Assumes nothing.
use Prim.Native.Nat.{ℕ}
use mathlib.Core.Path.{◌≡◌, refl, ap, ◌∙◌}
use mathlib.Core.Bool.{true}
use mathlib.Core.List.{List, [], ◌∷◌}
use lib.IntN.{pos}
use lib.ListN.{set, replicate}
use Rattle.octets.proofs.Low.{low-Octets}
use Rattle.refusal.specs.Answer.{value}
use Rattle.std.specs.Prelude.{Err}
use Rattle.residence.specs.declared.ResidenceError.TheVariants.{InvalidStamp}
use Rattle.records.specs.Slots.{same, holds, zeros}
use Rattle.records.specs.Node.{Event, tick, call, switchover, told, replied, taken_over}
use Rattle.image.specs.Image.{sound, differ}
use Rattle.words.specs.Words.{decoded, slots_of, number_of, key_of, packed_of, put_slot, with_number}
use Rattle.words.specs.Runs.{SameRun, run_words, final_words}
use Rattle.rules.specs.declared.Handled.TheVariants.{Waiting as waiting, Added as added}
use Rattle.rules.specs.Rules.{Call, two_step, rules}
use Rattle.rules.specs.Service.{InOctets}
use Rattle.rules.proofs.Samples.{numbered, octets_of, stayed, handed_in, answers, each, Low}
use Rattle.node.proofs.Runs.{words_run}

-- reserved bits beside the number 0, a reserved word, and rubbish in slot 1, which is empty
abbrev start : List ℕ
start = set (set (set (replicate 64 0) 0 0xAB00) 7 99) 19 11

abbrev message : ℕ → List ℕ
message k = octets_of (numbered 258) true k (pos 0)

abbrev events : List (Event Call)
events = call (handed_in two_step (message 0) (stayed 1)) ∷ tick ∷ switchover ∷ call (handed_in two_step (message 8) (Err InvalidStamp)) ∷ []

in_octets : InOctets events
in_octets k c = each Low events (low-Octets (message 0) refl, (tt, (tt, (low-Octets (message 8) refl, tt)))) k (call c)

runs : SameRun rules start events
runs = words_run start events refl in_octets

-- so the list over slots says what comes of it
answered : answers (run_words rules start events) ≡ replied (value waiting) ∷ told 0 ∷ taken_over ∷ replied (value added) ∷ []
unfolding decoded slots_of same holds sound differ
answered = ap answers runs.results ∙ refl

left : (slots_of (final_words rules start events) ≡ replicate 16 zeros) × (number_of (final_words rules start events) ≡ 0)
unfolding decoded slots_of number_of same holds sound differ
left = (runs.slots ∙ refl, runs.number ∙ refl)

-- and what is reserved stays, while the switchover replaced every slot
words_left : final_words rules start events ≡ set (set (replicate 64 0) 0 0xAB00) 7 99
unfolding decoded slots_of number_of key_of packed_of put_slot with_number same holds sound differ
words_left = refl

-- The numbers that a node call is refused with (document 01, Refusals; document 02, W-204, W-205 and W-210).
use Rattle.std.specs.Prelude.{ℕ, ◌<◌, ◌≤◌, ◌≡◌, false, List, ◌⊎◌, pos, ◌+ℤ◌, length}
use Rattle.refusal.specs.Answer.{value, refused}
use Rattle.scratch_pad.specs.Sum.{raised, too_low}
use Rattle.records.specs.Slots.{Slots}
use Rattle.rules.specs.Change.{pad_of}
use Rattle.rules.specs.Rules.{Mode, one_step, two_step, Call, Word, add_to_pad, call_of}

-- 1 to 8 of reading, 9 and 10 of the residence; at a two-step node also 12 for an output of under 36 octets, 13 to 15 of the table, and 16
abbrev pub GivenAt : Mode → Call → ℕ → Type 0
GivenAt one_step c n = (1 ≤ n) × (n ≤ 10)
GivenAt two_step c n = ((1 ≤ n) × (n ≤ 10)) ⊎ ((n ≡ 12) × (length c.output < 36)) ⊎ ((13 ≤ n) × (n ≤ 16))

abbrev pub Given : Call → ℕ → Type 0
Given c n = GivenAt c.mode c n

-- every call that is refused, from any table, is refused with one of these
abbrev pub NumbersGiven : Type 0
NumbersGiven = (t : Slots) (m : ℕ) (c : Call) (n : ℕ) → (call_of t m c).reply.answer ≡ refused n → Given c n

-- "Since W-205 an addition at a node cannot give 11, because no stay, in a record or new, is below 0." (W-210): 11 is for a sum below
-- -2^63, and of a pad, whatever octets it is read from, and a residence there is none
abbrev pub SumsNeverBelow : Type 0
SumsNeverBelow = (s : List ℕ) (u : ℕ) → too_low (pad_of s +ℤ pos u) ≡ false

-- So what is added is always a pad: the answer is the word and no number, and the sum is read back from octets 4 to 11
abbrev pub SumsArePads : Type 0
SumsArePads =
    (c : Call) (w : Word) (u : ℕ)
    → 12 ≤ length c.message
    → ((add_to_pad c w u).answer ≡ value w) × (pad_of (add_to_pad c w u).message ≡ raised (pad_of c.message) u)

-- "Show it for every node call": any message, residence and output, and any table
abbrev pub ElevenWithdrawn : Type 0
ElevenWithdrawn = (t : Slots) (m : ℕ) (c : Call) → (call_of t m c).reply.answer ≡ refused 11 → ⊥

-- What a router that links the node calls never meets (document 02, W-210).
use Rattle.std.specs.Prelude.{ℕ, ◌≡◌}
use Rattle.records.specs.Slots.{Slots}
use Rattle.rules.specs.Rules.{Call, call_of}
use Rattle.bunpennant.specs.C.{code_of}

-- "11 at nodes withdrawn, the number not used there again": no call's answer is 11 as a number either, where the words have codes of their own
abbrev pub CodesWithoutEleven : Type 0
CodesWithoutEleven = (t : Slots) (n : ℕ) (c : Call) → code_of (call_of t n c).reply.answer ≡ 11 → ⊥

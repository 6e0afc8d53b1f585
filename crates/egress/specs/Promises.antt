-- What joining keeps of refusal 11 (document 02, W-210).
use Rattle.std.specs.Prelude.{ℕ, ◌≡◌, Bool, true, false, List, ℤ, pos, negsuc, ◌+ℤ◌}
use Rattle.refusal.specs.Answer.{value, refused}
use Rattle.message.specs.declared.fields.Message.{Message}
use Rattle.message.specs.Read.{read_of}
use Rattle.scratch_pad.specs.Sum.{too_low}
use Rattle.egress.specs.Join.{is_pair, pad_in, join_of}

-- "below 0": negsuc n is -n-1
abbrev pub below_zero : ℤ → Bool
below_zero (pos n) = false
below_zero (negsuc n) = true

-- a pair of "two pads below 0 whose sum does not fit"
pub record SumBelow (s f : List ℕ) : Type 0 where
  pub sync : Message
  pub follow_up : Message
  pub first : read_of s ≡ value sync
  pub second : read_of f ≡ value follow_up
  pub pair : is_pair sync follow_up ≡ true
  pub both_below : (below_zero (pad_in sync) ≡ true) × (below_zero (pad_in follow_up) ≡ true)
  pub sum_below : too_low (pad_in sync +ℤ pad_in follow_up) ≡ true

-- "Joining keeps 11" for these, and for nothing else
abbrev pub ElevenKept : Type 0
ElevenKept = (s f : List ℕ) → (join_of s f ≡ refused 11 → SumBelow s f) × (SumBelow s f → join_of s f ≡ refused 11)

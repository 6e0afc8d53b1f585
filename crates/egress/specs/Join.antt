-- Joining (document 01, Writing and joining; refusals 18 and 11).
use Rattle.std.specs.Prelude.{ℕ, Bool, false, not, ◌&&◌, List, [], ◌∷◌, eqb, ℤ}
use Rattle.refusal.specs.Answer.{Answer, value, refused, refuse, and_then}
use Rattle.message.specs.declared.fields.Header.{Header}
use Rattle.message.specs.declared.fields.SubTlv.{SubTlv}
use Rattle.message.specs.declared.fields.Message.{Message}
use Rattle.message.specs.declared.fields.Message.TheVariants.{Plain, Ptp}
use Rattle.message.specs.Read.{header_in, read_of, carried_of}
use Rattle.scratch_pad.specs.Sum.{pad_sum}

-- "of the same Type, port and sequence"
abbrev pub alike : Header → SubTlv → Header → SubTlv → Bool
alike h t g u =
    eqb h.message_type g.message_type && (eqb t.clock u.clock && (eqb t.port u.port && eqb t.sequence u.sequence))

-- "a Sync message with S set and a Follow_Up message": "The Follow_Up's S is not looked at." Types 1 and 5 are never a pair.
abbrev pub is_pair : Message → Message → Bool
is_pair (Ptp h t) (Ptp g u) = eqb t.ptp_type 0 && (t.two_step && (eqb u.ptp_type 8 && alike h t g u))
is_pair (Ptp h t) (Plain g) = false
is_pair (Plain h) m = false

abbrev pub pad_in : Message → ℤ
pad_in m = (header_in m).pad

-- "The total is the sum of the pads.", 2^63-1 where that is too big (document 02, W-205): the Sync's 1 to 8, the Follow_Up's 1 to 8, 18, 11
abbrev pub join_by : Answer Message → Answer Message → Answer ℤ
join_by a b = and_then a (λ s. and_then b (λ f. refuse 18 (not (is_pair s f)) (pad_sum (pad_in s) (pad_in f))))

abbrev pub join_of : List ℕ → List ℕ → Answer ℤ
join_of s f = join_by (read_of s) (read_of f)

-- "The packet shown is the Follow_Up's carried packet, or the Sync's where that is empty. A refusal shows an empty part."
abbrev pub or_else : List ℕ → List ℕ → List ℕ
or_else [] s = s
or_else (x ∷ f) s = x ∷ f

abbrev pub shown_by : List ℕ → List ℕ → Answer ℤ → List ℕ
shown_by s f (value z) = or_else (carried_of f) (carried_of s)
shown_by s f (refused n) = []

abbrev pub shown_of : List ℕ → List ℕ → List ℕ
shown_of s f = shown_by s f (join_of s f)

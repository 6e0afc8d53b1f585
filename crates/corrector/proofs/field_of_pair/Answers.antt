-- `field_of_pair` meets its contract: it is asked of the message that carried the packet.
use Rattle.std.proofs.Common.{◌≡◌, ℕ, ℤ, List, [], ◌∷◌, ◌∙◌, w64}
use Rattle.std.proofs.Math.Facts.{to_z-of_z}
use Rattle.message.specs.Read.{message_value, sub_tlv, carried_of}
use Rattle.egress.specs.Pair.{Whole}
use Rattle.correction.specs.Correct.{carrier_by, packet_field}
use Rattle.corrector.proofs.field_of_pair.Goals as goal

-- whichever of the two carried it
whole_carrier : (c s f : List ℕ) → Whole s → Whole f → Whole (carrier_by c s f)
whole_carrier [] s f p q = p
whole_carrier (x ∷ xs) s f p q = q

-- the answer for a message and a total, where they are these
for-them :
    (c d : List ℕ) (place : ℕ) (copy : List ℕ) (t u : ℤ)
    → c ≡ d
    → t ≡ u
    → packet_field (carried_of c) (sub_tlv (message_value c)) place copy t ≡ packet_field (carried_of d) (sub_tlv (message_value d)) place copy u
for-them c d place copy t u e f = (λ i. packet_field (carried_of (e i)) (sub_tlv (message_value (e i))) place copy (f i))

pub field_by_carrier-requires : goal.field_by_carrier-requires
field_by_carrier-requires c =
    let s = c.args.sync.now in
    let f = c.args.follow_up.now in
    rw c.carrier.ensures (whole_carrier (carried_of f) s f c.requires.0 c.requires.1)

pub returns : goal.returns
returns c = c.field_by_carrier.ensures ∙ for-them _ _ c.args.place c.args.copy.now _ c.args.total c.carrier.ensures (to_z-of_z {w = w64} c.ranges.total)

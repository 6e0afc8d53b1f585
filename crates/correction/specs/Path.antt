-- What the clock at the far end sees: the packet of a pair that crossed a path, corrected at its end.
use Rattle.std.specs.Prelude.{ℕ, ◌≡◌, Bool, false, List, [], ℤ, pos, ◌+ℤ◌, drop}
use Rattle.refusal.specs.Answer.{value}
use Rattle.message.specs.Read.{carried_of}
use Rattle.scratch_pad.specs.Sum.{too_big}
use Rattle.records.specs.declared.Identity.{Identity}
use Rattle.egress.specs.Join.{join_of, or_else, shown_of}
use Rattle.rules.specs.Change.{pad_of}
use Rattle.rules.specs.Rules.{sync, kind_of}
use Rattle.rules.specs.Path.{Stop, Unrefused, Apart, Every, FirstWay, FollowUps, existing, born, never, residences}
use Rattle.rules.specs.Credited.{credits}
use Rattle.correction.specs.Header.{ptp_header}
use Rattle.correction.specs.Correct.{correct_of}

-- the Follow_Up as it leaves the path; where there is none, no octets, which no Sync is joined with
abbrev pub arrived : {q : Identity} {s : Bool} {path : List Stop} {first second : ℤ} → FollowUps q s path first second → List ℕ
arrived (existing {last = last} kind order way) = last
arrived (born before n {last = last} uncrossed here reply answer order way) = last
arrived (never uncreated) = []

-- what it carried at the start: one that a node creates carries nothing
abbrev pub carried_with : {q : Identity} {s : Bool} {path : List Stop} {first second : ℤ} → FollowUps q s path first second → List ℕ
carried_with (existing {f = f} kind order way) = carried_of f
carried_with (born before n uncrossed here reply answer order way) = []
carried_with (never uncreated) = []

-- the packet that the pair was sent with: the Follow_Up's, or the Sync's where that is empty
abbrev pub sent : {q : Identity} {s : Bool} {path : List Stop} {first second : ℤ} → List ℕ → FollowUps q s path first second → List ℕ
sent start way = or_else (carried_with way) (carried_of start)

-- It is the packet that joining shows at the end of the path: no node changes what a message carries, also where calls are refused.
abbrev pub ShownAsSent : Type 0
ShownAsSent =
    (q : Identity) (s : Bool) (start last : List ℕ) (path : List Stop) (first second total : ℤ)
    → kind_of start ≡ sync q s
    → FirstWay start path last
    → (way : FollowUps q s path first second)
    → join_of last (arrived way) ≡ value total
    → shown_of last (arrived way) ≡ sent start way

-- The whole path in one theorem: demand 3's first half (`rules` PathSum, with its premises as they stand there), and the packet of the two
-- messages that leave the path is corrected. Then its correctionField is that of the packet sent, and the starting pads, and every residence
-- of the Sync. It holds where the corrected field is below 2^63-1. That the two final pads, their total and the packet's own field are below
-- it need not be asked: any of them at 2^63-1 makes the corrected field 2^63-1, which says that the correction is too big.
abbrev pub PathCorrected : Type 0
PathCorrected =
    (q : Identity) (s : Bool) (start last : List ℕ) (path : List Stop) (first second : ℤ) (place : ℕ) (copy : List ℕ) (z : ℤ)
    → kind_of start ≡ sync q s
    → Every (Apart q) path
    → Every Unrefused path
    → FirstWay start path last
    → (way : FollowUps q s path first second)
    → (correct_of last (arrived way) place copy).answer ≡ value z
    → too_big z ≡ false
    → (ptp_header (drop place (correct_of last (arrived way) place copy).copy)).correction_field
    ≡ (ptp_header (drop place (sent start way))).correction_field +ℤ (pad_of start +ℤ first +ℤ pos (residences path))

-- The same where calls on the two are refused, or the Follow_Up comes early or late (W-213, `rules` CreditedSum): the residences of exactly
-- the nodes that answered one of the two with updated, created or added.
abbrev pub CreditedCorrected : Type 0
CreditedCorrected =
    (q : Identity) (s : Bool) (start last : List ℕ) (path : List Stop) (first second : ℤ) (place : ℕ) (copy : List ℕ) (z : ℤ)
    → kind_of start ≡ sync q s
    → Every (Apart q) path
    → FirstWay start path last
    → (way : FollowUps q s path first second)
    → (correct_of last (arrived way) place copy).answer ≡ value z
    → too_big z ≡ false
    → (ptp_header (drop place (correct_of last (arrived way) place copy).copy)).correction_field
    ≡ (ptp_header (drop place (sent start way))).correction_field +ℤ (pad_of start +ℤ first +ℤ pos (credits path))

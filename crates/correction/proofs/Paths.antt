-- The corrected field over a whole path: `PathCorrected` and `CreditedCorrected`.
-- Assumes nothing.
use Prim.Native.Nat.{ℕ}
use mathlib.Core.Path.{◌≡◌, sym, ap, ◌∙◌}
use mathlib.Core.Bool.{Bool, false}
use mathlib.Core.List.{List}
use lib.IntN.{ℤ, pos, ◌+ℤ◌}
use lib.ListN.{drop}
use Rattle.refusal.specs.Answer.{value}
use Rattle.scratch_pad.specs.Sum.{too_big}
use Rattle.scratch_pad.proofs.Sums.{sum_plain}
use Rattle.records.specs.declared.Identity.{Identity}
use Rattle.egress.specs.Join.{shown_of}
use Rattle.egress.proofs.JoinedPair.{pair}
use Rattle.rules.specs.Change.{pad_of}
use Rattle.rules.specs.Rules.{sync, kind_of}
use Rattle.rules.specs.Path.{Stop, FirstWay, FollowUps, residences}
use Rattle.rules.specs.Credited.{credits}
use Rattle.rules.proofs.PathSums.{path_sum, credited_sum}
use Rattle.correction.specs.Header.{PtpHeader, ptp_header}
use Rattle.correction.specs.Correct.{correct_of}
use Rattle.correction.specs.Path.{arrived, sent, PathCorrected, CreditedCorrected}
use Rattle.correction.proofs.Fields.{known, other_fields_back}
use Rattle.correction.proofs.Kept.{shown_as_sent, arrived_pad}

-- a corrected field below the largest number: it is the packet's own and the two pads, and both pads are below the largest
record Exact (s f : List ℕ) (place : ℕ) (copy : List ℕ) : Type 0 where
  field :
      (ptp_header (drop place (correct_of s f place copy).copy)).correction_field
      ≡ (ptp_header (drop place (shown_of s f))).correction_field +ℤ (pad_of s +ℤ pad_of f)
  first : too_big (pad_of s) ≡ false
  second : too_big (pad_of f) ≡ false

exact : (s f : List ℕ) (place : ℕ) (copy : List ℕ) (z : ℤ) → (correct_of s f place copy).answer ≡ value z → too_big z ≡ false → Exact s f place copy
exact s f place copy z e small =
    let k = known s f place copy z e in
    let p = sum_plain (ptp_header (drop place copy)).correction_field k.total z k.packet.sum small in
    let q = sum_plain (pad_of s) (pad_of f) k.total (pair s f k.total k.joined).sum p.right in
    record {
      field =
          ap (λ (h : PtpHeader). h.correction_field) (other_fields_back s f place copy z e)
          ∙ p.is
          ∙ (λ i. (ptp_header (drop place (k.packet.copied i))).correction_field +ℤ q.is i);
      first = q.left;
      second = q.right;
    }

-- the packet's own field is that of the packet sent, and the final pads are those of the two messages
module _ (q : Identity) (s : Bool) (start last : List ℕ) (path : List Stop) (first second : ℤ) (place : ℕ) (copy : List ℕ) (z : ℤ)
    (kind : kind_of start ≡ sync q s) (syncs : FirstWay start path last) (way : FollowUps q s path first second)
    (e : (correct_of last (arrived way) place copy).answer ≡ value z) (small : too_big z ≡ false) where
  abbrev own : List ℕ → ℤ
  own packet = (ptp_header (drop place packet)).correction_field

  at_the_end : Exact last (arrived way) place copy
  at_the_end = exact last (arrived way) place copy z e small

  -- by the sum that holds of the two final pads
  by_sum : (w : ℤ) → (too_big (pad_of last) ≡ false → too_big second ≡ false → pad_of last +ℤ second ≡ w)
      → own (correct_of last (arrived way) place copy).copy ≡ own (sent start way) +ℤ w
  by_sum w sum =
      let k = known last (arrived way) place copy z e in
      let packet = shown_as_sent q s start last path first second k.total kind syncs way k.joined in
      let pad = arrived_pad way in
      let total = ap (λ (y : ℤ). pad_of last +ℤ y) (sym pad) ∙ sum at_the_end.first (ap too_big pad ∙ at_the_end.second) in
      at_the_end.field ∙ (λ i. own (packet i) +ℤ total i)

pub path_corrected : PathCorrected
path_corrected q s start last path first second place copy z kind apart unrefused syncs way e small =
    by_sum q s start last path first second place copy z kind syncs way e small (pad_of start +ℤ first +ℤ pos (residences path))
    (path_sum q s start last path first second kind apart unrefused syncs way)

pub credited_corrected : CreditedCorrected
credited_corrected q s start last path first second place copy z kind apart syncs way e small =
    by_sum q s start last path first second place copy z kind syncs way e small (pad_of start +ℤ first +ℤ pos (credits path))
    (λ f g. (credited_sum q s start last path first second kind apart syncs way f g).0)

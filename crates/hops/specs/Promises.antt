-- What holds of every plan, from its definition alone (document 02, W-212): which lists are refused, and what the pads are.
use Rattle.std.specs.Prelude.{ℕ, ◌<◌, ◌≤◌, ◌≡◌, true, false, List, [], ◌∷◌, ◌++◌, ℤ, pos, length}
use Rattle.std.specs.Int.{w64}
use Rattle.std.proofs.Common.{SFits}
use Rattle.refusal.specs.Answer.{value, refused}
use Rattle.residence.specs.Residence.{limit}
use Rattle.scratch_pad.specs.Sum.{raised}
use Rattle.hops.specs.declared.Hop.{Hop}
use Rattle.hops.specs.declared.Start.{Start}
use Rattle.hops.specs.declared.End.{End}
use Rattle.hops.specs.Plan.{is_mode, residence_in, residences_in, end_of, plan_of}

-- The refusals from the other side: when each is given, whatever else holds. "28 first"
abbrev pub TooMany : Type 0
TooMany = (hs : List Hop) (s : Start) → 255 < length hs → plan_of hs s ≡ refused 28

-- "then the first bad hop, its mode before its stay": those before it are good, those behind it are any
abbrev pub Good : Hop → Type 0
Good h = (is_mode h.mode ≡ true) × (h.residence < limit)

abbrev pub AllGood : List Hop → Type 0
AllGood [] = Unit {0}
AllGood (h ∷ hs) = Good h × AllGood hs

abbrev pub FirstBad : Type 0
FirstBad =
    (before after : List Hop) (h : Hop) (s : Start)
    → length (before ++ h ∷ after) ≤ 255
    → AllGood before
    → (is_mode h.mode ≡ false → plan_of (before ++ h ∷ after) s ≡ refused 29)
    × (is_mode h.mode ≡ true → limit ≤ h.residence → plan_of (before ++ h ∷ after) s ≡ refused 10)

-- and no other list is refused
abbrev pub NoneBad : Type 0
NoneBad = (hs : List Hop) (s : Start) → length hs ≤ 255 → AllGood hs → plan_of hs s ≡ value (end_of hs s)

-- "where none exists its pad is 0"
abbrev pub NoneIsZero : Type 0
NoneIsZero = (hs : List Hop) (s : Start) (e : End) → plan_of hs s ≡ value e → e.exists ≡ false → e.follow_up_pad ≡ pos 0

-- One hop after the other, each sum held there and then, as nodes do it (W-205)
abbrev pub raised_at_each : ℕ → ℤ → List Hop → ℤ
raised_at_each m z [] = z
raised_at_each m z (h ∷ hs) = raised_at_each m (raised z (residence_in m h)) hs

-- Held at each hop or once at the end is the same: no residence is below 0, so that a pad that comes to 2^63-1 stays there.
abbrev pub HeldOnce : Type 0
HeldOnce = (m : ℕ) (z : ℤ) (hs : List Hop) → SFits w64 z → raised_at_each m z hs ≡ raised z (residences_in m hs)

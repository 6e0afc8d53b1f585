-- The plan of a path, "the pads that a path would show before it is built" (document 02, W-212; refusals 28, 29 and 10).
use Rattle.std.specs.Prelude.{ℕ, ◌+◌, Bool, false, cond, not, ◌||◌, List, [], ◌∷◌, ltb, leb, eqb, ℤ, pos, length}
use Rattle.refusal.specs.Answer.{Answer, value, refuse}
use Rattle.residence.specs.Residence.{limit}
use Rattle.scratch_pad.specs.Sum.{raised}
use Rattle.hops.specs.declared.Hop.{Hop}
use Rattle.hops.specs.declared.Start.{Start}
use Rattle.hops.specs.declared.End.{End}

-- "Take a list of hops, each a mode and a stay": 1 is one-step, 2 two-step
abbrev pub is_mode : ℕ → Bool
is_mode m = eqb m 1 || eqb m 2

-- the residences of the hops of one mode, and whether there is such a hop
abbrev pub residence_in : ℕ → Hop → ℕ
residence_in m h = cond (eqb h.mode m) h.residence 0

abbrev pub residences_in : ℕ → List Hop → ℕ
residences_in m [] = 0
residences_in m (h ∷ hs) = residence_in m h + residences_in m hs

abbrev pub any_in : ℕ → List Hop → Bool
any_in m [] = false
any_in m (h ∷ hs) = eqb h.mode m || any_in m hs

-- "with starting pads and S": the Sync's pad, the Follow_Up's, and S
abbrev pub start_with : ℤ → ℤ → Bool → Start
start_with x y s = record { sync_pad = x; follow_up_pad = y; two_step = s }

-- "with S clear its starting pad is not looked at": a Follow_Up that is created starts from 0
abbrev pub follow_up_start : Start → ℤ
follow_up_start s = cond s.two_step s.follow_up_pad (pos 0)

-- "With S set at the start a Follow_Up exists"; with S clear a two-step hop creates one, and sets S, whatever its residence
abbrev pub exists_after : List Hop → Start → Bool
exists_after hs s = s.two_step || any_in 2 hs

-- "give the final pads, S and whether a Follow_Up exists, by plain sums": the residences of one-step hops go on the Sync's pad, those of
-- two-step hops on the Follow_Up's. Each sum is held once, at its end ("with W-205's largest pad included"; Promises `HeldOnce`). "where
-- none exists its pad is 0": there is no two-step hop then, and the sum is of nothing onto 0 (Promises `NoneIsZero`)
abbrev pub end_of : List Hop → Start → End
end_of hs s =
    record {
      sync_pad = raised s.sync_pad (residences_in 1 hs);
      follow_up_pad = raised (follow_up_start s) (residences_in 2 hs);
      two_step = exists_after hs s;
      exists = exists_after hs s;
    }

-- "29 for a mode not 1 or 2, 10 for a stay of 262,144,000,000,000 units or more"; "then the first bad hop, its mode before its stay"
abbrev pub checked : {A : Type 0} → List Hop → Answer A → Answer A
checked [] next = next
checked (h ∷ hs) next = refuse 29 (not (is_mode h.mode)) (refuse 10 (leb limit h.residence) (checked hs next))

-- "28 for over 255 hops", "28 first"
abbrev pub plan_of : List Hop → Start → Answer End
plan_of hs s = refuse 28 (ltb 255 (length hs)) (checked hs (value (end_of hs s)))

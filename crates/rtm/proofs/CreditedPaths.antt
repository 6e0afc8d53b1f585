-- Calls with stamps on a path where some are refused: the credits are the residences of the credited nodes' stamps.
-- Assumes nothing.
use Prim.Native.Nat.{ℕ}
use mathlib.Core.Path.{◌≡◌, refl, ap, ◌∙◌}
use mathlib.Core.Bool.{Bool, true, false, cond}
use mathlib.Core.List.Permᴰ
use mathlib.Core.List.{List, [], ◌∷◌, map}
use native.Mathlib.Omega.{arith}
use lib.IntN.{pos, ◌+ℤ◌}
use lib.ListN.{get_elem?}
use Rattle.stamp.specs.declared.stamps.Stamps.{Stamps}
use Rattle.rules.specs.Change.{pad_of}
use Rattle.rules.specs.Path.{residence_at}
use Rattle.rules.specs.Credited.{credited, credits}
use Rattle.rules.proofs.PathSums.{credited_sum, delay_credited_sum}
use Rattle.rtm.specs.Stamped.{StampedStop, as_stop, stamps_in, total, units}
use Rattle.rtm.specs.Credited.{credited_stamps, StampedCreditedSum, StampedDelayCreditedSum}
use Rattle.rtm.proofs.Runs.{total-append, at_place}

along : (path : List StampedStop) → credits (map as_stop path) ≡ total units (credited_stamps path)
along [] = refl
along (n ∷ ns) = omega (arith, here (credited (as_stop n)), along ns, total-append units (cond (credited (as_stop n)) stamps []) (credited_stamps ns))
  where
    stamps : List Stamps
    stamps = stamps_in (get_elem? n.events n.first_place)

    here : (b : Bool) → cond b (residence_at (as_stop n)) 0 ≡ total units (cond b stamps [])
    here true = at_place n.events n.first_place
    here false = refl

pub stamped_credited_sum : StampedCreditedSum
stamped_credited_sum q s start last path first second e h w f c d =
    let x = credited_sum q s start last (map as_stop path) first second e h w f c d in
    (x.0 ∙ ap (λ (n : ℕ). pad_of start +ℤ first +ℤ pos n) (along path), x.1)

pub stamped_delay_credited_sum : StampedDelayCreditedSum
stamped_delay_credited_sum q request last response end path back e f h w p v c d =
    delay_credited_sum q request last response end (map as_stop path) (map as_stop back) e f h w (Permᴰ.map as_stop p) v c d
    ∙ ap (λ (n : ℕ). pad_of request +ℤ pad_of response +ℤ pos n) (along path)

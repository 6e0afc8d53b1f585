-- What the bounds on the final pads are for: paths of one node that meet every other premise of the path's sum. At a one-step node a
-- Sync comes within 1 ns of the largest pad and leaves with it; at a two-step node a Follow_Up, or a Delay_Resp, has it from the start.
-- Every call is answered, none is refused, every node is credited, and the sums part.
-- Assumes nothing.
use Prim.Native.Nat.{ℕ, ◌+◌, ◌-◌, ◌^◌}
use mathlib.Core.Path.{◌≡◌, refl, ap}
use mathlib.Core.Bool.{true}
use mathlib.Core.List.Permᴰ
use mathlib.Core.List.{List, [], ◌∷◌}
use mathlib.Core.Logic.{inl, inr}
use mathlib.Core.Option.{some}
use native.Mathlib.Omega.{arith}
use lib.IntN.{ℤ, pos, ◌+ℤ◌}
use lib.ListN.{replicate}
use Rattle.records.specs.Slots.{same, holds, zeros}
use Rattle.records.specs.Node.{tick, call}
use Rattle.scratch_pad.specs.Sum.{largest, too_big}
use Rattle.scratch_pad.proofs.Whole.{above}
use Rattle.rules.specs.Change.{pad_of}
use Rattle.rules.specs.Rules.{Mode, one_step, two_step, Call, updated, passed, waiting, added}
use Rattle.rules.specs.Path.{Stop, Unrefused, Apart, FirstWay, SecondWay, FollowUps, existing, residences}
use Rattle.rules.specs.Credited.{credits}
use Rattle.rules.proofs.Samples.{octets_of, stayed, spare, handed_in, visit, unrefused, apart}
use Rattle.rules.proofs.PathExample.{mine}
use Rattle.rules.proofs.DelayExample as delay

abbrev pub a_sync : ℤ → List ℕ
a_sync pad = octets_of mine true 0 pad

abbrev a_follow_up : ℤ → List ℕ
a_follow_up pad = octets_of mine true 8 pad

-- a node that both cross, with a residence of 1 ns and one tick between
abbrev first : Mode → ℤ → Call
first m pad = handed_in m (a_sync pad) (stayed 1)

abbrev second : Mode → ℤ → Call
second m pad = handed_in m (a_follow_up pad) (stayed 9)

abbrev stop : Mode → ℤ → ℤ → Stop
stop m f s =
    record { mode = m; table = replicate 16 zeros; events = call (first m f) ∷ tick ∷ call (second m s) ∷ []; first_place = 0; second_place = some 2 }

-- the Sync's pad gets to the largest
abbrev pub below : ℤ
below = pos (2 ^ 63 - 2)

abbrev pub one : Stop
one = stop one_step below (pos 0)

unfoldable pub one_premises :
    Apart mine one × Unrefused one × FirstWay (a_sync below) (one ∷ []) (a_sync largest) × FollowUps mine true (one ∷ []) (pos 0) (pos 0)
unfolding same holds
one_premises = (
  apart mine one refl (λ e. inl refl, (tt, (λ e. inr refl, tt))),
  unrefused one refl refl,
  FirstWay.cross (visit one 0 (first one_step below) updated (a_sync largest) spare refl refl refl) FirstWay.done,
  existing {f = a_follow_up (pos 0)} {last = a_follow_up (pos 0)} refl (Permᴰ.cons refl Permᴰ.nil)
      (SecondWay.cross 2 refl (visit one 2 (second one_step (pos 0)) passed (a_follow_up (pos 0)) spare refl refl refl) SecondWay.done),
)

one_too_big : too_big (pad_of (a_sync largest)) ≡ true
one_too_big = refl

one_credited : credits (one ∷ []) ≡ residences (one ∷ [])
unfolding same holds
one_credited = refl

one_parts : pad_of (a_sync largest) +ℤ pos 0 ≡ pad_of (a_sync below) +ℤ pos 0 +ℤ pos (residences (one ∷ [])) → ⊥
one_parts e = let z : 2 ^ 63 - 1 ≡ 2 ^ 63 - 2 + 65536 = ap above e in omega arith

-- the Follow_Up's pad is the largest, and the record's residence changes nothing in it
abbrev two : Stop
two = stop two_step (pos 0) largest

two_premises :
    Apart mine two × Unrefused two × FirstWay (a_sync (pos 0)) (two ∷ []) (a_sync (pos 0)) × FollowUps mine true (two ∷ []) largest largest
unfolding same holds
two_premises = (
  apart mine two refl (λ e. inl refl, (tt, (λ e. inr refl, tt))),
  unrefused two refl refl,
  FirstWay.cross (visit two 0 (first two_step (pos 0)) waiting (a_sync (pos 0)) spare refl refl refl) FirstWay.done,
  existing {f = a_follow_up largest} {last = a_follow_up largest} refl (Permᴰ.cons refl Permᴰ.nil)
      (SecondWay.cross 2 refl (visit two 2 (second two_step largest) added (a_follow_up largest) spare refl refl refl) SecondWay.done),
)

two_too_big : too_big (pad_of (a_follow_up largest)) ≡ true
two_too_big = refl

two_credited : credits (two ∷ []) ≡ residences (two ∷ [])
unfolding same holds
two_credited = refl

two_parts : pad_of (a_sync (pos 0)) +ℤ largest ≡ pad_of (a_sync (pos 0)) +ℤ largest +ℤ pos (residences (two ∷ [])) → ⊥
two_parts e = let z : 2 ^ 63 - 1 ≡ 2 ^ 63 - 1 + 65536 = ap above e in omega arith

-- and so with a Delay_Resp in the place of the Follow_Up
abbrev asking : Call
asking = handed_in two_step (delay.request (pos 0)) (stayed 1)

abbrev answering : Call
answering = handed_in two_step (delay.response largest) (stayed 9)

abbrev three : Stop
three =
    record {
      mode = two_step;
      table = replicate 16 zeros;
      events = call asking ∷ tick ∷ call answering ∷ [];
      first_place = 0;
      second_place = some 2;
    }

three_premises :
    Apart delay.mine three × Unrefused three × FirstWay (delay.request (pos 0)) (three ∷ []) (delay.request (pos 0))
    × SecondWay (delay.response largest) (three ∷ []) (delay.response largest)
unfolding same holds
three_premises = (
  apart delay.mine three refl (λ e. inl refl, (tt, (λ e. inr refl, tt))),
  unrefused three refl refl,
  FirstWay.cross (visit three 0 asking waiting (delay.request (pos 0)) spare refl refl refl) FirstWay.done,
  SecondWay.cross 2 refl (visit three 2 answering added (delay.response largest) spare refl refl refl) SecondWay.done,
)

three_credited : credits (three ∷ []) ≡ residences (three ∷ [])
unfolding same holds
three_credited = refl

three_parts :
    pad_of (delay.request (pos 0)) +ℤ pad_of (delay.response largest)
    ≡ pad_of (delay.request (pos 0)) +ℤ pad_of (delay.response largest) +ℤ pos (residences (three ∷ [])) → ⊥
three_parts e = let z : 2 ^ 63 - 1 ≡ 2 ^ 63 - 1 + 65536 = ap above e in omega arith

-- The statements about plans can be met: the plans of `rules`' worked paths, of which one meets the largest pad; every refusal, in its
-- order; and lists of hops from which a path is made.
-- Assumes nothing.
use Prim.Native.Nat.{ℕ, ◌-◌, ◌<◌, ◌^◌}
use mathlib.Core.Path.{◌≡◌, refl, sym}
use mathlib.Core.Bool.{Bool, true, false, true≢false}
use mathlib.Core.List.{[], ◌∷◌}
use native.Mathlib.Omega.{arith}
use lib.IntN.{ℤ, pos, negsuc}
use lib.ListN.{replicate}
use mir.Syntax.{w64}
use mir.Val.{SFits}
use Rattle.refusal.specs.Answer.{Answer, value, refused}
use Rattle.residence.specs.Residence.{limit}
use Rattle.scratch_pad.specs.Sum.{largest, raised}
use Rattle.rules.specs.Change.{pad_of}
use Rattle.rules.specs.Path.{FirstWay, existing, never}
use Rattle.rules.proofs.PathExample as created
use Rattle.rules.proofs.PathExample.{mine, a_sync, a_follow_up}
use Rattle.rules.proofs.BranchExamples as branch
use Rattle.rules.proofs.LargestExample as most
use Rattle.hops.specs.declared.Hop.{Hop}
use Rattle.hops.specs.declared.Start.{Start}
use Rattle.hops.specs.declared.End.{End}
use Rattle.hops.specs.Plan.{start_with, end_of, plan_of}
use Rattle.hops.specs.Promises.{raised_at_each}
use Rattle.hops.specs.Shown.{Crossed, ShownBy}
use Rattle.hops.proofs.Laws.{too_many, first_bad, none_bad}
use Rattle.hops.proofs.Plans.{plan_shown}
use Rattle.hops.proofs.Raised.{none_is_zero, held_once}
use Rattle.hops.proofs.Paths.{every_plan_shown}

abbrev hop : ℕ → ℕ → Hop
hop m u = record { mode = m; residence = u }

abbrev ends : ℤ → ℤ → Bool → Answer End
ends x y b = value (record { sync_pad = x; follow_up_pad = y; two_step = b; exists = b })

-- ---- plans that paths show

-- document 01's path, S clear: one-step 1,500 ns, two-step 200, two-step 50. The second node creates the Follow_Up; the pad that is handed
-- in for it is the largest, and is not looked at
by_created : Crossed mine false (a_sync false 0) (a_sync true 98304000) created.path (pos 0) (pad_of (a_follow_up 16384000))
by_created =
    record {
      kind_is_sync = refl;
      apart = created.all_apart;
      unrefused = created.none_refused;
      sync_way = created.sync_way;
      follow_ups = created.follow_ups;
    }

plan_created :
    plan_of (hop 1 98304000 ∷ hop 2 13107200 ∷ hop 2 3276800 ∷ []) (start_with (pos 0) largest false) ≡ ends (pos 98304000) (pos 16384000) true
unfolding by_created created.follow_ups
plan_created =
    (plan_shown mine false (a_sync false 0) (a_sync true 98304000) created.path (pos 0) (pad_of (a_follow_up 16384000)) largest (omega arith) by_created
    (λ e. absurd (true≢false (sym e)))).0

-- S set, from -5 and 11, the Follow_Up in another order
by_existing :
    Crossed mine true (branch.set_sync (negsuc 4)) (branch.set_sync (pos 98303995)) branch.path (pad_of (branch.its_follow_up 11)) (pad_of (branch.its_follow_up 16384011))
by_existing =
    record {
      kind_is_sync = refl;
      apart = branch.all_apart;
      unrefused = branch.none_refused;
      sync_way = branch.sync_way;
      follow_ups = existing refl branch.another_order branch.follow_up_way;
    }

plan_existing :
    plan_of (hop 1 98304000 ∷ hop 2 13107200 ∷ hop 2 3276800 ∷ []) (start_with (negsuc 4) (pos 11) true) ≡ ends (pos 98303995) (pos 16384011) true
unfolding by_existing
plan_existing =
    (plan_shown mine true (branch.set_sync (negsuc 4)) (branch.set_sync (pos 98303995)) branch.path (pad_of (branch.its_follow_up 11))
    (pad_of (branch.its_follow_up 16384011)) (pos 11) (omega arith) by_existing (λ e. refl)).0

-- S clear, no two-step node: no Follow_Up, and its pad is 0
by_none : Crossed mine false (a_sync false 7) (a_sync false 111411207) branch.one_step_path (pos 0) (pos 0)
by_none =
    record {
      kind_is_sync = refl;
      apart = branch.one_step_apart;
      unrefused = branch.one_step_unrefused;
      sync_way = branch.one_step_way;
      follow_ups = branch.none_created;
    }

plan_none : plan_of (hop 1 98304000 ∷ hop 1 13107200 ∷ []) (start_with (pos 7) (pos 9) false) ≡ ends (pos 111411207) (pos 0) false
unfolding by_none branch.none_created
plan_none =
    (plan_shown mine false (a_sync false 7) (a_sync false 111411207) branch.one_step_path (pos 0) (pos 0) (pos 9) (omega arith) by_none
    (λ e. absurd (true≢false (sym e)))).0

-- no node at all
by_nothing : Crossed mine false (a_sync false 7) (a_sync false 7) [] (pos 0) (pos 0)
by_nothing = record { kind_is_sync = refl; apart = tt; unrefused = tt; sync_way = FirstWay.done; follow_ups = never tt }

plan_nothing : plan_of [] (start_with (pos 7) (negsuc 0) false) ≡ ends (pos 7) (pos 0) false
unfolding by_nothing
plan_nothing =
    (plan_shown mine false (a_sync false 7) (a_sync false 7) [] (pos 0) (pos 0) (negsuc 0) (omega arith) by_nothing (λ e. absurd (true≢false (sym e)))).0

-- the largest pad: 1 ns onto 2^63-2
by_largest : Crossed mine true (most.a_sync most.below) (most.a_sync largest) (most.one ∷ []) (pos 0) (pos 0)
by_largest =
    record {
      kind_is_sync = refl;
      apart = ((most.one_premises).0, tt);
      unrefused = ((most.one_premises).1, tt);
      sync_way = (most.one_premises).2;
      follow_ups = (most.one_premises).3;
    }

plan_largest : plan_of (hop 1 65536 ∷ []) (start_with (pos (2 ^ 63 - 2)) (pos 0) true) ≡ ends largest (pos 0) true
unfolding by_largest most.one_premises
plan_largest =
    (plan_shown mine true (most.a_sync most.below) (most.a_sync largest) (most.one ∷ []) (pos 0) (pos 0) (pos 0) (omega arith) by_largest (λ e. refl)).0

-- ---- paths that are made of hops

-- a number of 64 bits
fits : (n : ℕ) → n < 2 ^ 63 → SFits w64 (pos n)
fits n l = record { sfits = l }

-- S clear, and a two-step hop with a residence of 0: there is a Follow_Up, with pad 0
made_of_zero : ShownBy (hop 2 0 ∷ []) (start_with (pos 7) largest false) (record { sync_pad = pos 7; follow_up_pad = pos 0; two_step = true; exists = true })
made_of_zero =
    every_plan_shown (hop 2 0 ∷ []) (start_with (pos 7) largest false) (record { sync_pad = pos 7; follow_up_pad = pos 0; two_step = true; exists = true })
    (fits 7 (omega arith)) (λ e. absurd (true≢false (sym e))) refl

-- S set, a one-step hop and the longest residence at a two-step hop, onto the largest pads
made_of_both :
    ShownBy (hop 1 5 ∷ hop 2 (limit - 1) ∷ []) (start_with (negsuc 4) largest true)
    (record { sync_pad = pos 0; follow_up_pad = largest; two_step = true; exists = true })
made_of_both =
    every_plan_shown (hop 1 5 ∷ hop 2 (limit - 1) ∷ []) (start_with (negsuc 4) largest true)
    (record { sync_pad = pos 0; follow_up_pad = largest; two_step = true; exists = true })
    (record { sfits = omega arith }) (λ e. fits (2 ^ 63 - 1) (omega arith)) refl

-- ---- refusals

abbrev zero : Start
zero = start_with (pos 0) (pos 0) false

-- 28 though each hop is bad; 255 hops are planned
too_many_hops : plan_of (replicate 256 (hop 3 limit)) zero ≡ refused 28
too_many_hops = too_many (replicate 256 (hop 3 limit)) zero (omega arith)

most_hops : plan_of (replicate 255 (hop 2 1)) zero ≡ ends (pos 0) (pos 255) true
most_hops = refl

-- the mode before the residence; hop 0's residence before hop 1's mode
bad_mode : plan_of (hop 1 0 ∷ hop 3 limit ∷ hop 1 limit ∷ []) zero ≡ refused 29
bad_mode = (first_bad (hop 1 0 ∷ []) (hop 1 limit ∷ []) (hop 3 limit) zero (omega arith) ((refl, omega arith), tt)).0 refl

long_residence : plan_of (hop 2 limit ∷ hop 0 0 ∷ []) zero ≡ refused 10
long_residence = (first_bad [] (hop 0 0 ∷ []) (hop 2 limit) zero (omega arith) tt).1 refl (omega arith)

good_hops : plan_of (hop 2 (limit - 1) ∷ []) zero ≡ ends (pos 0) (pos 262143999999999) true
good_hops = none_bad (hop 2 (limit - 1) ∷ []) zero (omega arith) ((refl, omega arith), tt)

-- ---- the pads

-- where there is no Follow_Up its pad is 0
absent : (end_of (hop 1 3 ∷ []) (start_with (pos 7) (pos 9) false)).follow_up_pad ≡ pos 0
absent = let s = start_with (pos 7) (pos 9) false in none_is_zero (hop 1 3 ∷ []) s (end_of (hop 1 3 ∷ []) s) refl refl

-- 2^63-1 is reached at the second of three hops, and stays: held at each hop, and once
reached : raised_at_each 1 (pos (2 ^ 63 - 8)) (hop 1 5 ∷ hop 1 5 ∷ hop 1 5 ∷ []) ≡ raised (pos (2 ^ 63 - 8)) 15
reached = held_once 1 (pos (2 ^ 63 - 8)) (hop 1 5 ∷ hop 1 5 ∷ hop 1 5 ∷ []) (fits (2 ^ 63 - 8) (omega arith))

it_is_the_largest : raised (pos (2 ^ 63 - 8)) 15 ≡ largest
it_is_the_largest = refl

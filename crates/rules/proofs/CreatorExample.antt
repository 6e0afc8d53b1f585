-- What remains true when calls are refused, with S clear: nodes that refuse the Sync leave it clear, and the next two-step node creates its
-- Follow_Up; where none is left no node does.
-- Assumes nothing.
use Prim.Native.Nat.{ℕ, ◌*◌}
use mathlib.Core.Path.{◌≡◌, refl}
use mathlib.Core.Bool.{true, false, ◌||◌}
use mathlib.Core.List.Permᴰ
use mathlib.Core.List.{List, [], ◌∷◌, ◌++◌, map}
use mathlib.Core.Logic.{inl, inr}
use mathlib.Core.Option.{none, some}
use native.Mathlib.Omega.{arith}
use lib.IntN.{pos, ◌+ℤ◌}
use lib.ListN.{replicate}
use Rattle.refusal.specs.Answer.{value}
use Rattle.residence.specs.Residence.{Residence}
use Rattle.std.specs.Prelude.{Ok, Err}
use Rattle.residence.specs.declared.ResidenceError.TheVariants.{InvalidStamp, TooLong}
use Rattle.records.specs.Slots.{same, holds}
use Rattle.records.specs.Node.{tick, call, switchover}
use Rattle.image.specs.Image.{sound, differ}
use Rattle.rules.specs.Change.{pad_of}
use Rattle.rules.specs.Rules.{sync, kind_of, Mode, one_step, two_step, Call, updated, created, waiting, added}
use Rattle.rules.specs.Path.{Stop, first_answer, FirstUnrefused, Apart, Every, FirstWay, SecondWay, FollowUps, born, never, residences}
use Rattle.rules.specs.Credited.{credits, some_created, Skips, FirstNumber, Cost}
use Rattle.rules.proofs.Answered.{not_refused}
use Rattle.rules.proofs.PathSums.{credited_sum, lost_where_refused}
use Rattle.rules.proofs.Creators.{first_to_create}
use Rattle.rules.proofs.Samples.{new, stayed, spare, handed_in, answers_of, said, refused_with, after, visit, refusing, not_created, apart}
use Rattle.rules.proofs.PathExample.{mine, a_sync, a_follow_up}

-- ---- S clear, and the first two-step node that does not refuse creates

abbrev updating : Call
updating = handed_in one_step (a_sync false 0) (stayed 1500)

-- two-step calls on the Sync as the one-step node left it, S still clear: with these residences and outputs
abbrev clear_call : Residence → List ℕ → Call
clear_call r out = record { mode = two_step; message = a_sync false 98304000; residence = r; output = out }

abbrev invalid : Call
invalid = clear_call (Err InvalidStamp) spare

abbrev too_long : Call
too_long = clear_call (Err TooLong) spare

abbrev no_room : Call
no_room = clear_call (stayed 70) (replicate 35 0)

abbrev creating : Call
creating = clear_call (stayed 200) spare

abbrev keeping : Call
keeping = handed_in two_step (a_sync true 98304000) (stayed 50)

abbrev adding : Call
adding = handed_in two_step (a_follow_up 13107200) (stayed 9)

-- a node that gets this call on the Sync, after a tick
abbrev alone : Mode → Call → Stop
alone m c = record { mode = m; table = new; events = tick ∷ call c ∷ []; first_place = 1; second_place = none }

abbrev ending : Stop
ending = record { mode = two_step; table = new; events = call keeping ∷ tick ∷ switchover ∷ call adding ∷ []; first_place = 0; second_place = some 3 }

abbrev before : List Stop
before = alone one_step updating ∷ alone two_step invalid ∷ alone two_step too_long ∷ alone two_step no_room ∷ []

abbrev creator : Stop
creator = alone two_step creating

abbrev path : List Stop
path = before ++ creator ∷ ending ∷ []

they_answer :
    map answers_of path
    ≡ (said updated, none) ∷ (refused_with 9, none) ∷ (refused_with 10, none) ∷ (refused_with 12, none) ∷ (said created, none) ∷ (said waiting, said added) ∷ []
unfolding same holds sound differ
they_answer = refl

-- the output that the creator leaves
abbrev left : List ℕ
left = a_follow_up 13107200 ++ replicate 4 0

sync_way : FirstWay (a_sync false 0) path (a_sync true 98304000)
unfolding same holds sound differ
sync_way =
    FirstWay.cross (visit (alone one_step updating) 1 updating updated (a_sync false 98304000) spare refl refl refl)
    (FirstWay.cross (refusing (alone two_step invalid) 1 invalid 9 refl refl refl)
    (FirstWay.cross (refusing (alone two_step too_long) 1 too_long 10 refl refl refl)
    (FirstWay.cross (refusing (alone two_step no_room) 1 no_room 12 refl refl refl)
    (FirstWay.cross (visit creator 1 creating created (a_sync true 98304000) left refl refl refl)
    (FirstWay.cross (visit ending 0 keeping waiting (a_sync true 98304000) spare refl refl refl) FirstWay.done)))))

follow_ups : FollowUps mine false path (pos 0) (pad_of (a_follow_up 16384000))
unfolding same holds sound differ
follow_ups =
    born before creator {r = after created (a_sync true 98304000) left} {last = a_follow_up 16384000} (refl, (refl, (refl, (refl, tt)))) refl refl refl
    (Permᴰ.refl (ending ∷ []))
    (SecondWay.cross 3 refl (visit ending 3 adding added (a_follow_up 16384000) spare refl refl refl) SecondWay.done)

all_apart : Every (Apart mine) path
unfolding same holds sound differ
all_apart = (
  lonely one_step updating,
  (
    lonely two_step invalid,
    (
      lonely two_step too_long,
      (lonely two_step no_room, (lonely two_step creating, (apart mine ending refl (λ e. inl refl, (tt, (tt, (λ e. inr refl, tt)))), tt))),
    ),
  ),
)
  where
    lonely : (m : Mode) (c : Call) → Apart mine (alone m c)
    lonely m c = apart mine (alone m c) refl (tt, (λ e. inl refl, tt))

-- the two pads grow by 1,500, 200 and 50 ns; 70 ns are on neither, and S is set
sum :
    (pad_of (a_sync true 98304000) +ℤ pad_of (a_follow_up 16384000) ≡ pad_of (a_sync false 0) +ℤ pos 0 +ℤ pos (credits path))
    × (kind_of (a_sync true 98304000) ≡ sync mine (false || some_created path))
sum =
    credited_sum mine false (a_sync false 0) (a_sync true 98304000) path (pos 0) (pad_of (a_follow_up 16384000)) refl all_apart sync_way follow_ups refl
    refl

counted : (credits path ≡ 1750 * 65536) × (residences path ≡ 1820 * 65536) × (some_created path ≡ true)
unfolding same holds sound differ
counted = (refl, refl, refl)

in_numbers : pos 98304000 +ℤ pos 16384000 ≡ pos 0 +ℤ pos 0 +ℤ pos (1750 * 65536)
unfolding same holds sound differ
in_numbers = sum.0

-- what the refusals cost, node by node: the fourth refused the Sync with 12, which came with S clear
lost : Every (Cost mine) path
lost =
    lost_where_refused mine false (a_sync false 0) (a_sync true 98304000) path (pos 0) (pad_of (a_follow_up 16384000)) refl all_apart sync_way follow_ups

twelve : FirstNumber mine (alone two_step no_room) 12
unfolding same holds sound differ
twelve = lost.1.1.1.0.first_with 12 refl

-- the creator is two-step and does not refuse, and every two-step node before it does; such a node creates
refused_before : Every Skips before
unfolding same holds sound differ
refused_before = (λ o. absurd (let z : ◌≡◌ {A = ℕ} 0 1 = cc in omega arith), (λ o. (9, refl), (λ o. (10, refl), (λ o. (12, refl), tt))))

creator_first : (creator.mode ≡ two_step) × FirstUnrefused creator × Every Skips before
unfolding same holds sound differ
creator_first = (first_to_create mine (a_sync false 0) (a_sync true 98304000) before (ending ∷ []) creator refl sync_way).0 refl

creates : first_answer creator ≡ some (value created)
unfolding same holds sound differ
creates =
    (first_to_create mine (a_sync false 0) (a_sync true 98304000) before (ending ∷ []) creator refl sync_way).1
    (refl, not_refused refl, refused_before)

-- the last node is two-step, does not refuse and does not create: so not every two-step node before it refused
not_again : Every Skips (before ++ creator ∷ []) → ⊥
unfolding same holds sound differ
not_again h =
    not_created refl
    ((first_to_create mine (a_sync false 0) (a_sync true 98304000) (before ++ creator ∷ []) [] ending refl sync_way).1 (refl, not_refused refl, h))

-- ---- S clear, and no node creates: the only two-step node refuses with 12

abbrev without : Stop
without = alone two_step no_room

abbrev clear_path : List Stop
clear_path = alone one_step updating ∷ without ∷ []

clear_way : FirstWay (a_sync false 0) clear_path (a_sync false 98304000)
unfolding same holds sound differ
clear_way =
    FirstWay.cross (visit (alone one_step updating) 1 updating updated (a_sync false 98304000) spare refl refl refl)
    (FirstWay.cross (refusing without 1 no_room 12 refl refl refl) FirstWay.done)

none_created : FollowUps mine false clear_path (pos 0) (pos 0)
unfolding same holds sound differ
none_created = never {ns = clear_path} ((refl, not_created refl), ((refl, not_created refl), tt))

-- the Sync's pad alone grows, by 1,500 ns, and S stays clear
clear_sum :
    (pad_of (a_sync false 98304000) +ℤ pos 0 ≡ pad_of (a_sync false 0) +ℤ pos 0 +ℤ pos (credits clear_path))
    × (kind_of (a_sync false 98304000) ≡ sync mine (false || some_created clear_path))
clear_sum =
    credited_sum mine false (a_sync false 0) (a_sync false 98304000) clear_path (pos 0) (pos 0) refl (all_apart.0, (all_apart.1.1.1.0, tt)) clear_way
    none_created refl refl

clear_counted : (credits clear_path ≡ 1500 * 65536) × (residences clear_path ≡ 1570 * 65536) × (some_created clear_path ≡ false)
unfolding same holds sound differ
clear_counted = (refl, refl, refl)

-- What remains true when calls are refused, with S set: a node that is full, and a Follow_Up that is early at one node and late at another.
-- Assumes nothing.
use Prim.Native.Nat.{ℕ, ◌*◌}
use mathlib.Core.Path.{◌≡◌, refl}
use mathlib.Core.Bool.{true, ◌||◌}
use mathlib.Core.List.Permᴰ
use mathlib.Core.List.{List, [], ◌∷◌, map}
use mathlib.Core.Logic.{inl, inr}
use mathlib.Core.Option.{some}
use native.Mathlib.Omega.{arith}
use lib.IntN.{pos, ◌+ℤ◌}
use Rattle.refusal.specs.Answer.{refused}
use Rattle.records.specs.Slots.{same, holds}
use Rattle.records.specs.Node.{call}
use Rattle.image.specs.Image.{sound, differ}
use Rattle.rules.specs.Change.{pad_of}
use Rattle.rules.specs.Rules.{sync, kind_of, Mode, one_step, two_step, Call, updated, passed, waiting, added}
use Rattle.rules.specs.Path.{Stop, second_answer, Apart, Every, FirstWay, SecondWay, FollowUps, existing, residences}
use Rattle.rules.specs.Credited.{credited, credits, some_created, FirstNumber, Missed, Cost}
use Rattle.rules.proofs.Answered.{not_refused}
use Rattle.rules.proofs.PathSums.{credited_sum, lost_where_refused}
use Rattle.rules.proofs.Samples.{new, records_from, stayed, spare, handed_in, answers_of, said, refused_with, visit, refusing, apart, ticks_between, apart_between}
use Rattle.rules.proofs.PathExample.{mine, a_sync, a_follow_up}

-- ---- S set, and a node that is full: it refuses the Sync with 14, and then the Follow_Up with 15

abbrev set_call : Mode → ℕ → ℕ → Call
set_call m pad n = handed_in m (a_sync true pad) (stayed n)

abbrev later : Mode → ℕ → Call
later m pad = handed_in m (a_follow_up pad) (stayed 9)

abbrev one_step_node : Stop
one_step_node = ticks_between 1 one_step new (set_call one_step 0 1500) (later one_step 0)

abbrev full_node : Stop
full_node = ticks_between 1 two_step (records_from 16 300) (set_call two_step 98304000 200) (later two_step 0)

abbrev last_node : Stop
last_node = ticks_between 2 two_step new (set_call two_step 98304000 50) (later two_step 0)

abbrev full_path : List Stop
full_path = one_step_node ∷ full_node ∷ last_node ∷ []

full_answers : map answers_of full_path ≡ (said updated, said passed) ∷ (refused_with 14, refused_with 15) ∷ (said waiting, said added) ∷ []
unfolding same holds sound differ
full_answers = refl

full_apart : Every (Apart mine) full_path
unfolding same holds sound differ
full_apart = (
  apart_between mine 1 one_step new (set_call one_step 0 1500) (later one_step 0) refl,
  (
    apart_between mine 1 two_step (records_from 16 300) (set_call two_step 98304000 200) (later two_step 0) refl,
    (apart_between mine 2 two_step new (set_call two_step 98304000 50) (later two_step 0) refl, tt),
  ),
)

full_way : FirstWay (a_sync true 0) full_path (a_sync true 98304000)
unfolding same holds sound differ
full_way =
    FirstWay.cross (visit one_step_node 0 (set_call one_step 0 1500) updated (a_sync true 98304000) spare refl refl refl)
    (FirstWay.cross (refusing full_node 0 (set_call two_step 98304000 200) 14 refl refl refl)
    (FirstWay.cross (visit last_node 0 (set_call two_step 98304000 50) waiting (a_sync true 98304000) spare refl refl refl) FirstWay.done))

full_follow_up : FollowUps mine true full_path (pad_of (a_follow_up 0)) (pad_of (a_follow_up 3276800))
unfolding same holds sound differ
full_follow_up =
    existing refl (Permᴰ.refl full_path)
    (SecondWay.cross 2 refl (visit one_step_node 2 (later one_step 0) passed (a_follow_up 0) spare refl refl refl)
    (SecondWay.cross 2 refl (refusing full_node 2 (later two_step 0) 15 refl refl refl)
    (SecondWay.cross 3 refl (visit last_node 3 (later two_step 0) added (a_follow_up 3276800) spare refl refl refl) SecondWay.done)))

-- the two pads grow by 1,500 and 50 ns: the full node's 200 ns are on neither
full_sum :
    (pad_of (a_sync true 98304000) +ℤ pad_of (a_follow_up 3276800) ≡ pad_of (a_sync true 0) +ℤ pad_of (a_follow_up 0) +ℤ pos (credits full_path))
    × (kind_of (a_sync true 98304000) ≡ sync mine (true || some_created full_path))
full_sum =
    credited_sum mine true (a_sync true 0) (a_sync true 98304000) full_path (pad_of (a_follow_up 0)) (pad_of (a_follow_up 3276800)) refl full_apart full_way
    full_follow_up refl refl

full_counted : (credits full_path ≡ 1550 * 65536) × (residences full_path ≡ 1750 * 65536)
unfolding same holds sound differ
full_counted = (refl, refl)

full_lost : Every (Cost mine) full_path
full_lost =
    lost_where_refused mine true (a_sync true 0) (a_sync true 98304000) full_path (pad_of (a_follow_up 0)) (pad_of (a_follow_up 3276800)) refl full_apart
    full_way full_follow_up

fourteen : FirstNumber mine full_node 14
unfolding same holds sound differ
fourteen = full_lost.1.0.first_with 14 refl

-- as it refused the Sync it refuses the Follow_Up
full_then : second_answer full_node ≡ some (refused 15)
unfolding same holds sound differ
full_then = (full_lost.1.0.second_where 2 refl refl).1 (inl (14, refl))

full_second : (full_node.mode ≡ two_step) × ◌≡◌ {A = ℕ} 15 15
full_second = full_lost.1.0.second_with 15 full_then

-- ---- S set, and a Follow_Up that comes before the Sync at the first node, three ticks after it at the second, and in time at the third

abbrev early : Stop
early =
    record {
      mode = two_step;
      table = new;
      events = call (later two_step 0) ∷ call (set_call two_step 0 1500) ∷ [];
      first_place = 1;
      second_place = some 0;
    }

abbrev late : Stop
late = ticks_between 3 two_step new (set_call two_step 0 200) (later two_step 0)

abbrev in_time : Stop
in_time = ticks_between 2 two_step new (set_call two_step 0 50) (later two_step 0)

abbrev untimely : List Stop
untimely = early ∷ late ∷ in_time ∷ []

untimely_answers : map answers_of untimely ≡ (said waiting, refused_with 15) ∷ (said waiting, refused_with 15) ∷ (said waiting, said added) ∷ []
unfolding same holds sound differ
untimely_answers = refl

untimely-Apart : Every (Apart mine) untimely
unfolding same holds sound differ
untimely-Apart = (
  apart mine early refl (λ e. inr refl, (λ e. inl refl, tt)),
  (
    apart_between mine 3 two_step new (set_call two_step 0 200) (later two_step 0) refl,
    (apart_between mine 2 two_step new (set_call two_step 0 50) (later two_step 0) refl, tt),
  ),
)

untimely_way : FirstWay (a_sync true 0) untimely (a_sync true 0)
unfolding same holds sound differ
untimely_way =
    FirstWay.cross (visit early 1 (set_call two_step 0 1500) waiting (a_sync true 0) spare refl refl refl)
    (FirstWay.cross (visit late 0 (set_call two_step 0 200) waiting (a_sync true 0) spare refl refl refl)
    (FirstWay.cross (visit in_time 0 (set_call two_step 0 50) waiting (a_sync true 0) spare refl refl refl) FirstWay.done))

untimely_follow_up : FollowUps mine true untimely (pad_of (a_follow_up 0)) (pad_of (a_follow_up 3276800))
unfolding same holds sound differ
untimely_follow_up =
    existing refl (Permᴰ.refl untimely)
    (SecondWay.cross 0 refl (refusing early 0 (later two_step 0) 15 refl refl refl)
    (SecondWay.cross 4 refl (refusing late 4 (later two_step 0) 15 refl refl refl)
    (SecondWay.cross 3 refl (visit in_time 3 (later two_step 0) added (a_follow_up 3276800) spare refl refl refl) SecondWay.done)))

-- the two pads grow by 50 ns: 1,500 and 200 ns are on neither
untimely_sum :
    (pad_of (a_sync true 0) +ℤ pad_of (a_follow_up 3276800) ≡ pad_of (a_sync true 0) +ℤ pad_of (a_follow_up 0) +ℤ pos (credits untimely))
    × (kind_of (a_sync true 0) ≡ sync mine (true || some_created untimely))
untimely_sum =
    credited_sum mine true (a_sync true 0) (a_sync true 0) untimely (pad_of (a_follow_up 0)) (pad_of (a_follow_up 3276800)) refl untimely-Apart
    untimely_way untimely_follow_up refl refl

untimely_lost : Every (Cost mine) untimely
untimely_lost =
    lost_where_refused mine true (a_sync true 0) (a_sync true 0) untimely (pad_of (a_follow_up 0)) (pad_of (a_follow_up 3276800)) refl untimely-Apart untimely_way
    untimely_follow_up

-- the Follow_Up missed the Sync at the first node and at the second, whose residences are not credited though the Sync was answered "waiting"
too_early : second_answer early ≡ some (refused 15)
unfolding same holds sound differ
too_early = (untimely_lost.0.second_where 0 refl refl).1 (inr (inl (omega arith)))

too_late : second_answer late ≡ some (refused 15)
unfolding same holds sound differ
too_late = (untimely_lost.1.0.second_where 4 refl refl).1 (inr (inr (omega arith)))

not_credited : (credited early ≡ true → ⊥) × (credited late ≡ true → ⊥)
not_credited = (λ e. (untimely_lost.0.credit.0 e).1 15 too_early, λ e. (untimely_lost.1.0.credit.0 e).1 15 too_late)

-- and at the third it did not, and is not refused
met : Missed in_time 3 → ⊥
unfolding same holds sound differ
met m = not_refused refl 15 ((untimely_lost.1.1.0.second_where 3 refl refl).1 m)

untimely_counted : (credits untimely ≡ 50 * 65536) × (residences untimely ≡ 1750 * 65536)
unfolding same holds sound differ
untimely_counted = (refl, refl)

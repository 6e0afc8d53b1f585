-- The branches of demand 3 that document 01's path does not take can be met: a path with S set at the start, whose Follow_Up takes
-- its nodes in another order than the Sync; a path on which no node creates a Follow_Up; and a record that is gone at its third tick.
-- Assumes nothing.
use Prim.Native.Nat.{ℕ, ◌*◌}
use mathlib.Core.Path.{◌≡◌, refl}
use mathlib.Core.Bool.{true, false}
use mathlib.Core.List.{List, [], ◌∷◌, Permᴰ}
use mathlib.Core.Logic.{inl, inr}
use mathlib.Core.Option.{none, some}
use native.Mathlib.Omega.{arith}
use lib.IntN.{ℤ, pos, negsuc, ◌+ℤ◌}
use lib.ListN.{take, replicate, get_elem?}
use Rattle.refusal.specs.Answer.{refused}
use Rattle.std.specs.Prelude.{Ok, Err}
use Rattle.residence.specs.declared.ResidenceError.TheVariants.{InvalidStamp}
use Rattle.records.specs.Slots.{same, holds, zeros, find}
use Rattle.records.specs.Node.{Event, tick, call, switchover, replied, run, final}
use Rattle.image.specs.Image.{sound, differ}
use Rattle.rules.specs.Change.{pad_of}
use Rattle.rules.specs.Rules.{one_step, two_step, Call, as_it_came, updated, passed, waiting, added, rules}
use Rattle.rules.specs.Path.{Stop, Unrefused, Apart, Every, FirstWay, SecondWay, FollowUps, existing, never, residences}
use Rattle.rules.specs.Demand3.{Waiting}
use Rattle.rules.proofs.Laws.{gone_at_third_tick}
use Rattle.rules.proofs.PathSums.{path_sum}
use Rattle.rules.proofs.Samples.{new, octets_of, stayed, spare, handed_in, record_of, visit, unrefused, not_created, waits, other, apart}
use Rattle.rules.proofs.PathExample.{mine, theirs, a_sync}

-- S set: one-step 1,500 ns, two-step 200 ns, two-step 50 ns for a Sync that starts below 0; its Follow_Up, with S clear, starts with
-- 11 and comes to the third node first, then to the first, then to the second
abbrev pub set_sync : ℤ → List ℕ
set_sync pad = octets_of mine true 0 pad

abbrev pub its_follow_up : ℕ → List ℕ
its_follow_up pad = octets_of mine false 8 (pos pad)

abbrev sync_first : Call
sync_first = handed_in one_step (set_sync (negsuc 4)) (stayed 1500)

abbrev sync_second : Call
sync_second = handed_in two_step (set_sync (pos 98303995)) (stayed 200)

abbrev sync_third : Call
sync_third = handed_in two_step (set_sync (pos 98303995)) (stayed 50)

abbrev follow_up_third : Call
follow_up_third = handed_in two_step (its_follow_up 11) (Err InvalidStamp)

abbrev follow_up_first : Call
follow_up_first = handed_in one_step (its_follow_up 3276811) (stayed 9)

abbrev follow_up_second : Call
follow_up_second = handed_in two_step (its_follow_up 3276811) (stayed 9)

-- a record of another identity waits at the second node, and its Sync is refused there
abbrev first : Stop
first = record { mode = one_step; table = new; events = call sync_first ∷ tick ∷ call follow_up_first ∷ []; first_place = 0; second_place = some 2 }

abbrev second : Stop
second =
    record {
      mode = two_step;
      table = record_of theirs 3 ∷ replicate 15 zeros;
      events =
          call (handed_in two_step (octets_of theirs true 0 (pos 0)) (stayed 9))
          ∷ call sync_second
          ∷ tick
          ∷ switchover
          ∷ call follow_up_second
          ∷ [];
      first_place = 1;
      second_place = some 4;
    }

abbrev third : Stop
third = record { mode = two_step; table = new; events = call sync_third ∷ tick ∷ tick ∷ call follow_up_third ∷ []; first_place = 0; second_place = some 3 }

abbrev pub path : List Stop
path = first ∷ second ∷ third ∷ []

pub sync_way : FirstWay (set_sync (negsuc 4)) path (set_sync (pos 98303995))
unfolding same holds sound differ
sync_way =
    FirstWay.cross (visit first 0 sync_first updated (set_sync (pos 98303995)) spare refl refl refl)
    (FirstWay.cross (visit second 1 sync_second waiting (set_sync (pos 98303995)) spare refl refl refl)
    (FirstWay.cross (visit third 0 sync_third waiting (set_sync (pos 98303995)) spare refl refl refl) FirstWay.done))

pub follow_up_way : SecondWay (its_follow_up 11) (third ∷ first ∷ second ∷ []) (its_follow_up 16384011)
unfolding same holds sound differ
follow_up_way =
    SecondWay.cross 3 refl (visit third 3 follow_up_third added (its_follow_up 3276811) spare refl refl refl)
    (SecondWay.cross 2 refl (visit first 2 follow_up_first passed (its_follow_up 3276811) spare refl refl refl)
    (SecondWay.cross 4 refl (visit second 4 follow_up_second added (its_follow_up 16384011) spare refl refl refl) SecondWay.done))

pub another_order : Permᴰ (third ∷ first ∷ second ∷ []) path
another_order =
    Permᴰ.trans (Permᴰ.swap {a = third} {b = first} {a' = first} {b' = third} refl refl)
    (Permᴰ.cons {a = first} {b = first} refl (Permᴰ.swap {a = third} {b = second} {a' = second} {b' = third} refl refl))

pub all_apart : Every (Apart mine) path
unfolding same holds sound differ
all_apart = (
  apart mine first refl (λ e. inl refl, (tt, (λ e. inr refl, tt))),
  (
    apart mine second refl (other refl, (λ e. inl refl, (tt, (tt, (λ e. inr refl, tt))))),
    (apart mine third refl (λ e. inl refl, (tt, (tt, (λ e. inr refl, tt)))), tt),
  ),
)

pub none_refused : Every Unrefused path
unfolding same holds sound differ
none_refused = (unrefused first refl refl, (unrefused second refl refl, (unrefused third refl refl, tt)))

-- 98,303,995 + 16,384,011 = -5 + 11 + 114,688,000
sum : pad_of (set_sync (pos 98303995)) +ℤ pad_of (its_follow_up 16384011) ≡ pad_of (set_sync (negsuc 4)) +ℤ pad_of (its_follow_up 11) +ℤ pos (residences path)
sum =
    path_sum mine true (set_sync (negsuc 4)) (set_sync (pos 98303995)) path (pad_of (its_follow_up 11)) (pad_of (its_follow_up 16384011)) refl all_apart
    none_refused sync_way (existing refl another_order follow_up_way) refl refl

in_numbers : pos 98303995 +ℤ pos 16384011 ≡ negsuc 4 +ℤ pos 11 +ℤ pos 114688000
in_numbers = sum

-- None is created: a Sync with S clear over two one-step nodes, 1,500 ns and 200 ns
abbrev updated_first : Call
updated_first = handed_in one_step (a_sync false 7) (stayed 1500)

abbrev updated_second : Call
updated_second = handed_in one_step (a_sync false 98304007) (stayed 200)

abbrev alone : Call → Stop
alone c = record { mode = one_step; table = new; events = tick ∷ call c ∷ []; first_place = 1; second_place = none }

abbrev pub one_step_path : List Stop
one_step_path = alone updated_first ∷ alone updated_second ∷ []

pub one_step_way : FirstWay (a_sync false 7) one_step_path (a_sync false 111411207)
unfolding same holds sound differ
one_step_way =
    FirstWay.cross (visit (alone updated_first) 1 updated_first updated (a_sync false 98304007) spare refl refl refl)
    (FirstWay.cross (visit (alone updated_second) 1 updated_second updated (a_sync false 111411207) spare refl refl refl) FirstWay.done)

unfoldable pub none_created : FollowUps mine false one_step_path (pos 0) (pos 0)
unfolding same holds sound differ
none_created = never {ns = one_step_path} ((refl, not_created refl), ((refl, not_created refl), tt))

pub one_step_apart : Every (Apart mine) one_step_path
unfolding same holds sound differ
one_step_apart = (apart mine (alone updated_first) refl (tt, (λ e. inl refl, tt)), (apart mine (alone updated_second) refl (tt, (λ e. inl refl, tt)), tt))

pub one_step_unrefused : Every Unrefused one_step_path
unfolding same holds sound differ
one_step_unrefused = (unrefused (alone updated_first) refl refl, (unrefused (alone updated_second) refl refl, tt))

-- 111,411,207 + 0 = 7 + 0 + 111,411,200
one_step_sum : pad_of (a_sync false 111411207) +ℤ pos 0 ≡ pad_of (a_sync false 7) +ℤ pos 0 +ℤ pos (residences one_step_path)
one_step_sum =
    path_sum mine false (a_sync false 7) (a_sync false 111411207) one_step_path (pos 0) (pos 0) refl one_step_apart one_step_unrefused one_step_way
    none_created refl refl

one_step_numbers : pos 111411207 +ℤ pos 0 ≡ pos 7 +ℤ pos 0 +ℤ pos (1700 * 65536)
one_step_numbers = one_step_sum

-- Gone at the third tick: the Follow_Up comes three ticks after the Sync, with a switchover and another identity's Sync between
abbrev too_late : List (Event Call)
too_late =
    call sync_third
    ∷ tick
    ∷ switchover
    ∷ tick
    ∷ call (handed_in two_step (octets_of theirs true 0 (pos 0)) (stayed 9))
    ∷ tick
    ∷ call follow_up_third
    ∷ []

abbrev late : Stop
late = record { mode = two_step; table = new; events = too_late; first_place = 0; second_place = some 6 }

Waiting-late : Waiting new too_late mine (50 * 65536) 0 6 follow_up_third
unfolding same holds sound differ
Waiting-late =
    waits mine late (50 * 65536) 0 6 sync_third follow_up_third
    (apart mine late refl (λ e. inl refl, (tt, (tt, (tt, (other refl, (tt, (λ e. inr refl, tt))))))))
    refl refl (omega arith) (refl, refl, refl, refl) refl (refl, refl, refl)

gone : (find mine (final rules new (take 6 too_late)) ≡ none) × (get_elem? (run rules new too_late) 6 ≡ some (replied (as_it_came follow_up_third (refused 15))))
gone = gone_at_third_tick new too_late mine (50 * 65536) 0 6 follow_up_third Waiting-late (omega arith)

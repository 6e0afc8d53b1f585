-- The packet over a path, where the Follow_Up carries it: a one-step and a two-step node, 1,500 and 50 ns; the same with a full node of 200 ns
-- between them; and a packet whose field gets to 2^63-1, or has it from the start.
-- Assumes nothing.
use Prim.Native.Nat.{ℕ, ◌+◌, ◌-◌, ◌*◌, ◌^◌}
use mathlib.Core.Path.{◌≡◌, refl, ap}
use mathlib.Core.Bool.{true}
use mathlib.Core.List.Permᴰ
use mathlib.Core.List.{List, [], ◌∷◌}
use native.Mathlib.Omega.{arith}
use lib.IntN.{ℤ, pos, negsuc, ◌+ℤ◌}
use Rattle.refusal.specs.Answer.{value}
use Rattle.records.specs.Slots.{same, holds}
use Rattle.image.specs.Image.{sound, differ}
use Rattle.scratch_pad.specs.Sum.{largest}
use Rattle.scratch_pad.proofs.Whole.{above}
use Rattle.egress.specs.Join.{shown_of}
use Rattle.rules.specs.Change.{pad_of}
use Rattle.rules.specs.declared.Handled.TheVariants.{Updated as updated, Passed as passed, Waiting as waiting, Added as added}
use Rattle.rules.specs.Rules.{Mode, one_step, two_step, Call}
use Rattle.rules.specs.Path.{Stop, Unrefused, Apart, Every, FirstWay, SecondWay, FollowUps, existing, residences}
use Rattle.rules.specs.Credited.{credits}
use Rattle.rules.proofs.Samples.{new, records_from, stayed, spare, handed_in, visit, refusing, unrefused, ticks_between, apart_between}
use Rattle.rules.proofs.PathExample.{mine}
use Rattle.correction.specs.Correct.{correct_of}
use Rattle.correction.specs.Path.{arrived}
use Rattle.correction.proofs.Kept.{shown_as_sent}
use Rattle.correction.proofs.Paths.{path_corrected, credited_corrected}
use Rattle.correction.proofs.Samples.{sync_packet, follow_up_packet, field_in, carrying}

-- the Sync starts with -5 and carries a packet too, which is not shown
abbrev a_sync : ℤ → List ℕ
a_sync pad = carrying true 0 pad (sync_packet (pos 7))

-- whatever the field of the Follow_Up's packet; the Follow_Up starts with 11
module _ (z : ℤ) where
  abbrev a_follow_up : ℕ → List ℕ
  a_follow_up pad = carrying true 8 (pos pad) (follow_up_packet z)

  abbrev set_call : Mode → ℤ → ℕ → Call
  set_call m pad n = handed_in m (a_sync pad) (stayed n)

  abbrev later : Mode → ℕ → Call
  later m pad = handed_in m (a_follow_up pad) (stayed 9)

  abbrev one_step_node : Stop
  one_step_node = ticks_between 1 one_step new (set_call one_step (negsuc 4) 1500) (later one_step 11)

  abbrev full_node : Stop
  full_node = ticks_between 1 two_step (records_from 16 300) (set_call two_step (pos 98303995) 200) (later two_step 11)

  abbrev two_step_node : Stop
  two_step_node = ticks_between 2 two_step new (set_call two_step (pos 98303995) 50) (later two_step 11)

  abbrev path : List Stop
  path = one_step_node ∷ two_step_node ∷ []

  sync_way : FirstWay (a_sync (negsuc 4)) path (a_sync (pos 98303995))
  unfolding same holds sound differ
  sync_way =
      FirstWay.cross (visit one_step_node 0 (set_call one_step (negsuc 4) 1500) updated (a_sync (pos 98303995)) spare refl refl refl)
      (FirstWay.cross (visit two_step_node 0 (set_call two_step (pos 98303995) 50) waiting (a_sync (pos 98303995)) spare refl refl refl) FirstWay.done)

  unfoldable way : FollowUps mine true path (pad_of (a_follow_up 11)) (pad_of (a_follow_up 3276811))
  unfolding same holds sound differ
  way =
      existing {f = a_follow_up 11} {last = a_follow_up 3276811} refl (Permᴰ.refl path)
      (SecondWay.cross 2 refl (visit one_step_node 2 (later one_step 11) passed (a_follow_up 11) spare refl refl refl)
      (SecondWay.cross 3 refl (visit two_step_node 3 (later two_step 11) added (a_follow_up 3276811) spare refl refl refl) SecondWay.done))

  all_apart : Every (Apart mine) path
  unfolding same holds sound differ
  all_apart = (
    apart_between mine 1 one_step new (set_call one_step (negsuc 4) 1500) (later one_step 11) refl,
    (apart_between mine 2 two_step new (set_call two_step (pos 98303995) 50) (later two_step 11) refl, tt),
  )

  none_refused : Every Unrefused path
  unfolding same holds sound differ
  none_refused = (unrefused one_step_node refl refl, (unrefused two_step_node refl refl, tt))

  -- with the full node, which refuses the Sync with 14 and the Follow_Up with 15
  abbrev full_path : List Stop
  full_path = one_step_node ∷ full_node ∷ two_step_node ∷ []

  full_sync_way : FirstWay (a_sync (negsuc 4)) full_path (a_sync (pos 98303995))
  unfolding same holds sound differ
  full_sync_way =
      FirstWay.cross (visit one_step_node 0 (set_call one_step (negsuc 4) 1500) updated (a_sync (pos 98303995)) spare refl refl refl)
      (FirstWay.cross (refusing full_node 0 (set_call two_step (pos 98303995) 200) 14 refl refl refl)
      (FirstWay.cross (visit two_step_node 0 (set_call two_step (pos 98303995) 50) waiting (a_sync (pos 98303995)) spare refl refl refl) FirstWay.done))

  unfoldable full_way : FollowUps mine true full_path (pad_of (a_follow_up 11)) (pad_of (a_follow_up 3276811))
  unfolding same holds sound differ
  full_way =
      existing {f = a_follow_up 11} {last = a_follow_up 3276811} refl (Permᴰ.refl full_path)
      (SecondWay.cross 2 refl (visit one_step_node 2 (later one_step 11) passed (a_follow_up 11) spare refl refl refl)
      (SecondWay.cross 2 refl (refusing full_node 2 (later two_step 11) 15 refl refl refl)
      (SecondWay.cross 3 refl (visit two_step_node 3 (later two_step 11) added (a_follow_up 3276811) spare refl refl refl) SecondWay.done)))

  full_apart : Every (Apart mine) full_path
  unfolding same holds sound differ
  full_apart = (
    all_apart.0,
    (apart_between mine 1 two_step (records_from 16 300) (set_call two_step (pos 98303995) 200) (later two_step 11) refl, all_apart.1),
  )

  -- the packet of either path, corrected
  abbrev packet_left : List ℕ
  packet_left = (correct_of (a_sync (pos 98303995)) (a_follow_up 3276811) 2 (follow_up_packet z)).copy

-- 200 - 5 + 11 + 101,580,800: no other octet changes
corrected :
    correct_of (a_sync (pos 98303995)) (arrived (way (pos 200))) 2 (follow_up_packet (pos 200))
    ≡ record { answer = value (pos 101581006); copy = follow_up_packet (pos 101581006) }
unfolding way
corrected = refl

seen : field_in (packet_left (pos 200)) ≡ pos 200 +ℤ (negsuc 4 +ℤ pos 11 +ℤ pos (1550 * 65536))
unfolding way
seen =
    path_corrected mine true (a_sync (negsuc 4)) (a_sync (pos 98303995)) (path (pos 200)) (pos 11) (pos 3276811) 2 (follow_up_packet (pos 200))
    (pos 101581006) refl (all_apart (pos 200)) (none_refused (pos 200)) (sync_way (pos 200)) (way (pos 200)) refl refl

-- the packet shown is the Follow_Up's, as it was sent, though the Sync carries one too
as_sent : shown_of (a_sync (pos 98303995)) (arrived (way (pos 200))) ≡ follow_up_packet (pos 200)
unfolding way
as_sent =
    shown_as_sent mine true (a_sync (negsuc 4)) (a_sync (pos 98303995)) (path (pos 200)) (pos 11) (pos 3276811) (pos 101580806) refl (sync_way (pos 200))
    (way (pos 200)) refl

-- a path of no nodes, and a Follow_Up that carries nothing: the Sync's packet
abbrev bare_follow_up : List ℕ
bare_follow_up = carrying true 8 (pos 11) []

unfoldable no_way : FollowUps mine true [] (pos 11) (pos 11)
no_way = existing {f = bare_follow_up} {last = bare_follow_up} refl Permᴰ.nil SecondWay.done

no_node : pos 13 ≡ pos 7 +ℤ (negsuc 4 +ℤ pos 11 +ℤ pos 0)
unfolding no_way
no_node =
    path_corrected mine true (a_sync (negsuc 4)) (a_sync (negsuc 4)) [] (pos 11) (pos 11) 2 (sync_packet (pos 7)) (pos 13) refl tt tt FirstWay.done
    no_way refl refl

-- the full node's 200 ns are lost, and nothing else
seen_without : field_in (packet_left (pos 200)) ≡ pos 200 +ℤ (negsuc 4 +ℤ pos 11 +ℤ pos (credits (full_path (pos 200))))
unfolding full_way
seen_without =
    credited_corrected mine true (a_sync (negsuc 4)) (a_sync (pos 98303995)) (full_path (pos 200)) (pos 11) (pos 3276811) 2 (follow_up_packet (pos 200))
    (pos 101581006) refl (full_apart (pos 200)) (full_sync_way (pos 200)) (full_way (pos 200)) refl refl

counted : (credits (full_path (pos 200)) ≡ 1550 * 65536) × (residences (full_path (pos 200)) ≡ 1750 * 65536)
unfolding same holds sound differ
counted = (refl, refl)

-- What the bound is for: the packet's own field is close to 2^63-1, or is it. All else is as above, the corrected field is 2^63-1, and the sums
-- part.
abbrev close : ℤ
close = pos (2 ^ 63 - 2)

at_the_bound :
    ((correct_of (a_sync (pos 98303995)) (arrived (way close)) 2 (follow_up_packet close)).answer ≡ value largest)
    × ((correct_of (a_sync (pos 98303995)) (arrived (way largest)) 2 (follow_up_packet largest)).answer ≡ value largest)
unfolding way
at_the_bound = (refl, refl)

close_parts : field_in (packet_left close) ≡ close +ℤ (negsuc 4 +ℤ pos 11 +ℤ pos (1550 * 65536)) → ⊥
close_parts e = let x : 2 ^ 63 - 1 ≡ 2 ^ 63 - 2 + 101580806 = ap above e in omega arith

largest_parts : field_in (packet_left largest) ≡ largest +ℤ (negsuc 4 +ℤ pos 11 +ℤ pos (1550 * 65536)) → ⊥
largest_parts e = let x : 2 ^ 63 - 1 ≡ 2 ^ 63 - 1 + 101580806 = ap above e in omega arith

-- Captures worked: some that are good, and beside each octets that differ from it a little and are none.
-- Assumes nothing.
use Prim.Native.Nat.{ℕ}
use mathlib.Core.Path.{◌≡◌, refl}
use mathlib.Core.Bool.{true, false}
use mathlib.Core.List.{List, [], ◌∷◌, ◌++◌}
use lib.ListN.{replicate}
use Rattle.octets.specs.Octets.{octets}
use Rattle.capture.specs.Layout.{start_of, body_at, is_body, bodies_in, is_capture}

-- no bodies; no count; an octet that belongs to no body
none : is_capture (0 ∷ 0 ∷ []) ≡ true
unfolding start_of body_at is_body
none = refl

no_count : is_capture [] ≡ false
unfolding start_of body_at is_body
no_count = refl

octet_behind_none : is_capture (0 ∷ 0 ∷ 3 ∷ []) ≡ false
unfolding start_of body_at is_body
octet_behind_none = refl

-- a tick, where the contents say it starts; a gap behind the contents; an octet behind the last body
abbrev tick_at : ℕ → List ℕ
tick_at n = 0 ∷ 1 ∷ octets 4 n

a_tick : is_capture (tick_at 6 ++ (3 ∷ [])) ≡ true
unfolding start_of body_at is_body
a_tick = refl

gap_behind_contents : is_capture (tick_at 7 ++ (9 ∷ 3 ∷ [])) ≡ false
unfolding start_of body_at is_body
gap_behind_contents = refl

octet_behind : is_capture (tick_at 6 ++ (3 ∷ 3 ∷ [])) ≡ false
unfolding start_of body_at is_body
octet_behind = refl

-- before the contents' end, and an offset that is 6 but for a multiple of 2^16
inside_contents : is_capture (tick_at 5 ++ (3 ∷ [])) ≡ false
unfolding start_of body_at is_body
inside_contents = refl

not_wrapped : is_capture (tick_at 0xFFFF0006 ++ (3 ∷ [])) ≡ false
unfolding start_of body_at is_body
not_wrapped = refl

-- two ticks back to back; with a gap between; over one another; the second near 2^32
abbrev ticks_at : ℕ → ℕ → List ℕ
ticks_at m n = 0 ∷ 2 ∷ octets 4 m ++ octets 4 n

two_ticks : is_capture (ticks_at 10 11 ++ (3 ∷ 3 ∷ [])) ≡ true
unfolding start_of body_at is_body
two_ticks = refl

gap_between : is_capture (ticks_at 10 12 ++ (3 ∷ 9 ∷ 3 ∷ [])) ≡ false
unfolding start_of body_at is_body
gap_between = refl

over_one_another : is_capture (ticks_at 10 10 ++ (3 ∷ [])) ≡ false
unfolding start_of body_at is_body
over_one_another = refl

far_away : is_capture (ticks_at 10 0xFFFFFFFF ++ (3 ∷ 3 ∷ [])) ≡ false
unfolding start_of body_at is_body
far_away = refl

-- a call with no message and one of an octet; with an octet of its stamps missing; of another kind
a_call : is_capture (tick_at 6 ++ (1 ∷ replicate 16 0)) ≡ true
unfolding start_of body_at is_body
a_call = refl

its_message : bodies_in (tick_at 6 ++ (2 ∷ replicate 17 5)) ≡ (2 ∷ replicate 17 5) ∷ []
unfolding start_of body_at
its_message = refl

call_of_16 : is_capture (tick_at 6 ++ (1 ∷ replicate 15 0)) ≡ false
unfolding start_of body_at is_body
call_of_16 = refl

other_kind : is_capture (tick_at 6 ++ (4 ∷ replicate 16 0)) ≡ false
unfolding start_of body_at is_body
other_kind = refl

kind_zero : is_capture (tick_at 6 ++ (0 ∷ replicate 16 0)) ≡ false
unfolding start_of body_at is_body
kind_zero = refl

-- The number of a table that the library did not make, worked: two records, and a number that nobody counted.
-- Assumes nothing.
use Prim.Native.Nat.{ℕ}
use mathlib.Core.Path.{◌≡◌, refl}
use mathlib.Core.List.{List, [], ◌∷◌}
use lib.ListN.{replicate}
use Rattle.refusal.specs.Answer.{value, refused}
use Rattle.records.specs.declared.RecordKind.TheVariants.{Sync}
use Rattle.records.specs.declared.Identity.{Identity}
use Rattle.records.specs.declared.Record.{Record}
use Rattle.records.specs.Slots.{Slots, same, holds, zeros}
use Rattle.records.specs.Node.{nothing, add, collect}
use Rattle.records.specs.Number.{read_number, recounted, request_of, tick_of}
use Rattle.records.proofs.Numbers.{number_aside, number_left}

abbrev numbered : ℕ → Identity
numbered n = record { kind = Sync; clock = 0; port = 1; sequence = n }

abbrev waits : ℕ → ℕ → Record
waits n w = record { kind = Sync; clock = 0; port = 1; sequence = n; residence = 9; wait = w }

-- two records of this wait; and no empty slot
abbrev two : ℕ → Slots
two w = waits 1 w ∷ waits 2 w ∷ replicate 14 zeros

abbrev full : Slots
full = replicate 16 (waits 1 1)

-- how a number is read, and what it is after one of these: a record is added, one is collected, a tick empties two
abbrev changed : ℕ → List ℕ
changed n =
    read_number n
    ∷ (request_of (add (numbered 3) 9) (two 1) n).number
    ∷ (request_of (collect (numbered 2)) (two 1) n).number
    ∷ (tick_of (two 1) n).number
    ∷ []

of_200 : changed 200 ≡ 16 ∷ 16 ∷ 15 ∷ 14 ∷ []
unfolding same holds
of_200 = refl

of_16 : changed 16 ≡ 16 ∷ 16 ∷ 15 ∷ 14 ∷ []
unfolding same holds
of_16 = refl

of_2 : changed 2 ≡ 2 ∷ 3 ∷ 1 ∷ 0 ∷ []
unfolding same holds
of_2 = refl

of_1 : changed 1 ≡ 1 ∷ 2 ∷ 0 ∷ 0 ∷ []
unfolding same holds
of_1 = refl

of_0 : changed 0 ≡ 0 ∷ 1 ∷ 0 ∷ 0 ∷ []
unfolding same holds
of_0 = refl

-- every number is left by 13, 14, 15, a call that asks nothing, and a tick that empties no slot
left :
    (n : ℕ)
    → ((request_of (add (numbered 1) 9) (two 1) n).number ≡ n)
    × ((request_of (add (numbered 3) 9) full n).number ≡ n)
    × ((request_of (collect (numbered 3)) (two 1) n).number ≡ n)
    × ((request_of nothing (two 1) n).number ≡ n)
    × ((tick_of (two 2) n).number ≡ n)
unfolding same holds
left n = (
  (number_left (two 1) n).0 (add (numbered 1) 9) refl,
  (number_left full n).0 (add (numbered 3) 9) refl,
  (number_left (two 1) n).0 (collect (numbered 3)) refl,
  (number_left (two 1) n).0 nothing refl,
  (number_left (two 2) n).1 refl,
)

-- and decides nothing: a slot is found though it is 16, and 14, a record and a tick's count are given though it is 0
answers :
    (n : ℕ)
    → ((request_of (add (numbered 3) 9) (two 1) n).answer ≡ value 0)
    × ((request_of (add (numbered 3) 9) full n).answer ≡ refused 14)
    × ((request_of (collect (numbered 2)) (two 1) n).answer ≡ value 9)
    × ((tick_of (two 1) n).answer ≡ value 2)
unfolding same holds
answers n = (
  (number_aside.0 (add (numbered 3) 9) (two 1) n 2).0,
  (number_aside.0 (add (numbered 3) 9) full n 16).0,
  (number_aside.0 (collect (numbered 2)) (two 1) n 2).0,
  (number_aside.1 (two 1) n 2).0,
)

-- a load counts, and a refused one leaves the number
loaded : recounted 200 (value (two 3)) ≡ 2
loaded = refl

not_loaded : recounted 200 (refused 22) ≡ 200
not_loaded = refl

-- The numbers that a node call gives, worked: one of each range and mode, and 12 where the output is too small; and a residence that waits
-- is below the limit.
-- Assumes nothing.
use Prim.Native.Nat.{◌<◌}
use mathlib.Core.Path.{refl}
use mathlib.Core.Bool.{true, false}
use mathlib.Core.List.{List, [], ◌∷◌}
use lib.IntN.{pos}
use lib.ListN.{replicate}
use Rattle.std.specs.Prelude.{Ok, Err}
use Rattle.residence.specs.declared.ResidenceError.TheVariants.{InvalidStamp, TooLong}
use Rattle.records.specs.declared.RecordKind.TheVariants.{Sync}
use Rattle.records.specs.declared.Record.{Record}
use Rattle.records.specs.Slots.{same, holds, zeros}
use Rattle.records.specs.Node.{Event, tick, call}
use Rattle.image.specs.Image.{sound, differ}
use Rattle.rules.specs.Rules.{one_step, two_step, Call}
use Rattle.rules.specs.Numbers.{Given}
use Rattle.rules.specs.Service.{new}
use Rattle.rules.proofs.Numbers.{numbers_given}
use Rattle.rules.proofs.Below.{residences_below}
use Rattle.rules.proofs.Samples.{numbered, octets_of, stayed, handed_in}

-- a Sync with S clear whose stamps are not good: 9
abbrev bad_stamp : Call
bad_stamp = handed_in two_step (octets_of (numbered 258) false 0 (pos 0)) (Err InvalidStamp)

nine : Given bad_stamp 9
nine = numbers_given (replicate 16 zeros) 0 bad_stamp 9 refl

-- a one-step call whose residence is too long: 10
abbrev over_long : Call
over_long = handed_in one_step (octets_of (numbered 258) false 0 (pos 0)) (Err TooLong)

ten : Given over_long 10
ten = numbers_given (replicate 16 zeros) 0 over_long 10 refl

-- a Sync with S clear that is lent 35 octets: 12
abbrev lent_less : Call
lent_less = record { mode = two_step; message = octets_of (numbered 258) false 0 (pos 0); residence = stayed 1; output = replicate 35 0 }

twelve : Given lent_less 12
twelve = numbers_given (replicate 16 zeros) 0 lent_less 12 refl

-- a Follow_Up for which nothing waits: 15
abbrev early : Call
early = handed_in two_step (octets_of (numbered 258) true 8 (pos 0)) (Err InvalidStamp)

fifteen : Given early 15
unfolding same holds
fifteen = numbers_given (replicate 16 zeros) 0 early 15 refl

-- the longest residence that a node takes waits, one unit below the limit
abbrev longest : List (Event Call)
longest = call (handed_in two_step (octets_of (numbered 258) true 0 (pos 0)) (Ok 262143999999999)) ∷ tick ∷ []

abbrev its_record : Record
its_record = record { kind = Sync; clock = 283686952306183; port = 1; sequence = 258; residence = 262143999999999; wait = 2 }

longest_below : its_record.residence < 262144000000000
unfolding same holds sound differ
longest_below = residences_below (replicate 16 zeros) 0 longest new 0 its_record refl

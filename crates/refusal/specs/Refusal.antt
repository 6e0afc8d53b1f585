-- The number of each refusal (document 01, Refusal numbers), as callers and C see it.
use Rattle.std.specs.Prelude.{ℕ, List, Result, Ok, Err, codes, ◌++◌}
use Rattle.std.specs.Fmt.{decimal}
use Rattle.refusal.specs.Answer.{Answer, value, refused}
use Rattle.refusal.specs.declared.Refusal.{Refusal}
use Rattle.refusal.specs.declared.Refusal.TheVariants as refusal

abbrev pub number_of : Refusal → ℕ
number_of refusal.TooShort = 1
number_of refusal.TooLong = 2
number_of refusal.NotRtm = 3
number_of refusal.Version = 4
number_of refusal.Length = 5
number_of refusal.Type = 6
number_of refusal.ValueSize = 7
number_of refusal.SubTlv = 8
number_of refusal.InvalidStamp = 9
number_of refusal.TooLongResidence = 10
number_of refusal.SumOutOfRange = 11
number_of refusal.OutputTooSmall = 12
number_of refusal.AlreadyWaiting = 13
number_of refusal.NoEmptySlot = 14
number_of refusal.NoRecord = 15
number_of refusal.NotForTwoStep = 16
number_of refusal.PtpType = 17
number_of refusal.NotAPair = 18
number_of refusal.ListTooLong = 19
number_of refusal.BadEntry = 20
number_of refusal.NoEntry = 21
number_of refusal.Image = 22
number_of refusal.SubTlvLength = 23
number_of refusal.NoTimingNode = 24
number_of refusal.Label = 25
number_of refusal.Capture = 26
number_of refusal.DelayRecord = 27
number_of refusal.TooManyHops = 28
number_of refusal.Mode = 29
number_of refusal.NotACopy = 30
number_of refusal.NoPtpHeader = 31
number_of refusal.PtpHeaderMismatch = 32
number_of refusal.CorrectionOutOfRange = 33

-- as programs print it
abbrev pub words_of : Refusal → List ℕ
words_of e = codes "refused " ++ decimal (number_of e)

-- what a function answers, in document 01's numbers
abbrev pub answer_of : {A : Type 0} → Result A Refusal → Answer A
answer_of (Ok a) = value a
answer_of (Err e) = refused (number_of e)

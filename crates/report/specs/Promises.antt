-- What a report shows (document 02, W-209): of every list of calls, ticks and switchovers, and so of every capture.
use Rattle.std.specs.Prelude.{ℕ, suc, ◌+◌, ◌<◌, ◌≤◌, ◌^◌, ◌≡◌, Bool, false, cond, List, [], ◌∷◌, ◌++◌, eqb, get_or, drop, replicate}
use Rattle.std.proofs.Math.Option.{Option, none, some}
use Rattle.std.proofs.Math.ListN.{get_elem?}
use Rattle.refusal.specs.Answer.{Answer, value, refused}
use Rattle.records.specs.Slots.{zeros}
use Rattle.records.specs.Node.{Event, tick, call, switchover, Result, told, replied, taken_over, run}
use Rattle.image.specs.Layout.{sum}
use Rattle.rules.specs.Change.{follow_up_of}
use Rattle.rules.specs.declared.Handled.{Handled as Word}
use Rattle.rules.specs.declared.Handled.TheVariants.{Updated as updated, Passed as passed, Created as created, Waiting as waiting, Added as added}
use Rattle.rules.specs.Rules.{Call, word_number, Reply, as_it_came, add_to_pad, rules}
use Rattle.report.specs.declared.Counts.{Counts}
use Rattle.report.specs.declared.Range.{Range}
use Rattle.report.specs.declared.Range.TheVariants.{Absent, Between}
use Rattle.report.specs.declared.Report.{Report}
use Rattle.report.specs.Report.{Counted, counting, nothing_yet, report_of, report_on}

-- ---- the counts

-- the count of an answer in a report
abbrev pub count_of : Counts → Answer Word → ℕ
count_of c (value updated) = c.updated
count_of c (value passed) = c.passed
count_of c (value created) = c.created
count_of c (value waiting) = c.waiting
count_of c (value added) = c.added
count_of c (refused n) = get_or c.refused n 0

-- how often an answer is given in a run of document 01's node
unfoldable pub same_answer : Answer Word → Answer Word → Bool
same_answer (value v) (value w) = eqb (word_number v) (word_number w)
same_answer (value v) (refused n) = false
same_answer (refused m) (value w) = false
same_answer (refused m) (refused n) = eqb m n

abbrev pub given_in : Answer Word → List (Result Reply) → ℕ
given_in a [] = 0
given_in a (told n ∷ rs) = given_in a rs
given_in a (replied r ∷ rs) = cond (same_answer a r.answer) (suc (given_in a rs)) (given_in a rs)
given_in a (taken_over ∷ rs) = given_in a rs

-- every count is that of its answer in the run of demand 3's definitions, from an empty table
abbrev pub CountsOfRun : Type 0
CountsOfRun = (es : List (Event Call)) (a : Answer Word) → count_of (report_of es).counts a ≡ given_in a (run rules (replicate 16 zeros) es)

-- all counts together are the number of calls
abbrev pub total : Counts → ℕ
total c = c.updated + c.passed + c.created + c.waiting + c.added + sum c.refused

abbrev pub calls_in : List (Event Call) → ℕ
calls_in [] = 0
calls_in (tick ∷ es) = calls_in es
calls_in (call c ∷ es) = suc (calls_in es)
calls_in (switchover ∷ es) = calls_in es

abbrev pub CountsAddUp : Type 0
CountsAddUp = (es : List (Event Call)) → total (report_of es).counts ≡ calls_in es

-- "W-209's count of it stays, at 0" (document 02, W-210): 11, of any calls
abbrev pub ElevenNeverCounted : Type 0
ElevenNeverCounted = (es : List (Event Call)) → get_or (report_of es).counts.refused 11 0 ≡ 0

-- of a capture neither is 12, since each call is lent 36 octets, nor 0, which is no number
abbrev pub NeverCounted : Type 0
NeverCounted =
    (s : List ℕ) (r : Report)
    → report_on s ≡ value r
    → (get_or r.counts.refused 0 0 ≡ 0) × (get_or r.counts.refused 11 0 ≡ 0) × (get_or r.counts.refused 12 0 ≡ 0)

-- ---- the stays

-- those that count, in their order
abbrev pub listed : Option ℕ → List ℕ
listed none = []
listed (some u) = u ∷ []

abbrev pub residences_in : List (Result Counted) → List ℕ
residences_in [] = []
residences_in (told n ∷ rs) = residences_in rs
residences_in (replied x ∷ rs) = listed x.residence ++ residences_in rs
residences_in (taken_over ∷ rs) = residences_in rs

abbrev pub residences_of : List (Event Call) → List ℕ
residences_of es = residences_in (run counting (replicate 16 zeros) es)

-- one of them, and the least and the greatest of them: there are none where these are absent
abbrev pub Among : ℕ → List ℕ → Type 0
Among u us = (i : ℕ) × (get_elem? us i ≡ some u)

abbrev pub Spans : Range → List ℕ → Type 0
Spans Absent us = us ≡ []
Spans (Between least greatest) us =
    Among least us × Among greatest us × ((u : ℕ) → Among u us → (least ≤ u) × (u ≤ greatest))

abbrev pub LeastAndGreatest : Type 0
LeastAndGreatest = (es : List (Event Call)) → Spans (report_of es).residences.range (residences_of es)

-- so that the least is not above the greatest
abbrev pub LeastFirst : Type 0
LeastFirst = (es : List (Event Call)) (least greatest : ℕ) → (report_of es).residences.range ≡ Between least greatest → least ≤ greatest

-- the sum is exact, ..
abbrev pub SumOfResidences : Type 0
SumOfResidences = (es : List (Event Call)) → (report_of es).residences.sum ≡ sum (residences_of es)

-- .. and that of a capture fits 64 bits, since no stay, a record's neither, reaches 262,144,000,000,000 units (`rules` ResidencesBelow)
abbrev pub SumFits : Type 0
SumFits = (s : List ℕ) (r : Report) → report_on s ≡ value r → r.residences.sum < 2 ^ 64

-- What counts of a call is what its reply, by the rules, puts on a pad: on that of its message, also where that stays at 2^63-1, or on that
-- of the Follow_Up which it creates. Of a call that is refused, passed or waiting nothing counts, and message and output are as they came.
abbrev pub PutsNothing : Answer Word → Type 0
PutsNothing (refused n) = Unit {0}
PutsNothing (value updated) = ⊥
PutsNothing (value passed) = Unit {0}
PutsNothing (value created) = ⊥
PutsNothing (value waiting) = Unit {0}
PutsNothing (value added) = ⊥

pub data OnPad (c : Call) (r : Reply) : Option ℕ → Type 0 where
  by_update : (u : ℕ) → r ≡ add_to_pad c updated u → OnPad c r (some u)
  by_adding : (u : ℕ) → r ≡ add_to_pad c added u → OnPad c r (some u)
  by_creating : (u : ℕ) → r.answer ≡ value created → r.output ≡ follow_up_of c.message u ++ drop 36 c.output → OnPad c r (some u)
  by_none : PutsNothing r.answer → r ≡ as_it_came c r.answer → OnPad c r none

abbrev pub ResidencesOnPads : Type 0
ResidencesOnPads = (c : Call) (table : Answer ℕ) → OnPad c (rules.reply c table) (counting.reply c table).residence

-- ---- without calls, whatever ticks there are, zeros and absent
abbrev pub NothingToReport : Type 0
NothingToReport = (es : List (Event Call)) → calls_in es ≡ 0 → report_of es ≡ nothing_yet

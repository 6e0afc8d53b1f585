-- The report (document 02, W-209): "Run it from an empty table with an output of 36 octets for each call. Report how many were updated, passed,
-- created, waiting, added, and refused by each number, and the least, greatest and exact sum, in pad units, of the stays updated, created or
-- added."
use Rattle.std.specs.Prelude.{ℕ, ◌+◌, cond, List, [], ◌∷◌, leb, eqb, get_or, set, replicate}
use Rattle.std.proofs.Math.Option.{Option, none, some}
use Rattle.refusal.specs.Answer.{Answer, value, refused, and_then}
use Rattle.residence.specs.Residence.{accepted_of}
use Rattle.records.specs.Slots.{zeros}
use Rattle.records.specs.Node.{Node, Event, Result, told, replied, taken_over, run}
use Rattle.rules.specs.declared.Handled.{Handled as Word}
use Rattle.rules.specs.declared.Handled.TheVariants.{Updated as updated, Passed as passed, Created as created, Waiting as waiting, Added as added}
use Rattle.rules.specs.Rules.{Call, word_number, rules}
use Rattle.rules.specs.Path.{units_of}
use Rattle.report.specs.declared.Counts.{Counts}
use Rattle.report.specs.declared.Range.{Range}
use Rattle.report.specs.declared.Range.TheVariants.{Absent, Between}
use Rattle.report.specs.declared.Residences.{Residences}
use Rattle.report.specs.declared.Report.{Report}
use Rattle.report.specs.Events.{events_of}

-- What is reported of a call: its answer, and the stay that counts, where one does.
pub record Counted : Type 0 where
  pub answer : Answer Word
  pub residence : Option ℕ

-- "of the stays updated, created or added": the call's own, or that of the record which was added. A stay that waits counts when it is
-- added, and the whole of it counts also where the pad stays at 2^63-1.
abbrev pub residence_counted : Answer Word → ℕ → ℕ → Option ℕ
residence_counted (refused n) own kept = none
residence_counted (value updated) own kept = some own
residence_counted (value passed) own kept = none
residence_counted (value created) own kept = some own
residence_counted (value waiting) own kept = none
residence_counted (value added) own kept = some kept

abbrev pub counted_by : ℕ → ℕ → Answer Word → Counted
counted_by own kept a = record { answer = a; residence = residence_counted a own kept }

-- document 01's node as the report sees it: a call asks the table for the same, answers the same, and tells this of itself
abbrev pub counting : Node
counting =
    record {
      Call = Call;
      Reply = Counted;
      Word = Word;
      identity = rules.identity;
      request = rules.request;
      reply = λ c table. counted_by (units_of (accepted_of c.residence)) (units_of table) (rules.reply c table).answer;
      answer = λ r. r.answer;
      handover = rules.handover;
    }

-- "how many were updated, passed, created, waiting, added": one more where that was the answer, ..
abbrev pub more_where : ℕ → Word → Answer Word → ℕ
more_where n w (value v) = cond (eqb (word_number w) (word_number v)) (n + 1) n
more_where n w (refused m) = n

-- .. "and refused by each number", a count for each at its place
abbrev pub refused_more : List ℕ → Answer Word → List ℕ
refused_more ns (value w) = ns
refused_more ns (refused n) = set ns n (get_or ns n 0 + 1)

abbrev pub with_answer : Counts → Answer Word → Counts
with_answer c a =
    record {
      updated = more_where c.updated updated a;
      passed = more_where c.passed passed a;
      created = more_where c.created created a;
      waiting = more_where c.waiting waiting a;
      added = more_where c.added added a;
      refused = refused_more c.refused a;
    }

-- "the least, greatest and exact sum, in pad units"
abbrev pub lesser : ℕ → ℕ → ℕ
lesser a b = cond (leb a b) a b

abbrev pub greater : ℕ → ℕ → ℕ
greater a b = cond (leb a b) b a

abbrev pub widened : Range → ℕ → Range
widened Absent u = Between u u
widened (Between least greatest) u = Between (lesser least u) (greater greatest u)

abbrev pub with_residence : Residences → Option ℕ → Residences
with_residence s none = s
with_residence s (some u) = record { range = widened s.range u; sum = s.sum + u }

-- a call more; ticks are not reported
abbrev pub with_call : Report → Counted → Report
with_call r x = record { counts = with_answer r.counts x.answer; residences = with_residence r.residences x.residence }

abbrev pub with_result : Report → Result Counted → Report
with_result r (told n) = r
with_result r (replied x) = with_call r x
with_result r taken_over = r

abbrev pub report_from : Report → List (Result Counted) → Report
report_from r [] = r
report_from r (x ∷ xs) = report_from (with_result r x) xs

-- "Where there are none, least and greatest are absent and the sum is 0."
abbrev pub nothing_yet : Report
nothing_yet =
    record {
      counts = record { updated = 0; passed = 0; created = 0; waiting = 0; added = 0; refused = replicate 17 0 };
      residences = record { range = Absent; sum = 0 };
    }

-- "Run it from an empty table"
abbrev pub report_of : List (Event Call) → Report
report_of es = report_from nothing_yet (run counting (replicate 16 zeros) es)

-- "the report equals a definition over the recorded calls"; 26 "before any call is run"
abbrev pub report_on : List ℕ → Answer Report
report_on s = and_then (events_of s) (λ es. value (report_of es))

-- struct rtm_report, in 26 words: 0 to 4 how many calls were updated, passed, created, waiting and added, 5 to 21 how many were refused with
-- each number from 0 to 16, 22 whether there is a least and a greatest residence, 23 and 24 these two, 25 the sum.
use Rattle.std.specs.Prelude.{ℕ, zero, suc, List, [], ◌∷◌, ◌++◌, get_or}
use Rattle.report.specs.declared.Counts.{Counts}
use Rattle.report.specs.declared.Range.{Range}
use Rattle.report.specs.declared.Range.TheVariants.{Absent, Between}
use Rattle.report.specs.declared.Report.{Report}

-- the counts of k numbers from n on
abbrev pub counts_from : ℕ → ℕ → List ℕ → List ℕ
counts_from n zero ns = []
counts_from n (suc k) ns = get_or ns n 0 ∷ counts_from (suc n) k ns

-- absent is told by a word of its own: the two are then 0
abbrev pub ranged_of : Range → ℕ
ranged_of Absent = 0
ranged_of (Between least greatest) = 1

abbrev pub least_of : Range → ℕ
least_of Absent = 0
least_of (Between least greatest) = least

abbrev pub greatest_of : Range → ℕ
greatest_of Absent = 0
greatest_of (Between least greatest) = greatest

abbrev pub words_of : Counts → List ℕ
words_of c = c.updated ∷ c.passed ∷ c.created ∷ c.waiting ∷ c.added ∷ counts_from 0 17 c.refused

abbrev pub report_words : Report → List ℕ
report_words r =
    words_of r.counts
    ++ (ranged_of r.residences.range ∷ least_of r.residences.range ∷ greatest_of r.residences.range ∷ r.residences.sum ∷ [])

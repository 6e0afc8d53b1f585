-- The text that `replay` prints of a capture (document 02, W-209): the report, a name and its value on each line, or "refused" and the number.
use Rattle.std.specs.Prelude.{ℕ, suc, cond, List, [], ◌∷◌, ◌++◌, eqb}
use Rattle.refusal.specs.Answer.{Answer, value, refused}
use Rattle.report.specs.declared.Counts.{Counts}
use Rattle.report.specs.declared.Range.{Range}
use Rattle.report.specs.declared.Range.TheVariants.{Absent, Between}
use Rattle.report.specs.declared.Residences.{Residences}
use Rattle.report.specs.declared.Report.{Report}
use Rattle.report.specs.Report.{report_on}
use Rattle.line.specs.Line.{decimal, refused_word, newline}
use Rattle.line.specs.Ttl.{space}

-- "updated "
abbrev pub updated_word : List ℕ
updated_word = 117 ∷ 112 ∷ 100 ∷ 97 ∷ 116 ∷ 101 ∷ 100 ∷ 32 ∷ []

-- "passed "
abbrev pub passed_word : List ℕ
passed_word = 112 ∷ 97 ∷ 115 ∷ 115 ∷ 101 ∷ 100 ∷ 32 ∷ []

-- "created "
abbrev pub created_word : List ℕ
created_word = 99 ∷ 114 ∷ 101 ∷ 97 ∷ 116 ∷ 101 ∷ 100 ∷ 32 ∷ []

-- "waiting "
abbrev pub waiting_word : List ℕ
waiting_word = 119 ∷ 97 ∷ 105 ∷ 116 ∷ 105 ∷ 110 ∷ 103 ∷ 32 ∷ []

-- "added "
abbrev pub added_word : List ℕ
added_word = 97 ∷ 100 ∷ 100 ∷ 101 ∷ 100 ∷ 32 ∷ []

-- "refused-"
abbrev pub refused_by : List ℕ
refused_by = 114 ∷ 101 ∷ 102 ∷ 117 ∷ 115 ∷ 101 ∷ 100 ∷ 45 ∷ []

-- "least "
abbrev pub least_word : List ℕ
least_word = 108 ∷ 101 ∷ 97 ∷ 115 ∷ 116 ∷ 32 ∷ []

-- "greatest "
abbrev pub greatest_word : List ℕ
greatest_word = 103 ∷ 114 ∷ 101 ∷ 97 ∷ 116 ∷ 101 ∷ 115 ∷ 116 ∷ 32 ∷ []

-- "sum "
abbrev pub sum_word : List ℕ
sum_word = 115 ∷ 117 ∷ 109 ∷ 32 ∷ []

-- "-"
abbrev pub dash : List ℕ
dash = 45 ∷ []

-- a name and its value
abbrev pub value_line : List ℕ → ℕ → List ℕ
value_line name n = name ++ decimal n ++ newline

-- "how many were updated, passed, created, waiting, added"
abbrev pub count_lines : Counts → List ℕ
count_lines c =
    value_line updated_word c.updated
    ++ value_line passed_word c.passed
    ++ value_line created_word c.created
    ++ value_line waiting_word c.waiting
    ++ value_line added_word c.added

-- "and refused by each number": a line for each number that was given, from n on
abbrev pub refused_line : ℕ → ℕ → List ℕ
refused_line n k = cond (eqb k 0) [] (refused_by ++ decimal n ++ space ++ decimal k ++ newline)

abbrev pub refused_lines : ℕ → List ℕ → List ℕ
refused_lines n [] = []
refused_lines n (k ∷ ks) = refused_line n k ++ refused_lines (suc n) ks

-- "the least, greatest and exact sum, in pad units"; "Where there are none, least and greatest are absent"
abbrev pub range_lines : Range → List ℕ
range_lines Absent = least_word ++ dash ++ newline ++ greatest_word ++ dash ++ newline
range_lines (Between least greatest) = value_line least_word least ++ value_line greatest_word greatest

abbrev pub residence_lines : Residences → List ℕ
residence_lines s = range_lines s.range ++ value_line sum_word s.sum

abbrev pub report_text : Report → List ℕ
report_text r = count_lines r.counts ++ refused_lines 0 r.counts.refused ++ residence_lines r.residences

abbrev pub text_by : Answer Report → List ℕ
text_by (value r) = report_text r
text_by (refused n) = value_line refused_word n

abbrev pub text_of : List ℕ → List ℕ
text_of s = text_by (report_on s)

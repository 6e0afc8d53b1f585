-- Its lines stand behind one another.
use Rattle.std.proofs.Common.{ℕ, ◌≡◌, List, ◌++◌, append_assoc}
use Rattle.line.specs.Replaying.{updated_word, passed_word, created_word, waiting_word, added_word, value_line}
use Rattle.line.proofs.replaying.count_lines.Goals as goal

lines : (r a b d e f : List ℕ) {s t u v w : List ℕ} → s ≡ r ++ a → t ≡ s ++ b → u ≡ t ++ d → v ≡ u ++ e → w ≡ v ++ f → w ≡ r ++ (a ++ b ++ d ++ e ++ f)
lines r a b d e f g h i j k = rw (k, j, i, h, g) (simp append_assoc)

pub returns-clause-value : goal.returns-clause-value
returns-clause-value c =
    let k = c.args.counts in
    lines c.args.text.now
    (value_line updated_word k.updated)
    (value_line passed_word k.passed)
    (value_line created_word k.created)
    (value_line waiting_word k.waiting)
    (value_line added_word k.added)
    c.last.ensures.value
    c.last-2.ensures.value
    c.last-3.ensures.value
    c.last-4.ensures.value
    c.last-5.ensures.value

-- There are as many digits as the number has places, and they are put as they are.
use Rattle.std.proofs.Common.{ℕ, ◌≡◌, ap, ◌∙◌, ◌++◌, arith, List}
use Rattle.io.specs.Digits.{last_digits}
use Rattle.line.specs.Line.{places}
use Rattle.line.proofs.Places.{fewest}
use Rattle.line.proofs.text.Text.number.Goals as goal

pub returns-clause-value : goal.returns-clause-value
returns-clause-value c =
    let n = c.args.n in
    let d = c.decimal-count in
    let k : d.result ≡ places 19 n = fewest 19 n d.result (omega arith) d.ensures.len in
    c.word.ensures.value ∙ ap (λ (w : List ℕ). c.args.self.now ++ w) (d.ensures.digits ∙ ap (λ (j : ℕ). last_digits 10 j n) k)

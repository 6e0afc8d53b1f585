-- `fill`: all records are in the words, and then the number.
use Rattle.std.proofs.Common.{◌≡◌, ℕ, List, length, ap, ◌∙◌, arith}
use Rattle.refusal.specs.Answer.{value}
use Rattle.words.specs.Words.{with_number}
use Rattle.words.specs.Answers.{left}
use Rattle.words.proofs.Fills.{fill_done, filled_means}
use Rattle.lent.proofs.contents.fill.Goals as goal

pub returns : goal.returns
returns c =
    let w = c.args.words.now in
    let m : length w ≡ 64 = omega arith in
    let d = fill_done w c.loop-k.words c.args.slots c.loop-k.k c.loop-k.invariant (omega arith) in
    ap (left (value 0)) (c.set_number.ensures ∙ ap (λ (v : List ℕ). with_number v c.args.number) d.0)
    ∙ filled_means c.args.slots c.args.number w m (omega arith, d.1) (omega arith)

-- `tick`: one more slot has aged after each turn, and all at the end.
use Rattle.std.proofs.Common.{◌≡◌, ℕ, ◌≤◌, Bool, true, false, cond, length, ap, ◌∙◌, arith}
use mir.Val.{bool_byte}
use Rattle.refusal.specs.Answer.{value}
use Rattle.records.specs.Number.{fewer}
use Rattle.words.specs.Words.{with_number}
use Rattle.words.specs.Answers.{left}
use Rattle.words.proofs.Steps.{tick_means}
use Rattle.words.proofs.Ticks.{sweep_on, sweep_done}
use Rattle.lent.proofs.operations.tick.Goals as goal

-- a test as a number
counted : (r : ℕ) (b : Bool) → r ≡ bool_byte b → (r ≡ cond b 1 0) × (r ≤ 1)
counted r true e = (e, omega (arith, e))
counted r false e = (e, omega (arith, e))

pub loop-i-preserved : goal.loop-i-preserved
loop-i-preserved c =
    let e = c.age.ensures in
    let one = counted c.from-emptied.result c.age.result c.from-emptied.ensures in
    sweep_on c.args.words.now c.loop-i.words c.loop-i.emptied c.loop-i.i c.loop-i.invariant c.age.new.words c.from-emptied.result (omega arith) e.words_after
    (one.0 ∙ ap (λ (t : Bool). cond t 1 0) e.value) one.1

pub returns : goal.returns
returns c =
    let w = c.args.words.now in
    let m : length w ≡ 64 = omega arith in
    let d = sweep_done w c.loop-i.words c.loop-i.emptied c.loop-i.i c.loop-i.invariant (omega arith) in
    let n = c.fewer.ensures ∙ (λ i. fewer (d.1 i) (c.number-kept.ensures i)) in
    (λ i. left (value (d.1 i)) ((c.set_number.ensures ∙ (λ j. with_number (d.0 j) (n j))) i)) ∙ tick_means w m

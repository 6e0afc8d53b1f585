-- `advance`: each kind of body is its event.
use Rattle.std.proofs.Common.{◌≡◌, List, ℕ, refl, sym, ap, ◌∙◌}
use Rattle.std.specs.Prelude.{Some}
use Rattle.records.specs.Slots.{Slots}
use Rattle.records.specs.Node.{Event, step, result}
use Rattle.words.specs.Words.{slots_of}
use Rattle.words.specs.Answers.{Left}
use Rattle.rules.specs.Rules.{Call, rules}
use Rattle.capture.specs.declared.kinds.Kind.{Kind}
use Rattle.capture.specs.declared.kinds.Kind.TheVariants.{OneStep, TwoStep, Tick}
use Rattle.capture.specs.Kinds.{kind_of}
use Rattle.report.specs.declared.Report.{Report}
use Rattle.report.specs.Report.{counting, with_result}
use Rattle.report.specs.Events.{event_in}
use Rattle.rerun.proofs.Turns.{event_by, kind_event, both_stamps}
use Rattle.rerun.proofs.running.advance.Goals as goal

-- the body is of the kind that was told
of_kind : (b : List ℕ) (k j : Kind) → kind_of b ≡ Some k → k ≡ j → event_by j b ≡ event_in b
of_kind b k j h e = ap (λ (x : Kind). event_by x b) (sym e) ∙ kind_event b k h

-- the same event counts the same, and leaves the same
as_event : (r : Report) (t : Slots) (x y : Event Call) → x ≡ y → (with_result r (result counting t x) ≡ with_result r (result counting t y)) × (step rules t x ≡ step rules t y)
as_event r t x y e = (ap (λ (z : Event Call). with_result r (result counting t z)) e, ap (step rules t) e)

pub invariant_of-after_one_step : goal.invariant_of-after_one_step
invariant_of-after_one_step c =
    let k = sym c.classify.ensures ∙ c.unwrap.ensures in
    let one = c.in-OneStep.is in
    record { whole = both_stamps c.args.body.now c.unwrap.result k (λ e. cc) }

pub invariant_of-after_two_step : goal.invariant_of-after_two_step
invariant_of-after_two_step c =
    let k = sym c.classify.ensures ∙ c.unwrap.ensures in
    let two = c.in-TwoStep.is in
    record { whole = both_stamps c.args.body.now c.unwrap.result k (λ e. cc) }

pub after_one_step-requires : goal.after_one_step-requires
after_one_step-requires c = record { counts = c.requires.0.counts; sum = c.requires.0.sum; below = refl }

pub returns-in-OneStep : goal.returns-in-OneStep
returns-in-OneStep c =
    let a = c.args in
    let t = slots_of a.words.now in
    let b = a.body.now in
    let e = of_kind b c.unwrap.result OneStep (sym c.classify.ensures ∙ c.unwrap.ensures) c.in-OneStep.is in
    let same = as_event a.report t (event_by OneStep b) (event_in b) e in
    record { value = c.after_one_step.ensures t ∙ same.0; words_after = same.1 }

pub returns-in-TwoStep : goal.returns-in-TwoStep
returns-in-TwoStep c =
    let a = c.args in
    let b = a.body.now in
    let e = of_kind b c.unwrap.result TwoStep (sym c.classify.ensures ∙ c.unwrap.ensures) c.in-TwoStep.is in
    let same = as_event a.report (slots_of a.words.now) (event_by TwoStep b) (event_in b) e in
    record { value = c.after_two_step.ensures.value ∙ same.0; words_after = c.after_two_step.ensures.words_after ∙ same.1 }

pub returns-in-Tick : goal.returns-in-Tick
returns-in-Tick c =
    let a = c.args in
    let b = a.body.now in
    let e = of_kind b c.unwrap.result Tick (sym c.classify.ensures ∙ c.unwrap.ensures) c.in-Tick.is in
    let same = as_event a.report (slots_of a.words.now) (event_by Tick b) (event_in b) e in
    record { value = same.0; words_after = ap (λ (x : Left). x.outcome.slots) c.tick.ensures ∙ same.1 }

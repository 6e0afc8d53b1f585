-- `after_one_step`: what the parts promise, put together.
use Rattle.std.proofs.Common.{◌∙◌}
use Rattle.residence.specs.Residence.{accepted_of}
use Rattle.rules.specs.Path.{units_of}
use Rattle.node.specs.Calls.{one_step_call}
use Rattle.report.specs.Events.{lent_output}
use Rattle.report.specs.Report.{counted_by, with_call}
use Rattle.rerun.specs.Calls.{made_of}
use Rattle.rerun.proofs.running.after_one_step.Goals as goal

pub returns : goal.returns
returns c = λ t.
    let a = c.args in
    let x = c.residence-residence in
    let m = c.message in
    c.with_call.ensures
    ∙ (λ i. with_call a.report (counted_by (c.units_of.ensures i) 0 (c.one_step-answer.ensures t i)))
    ∙ (λ i. with_call a.report (counted_by (units_of (accepted_of (x.ensures i))) 0 (made_of t (one_step_call (m.ensures i) lent_output (x.ensures i))).answer))

-- `after_two_step`: there is room for a residence, the call's own or a record's.
use Rattle.std.proofs.Common.{ap, arith}
use Rattle.words.specs.Words.{slots_of}
use Rattle.rules.specs.Rules.{rules}
use Rattle.rules.proofs.Below.{own_below, answer_below}
use Rattle.node.specs.Calls.{two_step_call}
use Rattle.report.specs.Events.{lent_output}
use Rattle.rerun.specs.Calls.{Made}
use Rattle.rerun.proofs.running.after_two_step.Goals as goal

pub with_call-requires : goal.with_call-requires
with_call-requires c =
    let p = c.requires in
    let x = c.residence-residence.result in
    let o = own_below x in
    let e = c.units_of.ensures in
    let call = two_step_call c.message.result.now lent_output x in
    let k = answer_below (rules.request call) (slots_of c.args.words.now) p.below in
    let d = ap (λ (y : Made). y.collected) c.two_step-told.ensures in
    (omega (arith, p.counts), omega (arith, p.sum), omega (arith, p.sum))

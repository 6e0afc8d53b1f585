-- The residence handed on is that of the stamps.
use Rattle.std.proofs.Common.{ap, ◌∙◌}
use Rattle.residence.specs.Residence.{Residence}
use Rattle.stamp.specs.Stamps.{residence_of}
use Rattle.node.specs.Calls.{two_step_call, call_on}
use Rattle.rtm.proofs.Runs.{same_residence}
use Rattle.rtm.proofs.two_step_lent.Goals as goal

pub returns : goal.returns
returns c =
    let e = same_residence c.residence_of.result (residence_of c.args.stamps) c.residence_of.ensures in
    c.handle_two_step_lent.ensures
    ∙ ap (λ (x : Residence). call_on c.args.words.now (two_step_call c.args.message.now c.args.output.now x)) e

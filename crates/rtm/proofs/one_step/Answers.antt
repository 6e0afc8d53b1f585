-- The residence handed on is that of the stamps.
use Rattle.std.proofs.Common.{ap, ◌∙◌}
use Rattle.residence.specs.Residence.{Residence}
use Rattle.stamp.specs.Stamps.{residence_of}
use Rattle.rtm.proofs.Runs.{same_residence}
use Rattle.rules.specs.Rules.{call_of}
use Rattle.node.specs.Calls.{one_step_call}
use Rattle.rtm.proofs.one_step.Goals as goal

pub returns : goal.returns
returns c = λ t n o.
    let e = same_residence c.residence_of.result (residence_of c.args.stamps) c.residence_of.ensures in
    c.handle_one_step.ensures t n o ∙ ap (λ (x : Residence). call_of t n (one_step_call c.args.message.now o x)) e

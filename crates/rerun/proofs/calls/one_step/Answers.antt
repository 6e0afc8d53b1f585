-- `one_step`: the copy is the message.
use Rattle.std.proofs.Common.{List, ℕ, ap, ◌∙◌}
use Rattle.rules.specs.Rules.{Done}
use Rattle.node.specs.Calls.{one_step_call}
use Rattle.report.specs.Events.{lent_output}
use Rattle.rerun.specs.Calls.{made_of}
use Rattle.rerun.proofs.calls.one_step.Goals as goal

pub returns : goal.returns
returns c = λ t.
    ap (λ (d : Done). d.reply.answer) (c.handle_one_step.ensures t 0 lent_output)
    ∙ ap (λ (x : List ℕ). (made_of t (one_step_call x lent_output c.args.residence)).answer) c.copy_from_slice.ensures.after

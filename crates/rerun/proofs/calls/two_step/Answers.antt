-- `two_step`: the copy is the message.
use Rattle.std.proofs.Common.{List, ℕ, ap, ◌∙◌}
use Rattle.words.specs.Words.{slots_of}
use Rattle.node.specs.Answers.{ToldOn}
use Rattle.node.specs.Calls.{two_step_call}
use Rattle.report.specs.Events.{lent_output}
use Rattle.rerun.specs.Calls.{made_of}
use Rattle.rerun.proofs.calls.two_step.Goals as goal

pub returns : goal.returns
unfolding lent_output
returns c =
    let a = c.args in
    ap (λ (x : ToldOn). record { answer = x.done.done.reply.answer; collected = x.collected; slots = x.done.done.slots }) c.tell_two_step.ensures
    ∙ ap (λ (x : List ℕ). made_of (slots_of a.words.now) (two_step_call x lent_output a.residence)) c.copy_from_slice.ensures.after

-- A residence that waits: the call collected nothing.
use Rattle.std.proofs.Common.{◌≡◌, sym, ap, ◌∙◌}
use Rattle.words.specs.Words.{slots_of}
use Rattle.rules.specs.Rules.{kind_of, first_of}
use Rattle.handling.specs.Handling.{kind_answer, kind_read}
use Rattle.node.specs.declared.answer.Told.{Told}
use Rattle.node.specs.Answers.{told_on}
use Rattle.node.specs.Calls.{two_step_call, tell_on_by}
use Rattle.node.proofs.Replies.{none_collected}
use Rattle.node.proofs.two_step.tell_two_step.Goals as goal

pub returns-in-Ok-Keeps : goal.returns-in-Ok-Keeps
returns-in-Ok-Keeps c =
    let a = c.args in
    let m = a.message.now in
    let o = a.output.now in
    let w = a.words.now in
    let q = c.in-Ok-Keeps.identity in
    let d = two_step_call m o a.residence in
    let same : first_of q.kind q ≡ kind_of m = ap kind_answer (sym c.in-Ok-Keeps.field-0-is) ∙ ap kind_read (sym c.in-Ok-Keeps.is) ∙ c.classify.ensures in
    ap (λ (r : Told). told_on r m o c.keep.new.words) c.nothing_collected-in-Ok-Keeps.ensures
    ∙ (λ i. record { done = c.keep.ensures q.kind m o i; collected = sym (none_collected q.kind q a.residence (slots_of w)) i })
    ∙ ap (tell_on_by w d) same

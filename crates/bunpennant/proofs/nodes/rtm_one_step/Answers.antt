-- It is the call with its stamps, and the answer as a number.
use Rattle.std.proofs.Common.{ℕ, ap, ◌∙◌}
use Rattle.stamp.specs.declared.stamps.Stamps.{Stamps}
use Rattle.rules.specs.Rules.{one_step, call_of}
use Rattle.rtm.specs.Stamped.{handed_call}
use Rattle.bunpennant.specs.C.{coded_alone, coded_done}
use Rattle.bunpennant.proofs.nodes.rtm_one_step.Goals as goal

pub returns : goal.returns
returns c = λ t n o.
    let m = c.args.message.now in
    let e = c.one_step.ensures t n o ∙ ap (λ (x : Stamps). call_of t n (handed_call one_step m o x)) c.stamps_of.ensures in
    ap (λ (r : ℕ). coded_alone r c.one_step.new.message o t n) c.code_of.ensures ∙ ap coded_done e

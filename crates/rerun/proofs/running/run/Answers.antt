-- `run`: one more event in each turn, with room for it.
use Rattle.std.proofs.Common.{List, ℕ, ap, ◌∙◌, arith, replicate}
use Rattle.records.specs.Node.{step, result}
use Rattle.words.specs.Words.{slots_of}
use Rattle.rules.specs.Rules.{rules}
use Rattle.capture.specs.Layout.{is_body}
use Rattle.report.specs.Events.{event_in}
use Rattle.report.specs.Report.{counting, with_result}
use Rattle.report.proofs.Rooms.{room_more}
use Rattle.rerun.proofs.Turns.{zeros_empty, go_first, next_body, go_on, go_done}
use Rattle.rerun.proofs.running.run.Goals as goal

pub loop-k-init : goal.loop-k-init
loop-k-init c = go_first c.args.capture.now c.args.n c.new-report.result (slots_of (replicate 64 0)) c.new-report.ensures zeros_empty c.requires.1

pub advance-report-requires : goal.advance-report-requires
advance-report-requires c =
    let a = c.args in
    let l = c.loop-k in
    let t = slots_of l.words in (
      room_more l.k 256 l.report t l.invariant.1 (omega (arith, l.invariant.0, c.requires.0)),
      ap is_body c.body.ensures ∙ next_body a.capture.now a.n l.k l.report t l.invariant (omega (arith, c.loop-k-test.true)),
    )

pub loop-k-preserved : goal.loop-k-preserved
loop-k-preserved c =
    let a = c.args in
    let l = c.loop-k in
    let t = slots_of l.words in
    let d = c.advance-report in
    let body = c.body.ensures in
    go_on a.capture.now a.n l.k l.report t l.invariant d.result (slots_of d.new.words) (omega (arith, c.loop-k-test.true))
    (d.ensures.value ∙ ap (λ (x : List ℕ). with_result l.report (result counting t (event_in x))) body)
    (d.ensures.words_after ∙ ap (λ (x : List ℕ). step rules t (event_in x)) body)

pub returns : goal.returns
returns c = go_done c.args.capture.now c.args.n c.loop-k.k c.loop-k.report (slots_of c.loop-k.words) c.loop-k.invariant (omega arith)

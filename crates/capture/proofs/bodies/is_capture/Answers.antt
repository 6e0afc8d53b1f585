-- The body that was looked at is one, so the octets are a capture where those behind it are bodies too.
use Rattle.std.proofs.Common.{sym, ap, ◌∙◌, arith}
use Rattle.std.specs.Option.{is_some}
use Rattle.capture.specs.Layout.{is_body}
use Rattle.capture.proofs.Checking.{check_on, kind_told}
use Rattle.capture.proofs.bodies.is_capture.Goals as goal

pub loop-k-preserved : goal.loop-k-preserved
loop-k-preserved c =
    check_on c.args.capture.now c.count-n.result c.loop-k.k c.loop-k.invariant (omega arith)
    (ap is_body (sym c.body.ensures) ∙ kind_told c.body.result.now (ap is_some (sym c.classify.ensures) ∙ c.if-is_none.ensures))

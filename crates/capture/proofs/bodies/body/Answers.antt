-- Behind the last body there is nothing.
use Rattle.std.proofs.Common.{sym, arith}
use Rattle.capture.proofs.Checking.{none_behind}
use Rattle.capture.proofs.bodies.body.Goals as goal

pub returns-then-n-k : goal.returns-then-n-k
returns-then-n-k c = sym (none_behind c.args.capture.now c.args.k (omega (arith, c.count-n.ensures.0)))

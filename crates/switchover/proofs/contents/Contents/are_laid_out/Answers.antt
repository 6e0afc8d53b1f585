-- `are_laid_out`: one more offset agrees after each turn.
use Rattle.std.proofs.Common.{arith}
use Rattle.switchover.proofs.Comparing.{compare_on}
use Rattle.switchover.proofs.contents.Contents.are_laid_out.Goals as goal

pub loop-k-preserved : goal.loop-k-preserved
loop-k-preserved c =
    let a = c.args in
    compare_on a.self.form a.image.now a.self.count c.loop-k.at c.loop-k.k c.loop-k.invariant (omega arith) (omega arith)

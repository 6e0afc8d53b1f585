-- `read_bodies`: one more record is read in each turn.
use Rattle.std.proofs.Common.{arith}
use Rattle.switchover.proofs.BodiesRead.{read_on}
use Rattle.switchover.proofs.bodies.read_bodies.Goals as goal

pub loop-k-preserved : goal.loop-k-preserved
loop-k-preserved c =
    let a = c.args in
    read_on a.contents.form a.image.now a.contents.count c.loop-k.records c.loop-k.k c.loop-k.invariant c.record_at.result (omega arith)
    (rw c.offset.ensures.0 at c.record_at.ensures)

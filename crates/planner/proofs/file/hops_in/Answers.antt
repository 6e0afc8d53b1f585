-- A hop more is read.
use Rattle.std.proofs.Common.{arith}
use Rattle.planner.proofs.HopsRead.{read_on}
use Rattle.planner.proofs.file.hops_in.Goals as goal

pub loop-i-preserved : goal.loop-i-preserved
loop-i-preserved c =
    read_on c.args.path.now c.args.count c.loop-i.hops c.loop-i.i c.loop-i.invariant c.hop_from.result (omega arith) c.hop_from.ensures

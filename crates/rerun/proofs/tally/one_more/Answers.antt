-- `one_more`: one count is not above the sum of all.
use Rattle.std.proofs.Common.{arith}
use Rattle.report.proofs.Rooms.{at_most}
use Rattle.rerun.proofs.tally.one_more.Goals as goal

pub overflow_add-more : goal.overflow_add-more
overflow_add-more c = omega (arith, at_most c.args.refused c.from-at.result)

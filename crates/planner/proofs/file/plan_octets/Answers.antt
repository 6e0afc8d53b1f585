-- Too many hops are refused by their number.
use Rattle.std.proofs.Common.{sym, arith}
use Rattle.hops.proofs.Laws.{too_many}
use Rattle.planner.specs.File.{start_in, count_in, hops_from}
use Rattle.planner.proofs.HopsRead.{length_hops}
use Rattle.planner.proofs.file.plan_octets.Goals as goal

pub returns-then-count-gt-MOST : goal.returns-then-count-gt-MOST
returns-then-count-gt-MOST c =
    let s = c.args.path.now in
    sym (too_many (hops_from (count_in s) s 19) (start_in s) (omega (arith, length_hops (count_in s) s 19)))

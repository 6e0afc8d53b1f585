use Rattle.std.proofs.Common.{length}
use Rattle.rtm_set.proofs.list.+count_rest.Given as goal

-- proposed from what the function passes where it calls itself
abbrev pub decreases-count_rest : goal.decreases-count_rest
decreases-count_rest l = length l.list.now

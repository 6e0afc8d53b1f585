-- Where the entry lies is told.
use Rattle.std.proofs.Common.{ℕ, List, ap}
use Rattle.refusal.specs.Answer.{Answer, value, and_then}
use Rattle.rtm_set.specs.declared.part.Part.{Part}
use Rattle.bunpennant.specs.C.{Told, tell, put_part}
use Rattle.bunpennant.proofs.addresses.rtm_address_entry.Goals as goal

-- what is told, by what was found
abbrev telling : List ℕ → Answer Part → Told (List ℕ)
telling w a = tell w (and_then a (λ p. value (put_part w p.offset p.length)))

pub returns-in-Ok : goal.returns-in-Ok
unfolding put_part
returns-in-Ok c = ap (telling c.args.entry.now) c.in-Ok.ensures

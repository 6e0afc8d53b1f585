-- `list`: a slot with a record is listed, and an empty one is not.
use Rattle.std.proofs.Common.{arith}
use Rattle.switchover.proofs.Listed.{list_empty, list_record}
use Rattle.switchover.proofs.listing.list.Goals as goal
use Rattle.switchover.proofs.listing.list.Goals.{then-holds, else-holds}

pub loop-slot-preserved : goal.loop-slot-preserved
loop-slot-preserved c =
    let t = c.args.slots.now in
    let l = c.loop-slot.listing.0 in
    elim c.if-holds.branch [
      | then-holds w ↦ rw w.listing-is (list_record t l c.loop-slot.listing.1.0 c.loop-slot.slot-index c.loop-slot.invariant (omega arith) w.if-holds.true)
      | else-holds w ↦ rw w.listing-is (list_empty t l c.loop-slot.listing.1.0 c.loop-slot.slot-index c.loop-slot.invariant (omega arith) (omega arith))
    ]

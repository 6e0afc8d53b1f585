-- `lookup` meets its contract: the part that `locate` told of holds the entry.
use Rattle.std.proofs.Common.{◌≡◌, ◌+◌, ◌-◌, sym, arith}
use Rattle.rtm_set.proofs.Parts.{tells, entry_there}
use Rattle.rtm_set.proofs.list.lookup.Goals as goal

pub overflow_add-result : goal.overflow_add-result
overflow_add-result c = omega (arith, (tells c.args.list.now c.args.place c.in_ok-part.part (sym c.in_ok-part.ensures)).fits)

pub slice_bounds-result-end : goal.slice_bounds-result-end
slice_bounds-result-end c = omega (arith, (tells c.args.list.now c.args.place c.in_ok-part.part (sym c.in_ok-part.ensures)).fits)

pub returns : goal.returns
returns c =
    let p = c.in_ok-part.part in
    let h = tells c.args.list.now c.args.place p (sym c.in_ok-part.ensures) in
    let e : p.offset + p.length - p.offset ≡ p.length = omega arith in
    rw (e, h.same) (entry_there c.args.list.now c.args.place p (sym c.in_ok-part.ensures))

-- `slots`: one more slot is there after each turn, and all at the end.
use Rattle.std.proofs.Common.{get_or, ◌∙◌, arith}
use Rattle.words.specs.Words.{decoded}
use Rattle.lent.proofs.Unpacked.{unpack_on, unpack_done}
use Rattle.lent.proofs.contents.slots.Goals as goal

pub loop-i-preserved : goal.loop-i-preserved
loop-i-preserved c =
    let w = c.args.words.now in
    unpack_on w c.loop-i.slots c.loop-i.i c.loop-i.invariant c.decode.result (omega arith)
    (c.decode.ensures ∙ (λ t. decoded (get_or w (c.clock.ensures t) 0) (get_or w (c.packed.ensures t) 0) (get_or w (c.residence.ensures t) 0)))

pub returns : goal.returns
returns c = unpack_done c.args.words.now c.loop-i.slots c.loop-i.i c.loop-i.invariant (omega arith)

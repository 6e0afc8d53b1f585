-- Its fields stand behind one another.
use Rattle.std.proofs.Common.{append_assoc}
use Rattle.line.specs.Line.{decimal}
use Rattle.line.proofs.Flag.{flag}
use Rattle.line.proofs.showing.sub_tlv_words.Goals as goal

pub returns-clause-value : goal.returns-clause-value
returns-clause-value c =
    rw (c.field-3.ensures.value, c.field-2.ensures.value, c.field.ensures.value, flag decimal c.args.sub_tlv.two_step) (simp append_assoc)

-- Its words stand behind one another.
use mir.Val.{SFits}
use mir.ValLaws.{to_z-of_z}
use Rattle.std.proofs.Common.{rules, w64, append_assoc}
use Rattle.line.proofs.showing.header_words.Goals as goal

pub returns-clause-value : goal.returns-clause-value
returns-clause-value c =
    let fits : SFits w64 c.args.header.pad = search rules in
    rw (c.signed.ensures.value, c.word.ensures.value, c.field.ensures.value, to_z-of_z w64 c.args.header.pad fits) (simp append_assoc)

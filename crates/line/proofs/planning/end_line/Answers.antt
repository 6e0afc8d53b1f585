-- Its words stand behind one another.
use mir.Val.{SFits}
use mir.ValLaws.{to_z-of_z}
use Rattle.std.proofs.Common.{ℕ, rules, w64, append_assoc}
use Rattle.line.proofs.Flag.{flag}
use Rattle.line.proofs.planning.end_line.Goals as goal

pub returns : goal.returns
returns c =
    let e = c.args.end in
    let fits : SFits w64 e.sync_pad = search rules in
    rw (c.last.ensures.value, c.follow_up_words.ensures.value, c.word.ensures.value, c.signed.ensures.value, c.of-text.ensures, to_z-of_z w64 e.sync_pad fits, flag (λ (n : ℕ). n) e.two_step)
    (simp append_assoc)

-- `is_sound`: the ranges of the fields' types are those of their octets.
use Rattle.std.proofs.Common.{◌≡◌, ◌^◌, Bool, ◌&&◌, sym, ap, ◌∙◌, arith}
use mathlib.Core.Bool.{and-true}
use borrow.Author.Tests.{lt-ltb}
use lib.Dec.{ltb}
use Rattle.residence.specs.Residence.{limit}
use Rattle.records.specs.Slots.{kind_number}
use Rattle.image.specs.declared.Form.TheVariants.{New}
use Rattle.image.specs.Layout.{widths, fit}
use Rattle.image.specs.Image.{body_of, right_residence, sound}
use Rattle.image.proofs.Serving.{kind_octet}
use Rattle.switchover.proofs.listing.is_sound.Goals as goal

pub returns-then-has_right_wait : goal.returns-then-has_right_wait
unfolding sound
returns-then-has_right_wait c =
    let s = c.args.slot in
    let rest = right_residence s && fit (widths New) (body_of New s) in
    let fits : ltb s.residence limit ≡ rest =
    simp (
      lt-ltb (kind_number s.kind) (256 ^ 1) (kind_octet s.kind),
      lt-ltb s.clock (256 ^ 8) (omega arith),
      lt-ltb s.port (256 ^ 2) (omega arith),
      lt-ltb s.sequence (256 ^ 2) (omega arith),
      lt-ltb s.residence (256 ^ 8) (omega arith),
      lt-ltb s.wait (256 ^ 1) (omega arith),
      and-true (ltb s.residence limit),
    ) in
    fits ∙ ap (λ (b : Bool). b && rest) (sym c.if-has_right_wait.true ∙ c.has_right_wait.ensures)

pub returns-else-has_right_wait : goal.returns-else-has_right_wait
unfolding sound
returns-else-has_right_wait c =
    let s = c.args.slot in
    let rest = right_residence s && fit (widths New) (body_of New s) in
    c.if-has_right_wait.false ∙ ap (λ (b : Bool). b && rest) (sym c.if-has_right_wait.false ∙ c.has_right_wait.ensures)

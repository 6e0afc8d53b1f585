-- `load`: the records that were read are in the slots, and zeros behind them.
use Rattle.std.proofs.Common.{◌≡◌, sym, ap, ◌∙◌, length, arith}
use Rattle.std.specs.Prelude.{replicate}
use Rattle.records.specs.Slots.{zeros}
use Rattle.image.specs.declared.Form.{Form}
use Rattle.image.specs.Image.{load_as, load_by}
use Rattle.switchover.proofs.Loads.{load_read}
use Rattle.switchover.proofs.loader.load.Goals as goal

pub returns-in-Ok : goal.returns-in-Ok
returns-in-Ok c =
    let l = c.in-Ok.listing in
    let s = c.args.image.now in
    let long : length l.slots ≡ 16 = omega arith in
    load_read c.form_of.result s l.count l.slots l.few long l.others (sym c.in-Ok.ensures)
    ∙ ap (λ (F : Form). load_by (replicate 16 zeros) 0 (load_as F s)) c.form_of.ensures

-- `write_records`: refused, or the contents and the bodies.
use Rattle.std.proofs.Common.{sym, ◌∙◌, arith}
use Rattle.switchover.proofs.Writes.{written_whole}
use Rattle.switchover.proofs.writer.write_records.Goals as goal

pub returns : goal.returns
returns c =
    let a = c.args in
    let rs = a.records.now in
    let told = sym c.are_told-told.ensures ∙ c.if-not-told.false in
    sym
    (written_whole a.form rs a.out.now c.requires told c.offset-size.result c.offset-size.ensures.0
    c.put.new.out c.put_bodies.new.out (omega (arith, c.if-not-fits.false)) c.put.ensures c.put_bodies.ensures)

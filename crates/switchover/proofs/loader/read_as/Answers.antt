-- `read_as`: what is refused, and which records the octets hold otherwise.
use Rattle.std.proofs.Common.{◌≡◌, true, take, sym, ap, ◌∙◌, arith}
use Rattle.image.specs.Layout.{is_laid_out}
use Rattle.image.specs.Image.{loadable}
use Rattle.image.proofs.Images.{read_taken}
use Rattle.switchover.proofs.Loads.{unloadable, too_many, read_records, read_others}
use Rattle.switchover.proofs.loader.read_as.Goals as goal

pub returns-then-count-gt16 : goal.returns-then-count-gt16
returns-then-count-gt16 c = sym (too_many c.args.form c.args.image.now (omega arith))

pub invariant_of-listing : goal.invariant_of-listing
invariant_of-listing c = record {
  few = c.if-count-gt16.false;
  others = read_others c.args.form c.args.image.now c.count-count.result c.read_bodies-slots.result c.count-count.ensures c.read_bodies-slots.ensures;
}

pub returns-then-not-are_loadable : goal.returns-then-not-are_loadable
returns-then-not-are_loadable c =
    let F = c.args.form in
    let s = c.args.image.now in
    let same = read_records F s c.count-count.result c.read_bodies-slots.result c.count-count.ensures c.read_bodies-slots.ensures in
    sym (unloadable F s (ap loadable (sym same) ∙ sym (c.are_loadable.ensures ∙ ap loadable c.records.ensures) ∙ c.if-not-are_loadable.true))

pub returns : goal.returns
returns c =
    let F = c.args.form in
    let s = c.args.image.now in
    let n = c.count-count.result in
    let l = c.read_bodies-slots.result in
    let same = read_records F s n l c.count-count.ensures c.read_bodies-slots.ensures in
    let laid : is_laid_out F s ≡ true = sym c.are_laid_out.ensures ∙ c.if-not-are_laid_out.false in
    let right = sym (c.are_loadable.ensures ∙ ap loadable c.records.ensures) ∙ c.if-not-are_loadable.false in
    sym (read_taken F s (take n l) laid (sym same) right)

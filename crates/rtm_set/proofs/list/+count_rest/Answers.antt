-- `count_rest` meets its contract: one more than the rest, behind the front; the octets left fall.
use Rattle.std.proofs.Common.{drop, sym, ap, ◌∙◌, arith, length-drop}
use Rattle.std.proofs.lemmas.Result.{err_from_is_err_and}
use Rattle.octets.proofs.Stores.{rest}
use Rattle.rtm_set.specs.Entries.{count_of}
use Rattle.rtm_set.proofs.Rest.{Front, sized}
use Rattle.rtm_set.proofs.Counts.{more, count_rest, count_few}
use Rattle.rtm_set.proofs.list.+count_rest.Goals as goal

pub overflow_add-result : goal.overflow_add-result
overflow_add-result t c =
    let s = c.args.list.now in
    let n = c.in-Some.size in
    let f : Front s n = sized s n (sym c.in-Some.ensures) in
    let few = count_few (drop n s) c.in_ok-count_rest.field-0 (sym (c.in_ok-count_rest.ensures ∙ ap count_of (rest s n))) in
    omega (arith, f.fits, length-drop n s, c.requires)

pub returns : goal.returns
returns t c =
    let s = c.args.list.now in
    let n = c.in-Some.size in
    let f : Front s n = sized s n (sym c.in-Some.ensures) in
    ap more (c.in_ok-count_rest.ensures ∙ ap count_of (rest s n)) ∙ sym (count_rest s n f c.requires)

pub returns-in_err-count_rest : goal.returns-in_err-count_rest
returns-in_err-count_rest t c =
    let s = c.args.list.now in
    let n = c.in-Some.size in
    let f : Front s n = sized s n (sym c.in-Some.ensures) in
    let p = err_from_is_err_and c.from_residual.result c.from_residual.ensures.1 in
    rw (p.1, p.2) (ap more (c.in_err-count_rest.ensures ∙ ap count_of (rest s n)) ∙ sym (count_rest s n f c.requires))

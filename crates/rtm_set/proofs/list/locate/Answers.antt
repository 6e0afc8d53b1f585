-- `locate` meets its contract: the entry is the front of the list from its place on.
use Rattle.std.proofs.Common.{length, ◌-◌, ◌≤◌, sym, ap, ◌∙◌, arith}
use Rattle.rtm_set.specs.Entries.{behind}
use Rattle.rtm_set.proofs.Rest.{Front, sized}
use Rattle.rtm_set.proofs.Parts.{part_first, behind_front}
use Rattle.rtm_set.proofs.list.locate.Goals as goal

pub returns : goal.returns
returns c =
    let r = c.locate_rest-rest.result.now in
    let n = c.in-Some.length in
    let i = length c.args.list.now - length r in
    let f : Front r n = sized r n (sym c.in-Some.ensures) in
    let short : length r ≤ 1024 = omega (arith, c.locate_rest-rest.ensures.upper_bound) in
    sym (behind_front i n)
    ∙ ap (behind i) (sym (part_first r n f short c.in_ok-count_rest.field-0 (sym c.in_ok-count_rest.ensures)))
    ∙ c.locate_rest-rest.ensures.part_from

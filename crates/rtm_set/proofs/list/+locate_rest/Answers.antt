-- `locate_rest` meets its contract: behind the front, the part at a place is one of the rest; the place falls.
use Rattle.std.proofs.Common.{◌≡◌, ℕ, List, length, drop, ◌+◌, ◌-◌, ◌≤◌, sym, ap, subst, ◌∙◌, arith, length-drop}
use Rattle.octets.proofs.Stores.{rest}
use Rattle.rtm_set.specs.Entries.{part_of, behind}
use Rattle.rtm_set.proofs.Rest.{Front, sized}
use Rattle.rtm_set.proofs.Parts.{part_rest, behind-behind}
use Rattle.rtm_set.proofs.list.+locate_rest.Goals as goal

pub returns-clause-part_from : goal.returns-clause-part_from
returns-clause-part_from t c =
    let s = c.args.list.now in
    let k = c.args.place in
    let n = c.in-Some.size in
    let r = c.locate_rest.result.now in
    let f : Front s n = sized s n (sym c.in-Some.ensures) in
    let short = subst (λ (q : List ℕ). length r ≤ length q) (rest s n) c.locate_rest.ensures.upper_bound in
    let from = subst (λ (q : List ℕ). behind (length q - length r) (part_of r 0) ≡ part_of q (k - 1)) (rest s n) c.locate_rest.ensures.part_from in
    let e : length s - length r ≡ n + (length (drop n s) - length r) = omega (arith, f.fits, short, length-drop n s) in
    ap (λ (i : ℕ). behind i (part_of r 0)) e
    ∙ sym (behind-behind n (length (drop n s) - length r) (part_of r 0))
    ∙ ap (behind n) from
    ∙ sym (part_rest s n f c.requires k (λ z. omega (arith, z, c.if-is_front.false)))

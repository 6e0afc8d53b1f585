-- A hop more leaves the sums as they are, and after the last they are those so far.
use Rattle.std.proofs.Common.{◌≡◌, ◌<◌, ◌+◌, length, [], sym, ap, ◌∙◌, arith}
use Rattle.std.proofs.lemmas.List.{drop_more, drop_all}
use Rattle.std.proofs.Math.ListN.{get_or, drop}
use Rattle.refusal.specs.Answer.{value}
use Rattle.hops.specs.declared.Hop.{Hop}
use Rattle.planner.specs.Sums.{step_of}
use Rattle.planner.proofs.Fold.{no_hop, ending, next_ending, last_ending, grows}
use Rattle.planner.proofs.sums_of.Goals as goal

pub loop-hop-preserved : goal.loop-hop-preserved
loop-hop-preserved c =
    let hs = c.args.hops.now in
    let i = c.loop-hop.hop-index in
    let s = c.loop-hop.sums in
    let t = c.in_ok-sums.sums in
    let inv = c.loop-hop.invariant in
    let l : i < length hs = omega (arith, inv) in
    let h : Hop = get_or hs i no_hop in
    let e : value t ≡ step_of s h = c.in_ok-sums.ensures in
    let g = grows s h t e in (
      sym (next_ending s h (drop (i + 1) hs) t e) ∙ ap (ending s) (sym (drop_more hs i no_hop l)) ∙ inv.0,
      omega (arith, g.0, inv.1),
      omega (arith, g.1, inv.2),
      omega arith,
      inv.4,
    )

pub returns : goal.returns
returns c =
    let hs = c.args.hops.now in
    let inv = c.loop-hop.invariant in
    let none : drop c.loop-hop.hop-index hs ≡ [] = drop_all c.loop-hop.hop-index hs (omega (arith, inv)) in
    sym (last_ending c.loop-hop.sums) ∙ ap (ending c.loop-hop.sums) (sym none) ∙ inv.0

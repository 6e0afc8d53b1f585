-- Each turn puts the line of the first count that is left.
use Rattle.std.proofs.Common.{rules, ◌≡◌, ◌<◌, ◌+◌, ◌∙◌, sym, ap, ◌++◌, ℕ, List, arith, length, drop, get_or, append_assoc, add-one}
use Rattle.std.proofs.lemmas.List.{at_drop_more}
use Rattle.line.specs.Replaying.{refused_line, refused_lines}
use Rattle.line.proofs.replaying.refused_lines.Goals as goal

-- the first line that is left goes to the text
next : (r s t ks : List ℕ) (n : ℕ) → n < length ks → t ≡ s ++ refused_line n (get_or ks n 0) → s ++ refused_lines n (drop n ks) ≡ r → t ++ refused_lines (n + 1) (drop (n + 1) ks) ≡ r
next r s t ks n h p e =
    let rest = refused_lines (n + 1) (drop (n + 1) ks) in
    ap (λ (x : List ℕ). x ++ rest) p
    ∙ append_assoc s (refused_line n (get_or ks n 0)) rest
    ∙ ap (λ (m : ℕ). s ++ (refused_line n (get_or ks n 0) ++ refused_lines m (drop (n + 1) ks))) (add-one n)
    ∙ sym (at_drop_more (λ (l : List ℕ). s ++ refused_lines n l) ks n 0 h)
    ∙ e

pub loop-n-preserved : goal.loop-n-preserved
loop-n-preserved c =
    let long : length c.args.refused ≡ 17 = search rules in
    let inv = c.loop-n.invariant in (
      next _ c.loop-n.text _ c.args.refused c.loop-n.n (omega arith) c.refused_line.ensures.value inv.0,
      omega (arith, c.refused_line.ensures.upper_bound, inv.1),
    )

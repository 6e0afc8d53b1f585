-- `join` meets its contract: of two messages that are a pair, the pads are added that stand in their headers.
use Rattle.std.proofs.Common.{◌≡◌, ℕ, List, true, ℤ, sym, ◌∙◌, rules, w64, FitsSigned}
use Rattle.std.proofs.lemmas.Int.{to_z-of_z}
use Rattle.refusal.specs.Answer.{Answer, value}
use Rattle.message.specs.declared.fields.Message.{Message}
use Rattle.message.specs.Read.{header_in, read_of}
use Rattle.scratch_pad.specs.Sum.{pad_sum}
use Rattle.egress.specs.Join.{is_pair, join_by, join_of}
use Rattle.egress.proofs.join.Goals as goal

joined : (s f : List ℕ) (m k : Message) (a : Answer ℤ) → read_of s ≡ value m → read_of f ≡ value k → is_pair m k ≡ true → a ≡ pad_sum (header_in m).pad (header_in k).pad → a ≡ join_of s f
joined s f m k a es ef pair e = e ∙ sym ((λ i. join_by (es i) (ef i)) ∙ rw pair)

pub returns : goal.returns
returns c =
    let z = c.header.result.pad in
    let y = c.header-2.result.pad in
    let fz : FitsSigned w64 z = search rules in
    let fy : FitsSigned w64 y = search rules in
    joined c.args.sync.now c.args.follow_up.now _ _ _ (sym c.in_ok-sync.ensures) (sym c.in_ok-follow_up.ensures) (sym c.are_pair.ensures ∙ c.if-not-are_pair.false) (simp to_z-of_z at c.add_pads.ensures ∙ (λ i. pad_sum (c.header.ensures i).pad (c.header-2.ensures i).pad))

-- `put`: what leads the image and the count, and then one more offset in each turn.
use Rattle.std.proofs.Common.{◌≡◌, ℕ, ◌+◌, List, [], ◌∷◌, length, refl, ap, ◌∙◌, arith}
use Rattle.octets.specs.Octets.{octets, put}
use Rattle.switchover.proofs.Offsets.{offset}
use Rattle.switchover.proofs.Writing.{writing_start, writing_on, writing_done}
use Rattle.switchover.proofs.Pieces.{offset_octets, offset_octets-length, offset_octets_on, offset_octets_end, contents_written}
use Rattle.switchover.proofs.contents.Contents.put.Goals as goal

pub loop-k-init : goal.loop-k-init
loop-k-init c =
    let a = c.args in
    let o = c.put.new.out in
    let at = c.lead_size-start.result + 1 in
    let places = offset_octets a.self.form a.self.count 0 in
    (omega arith, omega arith, writing_start o places at at refl (omega (arith, offset_octets-length a.self.form a.self.count 0)))

pub loop-k-preserved : goal.loop-k-preserved
loop-k-preserved c =
    let a = c.args in
    let F = a.self.form in
    let n = a.self.count in
    let o = c.put.new.out in
    let at = c.lead_size-start.result + 1 in
    let k = c.loop-k.k in
    let place = octets 2 (offset F n k) in
    let w = rw (offset_octets_on F n k (omega arith)) at c.loop-k.invariant.2 in
    let e = c.octets16-place.ensures ∙ ap (octets 2) c.offset.ensures.0 in (
      omega arith,
      omega arith,
      writing_on (length o) (put o at (offset_octets F n 0)) c.loop-k.out c.loop-k.at
          c.put-in-loop-k.new.out c.octets16-place.result place (offset_octets F n (k + 1)) (c.loop-k.at + 2) w c.put-in-loop-k.ensures e (omega arith),
    )

pub returns : goal.returns
returns c =
    let a = c.args in
    let F = a.self.form in
    let n = a.self.count in
    let o = c.put.new.out in
    let l = c.lead_size-start in
    let k = c.loop-k.k in
    let w = rw (offset_octets_end F n k (omega arith)) at c.loop-k.invariant.2 in
    let octet : ◌≡◌ {A = List ℕ} (n ∷ []) (octets 1 n) = ap (λ (x : ℕ). x ∷ []) (omega (arith, a.self.few)) in
    writing_done (length o) (put o (l.result + 1) (offset_octets F n 0)) c.loop-k.out c.loop-k.at w
    ∙ contents_written F a.out.now c.put_lead.new.out o (n ∷ []) n l.result (l.result + 1)
    (omega arith) c.put_lead.ensures c.put.ensures l.ensures.0 octet (omega arith)

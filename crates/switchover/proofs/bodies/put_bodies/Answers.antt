-- `put_bodies`: one more body is written in each turn, each behind the one before it.
use Rattle.std.proofs.Common.{ℕ, ◌+◌, ◌*◌, length, get_or, refl, sym, ap, ◌∙◌, arith}
use Rattle.octets.specs.Octets.{put}
use Rattle.records.specs.Slots.{zeros}
use Rattle.image.specs.Layout.{field_octets, widths, body_size, first_body, image_size}
use Rattle.image.specs.Image.{body_of}
use Rattle.switchover.proofs.Offsets.{offset, offset_first}
use Rattle.switchover.proofs.Writing.{put_fitting, writing_start, writing_on, writing_done}
use Rattle.switchover.proofs.Pieces.{next_body, bodies_from, bodies_length, bodies_on, bodies_end}
use Rattle.switchover.proofs.bodies.put_bodies.Goals as goal

pub loop-k-init : goal.loop-k-init
loop-k-init c =
    let a = c.args in
    let F = a.contents.form in
    let rs = a.records.now in
    let n = a.contents.count in
    let long = bodies_length F rs ∙ ap (λ (m : ℕ). m * body_size F) (sym c.requires.0) in
    (omega arith, writing_start a.out.now (bodies_from F rs 0) (first_body F n) (offset F n 0) (offset_first F n) (omega arith))

pub loop-k-preserved : goal.loop-k-preserved
loop-k-preserved c =
    let a = c.args in
    let F = a.contents.form in
    let rs = a.records.now in
    let n = a.contents.count in
    let o = a.out.now in
    let l = c.loop-k.out in
    let k = c.loop-k.k in
    let body = field_octets (widths F) (body_of F (get_or rs k zeros)) in
    let w = rw (bodies_on F rs k (omega arith)) at c.loop-k.invariant.1 in
    let e = c.put_body.ensures ∙ ap (λ (x : ℕ). put l x body) c.offset.ensures.0 in (
      omega arith,
      writing_on (length o) (put o (first_body F n) (bodies_from F rs 0)) l (offset F n k)
          c.put_body.new.out body body (bodies_from F rs (k + 1)) (offset F n (k + 1)) w e refl (next_body F n k (get_or rs k zeros)),
    )

pub returns : goal.returns
returns c =
    let a = c.args in
    let F = a.contents.form in
    let rs = a.records.now in
    let n = a.contents.count in
    let o = a.out.now in
    let k = c.loop-k.k in
    let all = bodies_from F rs 0 in
    let long = bodies_length F rs ∙ ap (λ (m : ℕ). m * body_size F) (sym c.requires.0) in
    let w = rw (bodies_end F rs k (omega arith)) at c.loop-k.invariant.1 in
    writing_done (length o) (put o (first_body F n) all) c.loop-k.out (offset F n k) w
    ∙ put_fitting o all (first_body F n) (image_size F n) (omega arith) (omega arith)

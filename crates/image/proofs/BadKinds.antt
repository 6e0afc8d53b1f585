-- A body of any other kind than 0 and 1 holds no record, so that its image is refused like one with a wait of 0.
-- Assumes nothing.
use Prim.Native.Nat.{ℕ, zero, suc, ◌<◌}
use mathlib.Core.Path.{◌≡◌, refl, sym, ap, ◌∙◌}
use mathlib.Core.Bool.{Bool, false, ◌&&◌, false≢true, and-false}
use mathlib.Core.List.{List, [], ◌∷◌, map}
use mathlib.Core.Option.{some}
use native.Mathlib.Omega.{arith}
use lib.ListN.{get_or, get_elem?, drop}
use Rattle.refusal.specs.Answer.{Answer, value, and_then}
use Rattle.records.specs.Slots.{Slots}
use Rattle.image.specs.declared.Form.{Form}
use Rattle.image.specs.declared.Form.TheVariants.{New}
use Rattle.image.specs.Layout.{bodies_in}
use Rattle.image.specs.Image.{of_kind, record_of, sound, every, loadable, image_in, records_at, filled, load_as}
use Rattle.image.specs.Return.{BadKind}
use Rattle.image.proofs.Loadable.{loadable_parts}
use Rattle.image.proofs.Images.{read_sound, read_refused}

unsound : (k : ℕ) (b : List ℕ) → 1 < k → sound (of_kind k b) ≡ false
unfolding sound
unsound zero b h = absurd (omega arith)
unsound (suc zero) b h = absurd (omega arith)
unsound (suc (suc k)) b h = refl

one_unsound :
    (bs : List (List ℕ)) (i : ℕ) (b : List ℕ)
    → get_elem? bs i ≡ some b
    → 1 < get_or b 0 0
    → every sound (map (record_of New) bs) ≡ false
one_unsound [] i b e h =
    let z : ◌≡◌ {A = ℕ} 0 1 = cc in
    absurd (omega arith)
one_unsound (c ∷ bs) zero b e h =
    let same : c ≡ b = cc in
    ap (λ (x : List ℕ). sound (record_of New x) && every sound (map (record_of New) bs)) same
    ∙ ap (λ (y : Bool). y && every sound (map (record_of New) bs)) (unsound (get_or b 0 0) (drop 1 b) h)
one_unsound (c ∷ bs) (suc i) b e h =
    ap (λ (y : Bool). sound (record_of New c) && y) (one_unsound bs i b e h) ∙ and-false (sound (record_of New c))

pub bad_kind : BadKind
bad_kind s i b f e h =
    let us = records_at New s in
    let r = read_refused New s (λ rs g.
    let k = read_sound New s rs g in
    false≢true (sym (one_unsound (bodies_in New s) i b e h) ∙ (loadable_parts us (ap loadable k.1 ∙ k.2)).1)) in (
      ap (λ (F : Form). load_as F s) f ∙ ap (λ (a : Answer Slots). and_then a (λ rs. value (filled rs))) r,
      λ G. ap (λ (a : Answer Slots). and_then a (image_in G)) r,
    )

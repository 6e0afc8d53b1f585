-- What comes back: what is written loads, as the records written, and a switchover keeps them.
-- Assumes nothing.
use Prim.Native.Nat.{ℕ, ◌≤◌}
use mathlib.Core.Path.{◌≡◌, refl, sym, ap, ◌∙◌}
use mathlib.Core.Bool.{Bool, true, false}
use mathlib.Core.List.{List, ◌++◌}
use borrow.Author.Tests.{le-ltb}
use lib.Dec.{ltb}
use lib.ListN.{length, take, drop}
use lib.Seq.{take-append_seam}
use Rattle.refusal.specs.Answer.{Answer, value, refused, refuse, and_then}
use Rattle.refusal.proofs.Answers.{not_both, same_value}
use Rattle.records.specs.Slots.{Slots, records_of}
use Rattle.records.specs.Node.{slots_taken_over}
use Rattle.image.specs.declared.Form.TheVariants.{New}
use Rattle.image.specs.Image.{loadable, octets_in, image_of, to_output, write_by, write_of, filled, load_of, handed_over, switched}
use Rattle.image.specs.Return.{WrittenLoads, AsSwitched}
use Rattle.image.proofs.Loadable.{records_filled}
use Rattle.image.proofs.Images.{image_taken, image_refused, image_sound, image_loads}

-- ---- what a write leaves

-- an image for which there is room is written
pub output_taken :
    (out s : List ℕ) (a : Answer (List ℕ))
    → a ≡ value s
    → length s ≤ length out
    → to_output out a ≡ record { answer = value (length s); output = s ++ drop (length s) out }
output_taken out s a e h = ap (to_output out) e ∙ ap (λ (b : Bool). write_by out (refuse 12 b (value s))) (le-ltb (length out) (length s) h)

-- a write that tells n leaves its image in the first n octets
pub writes :
    (out : List ℕ) (n : ℕ) (a : Answer (List ℕ)) → (to_output out a).answer ≡ value n → a ≡ value (take n (to_output out a).output)
writes out n (refused m) e = absurd (not_both e)
writes out n (value s) e = go (ltb (length out) (length s)) e
  where
    go :
        (b : Bool)
        → (write_by out (refuse 12 b (value s))).answer ≡ value n
        → value s ≡ value (take n (write_by out (refuse 12 b (value s))).output)
    go true q = absurd (not_both q)
    go false q =
        ap value (sym (take-append_seam s (drop (length s) out)) ∙ ap (λ (k : ℕ). take k (s ++ drop (length s) out)) (same_value q))

-- ---- a table written and loaded

pub handed_over_lem : (t : Slots) → loadable (records_of t) ≡ true → handed_over t ≡ value (filled (records_of t))
handed_over_lem t h =
    let rs = records_of t in
    let w = image_taken New rs h refl in
    ap (λ (a : Answer (List ℕ)). and_then a load_of) w ∙ image_loads New rs (octets_in New rs) w

pub written_loads : WrittenLoads
written_loads t out n e = (image_loads New (records_of t) (take n (write_of t out).output) (writes out n (image_of t) e), records_filled t)

pub switched_loaded : (t : Slots) → loadable (records_of t) ≡ true → switched t ≡ filled (records_of t)
switched_loaded t h = ap (slots_taken_over t) (handed_over_lem t h)

pub as_switched : AsSwitched
as_switched t out n e =
    let k = image_sound New (records_of t) (take n (write_of t out).output) (writes out n (image_of t) e) in
    let h = handed_over_lem t k.0 in
    ((written_loads t out n e).0 ∙ sym h, h ∙ ap value (sym (switched_loaded t k.0)))

pub handed_refused : (t : Slots) → loadable (records_of t) ≡ false → handed_over t ≡ refused 22
handed_refused t h = ap (λ (a : Answer (List ℕ)). and_then a load_of) (image_refused New (records_of t) h)

pub switched_refused : (t : Slots) → loadable (records_of t) ≡ false → switched t ≡ t
switched_refused t h = ap (slots_taken_over t) (handed_refused t h)

pub switched_keeps : (t : Slots) → records_of (switched t) ≡ records_of t
switched_keeps t = go (loadable (records_of t)) refl
  where
    go : (b : Bool) → loadable (records_of t) ≡ b → records_of (switched t) ≡ records_of t
    go true h = ap records_of (switched_loaded t h) ∙ records_filled t
    go false h = ap records_of (switched_refused t h)

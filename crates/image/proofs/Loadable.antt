-- The records of a table and which of them an image can hold: what `loadable` says of them, and that they fill a table as its records.
-- Assumes nothing.
use Prim.Native.Nat.{ℕ, zero, suc, ◌-◌, ◌<◌, ◌≤◌, ◌^◌}
use mathlib.Core.Path.{◌≡◌, refl, ap}
use mathlib.Core.Bool.{Bool, true, false, not, cond, ◌&&◌, and-eq-true_iff}
use mathlib.Core.List.{[], ◌∷◌, ◌++◌, map}
use native.Mathlib.Omega.{arith}
use borrow.Author.Tests.{leb-true, ltb-true, ne_eqb, not-true}
use lib.Dec.{leb, ltb}
use lib.ListN.{length, get_or, replicate}
use Rattle.residence.specs.Residence.{limit}
use Rattle.records.specs.declared.Record.{Record}
use Rattle.records.specs.Slots.{Slots, empty, zeros, records_of}
use Rattle.image.specs.declared.Form.{Form}
use Rattle.image.specs.declared.Form.TheVariants.{Old, New}
use Rattle.image.specs.Layout.{widths, fit, image_size}
use Rattle.image.specs.Image.{body_of, right_wait, right_residence, sound, every, distinct, loadable, filled}
use Rattle.image.proofs.Layouts.{all_fit}

-- ---- the records of a table

-- no slot of the list is empty
abbrev full : Slots → Bool
full rs = every (λ r. not (empty r)) rs

records_zeros : (n : ℕ) → records_of (replicate n zeros) ≡ []
records_zeros zero = refl
records_zeros (suc n) = records_zeros n

-- records with zeros behind them are the records of that table
records_before : (rs : Slots) (n : ℕ) → full rs ≡ true → records_of (rs ++ replicate n zeros) ≡ rs
records_before [] n h = records_zeros n
records_before (r ∷ rs) n h =
    let k = (and-eq-true_iff (not (empty r)) (full rs)).0 h in
    rw (not-true (empty r) k.0) (ap (λ (l : Slots). r ∷ l) (records_before rs n k.1))

full-filled : (rs : Slots) → full rs ≡ true → records_of (filled rs) ≡ rs
full-filled rs h = records_before rs (16 - length rs) h

records_full : (t : Slots) → full (records_of t) ≡ true
records_full [] = refl
records_full (s ∷ t) = go (empty s) refl (records_full t)
  where
    go : (b : Bool) → empty s ≡ b → full (records_of t) ≡ true → full (cond b (records_of t) (s ∷ records_of t)) ≡ true
    go true e h = h
    go false e h = rw e h

pub records_filled : (t : Slots) → records_of (filled (records_of t)) ≡ records_of t
records_filled t = full-filled (records_of t) (records_full t)

-- ---- records that can be loaded

pub loadable_parts : (rs : Slots) → loadable rs ≡ true → (length rs ≤ 16) × (every sound rs ≡ true) × (distinct rs ≡ true)
loadable_parts rs h =
    let k = (and-eq-true_iff (leb (length rs) 16) (every sound rs && distinct rs)).0 h in
    let l = (and-eq-true_iff (every sound rs) (distinct rs)).0 k.1 in
    (leb-true (length rs) 16 k.0, l.0, l.1)

-- a record of an image, by its numbers
record Held (r : Record) : Type 0 where
  waits : 1 ≤ r.wait
  not_long : r.wait ≤ 3
  short : r.residence < limit
  fits : fit (widths New) (body_of New r) ≡ true

sound-Held : (r : Record) → sound r ≡ true → Held r
unfolding sound
sound-Held r h =
    let f = fit (widths New) (body_of New r) in
    let k = (and-eq-true_iff (right_wait r) (right_residence r && f)).0 h in
    let w = (and-eq-true_iff (leb 1 r.wait) (leb r.wait 3)).0 k.0 in
    let l = (and-eq-true_iff (right_residence r) f).0 k.1 in
    record {
      waits = leb-true 1 r.wait w.0;
      not_long = leb-true r.wait 3 w.1;
      short = below l.0 (omega arith);
      fits = l.1;
    }
  where
    below : {x y : ℕ} → ltb x y ≡ true → y ≤ limit → x < limit
    below {x} {y} e h = omega (arith, ltb-true x y e)

-- a sound record fits a body of either form
sound_body : (F : Form) (r : Record) → sound r ≡ true → fit (widths F) (body_of F r) ≡ true
sound_body Old r h =
    ((and-eq-true_iff (ltb (get_or (body_of New r) 0 0) (256 ^ 1)) (fit (widths Old) (body_of Old r))).0 (sound-Held r h).fits).1
sound_body New r h = (sound-Held r h).fits

sound-full : (rs : Slots) → every sound rs ≡ true → full rs ≡ true
sound-full [] h = refl
sound-full (r ∷ rs) h =
    let k = (and-eq-true_iff (sound r) (every sound rs)).0 h in
    let w = (sound-Held r k.0).waits in
    (and-eq-true_iff (not (empty r)) (full rs)).1 (rw (ne_eqb r.wait 0 (λ e. omega arith)), sound-full rs k.1)

pub loadable-filled : (rs : Slots) → loadable rs ≡ true → records_of (filled rs) ≡ rs
loadable-filled rs h = full-filled rs (sound-full rs (loadable_parts rs h).1)

pub sound_fit : (F : Form) (rs : Slots) → every sound rs ≡ true → all_fit (widths F) (map (body_of F) rs) ≡ true
sound_fit F [] h = refl
sound_fit F (r ∷ rs) h =
    let k = (and-eq-true_iff (sound r) (every sound rs)).0 h in
    (and-eq-true_iff (fit (widths F) (body_of F r)) (all_fit (widths F) (map (body_of F) rs))).1 (sound_body F r k.0, sound_fit F rs k.1)

-- an image of up to 16 records has few octets
pub small : (F : Form) (n : ℕ) → n ≤ 16 → image_size F n ≤ 386
small Old n h = omega arith
small New n h = omega arith

-- What a switchover brings to a table in words has fields in range: its records are those of the words, and zeros.
-- Assumes nothing.
use Prim.Native.Nat.{ℕ, zero, suc, ◌-◌}
use mathlib.Core.Path.{◌≡◌, refl, sym, ap, subst, ◌∙◌}
use mathlib.Core.Bool.{Bool, true, false, cond}
use mathlib.Core.List.{List, [], ◌∷◌, ◌++◌}
use native.Mathlib.Omega.{arith}
use lib.ListN.{length, get_or, replicate}
use Rattle.records.specs.Slots.{Slots, empty, zeros, records_of}
use Rattle.image.specs.Image.{loadable, filled, handed_over}
use Rattle.image.proofs.Returns.{handed_over_lem, handed_refused, switched_loaded}
use Rattle.image.proofs.Serving.{switched_slots}
use Rattle.words.specs.Words.{decoded, slot_at, slots_from, slots_of}
use Rattle.words.specs.Meaning.{RecordFits, LoadFits}
use Rattle.words.proofs.Places.{sixteen}

abbrev AllFit : Slots → Type 0
AllFit [] = Unit {0}
AllFit (s ∷ t) = RecordFits s × AllFit t

-- every slot that words mean is in range, whatever stands in them
slot_fits : (w : List ℕ) (k : ℕ) → RecordFits (slot_at w k)
unfolding decoded
slot_fits w k = ((omega arith, omega arith), omega arith)

from_fit : (w : List ℕ) (k n : ℕ) → AllFit (slots_from w k n)
from_fit w k zero = tt
from_fit w k (suc n) = (slot_fits w k, from_fit w (suc k) n)

slots_fit : (w : List ℕ) → AllFit (slots_of w)
unfolding slots_of
slots_fit w = from_fit w 0 16

-- and so are the records among them, and the table that they fill
records_fit : (t : Slots) → AllFit t → AllFit (records_of t)
records_fit [] f = f
records_fit (s ∷ t) f = go (empty s) (records_fit t f.1)
  where
    go : (b : Bool) → AllFit (records_of t) → AllFit (cond b (records_of t) (s ∷ records_of t))
    go true r = r
    go false r = (f.0, r)

zeros_fit : RecordFits zeros
zeros_fit = ((omega arith, omega arith), omega arith)

empty_fit : (n : ℕ) → AllFit (replicate n zeros)
empty_fit zero = tt
empty_fit (suc n) = (zeros_fit, empty_fit n)

joined_fit : (t u : Slots) → AllFit t → AllFit u → AllFit (t ++ u)
joined_fit [] u f g = g
joined_fit (s ∷ t) u f g = (f.0, joined_fit t u f.1 g)

each_fits : (t : Slots) → AllFit t → (k : ℕ) → RecordFits (get_or t k zeros)
each_fits [] f k = zeros_fit
each_fits (s ∷ t) f zero = f.0
each_fits (s ∷ t) f (suc k) = each_fits t f.1 k

-- a table that can be written is loaded as its records; one that cannot brings nothing
brings : (t : Slots) → length t ≡ 16 → AllFit t → LoadFits (handed_over t)
brings t l f = go (loadable (records_of t)) refl
  where
    go : (b : Bool) → loadable (records_of t) ≡ b → LoadFits (handed_over t)
    go true h =
        let rs = records_of t in
        let n : length (filled rs) ≡ 16 = sym (ap length (switched_loaded t h)) ∙ switched_slots t l in
        let r : AllFit (filled rs) = joined_fit rs (replicate (16 - length rs) zeros) (records_fit t f) (empty_fit (16 - length rs)) in
        subst LoadFits (sym (handed_over_lem t h)) (n, λ k g. each_fits (filled rs) r k)
    go false h = subst LoadFits (sym (handed_refused t h)) tt

pub handover_fits : (w : List ℕ) → LoadFits (handed_over (slots_of w))
handover_fits w = brings (slots_of w) (sixteen w) (slots_fit w)

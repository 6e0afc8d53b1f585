-- Words read into records, slot by slot.
-- Assumes nothing.
use Prim.Native.Nat.{ℕ, suc, ◌+◌, ◌<◌, ◌≤◌}
use mathlib.Core.Path.{◌≡◌, sym, ◌∙◌}
use mathlib.Core.List.{List, [], ◌∷◌, ◌++◌, append_assoc, append-nil}
use native.Mathlib.Numerals.{add-one}
use native.Mathlib.Omega.{arith}
use lib.ListN.{length, set, take, drop, length-set, drop_of_length-le}
use lib.Seq.{drop-cons, take-suc-set, take_all}
use Rattle.records.specs.declared.Record.{Record}
use Rattle.records.specs.Slots.{Slots, zeros}
use Rattle.words.specs.Words.{slot_at, slots_of}
use Rattle.words.proofs.Places.{sixteen, slot_at_lem}

-- the first i are there
abbrev pub Unpacked : List ℕ → Slots → ℕ → Type 0
Unpacked w l i = (i ≤ 16) × (length l ≡ 16) × (take i l ++ drop i (slots_of w) ≡ slots_of w)

module _ (w : List ℕ) (l : Slots) (i : ℕ) (s : Unpacked w l i) where
  pub unpack_on : (a : Record) → i < 16 → a ≡ slot_at w i → Unpacked w (set l i a) (i + 1)
  unpack_on a h e = (
    omega arith,
    simp length-set s.1,
    rw (add-one, take-suc-set l i a (omega arith), append_assoc (take i l) (a ∷ []) (drop (suc i) (slots_of w)), e ∙ sym (slot_at_lem w i h))
        (rw (drop-cons (slots_of w) i zeros (omega (arith, sixteen w))) at s.2),
  )

  pub unpack_done : 16 ≤ i → l ≡ slots_of w
  unpack_done h =
      let d : drop i (slots_of w) ≡ [] = drop_of_length-le (slots_of w) {i = i} (omega (arith, sixteen w)) in
      sym (append-nil l) ∙ (rw (d, take_all i l (omega arith)) at s.2)

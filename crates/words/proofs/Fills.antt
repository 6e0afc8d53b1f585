-- Records put into the words are the slots that they mean.
-- Assumes nothing.
use Prim.Native.Nat.{ℕ, zero, suc, ◌+◌, ◌<◌, ◌≤◌}
use mathlib.Core.Path.{◌≡◌, refl, sym, ap, ◌∙◌}
use mathlib.Core.Bool.{Bool, true, false}
use mathlib.Core.List.{List}
use native.Mathlib.Numerals.{add-one}
use native.Mathlib.Omega.{arith}
use borrow.Author.Tests.{eqb-true, eqb-false}
use lib.Dec.{eqb}
use lib.ListN.{length, get_or}
use lib.Seq.{ext_get_or}
use Rattle.records.specs.declared.Record.{Record}
use Rattle.refusal.specs.Answer.{value, refused}
use Rattle.records.specs.Slots.{Slots, records_in, zeros}
use Rattle.records.proofs.Numbers.{records_few}
use Rattle.words.specs.Words.{packed_of, slot_at, slots_of, put_record, filled_to, filled_words}
use Rattle.words.specs.Answers.{left, filled_on}
use Rattle.words.specs.Meaning.{RecordFits, TableFits, LoadMeans}
use Rattle.words.proofs.Fields.{decoded_packed}
use Rattle.words.proofs.Places.{sixteen, slot_at_lem, put_same, put_other, length-put, number_slots, number_same}

pub length_filled : (n : ℕ) (t : Slots) (w : List ℕ) → length (filled_to n t w) ≡ length w
length_filled zero t w = refl
length_filled (suc n) t w =
    let s = get_or t n zeros in
    length-put (filled_to n t w) n s.clock (packed_of s) s.residence ∙ length_filled n t w

record_at : (w : List ℕ) (k : ℕ) (s : Record) → k < 16 → length w ≡ 64 → RecordFits s → slot_at (put_record w k s) k ≡ s
record_at w k s h l r = put_same w k s.clock (packed_of s) s.residence h l ∙ decoded_packed s r

filled_slot :
    (n : ℕ) (t : Slots) (w : List ℕ) (i : ℕ) → length w ≡ 64 → n ≤ 16 → ((j : ℕ) → j < n → RecordFits (get_or t j zeros)) → i < n
    → slot_at (filled_to n t w) i ≡ get_or t i zeros
filled_slot zero t w i l m r h = absurd (omega arith)
filled_slot (suc n) t w i l m r h = go _ refl (λ k. filled_slot n t w i l (omega arith) (λ j x. r j (omega arith)) k)
  where
    go : (b : Bool) → eqb i n ≡ b → (i < n → slot_at (filled_to n t w) i ≡ get_or t i zeros) → slot_at (filled_to (suc n) t w) i ≡ get_or t i zeros
    go true e f =
        let q : i ≡ n = eqb-true i n e in
        ap (slot_at (filled_to (suc n) t w)) q
        ∙ record_at (filled_to n t w) n (get_or t n zeros) (omega arith) (length_filled n t w ∙ l) (r n (omega arith))
        ∙ ap (λ (j : ℕ). get_or t j zeros) (sym q)
    go false e f =
        let s = get_or t n zeros in
        let o : i ≡ n → ⊥ = eqb-false i n e in
        put_other (filled_to n t w) n s.clock (packed_of s) s.residence i o ∙ f (omega arith)

filled_slots :
    (t : Slots) (w : List ℕ) → length w ≡ 64 → length t ≡ 16 → ((j : ℕ) → j < 16 → RecordFits (get_or t j zeros)) → slots_of (filled_to 16 t w) ≡ t
filled_slots t w l m r =
    ext_get_or zeros (slots_of (filled_to 16 t w)) t (sixteen (filled_to 16 t w) ∙ sym m)
    (λ i h. let g : i < 16 = omega (arith, sixteen (filled_to 16 t w)) in slot_at_lem (filled_to 16 t w) i g ∙ filled_slot 16 t w i l (omega arith) r g)

pub filled_means : (t : Slots) (n : ℕ) (w : List ℕ) → length w ≡ 64 → TableFits t → n < 256 → left (value 0) (filled_words t n w) ≡ filled_on t n w
filled_means t n w l (m, r) h =
    let s = number_slots (filled_to 16 t w) n ∙ filled_slots t w l m r in
    let x = number_same (filled_to 16 t w) n h (length_filled 16 t w ∙ l) in
    λ i. record { outcome = record { answer = value 0; slots = s i; number = x i }; words = filled_words t n w }

pub load_means : LoadMeans
load_means (value t) w l (m, r) = (
  number_slots (filled_to 16 t w) _ ∙ filled_slots t w l m r,
  number_same (filled_to 16 t w) (records_in t) (omega (arith, records_few t, m)) (length_filled 16 t w ∙ l),
)
load_means (refused n) w l f = (refl, refl)

-- the loop: the first i records are there
abbrev pub Filled : List ℕ → List ℕ → Slots → ℕ → Type 0
Filled w₀ w t i = (i ≤ 16) × (w ≡ filled_to i t w₀) × ((j : ℕ) → j < i → RecordFits (get_or t j zeros))

module _ (w₀ w : List ℕ) (t : Slots) (i : ℕ) (s : Filled w₀ w t i) where
  pub fill_on : (v : List ℕ) → i < 16 → v ≡ put_record w i (get_or t i zeros) → RecordFits (get_or t i zeros) → Filled w₀ v t (i + 1)
  fill_on v h e r = (omega arith, rw add-one (e ∙ ap (λ (x : List ℕ). put_record x i (get_or t i zeros)) s.1), λ j k. go j _ refl k)
    where
      go : (j : ℕ) (b : Bool) → eqb j i ≡ b → j < i + 1 → RecordFits (get_or t j zeros)
      go j true e k = rw (eqb-true j i e) r
      go j false e k = let o : j ≡ i → ⊥ = eqb-false j i e in s.2 j (omega arith)

  pub fill_done : 16 ≤ i → (w ≡ filled_to 16 t w₀) × ((j : ℕ) → j < 16 → RecordFits (get_or t j zeros))
  fill_done h =
      let e : i ≡ 16 = omega arith in
      (s.1 ∙ ap (λ (j : ℕ). filled_to j t w₀) e, λ j k. s.2 j (omega arith))

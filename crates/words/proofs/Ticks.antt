-- A tick over the words: each slot ages in turn, and no other word changes.
-- Assumes nothing.
use Prim.Native.Nat.{ℕ, zero, suc, ◌+◌, ◌*◌, ◌-◌, ◌%◌, ◌<◌, ◌≤◌}
use mathlib.Core.Path.{◌≡◌, refl, sym, ap, ◌∙◌}
use mathlib.Core.Bool.{Bool, true, false, cond}
use mathlib.Core.List.{List, [], ◌∷◌}
use native.Mathlib.Numerals.{add-one}
use native.Mathlib.Omega.{arith}
use borrow.Author.Tests.{eqb-true, eqb-false}
use lib.Dec.{eqb}
use lib.ListN.{length, get_or, drop, length-set, drop_of_length-le}
use lib.Seq.{get_or-set_same, get_or-set_other, drop-cons}
use Rattle.records.specs.declared.Record.{Record}
use Rattle.records.specs.Slots.{zeros, aged, aged_by, ticked, emptied}
use Rattle.words.specs.Words.{decoded, slot_at, slots_from, slots_of, aged_words, age_slot, aged_to}
use Rattle.words.proofs.Fields.{decoded-zeros, decoded_older}
use Rattle.words.proofs.Places.{sixteen, slot_at_lem, three, put_kept, put_same, length-put}

-- the words of the other slots and of the head stay
bits_kept : (b : ℕ) (w : List ℕ) (k j : ℕ) → (j ≡ k * 3 + 16 → ⊥) → (j ≡ k * 3 + 17 → ⊥) → (j ≡ k * 3 + 18 → ⊥) → get_or (aged_words b w k) j 0 ≡ get_or w j 0
bits_kept zero w k j p q r = refl
bits_kept (suc zero) w k j p q r = put_kept w k _ _ _ j p q r
bits_kept (suc (suc n)) w k j p q r = get_or-set_other w (k * 3 + 17) j _ 0 q

pub age_kept : (w : List ℕ) (k j : ℕ) → (j ≡ k * 3 + 16 → ⊥) → (j ≡ k * 3 + 17 → ⊥) → (j ≡ k * 3 + 18 → ⊥) → get_or (age_slot w k) j 0 ≡ get_or w j 0
age_kept w k j p q r = bits_kept (get_or w (k * 3 + 17) 0 % 256) w k j p q r

pub aged_later : (n : ℕ) (w : List ℕ) (j : ℕ) → n * 3 + 16 ≤ j → get_or (aged_to n w) j 0 ≡ get_or w j 0
aged_later zero w j h = refl
aged_later (suc n) w j h =
    age_kept (aged_to n w) n j (λ e. omega arith) (λ e. omega arith) (λ e. omega arith) ∙ aged_later n w j (omega arith)

pub aged_head : (n : ℕ) (w : List ℕ) (j : ℕ) → j < 16 → get_or (aged_to n w) j 0 ≡ get_or w j 0
aged_head zero w j h = refl
aged_head (suc n) w j h =
    age_kept (aged_to n w) n j (λ e. omega arith) (λ e. omega arith) (λ e. omega arith) ∙ aged_head n w j h

length_bits : (b : ℕ) (w : List ℕ) (k : ℕ) → length (aged_words b w k) ≡ length w
length_bits zero w k = refl
length_bits (suc zero) w k = length-put w k _ _ _
length_bits (suc (suc n)) w k = simp length-set

pub length_aged : (n : ℕ) (w : List ℕ) → length (aged_to n w) ≡ length w
length_aged zero w = refl
length_aged (suc n) w = length_bits (get_or (aged_to n w) (n * 3 + 17) 0 % 256) (aged_to n w) n ∙ length_aged n w

-- the slot that ages
aged_slot : (v : List ℕ) (k : ℕ) → k < 16 → length v ≡ 64 → slot_at (age_slot v k) k ≡ aged (slot_at v k)
unfolding decoded
aged_slot v k h l = go _ refl
  where
    go : (n : ℕ) → get_or v (k * 3 + 17) 0 % 256 ≡ n → slot_at (aged_words n v k) k ≡ aged (slot_at v k)
    go zero e = sym (ap (λ (m : ℕ). aged_by m (slot_at v k)) e)
    go (suc zero) e =
        put_same v k 0 0 0 h l ∙ decoded-zeros ∙ sym (ap (λ (m : ℕ). aged_by m (slot_at v k)) e)
    go (suc (suc n)) e =
        let b = get_or v (k * 3 + 17) 0 in
        let x = get_or-set_other v (k * 3 + 17) (k * 3 + 16) (b - 1) 0 (λ f. omega arith) in
        let y = get_or-set_same v (k * 3 + 17) (b - 1) 0 (omega arith) in
        let z = get_or-set_other v (k * 3 + 17) (k * 3 + 18) (b - 1) 0 (λ f. omega arith) in
        (λ i. decoded (x i) (y i) (z i)) ∙ decoded_older (get_or v (k * 3 + 16) 0) b (get_or v (k * 3 + 18) 0) n e

later_slot : (n : ℕ) (w : List ℕ) (i : ℕ) → n ≤ i → slot_at (aged_to n w) i ≡ slot_at w i
later_slot n w i h =
    three (aged_to n w) w i (aged_later n w (i * 3 + 16) (omega arith)) (aged_later n w (i * 3 + 17) (omega arith)) (aged_later n w (i * 3 + 18) (omega arith))

pub earlier_slot : (n : ℕ) (w : List ℕ) (i : ℕ) → length w ≡ 64 → n ≤ 16 → i < n → slot_at (aged_to n w) i ≡ aged (slot_at w i)
earlier_slot zero w i l m h = absurd (omega arith)
earlier_slot (suc n) w i l m h = go _ refl (λ k. earlier_slot n w i l (omega arith) k)
  where
    go : (b : Bool) → eqb i n ≡ b → (i < n → slot_at (aged_to n w) i ≡ aged (slot_at w i)) → slot_at (aged_to (suc n) w) i ≡ aged (slot_at w i)
    go true e f =
        let q : i ≡ n = eqb-true i n e in
        let p = aged_slot (aged_to n w) n (omega arith) (length_aged n w ∙ l) ∙ ap aged (later_slot n w n (omega arith)) in
        ap (slot_at (aged_to (suc n) w)) q ∙ p ∙ ap (λ (j : ℕ). aged (slot_at w j)) (sym q)
    go false e f =
        let o : i ≡ n → ⊥ = eqb-false i n e in
        three (aged_to (suc n) w) (aged_to n w) i
        (age_kept (aged_to n w) n (i * 3 + 16) (λ x. o (omega arith)) (λ x. o (omega arith)) (λ x. o (omega arith)))
        (age_kept (aged_to n w) n (i * 3 + 17) (λ x. o (omega arith)) (λ x. o (omega arith)) (λ x. o (omega arith)))
        (age_kept (aged_to n w) n (i * 3 + 18) (λ x. o (omega arith)) (λ x. o (omega arith)) (λ x. o (omega arith)))
        ∙ f (omega arith)

aged_from : (v w : List ℕ) (j n : ℕ) → ((i : ℕ) → j ≤ i → i < j + n → slot_at v i ≡ aged (slot_at w i)) → slots_from v j n ≡ ticked (slots_from w j n)
aged_from v w j zero f = refl
aged_from v w j (suc n) f = λ t. f j (omega arith) (omega arith) t ∷ aged_from v w (suc j) n (λ i a b. f i (omega arith) (omega arith)) t

pub ticked_slots : (w : List ℕ) → length w ≡ 64 → slots_of (aged_to 16 w) ≡ ticked (slots_of w)
unfolding slots_of
ticked_slots w l = aged_from (aged_to 16 w) w 0 16 (λ i a b. earlier_slot 16 w i l (omega arith) (omega arith))

-- the loop: n of the slots below place i were emptied
abbrev pub Swept : List ℕ → List ℕ → ℕ → ℕ → Type 0
Swept w₀ w n i = (i ≤ 16) × (n ≤ i) × (w ≡ aged_to i w₀) × (n + emptied (drop i (slots_of w₀)) ≡ emptied (slots_of w₀))

one_more : (b : Bool) (r n k : ℕ) → r ≡ cond b 1 0 → (n + r) + k ≡ n + cond b (suc k) k
one_more true r n k e = omega arith
one_more false r n k e = omega arith

pub wait_of : (w : List ℕ) (i : ℕ) → i < 16 → (get_or (slots_of w) i zeros).wait ≡ get_or w (i * 3 + 17) 0 % 256
unfolding decoded
wait_of w i h = ap (λ (s : Record). s.wait) (slot_at_lem w i h)

module _ (w₀ w : List ℕ) (n i : ℕ) (s : Swept w₀ w n i) where
  pub sweep_on :
      (v : List ℕ) (r : ℕ)
      → i < 16
      → v ≡ age_slot w i
      → r ≡ cond (eqb (get_or w (i * 3 + 17) 0 % 256) 1) 1 0
      → r ≤ 1
      → Swept w₀ v (n + r) (i + 1)
  sweep_on v r h e k m =
      let f : get_or w (i * 3 + 17) 0 ≡ get_or w₀ (i * 3 + 17) 0 = ap (λ (x : List ℕ). get_or x (i * 3 + 17) 0) s.2 ∙ aged_later i w₀ (i * 3 + 17) (omega arith) in
      let g : r ≡ cond (eqb (get_or (slots_of w₀) i zeros).wait 1) 1 0 =
      k ∙ ap (λ (x : ℕ). cond (eqb (x % 256) 1) 1 0) f ∙ ap (λ (x : ℕ). cond (eqb x 1) 1 0) (sym (wait_of w₀ i h)) in
      let o = one_more (eqb (get_or (slots_of w₀) i zeros).wait 1) r n (emptied (drop (suc i) (slots_of w₀))) g in (
        omega arith,
        omega arith,
        rw add-one (e ∙ ap (λ (x : List ℕ). age_slot x i) s.2),
        rw add-one (o ∙ (rw (drop-cons (slots_of w₀) i zeros (omega (arith, sixteen w₀))) at s.3)),
      )

  pub sweep_done : 16 ≤ i → (w ≡ aged_to 16 w₀) × (n ≡ emptied (slots_of w₀))
  sweep_done h =
      let d : drop i (slots_of w₀) ≡ [] = drop_of_length-le (slots_of w₀) {i = i} (omega (arith, sixteen w₀)) in
      let e : i ≡ 16 = omega arith in
      (s.2 ∙ ap (λ (j : ℕ). aged_to j w₀) e, omega (arith, rw d at s.3))

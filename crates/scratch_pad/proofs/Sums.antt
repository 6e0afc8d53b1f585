-- What the sum of two pads says of them: it is in the range, and below the largest pad it is the plain sum of two that are below it too.
-- Assumes nothing.
use Rattle.std.proofs.Common.{◌≡◌, ◌^◌, Bool, true, false, cond, ◌||◌, ℤ, pos, negsuc, ◌+ℤ◌, sym, refl, ap, ◌∙◌, true≢false, arith, w64, SFits, ltb-true, leb-false}
use Rattle.refusal.specs.Answer.{value, refuse}
use Rattle.refusal.proofs.Answers.{same_value, passes}
use Rattle.scratch_pad.specs.Sum.{largest, too_big, too_low, held, pad_sum}
use Rattle.scratch_pad.proofs.Whole.{in_range}
use Rattle.scratch_pad.proofs.Held.{held_plain, held_range}

not_below : (w : ℤ) → too_low w ≡ false → in_range (held w) ≡ true
not_below (pos n) h = held_range (pos n) (omega arith)
not_below (negsuc n) h = held_range (negsuc n) (omega (arith, leb-false (2 ^ 63) n h))

module _ (z y w : ℤ) (e : pad_sum z y ≡ value w) where
  sum_range : in_range w ≡ true
  sum_range = go (too_big z || too_big y) e
    where
      go : (b : Bool) → cond b (value largest) (refuse 11 (too_low (z +ℤ y)) (value (held (z +ℤ y)))) ≡ value w → in_range w ≡ true
      go true q = ap in_range (sym (same_value q))
      go false q =
          let p = passes 11 (too_low (z +ℤ y)) (value (held (z +ℤ y))) w q in
          ap in_range (sym (same_value p.1)) ∙ not_below (z +ℤ y) p.0

  pub sum_fits : SFits w64 w
  sum_fits = record { sfits = ltb-true _ _ sum_range }

-- a sum below the largest pad
pub record Plain (z y w : ℤ) : Type 0 where
  pub is : w ≡ z +ℤ y
  pub left : too_big z ≡ false
  pub right : too_big y ≡ false

pub sum_plain : (z y w : ℤ) → pad_sum z y ≡ value w → too_big w ≡ false → Plain z y w
sum_plain z y w e small = go (too_big z) (too_big y) refl refl e
  where
    not_largest : largest ≡ w → ⊥
    not_largest q = true≢false (ap too_big q ∙ small)

    go : (a b : Bool) → too_big z ≡ a → too_big y ≡ b → cond (a || b) (value largest) (refuse 11 (too_low (z +ℤ y)) (value (held (z +ℤ y)))) ≡ value w → Plain z y w
    go true b p r q = absurd (not_largest (same_value q))
    go false true p r q = absurd (not_largest (same_value q))
    go false false p r q =
        let k = same_value (passes 11 (too_low (z +ℤ y)) (value (held (z +ℤ y))) w q).1 in
        record { is = sym k ∙ held_plain (z +ℤ y) (ap too_big k ∙ small); left = p; right = r }

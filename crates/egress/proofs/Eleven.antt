-- Joining is refused with 11 exactly where the two messages are a pair, both pads are below 0, and their sum is below -2^63.
-- Assumes nothing.
use Prim.Native.Nat.{ℕ}
use mathlib.Core.Path.{◌≡◌, refl, sym, ap, ◌∙◌}
use mathlib.Core.Bool.{Bool, true, false, cond, not, ◌||◌, true≢false}
use mathlib.Core.List.{List}
use native.Mathlib.Omega.{arith}
use lib.IntN.{ℤ, pos, negsuc, ◌+ℤ◌, +ℤ_comm}
use Rattle.octets.specs.Octets.{number}
use Rattle.refusal.specs.Answer.{Answer, value, refused, refuse, refusal_in}
use Rattle.refusal.proofs.Answers.{not_both, same_value}
use Rattle.message.specs.declared.fields.Message.{Message}
use Rattle.message.specs.Read.{read_of}
use Rattle.message.proofs.Content.{readable}
use Rattle.message.proofs.Numbers.{read_numbers}
use Rattle.scratch_pad.specs.Sum.{largest, too_big, too_low, held, pad_sum}
use Rattle.scratch_pad.proofs.Whole.{in_range}
use Rattle.scratch_pad.proofs.Held.{read_range, never_low}
use Rattle.egress.specs.Join.{is_pair, pad_in, join_by, join_of}
use Rattle.egress.specs.Promises.{below_zero, SumBelow, ElevenKept}
use Rattle.egress.proofs.Pairs.{pad_in_lem}

-- the pad of a message that is read is in the range
pad_range : (s : List ℕ) (m : Message) → read_of s ≡ value m → in_range (pad_in m) ≡ true
pad_range s m e =
    let same = same_value (sym e ∙ readable s (ap refusal_in e)) in
    ap (λ (x : Message). in_range (pad_in x)) same ∙ ap in_range (pad_in_lem s) ∙ read_range (number 8 s 4)

-- two pads whose sum is below it are both below 0
both_below : (z y : ℤ) → in_range z ≡ true → in_range y ≡ true → too_low (z +ℤ y) ≡ true → (below_zero z ≡ true) × (below_zero y ≡ true)
both_below (negsuc a) (negsuc b) h k l = (refl, refl)
both_below (negsuc a) (pos b) h k l = absurd (true≢false (sym l ∙ never_low (negsuc a) b h))
both_below (pos a) y h k l = absurd (true≢false (sym l ∙ ap too_low (+ℤ_comm (pos a) y) ∙ never_low y a k))

-- 11 of two pads is for such a sum
sum_below : (z y : ℤ) → pad_sum z y ≡ refused 11 → too_low (z +ℤ y) ≡ true
sum_below z y e = go (too_big z || too_big y) (too_low (z +ℤ y)) e
  where
    go : (a b : Bool) → cond a (value largest) (refuse 11 b (value (held (z +ℤ y)))) ≡ refused 11 → b ≡ true
    go a true e = refl
    go true false e = absurd (not_both (sym e))
    go false false e = absurd (not_both (sym e))

below_sum : (z y : ℤ) → below_zero z ≡ true → below_zero y ≡ true → too_low (z +ℤ y) ≡ true → pad_sum z y ≡ refused 11
below_sum (negsuc a) (negsuc b) h k l = rw l
below_sum (negsuc a) (pos b) h k l = absurd (true≢false (sym k))
below_sum (pos a) y h k l = absurd (true≢false (sym h))

-- a refusal of the reader is another number
not_read : (s : List ℕ) (n : ℕ) → read_of s ≡ refused n → ◌≡◌ {A = Answer ℤ} (refused n) (refused 11) → ⊥
not_read s n e g = let same : n ≡ 11 = cc in omega (arith, (read_numbers s n e).1)

pub eleven_kept : ElevenKept
eleven_kept s f = (only (read_of s) (read_of f) refl refl, given)
  where
    given : SumBelow s f → join_of s f ≡ refused 11
    given h =
        let sum = below_sum (pad_in h.sync) (pad_in h.follow_up) h.both_below.0 h.both_below.1 h.sum_below in
        (λ i. join_by (h.first i) (h.second i)) ∙ rw h.pair sum

    of_pair : (m k : Message) → read_of s ≡ value m → read_of f ≡ value k → (b : Bool) → is_pair m k ≡ b → refuse 18 (not b) (pad_sum (pad_in m) (pad_in k)) ≡ refused 11 → SumBelow s f
    of_pair m k x y false p e = absurd (let z : ◌≡◌ {A = ℕ} 18 11 = cc in omega arith)
    of_pair m k x y true p e =
        let l = sum_below (pad_in m) (pad_in k) e in
        record {
          sync = m;
          follow_up = k;
          first = x;
          second = y;
          pair = p;
          both_below = both_below (pad_in m) (pad_in k) (pad_range s m x) (pad_range f k y) l;
          sum_below = l;
        }

    only : (a b : Answer Message) → read_of s ≡ a → read_of f ≡ b → join_by a b ≡ refused 11 → SumBelow s f
    only (refused n) b x y e = absurd (not_read s n x e)
    only (value m) (refused n) x y e = absurd (not_read f n y e)
    only (value m) (value k) x y e = of_pair m k x y (is_pair m k) refl e

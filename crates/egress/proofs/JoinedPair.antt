-- What a joined pair is: two messages of types 2 to 4, whose packets begin at octet 36 and go to the end, and the sum of their pads.
-- Assumes nothing.
use Prim.Native.Nat.{ℕ, ◌-◌}
use mathlib.Core.Path.{◌≡◌, refl, ap, ◌∙◌}
use mathlib.Core.Bool.{not}
use mathlib.Core.List.{List}
use lib.IntN.{ℤ}
use lib.ListN.{length, length-drop}
use Rattle.refusal.specs.Answer.{Answer, value, refused}
use Rattle.refusal.proofs.Answers.{not_both, passes}
use Rattle.message.specs.declared.fields.Message.{Message}
use Rattle.message.specs.declared.fields.Message.TheVariants.{Plain, Ptp}
use Rattle.message.specs.Read.{header, read_of, packet_at, carried_of}
use Rattle.message.proofs.Sound.{SoundPtp, ptp_sound, ptp_taken}
use Rattle.scratch_pad.specs.Sum.{pad_sum}
use Rattle.egress.specs.Join.{is_pair, join_by, join_of}
use Rattle.egress.specs.Pair.{Whole}

pub record Pair (s f : List ℕ) (z : ℤ) : Type 0 where
  pub sync : SoundPtp s
  pub follow_up : SoundPtp f
  pub sum : pad_sum (header s).pad (header f).pad ≡ value z

pub pair : (s f : List ℕ) (z : ℤ) → join_of s f ≡ value z → Pair s f z
pair s f z e = by_messages (read_of s) (read_of f) refl refl e
  where
    by_messages : (a b : Answer Message) → read_of s ≡ a → read_of f ≡ b → join_by a b ≡ value z → Pair s f z
    by_messages (refused n) b p q r = absurd (not_both r)
    by_messages (value m) (refused n) p q r = absurd (not_both r)
    by_messages (value (Plain h)) (value m) p q r = absurd (not_both r)
    by_messages (value (Ptp h t)) (value (Plain g)) p q r = absurd (not_both r)
    by_messages (value (Ptp h t)) (value (Ptp g u)) p q r =
        let x = ptp_sound s h t p in
        let y = ptp_sound f g u q in
        record {
          sync = x.0;
          follow_up = y.0;
          sum = (λ i. pad_sum (x.1 i).pad (y.1 i).pad) ∙ (passes 18 (not (is_pair (Ptp h t) (Ptp g u))) (pad_sum h.pad g.pad) z r).1;
        }

pub whole : (s : List ℕ) → SoundPtp s → Whole s
whole s h = (ap (packet_at (length s)) (ptp_taken s h), h.long)

pub joined_pair : (s f : List ℕ) (z : ℤ) → join_of s f ≡ value z → Whole s × Whole f
joined_pair s f z e = let p = pair s f z e in (whole s p.sync, whole f p.follow_up)

-- the packet goes to the end
pub packet_length : (s : List ℕ) → packet_at (length s) (read_of s) ≡ 36 → length (carried_of s) ≡ length s - 36
packet_length s e = length-drop (packet_at (length s) (read_of s)) s ∙ ap (λ (n : ℕ). length s - n) e

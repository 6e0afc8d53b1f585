-- The fields of a packed word: what is put together is taken apart again, and two words with the same fields are told by one comparison.
-- Assumes nothing.
use Prim.Native.Nat.{ℕ, zero, suc, ◌+◌, ◌*◌, ◌-◌, ◌/◌, ◌%◌, ◌<◌, ◌≤◌}
use mathlib.Core.Path.{◌≡◌, refl, sym, ap, ◌∙◌}
use mathlib.Core.Bool.{Bool, true, false, not, ◌&&◌}
use native.Mathlib.Omega.{arith}
use borrow.Author.Tests.{eq-eqb, ne_eqb, eqb-true, eqb-false}
use lib.Dec.{eqb}
use Rattle.records.specs.declared.RecordKind.{RecordKind}
use Rattle.records.specs.declared.RecordKind.TheVariants.{Sync, Delay}
use Rattle.records.specs.declared.Identity.{Identity}
use Rattle.records.specs.declared.Record.{Record}
use Rattle.records.specs.Slots.{kind_number, same, holds, zeros, aged, aged_by}
use Rattle.words.specs.Words.{kind_bit, decoded, key_of, packed_of}
use Rattle.words.specs.Meaning.{IdentityFits, RecordFits}

pub kind_low : (k : RecordKind) → kind_number k < 2
kind_low Sync = omega arith
kind_low Delay = omega arith

bit_number : (n : ℕ) → n < 2 → kind_number (kind_bit n) ≡ n
bit_number zero h = refl
bit_number (suc zero) h = refl
bit_number (suc (suc n)) h = absurd (omega arith)

number_bit : (k : RecordKind) → kind_bit (kind_number k) ≡ k
number_bit Sync = refl
number_bit Delay = refl

pub key_low : (q : Identity) → IdentityFits q → key_of q < 8589934592
unfolding key_of
key_low q (h, l) = omega (arith, kind_low q.kind)

-- what is packed is read back
module _ (k p s t : ℕ) (a : k < 2) (b : p < 65536) (c : s < 65536) (d : t < 256) where
  packed_wait : (((k * 65536 + p) * 65536 + s) * 65536 + t) % 256 ≡ t
  packed_wait = omega arith

  packed_sequence : (((k * 65536 + p) * 65536 + s) * 65536 + t) / 65536 % 65536 ≡ s
  packed_sequence = omega arith

  packed_port : (((k * 65536 + p) * 65536 + s) * 65536 + t) / 4294967296 % 65536 ≡ p
  packed_port = omega arith

  packed_kind : (((k * 65536 + p) * 65536 + s) * 65536 + t) / 281474976710656 % 2 ≡ k
  packed_kind = omega arith

pub decoded_packed : (s : Record) → RecordFits s → decoded s.clock (packed_of s) s.residence ≡ s
unfolding decoded packed_of key_of
decoded_packed s ((h, l), m) =
    let n = kind_number s.kind in
    let f = kind_low s.kind in
    λ i. record {
      kind = (ap kind_bit (packed_kind n s.port s.sequence s.wait f h l m) ∙ number_bit s.kind) i;
      clock = s.clock;
      port = packed_port n s.port s.sequence s.wait f h l m i;
      sequence = packed_sequence n s.port s.sequence s.wait f h l m i;
      residence = s.residence;
      wait = packed_wait n s.port s.sequence s.wait f h l m i;
    }

pub decoded-zeros : decoded 0 0 0 ≡ zeros
unfolding decoded
decoded-zeros = refl

-- a tick of the packed word
module _ (b : ℕ) (h : 2 ≤ b % 256) where
  lower_wait : b % 256 ≡ suc ((b - 1) % 256)
  lower_wait = omega arith

  lower_sequence : (b - 1) / 65536 % 65536 ≡ b / 65536 % 65536
  lower_sequence = omega arith

  lower_port : (b - 1) / 4294967296 % 65536 ≡ b / 4294967296 % 65536
  lower_port = omega arith

  lower_kind : (b - 1) / 281474976710656 % 2 ≡ b / 281474976710656 % 2
  lower_kind = omega arith

older : (s : Record) (n : ℕ) → s.wait ≡ suc (suc n)
    → aged_by s.wait s ≡ record { kind = s.kind; clock = s.clock; port = s.port; sequence = s.sequence; residence = s.residence; wait = suc n }
older s n e = rw e

pub decoded_older : (c b u n : ℕ) → b % 256 ≡ suc (suc n) → decoded c (b - 1) u ≡ aged (decoded c b u)
unfolding decoded
decoded_older c b u n e =
    let h : 2 ≤ b % 256 = omega arith in
    let w : (b - 1) % 256 ≡ suc n = omega (arith, lower_wait b h) in
    (λ i. record {
      kind = kind_bit (lower_kind b h i);
      clock = c;
      port = lower_port b h i;
      sequence = lower_sequence b h i;
      residence = u;
      wait = w i;
    })
    ∙ sym (older (decoded c b u) n e)

-- one comparison for kind, port and sequence
module _ (k p s b : ℕ) (a : k < 2) (h : p < 65536) (l : s < 65536) where
  apart : (k * 65536 + p) * 65536 + s ≡ b / 65536 % 8589934592 → (k ≡ b / 281474976710656 % 2) × (p ≡ b / 4294967296 % 65536) × (s ≡ b / 65536 % 65536)
  apart e = (omega arith, omega arith, omega arith)

  together : k ≡ b / 281474976710656 % 2 → p ≡ b / 4294967296 % 65536 → s ≡ b / 65536 % 65536 → (k * 65536 + p) * 65536 + s ≡ b / 65536 % 8589934592
  together e f g = omega arith

one_test :
    (k p s b : ℕ) (a : k < 2) (h : p < 65536) (l : s < 65536)
    → eqb ((k * 65536 + p) * 65536 + s) (b / 65536 % 8589934592)
    ≡ (eqb k (b / 281474976710656 % 2) && (eqb p (b / 4294967296 % 65536) && eqb s (b / 65536 % 65536)))
one_test k p s b a h l = go _ _ _ refl refl refl
  where
    go : (x y z : Bool) → eqb k (b / 281474976710656 % 2) ≡ x → eqb p (b / 4294967296 % 65536) ≡ y → eqb s (b / 65536 % 65536) ≡ z
        → eqb ((k * 65536 + p) * 65536 + s) (b / 65536 % 8589934592) ≡ (x && (y && z))
    go true true true d e f = eq-eqb _ _ (together k p s b a h l (eqb-true k _ d) (eqb-true p _ e) (eqb-true s _ f))
    go false y z d e f = ne_eqb _ _ (λ q. eqb-false k _ d (apart k p s b a h l q).0)
    go true false z d e f = ne_eqb _ _ (λ q. eqb-false p _ e (apart k p s b a h l q).1)
    go true true false d e f = ne_eqb _ _ (λ q. eqb-false s _ f (apart k p s b a h l q).2)

-- as the search makes its tests, and as the slots have them
ordered : (w k c p s : Bool) → (((k && (p && s)) && not w) && c) ≡ (not w && (k && (c && (p && s))))
ordered true true true true true = refl
ordered true true true true false = refl
ordered true true true false s = refl
ordered true true false true true = refl
ordered true true false true false = refl
ordered true true false false s = refl
ordered true false c p s = refl
ordered false true true true true = refl
ordered false true true true false = refl
ordered false true true false s = refl
ordered false true false true true = refl
ordered false true false true false = refl
ordered false true false false s = refl
ordered false false c p s = refl

-- the search's test is that of the slots
pub hits :
    (q : Identity) (c b u : ℕ) → IdentityFits q
    → ((eqb (key_of q) (b / 65536 % 8589934592) && not (eqb (b % 256) 0)) && eqb q.clock c) ≡ holds q (decoded c b u)
unfolding holds same decoded key_of
hits q c b u (h, l) =
    let n = kind_number q.kind in
    ap (λ (x : Bool). (x && not (eqb (b % 256) 0)) && eqb q.clock c) (one_test n q.port q.sequence b (kind_low q.kind) h l)
    ∙ ordered (eqb (b % 256) 0) (eqb n (b / 281474976710656 % 2)) (eqb q.clock c) (eqb q.port (b / 4294967296 % 65536)) (eqb q.sequence (b / 65536 % 65536))
    ∙ ap (λ (m : ℕ). not (eqb (b % 256) 0) && (eqb n m && (eqb q.clock c && (eqb q.port (b / 4294967296 % 65536) && eqb q.sequence (b / 65536 % 65536)))))
    (sym (bit_number (b / 281474976710656 % 2) (omega arith)))

-- A port identity's octets are those of its two numbers, and its numbers are read from them alone.
-- Assumes nothing.
use Prim.Native.Nat.{ℕ, ◌+◌, ◌≤◌}
use mathlib.Core.Path.{◌≡◌, sym, ap, ◌∙◌}
use mathlib.Core.List.{List, ◌++◌}
use native.Mathlib.Omega.{arith}
use lib.ListN.{length, take, drop}
use lib.Seq.{take-add, drop-drop}
use Rattle.octets.specs.Octets.{Octets, number, octets}
use Rattle.octets.proofs.Numbers.{number-drop, number-take, octets-number}
use Rattle.message.specs.Port.{port_octets, SamePort}

port_octets_lem : (v : List ℕ) → 20 ≤ length v → Octets v → port_octets v ≡ octets 8 (number 8 v 8) ++ octets 2 (number 2 v 16)
port_octets_lem v long low =
    let clock = sym (octets-number v low 8 8 (omega arith)) in
    let port = ap (take 2) (drop-drop 8 8 v) ∙ sym (octets-number v low 2 16 (omega arith)) in
    take-add 8 2 (drop 8 v) ∙ (λ i. clock i ++ port i)

-- a number within the ten octets
within : (w i : ℕ) (v : List ℕ) → i + w ≤ 10 → number w (port_octets v) i ≡ number w v (8 + i)
within w i v h = number-take w 10 i (drop 8 v) h ∙ number-drop w 8 i v

pub same_port : SamePort
same_port v w long_v long_w low_v low_w = (same_octets, same_numbers)
  where
    same_octets : (number 8 v 8 ≡ number 8 w 8) × (number 2 v 16 ≡ number 2 w 16) → port_octets v ≡ port_octets w
    same_octets (clock, port) = port_octets_lem v long_v low_v ∙ rw (clock, port) (sym (port_octets_lem w long_w low_w))

    same_numbers : port_octets v ≡ port_octets w → (number 8 v 8 ≡ number 8 w 8) × (number 2 v 16 ≡ number 2 w 16)
    same_numbers e = (
      sym (within 8 0 v (omega arith)) ∙ ap (λ (l : List ℕ). number 8 l 0) e ∙ within 8 0 w (omega arith),
      sym (within 2 8 v (omega arith)) ∙ ap (λ (l : List ℕ). number 2 l 8) e ∙ within 2 8 w (omega arith),
    )

-- The hops of a path in octets read in turn: the first i of an array are the first i of them, and the others are still to come.
-- Assumes nothing.
use Prim.Native.Nat.{ℕ, zero, suc, ◌+◌, ◌-◌, ◌*◌, ◌<◌, ◌≤◌}
use mathlib.Core.Path.{◌≡◌, refl, sym, ap, ◌∙◌}
use mathlib.Core.List.{List, ◌∷◌, ◌++◌}
use native.Mathlib.Numerals.{add-one}
use native.Mathlib.Omega.{arith}
use lib.ListN.{length, take, set, length-set}
use lib.Seq.{take-suc-set, append_snoc}
use Rattle.hops.specs.declared.Hop.{Hop}
use Rattle.planner.specs.File.{hop_from, hops_from}

pub length_hops : (n : ℕ) (s : List ℕ) (i : ℕ) → length (hops_from n s i) ≡ n
length_hops zero s i = refl
length_hops (suc n) s i = ap suc (length_hops n s (i + 9))

module _ (s : List ℕ) (n : ℕ) where
  -- those from number i on
  abbrev left : ℕ → List Hop
  left i = hops_from (n - i) s (19 + i * 9)

  abbrev pub Read : List Hop → ℕ → Type 0
  Read hs i = (i ≤ n) × (n ≤ 255) × (length hs ≡ 255) × (take i hs ++ left i ≡ hops_from n s 19)

  module _ (hs : List Hop) (i : ℕ) (f : Read hs i) where
    pub read_on : (h : Hop) → i < n → h ≡ hop_from s (19 + i * 9) → Read (set hs i h) (i + 1)
    read_on h l e =
        let m = n - (i + 1) in
        let more : n - i ≡ suc m = omega arith in
        let place : 19 + i * 9 + 9 ≡ 19 + (i + 1) * 9 = omega arith in
        let next : left i ≡ h ∷ left (i + 1) =
        ap (λ (k : ℕ). hops_from k s (19 + i * 9)) more ∙ (λ j. sym e j ∷ hops_from m s (place j)) in (
          omega arith,
          f.1,
          simp length-set f.2,
          ap (λ (k : ℕ). take k (set hs i h) ++ left (i + 1)) (add-one i)
              ∙ ap (λ (l : List Hop). l ++ left (i + 1)) (take-suc-set hs i h (omega (arith, f.1, f.2)))
              ∙ append_snoc (take i hs) h (left (i + 1))
              ∙ ap (λ (l : List Hop). take i hs ++ l) (sym next)
              ∙ f.3,
        )

-- The sums that are left to make from the sums so far: they start as the sums of all hops, a hop more changes nothing in them, and they
-- end with the sums so far. And no sum overflows.
-- Assumes nothing.
use Prim.Native.Nat.{ℕ, ◌+◌, ◌≤◌}
use mathlib.Core.Path.{◌≡◌, refl, sym, ap, ◌∙◌}
use mathlib.Core.Bool.{Bool, true, false, cond, not, ◌||◌}
use mathlib.Core.List.{List, [], ◌∷◌}
use native.Mathlib.Omega.{arith}
use borrow.Author.Tests.{leb-false}
use lib.Dec.{leb, eqb}
use Rattle.refusal.specs.Answer.{Answer, value, refuse}
use Rattle.refusal.proofs.Answers.{not_both, same_value}
use Rattle.residence.specs.Residence.{limit}
use Rattle.hops.specs.declared.Hop.{Hop}
use Rattle.hops.specs.Plan.{is_mode, residence_in, residences_in, any_in, checked}
use Rattle.planner.specs.declared.sums.Sums.{Sums}
use Rattle.planner.specs.Sums.{going, counted, step_of}

or_false : (b : Bool) → b || false ≡ b
or_false true = refl
or_false false = refl

or_assoc : (a b c : Bool) → a || (b || c) ≡ (a || b) || c
or_assoc true b c = refl
or_assoc false b c = refl

-- what stands past the end of a list
abbrev pub no_hop : Hop
no_hop = record { mode = 0; residence = 0 }

abbrev pub ending : Sums → List Hop → Answer Sums
ending s hs = checked hs (value (going (s.one_step + residences_in 1 hs) (s.two_step + residences_in 2 hs) (s.creates || any_in 2 hs)))

pub last_ending : (s : Sums) → ending s [] ≡ value s
last_ending s =
    let p : s.one_step + 0 ≡ s.one_step = omega arith in
    let q : s.two_step + 0 ≡ s.two_step = omega arith in
    λ i. value (going (p i) (q i) (or_false s.creates i))

module _ (s : Sums) (h : Hop) (hs : List Hop) where
  abbrev rest : Answer Sums
  rest = checked hs (value (going (s.one_step + residences_in 1 (h ∷ hs)) (s.two_step + residences_in 2 (h ∷ hs)) (s.creates || any_in 2 (h ∷ hs))))

  pub next_ending : (t : Sums) → value t ≡ step_of s h → ending s (h ∷ hs) ≡ ending t hs
  next_ending t e = go (not (is_mode h.mode)) (leb limit h.residence) e
    where
      go : (p q : Bool) → value t ≡ refuse 29 p (refuse 10 q (value (counted s h))) → refuse 29 p (refuse 10 q rest) ≡ ending t hs
      go true q e = absurd (not_both (sym e))
      go false true e = absurd (not_both (sym e))
      go false false e =
          let p : s.one_step + (residence_in 1 h + residences_in 1 hs) ≡ s.one_step + residence_in 1 h + residences_in 1 hs = omega arith in
          let q : s.two_step + (residence_in 2 h + residences_in 2 hs) ≡ s.two_step + residence_in 2 h + residences_in 2 hs = omega arith in
          (λ i. checked hs (value (going (p i) (q i) (or_assoc s.creates (eqb h.mode 2) (any_in 2 hs) i))))
          ∙ ap (λ (x : Sums). ending x hs) (sym (same_value e))

-- a hop adds less than the limit to either sum
part : (b : Bool) (u : ℕ) → cond b u 0 ≤ u
part true u = omega arith
part false u = omega arith

pub grows : (s : Sums) (h : Hop) (t : Sums) → value t ≡ step_of s h → (t.one_step ≤ s.one_step + limit) × (t.two_step ≤ s.two_step + limit)
grows s h t e = go (not (is_mode h.mode)) (leb limit h.residence) refl e
  where
    go :
        (p q : Bool) → leb limit h.residence ≡ q → value t ≡ refuse 29 p (refuse 10 q (value (counted s h)))
        → (t.one_step ≤ s.one_step + limit) × (t.two_step ≤ s.two_step + limit)
    go true q f e = absurd (not_both (sym e))
    go false true f e = absurd (not_both (sym e))
    go false false f e =
        let l = leb-false limit h.residence f in
        let one : t.one_step ≡ s.one_step + residence_in 1 h = ap (λ (x : Sums). x.one_step) (same_value e) in
        let two : t.two_step ≡ s.two_step + residence_in 2 h = ap (λ (x : Sums). x.two_step) (same_value e) in
        (omega (arith, l, one, part (eqb h.mode 1) h.residence), omega (arith, l, two, part (eqb h.mode 2) h.residence))

-- A residence that a node takes is below the limit, one that it does not take is refused with 9 or 10, and one below the limit keeps its
-- promise.
-- Assumes nothing.
use Prim.Native.Nat.{ℕ, ◌<◌}
use mathlib.Core.Path.{◌≡◌, refl}
use mathlib.Core.Bool.{Bool, true, false}
use mathlib.Core.Logic.{◌⊎◌, inl, inr}
use native.Mathlib.Omega.{arith}
use borrow.Author.Tests.{leb-false, lt-leb}
use lib.Dec.{leb}
use Rattle.refusal.specs.Answer.{Answer, value, refused, refuse, and_then}
use Rattle.refusal.proofs.Answers.{not_both, same_value, passes, Numbered, its_number}
use Rattle.std.specs.Prelude.{Ok, Err}
use Rattle.residence.specs.declared.ResidenceError.TheVariants.{InvalidStamp, TooLong}
use Rattle.residence.specs.Residence.{Residence, residence_answer, limit, accepted_of, Promise}

pub below_limit : (r : Residence) (u : ℕ) → accepted_of r ≡ value u → u < limit
below_limit r u e = go (residence_answer r) e
  where
    go : (a : Answer ℕ) → and_then a (λ v. refuse 10 (leb limit v) (value v)) ≡ value u → u < limit
    go (value v) p =
        let z = passes 10 (leb limit v) (value v) u p in
        let same : v ≡ u = same_value z.1 in
        omega (arith, leb-false limit v z.0)
    go (refused n) p = absurd (not_both p)

abbrev pub NineOrTen : ℕ → Type 0
NineOrTen n = (n ≡ 9) ⊎ (n ≡ 10)

pub nine_or_ten : (r : Residence) (n : ℕ) → accepted_of r ≡ refused n → NineOrTen n
nine_or_ten r n e = its_number NineOrTen (accepted_of r) n (go r) e
  where
    too_long : (b : Bool) (u : ℕ) → Numbered NineOrTen (refuse 10 b (value u))
    too_long true u = inr refl
    too_long false u = tt

    go : (r : Residence) → Numbered NineOrTen (accepted_of r)
    go (Ok u) = too_long (leb limit u) u
    go (Err InvalidStamp) = inl refl
    go (Err TooLong) = inr refl

pub promised : (r : Residence) → ((u : ℕ) → residence_answer r ≡ value u → u < limit) → Promise r
promised r h = go (residence_answer r) h
  where
    go : (a : Answer ℕ) → ((u : ℕ) → a ≡ value u → u < limit) → and_then a (λ u. refuse 10 (leb limit u) (value u)) ≡ a
    go (value u) h = rw (lt-leb limit u (h u refl))
    go (refused n) h = refl

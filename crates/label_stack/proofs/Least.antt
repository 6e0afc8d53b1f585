-- The least number that passes a test: what it is, and that nothing else is.
-- Assumes nothing.
use Prim.Native.Nat.{ℕ, zero, suc, ◌+◌, ◌<◌, ◌≤◌}
use mathlib.Core.Path.{◌≡◌, refl, sym, ap, ◌∙◌}
use mathlib.Core.Bool.{Bool, true, false, cond, true≢false}
use mathlib.Core.Option.{none, some}
use native.Mathlib.Omega.{arith}
use Rattle.label_stack.specs.Ttl.{least}

module _ (test : ℕ → Bool) where
  -- no number from k on and below d passes
  abbrev pub NonePasses : ℕ → ℕ → Type 0
  NonePasses k d = (e : ℕ) → k ≤ e → e < d → test e ≡ true → ⊥

  -- where k does not pass, a number from k on that passes is above k
  above : (k e : ℕ) → test k ≡ false → k ≤ e → test e ≡ true → suc k ≤ e
  above k e t l f = differ (λ z. true≢false (sym f ∙ ap test (sym z) ∙ t))
    where
      differ : (k ≡ e → ⊥) → suc k ≤ e
      differ h = omega arith

  -- d is the least from k on
  pub record Least (k d : ℕ) : Type 0 where
    pub from : k ≤ d
    pub passing : test d ≡ true
    pub none_less : NonePasses k d

  pub least_is : (n k d : ℕ) → Least k d → d < k + n → least test k n ≡ some d
  least_is zero k d l h = absurd (omega (arith, l.from))
  least_is (suc n) k d l h = go (test k) refl (least_is n (suc k) d)
    where
      go : (b : Bool) → test k ≡ b → (Least (suc k) d → d < suc k + n → least test (suc k) n ≡ some d) → cond b (some k) (least test (suc k) n) ≡ some d
      go true t r = ap some (same k d l.from (λ m. l.none_less k (omega arith) m t))
        where
          same : (k d : ℕ) → k ≤ d → (k < d → ⊥) → k ≡ d
          same k d f m = omega arith
      go false t r =
          r
          (record { from = above k d t l.from l.passing; passing = l.passing; none_less = λ e f m q. l.none_less e (omega arith) m q })
          (omega arith)

  pub least-none : (n k : ℕ) → NonePasses k (k + n) → least test k n ≡ none
  least-none zero k h = refl
  least-none (suc n) k h = go (test k) refl (least-none n (suc k) (λ e l m f. h e (omega arith) (omega arith) f))
    where
      go : (b : Bool) → test k ≡ b → least test (suc k) n ≡ none → cond b (some k) (least test (suc k) n) ≡ none
      go true t r = absurd (h k (omega arith) (omega arith) t)
      go false t r = r

  pub is_least : (n k d : ℕ) → least test k n ≡ some d → Least k d
  is_least zero k d e = let z : ◌≡◌ {A = ℕ} 0 1 = cc in absurd (omega arith)
  is_least (suc n) k d e = go (test k) refl (is_least n (suc k) d) e
    where
      go : (b : Bool) → test k ≡ b → (least test (suc k) n ≡ some d → Least (suc k) d) → cond b (some k) (least test (suc k) n) ≡ some d → Least k d
      go true t r q =
          let z : k ≡ d = cc in
          record { from = omega arith; passing = ap test (sym z) ∙ t; none_less = λ e l m f. omega arith }
      go false t r q =
          let s = r q in
          record { from = omega (arith, s.from); passing = s.passing; none_less = λ e l m f. s.none_less e (above k e t l f) m f }

  pub is_none : (n k : ℕ) → least test k n ≡ none → NonePasses k (k + n)
  is_none zero k q e l m f = omega arith
  is_none (suc n) k q e l m f = go (test k) refl (is_none n (suc k)) q
    where
      go : (b : Bool) → test k ≡ b → (least test (suc k) n ≡ none → NonePasses (suc k) (suc k + n)) → cond b (some k) (least test (suc k) n) ≡ none → ⊥
      go true t r q = let z : ◌≡◌ {A = ℕ} 0 1 = cc in omega arith
      go false t r q = r q e (above k e t l f) (omega arith) f

-- A loader compares an image's offsets in turn: while those before number k agree with the layout's, the octets are laid out where the
-- others agree too.
-- Assumes nothing.
use Prim.Native.Nat.{ℕ, suc, ◌+◌, ◌*◌, ◌-◌, ◌<◌, ◌≤◌}
use mathlib.Core.Path.{◌≡◌, refl}
use mathlib.Core.Bool.{Bool, true, ◌&&◌}
use mathlib.Core.List.{List}
use native.Mathlib.Omega.{arith}
use borrow.Author.Tests.{eq-eqb}
use lib.Dec.{eqb}
use lib.ListN.{length, take, replicate}
use Rattle.octets.specs.Octets.{number}
use Rattle.image.specs.declared.Form.{Form}
use Rattle.image.specs.Layout.{lead, fields_at, alike, image_size, count_in, is_laid_out}
use Rattle.switchover.proofs.Offsets.{offset, offsets_from, offsets_all, offsets_next}

module _ (F : Form) where
  -- the offsets that the octets say from place p on are those of the layout from number k on
  abbrev pub agree : List ℕ → ℕ → ℕ → ℕ → Bool
  agree s n p k = alike (fields_at (replicate (n - k) 2) s p) (offsets_from F n k)

  abbrev pub Compared : List ℕ → ℕ → ℕ → ℕ → Type 0
  Compared s n p k = (k ≤ n) × (p ≡ length (lead F) + 1 + 2 * k) × (is_laid_out F s ≡ agree s n p k)

  module _ (s : List ℕ) (n : ℕ) (told : n ≡ count_in F s) where
    pub compare_first :
        (p : ℕ) → p ≡ length (lead F) + 1 → alike (take (length (lead F)) s) (lead F) ≡ true → length s ≡ image_size F n → Compared s n p 0
    compare_first p at e z =
        let all : n - 0 ≡ n = omega arith in
        (omega arith, omega arith, rw (at, offsets_all F n, all, e, ← told, eq-eqb (length s) (image_size F n) z, eq-eqb n n refl) refl)

  module _ (s : List ℕ) (n p k : ℕ) (c : Compared s n p k) where
    laid_out_next : k < n → is_laid_out F s ≡ eqb (number 2 s p) (offset F n k) && agree s n (p + 2) (k + 1)
    laid_out_next h =
        let one_more : n - k ≡ suc (n - (k + 1)) = omega arith in
        rw (offsets_next F n k h, one_more) at c.2

    pub compare_on : k < n → number 2 s p ≡ offset F n k → Compared s n (p + 2) (k + 1)
    compare_on h e = (omega arith, omega arith, rw (eq-eqb (number 2 s p) (offset F n k) e) at (laid_out_next h))

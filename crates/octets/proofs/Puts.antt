-- A list after a store: what was stored is read there, and everything else as before.
-- Assumes nothing.
use Prim.Native.Nat.{ℕ, zero, suc, ◌+◌, ◌-◌, ◌<◌, ◌≤◌, ◌^◌}
use mathlib.Core.Path.{◌≡◌, refl, sym, ap, ◌∙◌}
use mathlib.Core.Bool.{Bool, true, false, cond}
use mathlib.Core.List.{List, [], ◌∷◌, ◌++◌}
use native.Mathlib.Omega.{arith}
use borrow.Author.Tests.{le-leb, leb-true}
use lib.Dec.{leb}
use lib.ListN.{length, get_or, take, drop, length-append, length-drop, get_or-append}
use lib.Seq.{length-take-le, get_or-take, get_or-drop, get_or_at, drop-append-add, drop-drop, drop-cons}
use Rattle.octets.specs.Octets.{number, octets, put}
use Rattle.octets.proofs.Numbers.{length-octets, number-octets}

module _ (s vs : List ℕ) (n : ℕ) where
  -- what holds of the list as it came, and of the list with vs in it, holds of the store
  either : (P : List ℕ → Type 0) → P s → (n + length vs ≤ length s → P (take n s ++ vs ++ drop (n + length vs) s)) → P (put s n vs)
  either P a b = go (leb (n + length vs) (length s)) refl
    where
      go : (t : Bool) → leb (n + length vs) (length s) ≡ t → P (cond t (take n s ++ vs ++ drop (n + length vs) s) s)
      go true e = b (leb-true (n + length vs) (length s) e)
      go false e = a

  pub length-put : length (put s n vs) ≡ length s
  length-put =
      either (λ l. length l ≡ length s) refl
      (λ h. length-append (take n s ++ vs) (drop (n + length vs) s) ∙ omega (arith, length-append (take n s) vs, length-take-le n s (omega arith), length-drop (n + length vs) s))

  front : n + length vs ≤ length s → length (take n s ++ vs) ≡ n + length vs
  front h = length-append (take n s) vs ∙ omega (arith, length-take-le n s (omega arith))

  -- the octets before the store
  pub get_or_before : (j : ℕ) → j < n → get_or (put s n vs) j 0 ≡ get_or s j 0
  get_or_before j l =
      either (λ m. get_or m j 0 ≡ get_or s j 0) refl
      (λ h.
      let k = length-take-le n s (omega arith) in
      get_or-append (take n s ++ vs) (drop (n + length vs) s) 0 j (omega (arith, front h))
      ∙ get_or-append (take n s) vs 0 j (omega arith)
      ∙ get_or-take n s j 0 l)

  -- and those behind it
  pub drop_behind : (m : ℕ) → n + length vs ≤ m → drop m (put s n vs) ≡ drop m s
  drop_behind m l =
      either (λ x. drop m x ≡ drop m s) refl
      (λ h.
      let d = m - (n + length vs) in
      let e : m ≡ n + length vs + d = omega arith in
      let f = front h in
      ap (λ (k : ℕ). drop k (take n s ++ vs ++ drop (n + length vs) s)) (e ∙ ap (λ (k : ℕ). k + d) (sym f))
      ∙ drop-append-add (take n s ++ vs) (drop (n + length vs) s) d
      ∙ drop-drop d (n + length vs) s
      ∙ ap (λ (k : ℕ). drop k s) (sym e))

  pub get_or_behind : (j : ℕ) → n + length vs ≤ j → get_or (put s n vs) j 0 ≡ get_or s j 0
  get_or_behind j l =
      let e : j ≡ j + 0 = omega arith in
      rw e (sym (get_or-drop j (put s n vs) 0 0) ∙ ap (λ (x : List ℕ). get_or x 0 0) (drop_behind j l) ∙ get_or-drop j s 0 0)

  pub number_before : (w i : ℕ) → i + w ≤ n → number w (put s n vs) i ≡ number w s i
  number_before zero i l = refl
  number_before (suc w) i l = rw (number_before w i (omega arith), get_or_before (i + w) (omega arith))

  pub number_behind : (w i : ℕ) → n + length vs ≤ i → number w (put s n vs) i ≡ number w s i
  number_behind zero i l = refl
  number_behind (suc w) i l = rw (number_behind w i l, get_or_behind (i + w) (omega arith))

-- the number that was stored
pub number_there : (s : List ℕ) (n w x : ℕ) → n + w ≤ length s → x < 256 ^ w → number w (put s n (octets w x)) n ≡ x
number_there s n w x h l =
    let o = octets w x in
    let k : n + length o ≤ length s = omega (arith, length-octets w x) in
    rw (le-leb (n + length o) (length s) k)
    (number-octets w x n (take n s) (drop (n + length o) s) (length-take-le n s (omega arith)) l)

-- the w octets from place i on, one by one
abbrev pub each : ℕ → ℕ → List ℕ → List ℕ
each zero i s = []
each (suc w) i s = get_or s i 0 ∷ each w (suc i) s

pub part_each : (w i : ℕ) (s : List ℕ) → i + w ≤ length s → take w (drop i s) ≡ each w i s
part_each zero i s h = refl
part_each (suc w) i s h =
    rw (drop-cons s i 0 (omega arith)) (ap (λ (l : List ℕ). get_or s i 0 ∷ l) (part_each w (suc i) s (omega arith)))

-- the octet that was stored
pub get_or_there : (s : List ℕ) (n x : ℕ) → n < length s → get_or (put s n (x ∷ [])) n 0 ≡ x
get_or_there s n x h =
    rw (le-leb (n + 1) (length s) (omega arith))
    (get_or-append (take n s ++ (x ∷ [])) (drop (n + 1) s) 0 n (omega (arith, length-append (take n s) (x ∷ []), length-take-le n s (omega arith)))
    ∙ get_or_at (take n s) x [] 0 n (length-take-le n s (omega arith)))
